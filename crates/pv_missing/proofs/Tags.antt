-- Tags left out show an extension.
use Rattle.std.proofs.Common.{[], ap, arith, length, length-append, refl, suc, ◌++◌, ◌+◌, ◌∙◌, ◌∷◌, ◌≡◌}
use Rattle.pv_dtd.specs.Hedge.{elements}
use Rattle.pv_missing.specs.Completions.{out_done, out_kept, out_leaf, out_new}
use Rattle.pv_missing.specs.DocumentLaws.{ExtensionsHaveTags, TagsExtend}
use Rattle.pv_missing.specs.Extensions.{both_done, new_element, same_element, same_leaf}
use Rattle.pv_missing.proofs.Hedges.{elements-join}

pub tags_extend : TagsExtend
tags_extend m e added h h' (out_done _ _ z) = (both_done, omega arith, omega arith)
tags_extend m e added h h' (out_leaf _ _ _ l r r' u) = let s = tags_extend m e added r r' u in (same_leaf l r r' s.0, s.1, s.2)
tags_extend m e added h h' (out_kept _ i _ _ one two x t k k' r r' f u v) =
    let s = tags_extend (suc m) i one k k' u in let o = tags_extend i e two r r' v in
    let q = ap length f ∙ length-append one two in
    (same_element x t k k' r r' s.0 o.0, omega (arith, s.1, o.1, q), omega (arith, s.1, o.1, s.2, o.2))
tags_extend m e added h h' (out_new _ i _ _ one two x _ h1 h2 k' r' f j u v) =
    let s = tags_extend (suc m) i one h1 k' u in let o = tags_extend i e two h2 r' v in
    let q = ap length f in let p = length-append one two in let y = ap elements j ∙ elements-join h1 h2 in
    (new_element x h h1 h2 k' r' j s.0 o.0, omega (arith, s.1, o.1, q, p, y), omega (arith, s.2, o.2))

pub has_tags : ExtensionsHaveTags
has_tags m h h' both_done = ([], out_done m (m + 0) (omega arith))
has_tags m h h' (same_leaf l r r' e) = let s = has_tags m r r' e in (s.0, out_leaf m (m + elements r') s.0 l r r' s.1)
has_tags m h h' (same_element x t k k' r r' e f) =
    let s = has_tags (suc m) k k' e in let o = has_tags (suc m + elements k') r r' f in
    let q : m + suc (elements k' + elements r') ≡ suc m + elements k' + elements r' = omega arith in
    (s.0 ++ o.0, rw q (out_kept m (suc m + elements k') (suc m + elements k' + elements r') (s.0 ++ o.0) s.0 o.0 x t k k' r r' refl s.1 o.1))
has_tags m h h' (new_element x _ h1 h2 k' r' j e f) =
    let s = has_tags (suc m) h1 k' e in let o = has_tags (suc m + elements k') h2 r' f in
    let q : m + suc (elements k' + elements r') ≡ suc m + elements k' + elements r' = omega arith in
    (m ∷ (s.0 ++ o.0), rw q (out_new m (suc m + elements k') (suc m + elements k' + elements r') (m ∷ (s.0 ++ o.0)) s.0 o.0 x h h1 h2 k' r' refl j s.1 o.1))
