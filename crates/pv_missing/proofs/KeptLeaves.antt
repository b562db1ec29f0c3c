-- What an extension keeps, and completions.
use Rattle.std.proofs.Common.{ap, append_assoc, arith, length, refl, sym, ◌++◌, ◌+◌, ◌∙◌, ◌∷◌, ◌≡◌}
use Rattle.pv_dtd.specs.Hedge.{Hedge, done, elem, elements, leaf}
use Rattle.pv_tree.specs.View.{view}
use Rattle.pv_missing.specs.Completions.{LeavesOut}
use Rattle.pv_missing.specs.DocumentLaws.{CompletionsInsert, ExtensionsComplete, KeepsLeaves}
use Rattle.pv_missing.specs.Extensions.{both_done, join, leaves_of, new_element, same_element}
use Rattle.pv_missing.specs.Extensions.{same_leaf}
use Rattle.pv_missing.proofs.Tags.{has_tags, tags_extend}

leaves-join : (a b : Hedge) → leaves_of (join a b) ≡ leaves_of a ++ leaves_of b
leaves-join done b = refl
leaves-join (leaf l a) b = ap (◌∷◌ l) (leaves-join a b)
leaves-join (elem x t k a) b = ap (λ x. leaves_of k ++ x) (leaves-join a b) ∙ sym (append_assoc (leaves_of k) (leaves_of a) (leaves_of b))

pub keeps_leaves : KeepsLeaves
keeps_leaves h h' both_done = refl
keeps_leaves h h' (same_leaf l r r' e) = ap (◌∷◌ l) (keeps_leaves r r' e)
keeps_leaves h h' (same_element x t k k' r r' e f) = rw (keeps_leaves k k' e, keeps_leaves r r' f) refl
keeps_leaves h h' (new_element x _ h1 h2 k' r' j e f) = rw (keeps_leaves h1 k' e, keeps_leaves h2 r' f) (sym (ap leaves_of j ∙ leaves-join h1 h2))

pub completions_insert : (M N : Type 0) → CompletionsInsert M N
completions_insert M N g root doc body added k c = record { hedge = view body.root; extends = c.extends; valid = c.valid; inserted = c.inserted }

pub extensions_complete : (M N : Type 0) → ExtensionsComplete M N
extensions_complete M N g root doc body v e b a =
    let m = has_tags 0 (view doc.root) (view body.root) e in
    let l : LeavesOut 0 (elements (view body.root)) m.0 (view doc.root) (view body.root) = let z : 0 + elements (view body.root) ≡ elements (view body.root) = omega arith in rw z at m.1 in
    let s = tags_extend 0 (elements (view body.root)) m.0 (view doc.root) (view body.root) l in
    (m.0, length m.0, record { valid = v; extends = e; inserted = s.1; same_before = b; same_after = a; counted = refl; tags = l })
