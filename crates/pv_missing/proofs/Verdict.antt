-- Verdicts of lists.
use Rattle.std.proofs.Common.{Bool, List, [], false, if◌then◌else◌, refl, true, ℕ, ◌∷◌, ◌≡◌}
use Rattle.pv_chars.specs.Texts.{has_data}
use Rattle.pv_model.specs.Plain.{PlainToken, text}
use Rattle.pv_dtd.specs.Plain.{PlainDtd, number_of}
use Rattle.pv_tree.specs.Lists.{IsOwnValid, IsRootList, IsValidBy, IsValidList, Owner, an_element, the_document}
use Rattle.pv_tree.specs.Plain.{Forest, Tree, cdata_node, element, misc_node, no_trees, text_node, tree}
use Rattle.pv_tree.specs.Words.{node_before, word_of}
use Rattle.pv_tree.proofs.FirstLists.{one_first as first_is_one}
use Rattle.pv_missing.specs.Covers.{Covers, cover_kept, cover_none, cover_text}
use Rattle.pv_missing.specs.ListLaws.{OneFirst, OneVerdict, OwnValidIsLive}
use Rattle.pv_missing.specs.MissingNumbers.{MissesInContent, MissesInRoot}
use Rattle.pv_dtd.specs.Productive.{IsProductiveName}
use Rattle.pv_missing.specs.Verdicts.{AreProductiveKids, IsLive, IsLiveBy, IsProductiveNode, IsProductiveOwner, Judges}
use Rattle.pv_missing.proofs.DocLists.{misses_live_by}
use Rattle.pv_tree.specs.declared.nodes.Verdict.{Verdict}
use Rattle.pv_tree.specs.declared.nodes.Verdict.TheVariants as verdict

one_judged : (live own : Type 0) (v v' : Verdict) → Judges v live own → Judges v' live own → v ≡ v'
one_judged live own verdict.Valid verdict.Valid p q = refl
one_judged live own verdict.Valid verdict.Possible p q = absurd (q.1 p.1)
one_judged live own verdict.Valid verdict.Impossible p q = absurd (q p.0)
one_judged live own verdict.Possible verdict.Valid p q = absurd (p.1 q.1)
one_judged live own verdict.Possible verdict.Possible p q = refl
one_judged live own verdict.Possible verdict.Impossible p q = absurd (q p.0)
one_judged live own verdict.Impossible verdict.Valid p q = absurd (p q.0)
one_judged live own verdict.Impossible verdict.Possible p q = absurd (p q.0)
one_judged live own verdict.Impossible verdict.Impossible p q = refl

pub one_verdict : (M : Type 0) → OneVerdict M
one_verdict M g root list v v' p q = one_judged (IsLive g root list) (IsValidList g root list) v v' p q

text_kept : (g : PlainDtd) (b : Bool) (w : List PlainToken) → Covers g 0 w w → Covers g 0 (if b then text ∷ w else w) (if b then text ∷ w else w)
text_kept g true w c = cover_text 0 w w c
text_kept g false w c = c

node_kept : {M : Type 0} (g : PlainDtd) (t : Tree M) (w : List PlainToken) → IsProductiveNode g t → Covers g 0 w w → Covers g 0 (node_before g t w) (node_before g t w)
node_kept g (element x a e k m) w p c = let f = p.is_number in rw f (cover_kept 0 p.number w w p.productive c)
node_kept g (text_node us) w p c = text_kept g (has_data us) w c
node_kept g (cdata_node b) w p c = cover_text 0 w w c
node_kept g (misc_node b) w p c = c

-- kids of productive names cover themselves with nothing missing
kids_kept : {M : Type 0} (g : PlainDtd) (k : Forest M) → AreProductiveKids g k → Covers g 0 (word_of g k) (word_of g k)
kids_kept g no_trees p = cover_none 0 refl
kids_kept g (tree t r) p = node_kept g t (word_of g r) p.0 (kids_kept g r p.1)

pub content_own : {M : Type 0} (g : PlainDtd) (x : List ℕ) (k : Forest M) → IsOwnValid g (number_of g x) k → IsProductiveName g x → AreProductiveKids g k → MissesInContent g x k 0
content_own g x k o p q = record {
  number = o.number;
  is_owner = o.is_owner;
  productive = let e : p.number ≡ o.number = let a = p.is_number in let b = o.is_owner in cc in rw e at p.productive;
  no_kids = λ z. o.no_kids (let a = o.is_model in cc);
  possible = record { model = o.model; is_model = o.is_model; whole = word_of g k; allowed = o.allowed; covers = kids_kept g k q };
}

pub root_own : {M : Type 0} (g : PlainDtd) (root : List ℕ) (k : Forest M) → IsRootList root k → AreProductiveKids g k → MissesInRoot g root k 0
root_own g root no_trees o p = absurd o
root_own g root (tree (element x a e k m) r) o p = let s : x ≡ root = o.0 in record {
  number = p.0.number;
  is_owner = let f = p.0.is_number in cc;
  possible = let f = p.0.is_number in rw (o.1, f) (cover_kept 0 p.0.number [] [] p.0.productive (cover_none 0 refl));
}
root_own g root (tree (text_node us) r) o p = absurd o.0
root_own g root (tree (cdata_node b) r) o p = absurd o.0
root_own g root (tree (misc_node b) r) o p = absurd o.0

pub own_live : {M : Type 0} (g : PlainDtd) (root : List ℕ) (o : Owner) (k : Forest M) → IsValidBy g root o k → IsProductiveOwner g o → AreProductiveKids g k → IsLiveBy g root o k
own_live g root the_document k v p q = misses_live_by g root the_document k 0 (root_own g root k v q)
own_live g root (an_element x) k v p q = misses_live_by g root (an_element x) k 0 (content_own g x k v p q)

pub own_valid_live : (M : Type 0) → OwnValidIsLive M
own_valid_live M g root list v p q = own_live g root list.owner list.kids v p q

pub one_first : (M : Type 0) → OneFirst M
one_first M g root lists p q a b = first_is_one (IsLive g root) lists p q a b
