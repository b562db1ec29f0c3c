-- The verdict of a list by its owner's site and its word.
use Rattle.std.proofs.Common.{Bool, IsTrue, List, None, Option, Some, [], false, if◌then◌else◌, option_map, refl, subst, true, ℕ, ◌∷◌, ◌≡◌, ◌↔◌}
use Rattle.pv_chars.specs.Texts.{has_data}
use Rattle.pv_model.specs.Plain.{named, text}
use Rattle.pv_dtd.specs.Hedge.{token}
use Rattle.pv_dtd.specs.Plain.{PlainDtd, number_of}
use Rattle.pv_rules.specs.Sites.{content_site, name_site}
use Rattle.pv_tree.specs.Lists.{IsOwnValid, IsRootElement, IsRootList, IsValidBy, Owner, an_element, the_document}
use Rattle.pv_tree.specs.Plain.{Forest, Tree, cdata_node, element, misc_node, no_trees, text_node, tree}
use Rattle.pv_tree.specs.Words.{node_before, word_of}
use Rattle.pv_missing.specs.VerdictLaws.{VerdictByWord}
use Rattle.pv_missing.specs.Verdicts.{IsLiveBy, IsLiveContent, IsLiveRoot, Judges}
use Rattle.pv_missing.specs.ListWeights.{site_of}
use Rattle.pv_missing.specs.WordVerdicts.{HoldsOne, IsLiveAt, IsLiveByWord, IsValidAt, IsValidByWord, has_no_trees}
use Rattle.pv_dtd.proofs.ProperDtds.{one_name}
use Rattle.pv_tree.specs.declared.nodes.Verdict.{Verdict}
use Rattle.pv_tree.specs.declared.nodes.Verdict.TheVariants as verdict

-- lists that are live together, and then valid by themselves together, have the same verdicts
pub same_judged : (v : Verdict) (live own live' own' : Type 0) → (live ↔ live') → (live → own → own') → (live → own' → own) → Judges v live own ↔ Judges v live' own'
same_judged verdict.Valid live own live' own' l there back = (λ j. (l.0 j.0, there j.0 j.1), λ j. (l.1 j.0, back (l.1 j.0) j.1))
same_judged verdict.Possible live own live' own' l there back = (λ j. (l.0 j.0, λ o. j.1 (back j.0 o)), λ j. (l.1 j.0, λ o. j.1 (there (l.1 j.0) o)))
same_judged verdict.Impossible live own live' own' l there back = (λ n x. n (l.1 x), λ n x. n (l.0 x))

pub none_is : {M : Type 0} (k : Forest M) → k ≡ no_trees → IsTrue (has_no_trees k)
none_is k e = rw e refl

pub none_has : {M : Type 0} (k : Forest M) → IsTrue (has_no_trees k) → k ≡ no_trees
none_has no_trees h = refl
none_has (tree t r) h = absurd cc

module _ {M : Type 0} (g : PlainDtd) (x : List ℕ) (k : Forest M) where
  -- an element's list, where its name has this number
  content_there : (o : Option ℕ) → number_of g x ≡ o → IsLiveContent g x k → IsLiveByWord g (option_map content_site o) (word_of g k) (has_no_trees k)
  content_there None e l = absurd (let a = l.is_owner in cc)
  content_there (Some y) e l =
      let z : l.number ≡ y = let a = l.is_owner in cc in
      let P : ℕ → Type 0 = λ v. IsLiveAt g (content_site v) (word_of g k) (has_no_trees k) in
      subst P z (record { may_have = (l.productive, λ f. none_is k (l.no_kids f)); live = l.live; is_live = l.is_live; possible = l.possible })

  content_back : (o : Option ℕ) → number_of g x ≡ o → IsLiveByWord g (option_map content_site o) (word_of g k) (has_no_trees k) → IsLiveContent g x k
  content_back None e l = absurd l
  content_back (Some y) e l =
      record { number = y; is_owner = e; productive = l.may_have.0; no_kids = λ f. none_has k (l.may_have.1 f); live = l.live; is_live = l.is_live; possible = l.possible }

  own_there : (o : Option ℕ) → IsOwnValid g o k → IsValidByWord g (option_map content_site o) (word_of g k) (has_no_trees k)
  own_there None l = absurd (let a = l.is_owner in cc)
  own_there (Some y) l =
      let z : l.number ≡ y = let a = l.is_owner in cc in
      let P : ℕ → Type 0 = λ v. IsValidAt g (content_site v) (word_of g k) (has_no_trees k) in
      subst P z (l.model, l.is_model, (λ f. none_is k (l.no_kids f)), l.allowed)

  own_back : (o : Option ℕ) → IsValidByWord g (option_map content_site o) (word_of g k) (has_no_trees k) → IsOwnValid g o k
  own_back None l = absurd l
  own_back (Some y) l = record { number = y; is_owner = refl; model = l.0; is_model = l.1; no_kids = λ f. none_has k (l.2 f); allowed = l.3 }

root_word : {M : Type 0} (g : PlainDtd) (root : List ℕ) (y : ℕ) (t : Tree M) → number_of g root ≡ Some y → IsRootElement root t → node_before g t [] ≡ named y ∷ []
root_word g root y (element x a e k m) n r = let s : x ≡ root = r in rw (s, n) refl
root_word g root y (text_node us) n r = absurd r
root_word g root y (cdata_node b) n r = absurd r
root_word g root y (misc_node b) n r = absurd r

token_number : (o : Option ℕ) (y : ℕ) → token o ≡ named y → o ≡ Some y
token_number (Some z) y e = let s : z ≡ y = cc in rw s refl
token_number None y e = absurd cc

text_or_none : (b : Bool) (y : ℕ) → (if b then text ∷ [] else []) ≡ named y ∷ [] → ⊥
text_or_none true y e = cc
text_or_none false y e = cc

pub root_of_word : {M : Type 0} (g : PlainDtd) (root : List ℕ) (y : ℕ) (t : Tree M) → number_of g root ≡ Some y → node_before g t [] ≡ named y ∷ [] → IsRootElement root t
root_of_word g root y (element x a e k m) n w = one_name g x root y (token_number (number_of g x) y cc) n
root_of_word g root y (text_node us) n w = absurd (text_or_none (has_data us) y w)
root_of_word g root y (cdata_node b) n w = absurd cc
root_of_word g root y (misc_node b) n w = absurd cc

module _ {M : Type 0} (g : PlainDtd) (root : List ℕ) (k : Forest M) where
  -- the document node's list, where the root's name has this number
  at_root_there : (o : Option ℕ) → number_of g root ≡ o → IsLiveRoot g root k → IsLiveByWord g (option_map name_site o) (word_of g k) (has_no_trees k)
  at_root_there None e l = absurd (let a = l.is_owner in cc)
  at_root_there (Some y) e l =
      let z : l.number ≡ y = let a = l.is_owner in cc in
      let P : ℕ → Type 0 = λ v. IsLiveAt g (name_site v) (word_of g k) (has_no_trees k) in
      subst P z (record { may_have = tt; live = l.live; is_live = l.is_live; possible = l.possible })

  at_root_back : (o : Option ℕ) → number_of g root ≡ o → IsLiveByWord g (option_map name_site o) (word_of g k) (has_no_trees k) → IsLiveRoot g root k
  at_root_back None e l = absurd l
  at_root_back (Some y) e l = record { number = y; is_owner = e; live = l.live; is_live = l.is_live; possible = l.possible }

  root_there : (o : Option ℕ) → number_of g root ≡ o → IsLiveRoot g root k → (t : Tree M) →
      k ≡ tree t no_trees → IsRootList root k → IsValidByWord g (option_map name_site o)
      (word_of g k) (has_no_trees k)
  root_there None n l t e r = absurd (let a = l.is_owner in cc)
  root_there (Some y) n l t e r = rw e (root_word g root y t n (rw e at r).0)

  root_back : (o : Option ℕ) → number_of g root ≡ o → (t : Tree M) → k ≡ tree t no_trees → IsValidByWord g (option_map name_site o) (word_of g k) (has_no_trees k) → IsRootList root k
  root_back None n t e w = absurd w
  root_back (Some y) n t e w = rw e (root_of_word g root y t n (rw e at w), refl)

live_by : {M : Type 0} (g : PlainDtd) (root : List ℕ) (o : Owner) (k : Forest M) → IsLiveBy g root o k ↔ IsLiveByWord g (site_of g root o) (word_of g k) (has_no_trees k)
live_by g root the_document k = (at_root_there g root k (number_of g root) refl, at_root_back g root k (number_of g root) refl)
live_by g root (an_element x) k = (content_there g x k (number_of g x) refl, content_back g x k (number_of g x) refl)

valid_there : {M : Type 0} (g : PlainDtd) (root : List ℕ) (o : Owner) (k : Forest M) →
    HoldsOne o k → IsLiveBy g root o k → IsValidBy g root o k → IsValidByWord g (site_of g root o)
    (word_of g k) (has_no_trees k)
valid_there g root the_document k h l v = root_there g root k (number_of g root) refl l h.0 h.1 v
valid_there g root (an_element x) k h l v = own_there g x k (number_of g x) v

valid_back : {M : Type 0} (g : PlainDtd) (root : List ℕ) (o : Owner) (k : Forest M) → HoldsOne o k →
    IsLiveBy g root o k → IsValidByWord g (site_of g root o) (word_of g k) (has_no_trees k) →
    IsValidBy g root o k
valid_back g root the_document k h l v = root_back g root k (number_of g root) refl h.0 h.1 v
valid_back g root (an_element x) k h l v = own_back g x k (number_of g x) v

pub verdict_by_word : (M : Type 0) → VerdictByWord M
verdict_by_word M g root list v h =
    same_judged v _ _ _ _ (live_by g root list.owner list.kids) (valid_there g root list.owner list.kids h) (valid_back g root list.owner list.kids h)
