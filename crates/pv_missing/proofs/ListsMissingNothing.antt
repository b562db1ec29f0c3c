-- A list in which nothing is missing is valid by itself, so each Possible list misses an element.
use Rattle.std.proofs.Common.{List, [], ap, arith, refl, subst, suc, sym, zero, ℕ, ◌++◌, ◌∷◌, ◌≡◌}
use Rattle.std.specs.List.{AllByRecursion}
use Rattle.pv_model.specs.Models.{Allows}
use Rattle.pv_model.specs.Plain.{PlainToken, named, text}
use Rattle.pv_dtd.specs.Plain.{PlainDtd, declared}
use Rattle.pv_tree.specs.Lists.{IsRootList, IsValidBy, Listed, Owner, an_element, lists_at, lists_from, lists_of, the_document}
use Rattle.pv_tree.specs.Plain.{Forest, PlainDoc, Tree, cdata_node, element, misc_node, no_trees, text_node, tree}
use Rattle.pv_tree.specs.Words.{word_of}
use Rattle.pv_missing.specs.Covers.{Covers, cover_kept, cover_new, cover_none, cover_text}
use Rattle.pv_missing.specs.DocumentLaws.{PossibleAreMissing}
use Rattle.pv_missing.specs.ListLaws.{NoneMissingIsValid}
use Rattle.pv_missing.specs.MissingNumbers.{MissesBy, MissesInContent, MissesInRoot}
use Rattle.pv_missing.specs.Verdicts.{AreVerdicts, IsVerdict, possible_in}
use Rattle.pv_missing.specs.ListWeights.{BoundInAll, IsBound}
use Rattle.pv_missing.specs.WordVerdicts.{HoldsOne}
use Rattle.pv_missing.proofs.NoPossibleLists.{count_more, counted}
use Rattle.pv_missing.proofs.VerdictWords.{root_of_word}
use Rattle.pv_missing.proofs.Weights.{bounds_add_up}
use Rattle.pv_tree.specs.declared.nodes.Verdict.{Verdict}
use Rattle.pv_tree.specs.declared.nodes.Verdict.TheVariants as verdict

-- a word that is covered without a missing element is the word that covers it
covered_same : (g : PlainDtd) (n : ℕ) (u w : List PlainToken) → n ≡ 0 → Covers g n u w → u ≡ w
covered_same g n u w z (cover_none _ e) = refl
covered_same g n u w z (cover_text _ u' x c) = ap (◌∷◌ text) (covered_same g n u' x z c)
covered_same g n u w z (cover_kept _ y u' x p c) = ap (◌∷◌ (named y)) (covered_same g n u' x z c)
covered_same g n u w z (cover_new _ a b y m v u' w1 w2 _ e j is ok c d) = absurd (omega (arith, z, e))

module _ {M : Type 0} (g : PlainDtd) (root : List ℕ) where
  own_valid : (x : List ℕ) (k : Forest M) → MissesInContent g x k 0 → IsValidBy g root (an_element x) k
  own_valid x k p = record {
    number = p.number;
    is_owner = p.is_owner;
    model = p.possible.model;
    is_model = p.possible.is_model;
    no_kids = λ e. p.no_kids (rw (sym e) p.possible.is_model);
    allowed = subst (Allows (declared g) p.possible.model) (covered_same g 0 p.possible.whole (word_of g k) refl p.possible.covers) p.possible.allowed;
  }

  root_list : (t : Tree M) → MissesInRoot g root (tree t no_trees) 0 → IsRootList root (tree t no_trees)
  root_list t p = (root_of_word g root p.number t p.is_owner (sym (covered_same g 0 (named p.number ∷ []) (word_of g (tree t no_trees)) refl p.possible)), refl)

  valid_by : (o : Owner) (k : Forest M) → HoldsOne o k → MissesBy g root o k 0 → IsValidBy g root o k
  valid_by the_document k h p = let P : Forest M → Type 0 = λ f. IsValidBy g root the_document f in subst P (sym h.1) (root_list h.0 (rw h.1 at p))
  valid_by (an_element x) k h p = own_valid x k p

  -- so many elements are missing in a list of this verdict at least
  one_missing : (list : Listed M) → HoldsOne list.owner list.kids → (IsValidBy g root list.owner list.kids → ⊥) → IsBound g root list 1
  one_missing list h not zero p = absurd (not (valid_by list.owner list.kids h p))
  one_missing list h not (suc n) p = omega arith

  counted_bound : (list : Listed M) (v : Verdict) → HoldsOne list.owner list.kids → IsVerdict g root list v → IsBound g root list (counted v)
  counted_bound list verdict.Valid h j = λ n p. omega arith
  counted_bound list verdict.Possible h j = one_missing list h j.1
  counted_bound list verdict.Impossible h j = λ n p. omega arith

  abbrev Holds : Listed M → Type 0
  Holds list = HoldsOne list.owner list.kids

  all_join : (a b : List (Listed M)) → AllByRecursion Holds a → AllByRecursion Holds b → AllByRecursion Holds (a ++ b)
  all_join [] b p q = q
  all_join (l ∷ a) b p q = (p.0, all_join a b p.1 q)

  mutual
    hold_at : (path : List ℕ) (t : Tree M) → AllByRecursion Holds (lists_at path t)
    hold_at path (element x a e k m) = (tt, hold_from path 0 k)
    hold_at path (text_node us) = tt
    hold_at path (cdata_node b) = tt
    hold_at path (misc_node b) = tt

    hold_from : (path : List ℕ) (i : ℕ) (k : Forest M) → AllByRecursion Holds (lists_from path i k)
    hold_from path i no_trees = tt
    hold_from path i (tree t r) = all_join (lists_at (path ++ i ∷ []) t) (lists_from path (suc i) r) (hold_at (path ++ i ∷ []) t) (hold_from path (suc i) r)

  all_hold : (doc : PlainDoc M) → AllByRecursion Holds (lists_of doc)
  all_hold doc = ((doc.root, refl), hold_at (0 ∷ []) doc.root)

  -- the number of Possible lists is a sum of bounds
  possible_bound : (lists : List (Listed M)) (vs : List Verdict) → AllByRecursion Holds lists → AreVerdicts g root lists vs → BoundInAll g root lists (possible_in vs)
  possible_bound [] vs h a = let e : vs ≡ [] = a in rw e refl
  possible_bound (list ∷ lists) vs h (v, rest, e, j, a) = (
    counted v,
    possible_in rest,
    rw e (count_more v rest),
    counted_bound list v h.0 j,
    possible_bound lists rest h.1 a,
  )

pub none_missing_valid : (M : Type 0) → NoneMissingIsValid M
none_missing_valid M g root list h p = valid_by g root list.owner list.kids h p

pub possible_are_missing : (M : Type 0) → PossibleAreMissing M
possible_are_missing M g root doc possible proper is_proper have n c =
    let b = possible_bound g root (lists_of doc) have.verdicts (all_hold g root doc) have.are_verdicts in
    let e = have.count in
    let le = bounds_add_up M g root doc (possible_in have.verdicts) proper is_proper b n c in omega (arith, e, le)
