-- The sum of the weights of the Possible lists is that of the weights of all lists.
use Rattle.std.specs.List.{AllByRecursion}
use Rattle.std.proofs.Common.{List, [], arith, subst, sym, ℕ, ◌↔◌, ◌∙◌, ◌∷◌, ◌≡◌}
use Rattle.pv_model.specs.Plain.{PlainToken}
use Rattle.pv_dtd.specs.Plain.{PlainDtd}
use Rattle.pv_dtd.specs.Proper.{IsProperDtd}
use Rattle.pv_tree.specs.Lists.{Listed, Owner, an_element, lists_of, the_document}
use Rattle.pv_tree.specs.Plain.{Forest}
use Rattle.pv_tree.specs.Words.{word_of}
use Rattle.pv_tree.specs.declared.nodes.Verdict.{Verdict}
use Rattle.pv_tree.specs.declared.nodes.Verdict.TheVariants as verdict
use Rattle.pv_rules.specs.Derivations.{IsWeight}
use Rattle.pv_rules.specs.Rules.{Rule}
use Rattle.pv_missing.specs.LiveWords.{IsLiveWord}
use Rattle.pv_missing.specs.Verdicts.{AreVerdicts, IsLive, IsLiveBy, IsVerdict}
use Rattle.pv_missing.specs.DocumentLaws.{IsPotentiallyValidByLists, WeightsAddUp}
use Rattle.pv_missing.specs.ListLaws.{ValidMissesNone}
use Rattle.pv_missing.specs.ListWeights.{WeighInAll, Weighs, whole}
use Rattle.pv_missing.specs.WordLaws.{LiveFollows, OneLiveWord}
use Rattle.pv_tables.specs.WeightLaws.{LiveWeighs, PossibleWeigh, PossibleWeightsAddUp}

module _ (live_follows : LiveFollows) (one_live_word : OneLiveWord) (M : Type 0) (g : PlainDtd) (root : List ℕ) where
  -- the live word of a live list is its word
  pub same_word : (owner : Owner) (kids : Forest M) (live : List PlainToken) → IsLiveBy g root owner kids → IsLiveWord g (word_of g kids) live → live ≡ word_of g kids
  same_word the_document kids live l is =
      one_live_word g (word_of g kids) live l.live is l.is_live ∙ (live_follows g (word_of g kids) l.live l.is_live).itself_at_root l.number l.possible
  same_word (an_element x) kids live l is =
      one_live_word g (word_of g kids) live l.live is l.is_live ∙ (live_follows g (word_of g kids) l.live l.is_live).itself l.number l.possible

  own_live : (owner : Owner) (kids : Forest M) → IsLiveBy g root owner kids → (live : List PlainToken) × IsLiveWord g (word_of g kids) live
  own_live the_document kids l = (l.live, l.is_live)
  own_live (an_element x) kids l = (l.live, l.is_live)

  pub live_weight : (list : Listed M) (k : ℕ) → IsLive g root list → LiveWeighs g root list k ↔ Weighs g root list k
  live_weight list k l = (
    (λ w.
        let P : List PlainToken → Type 0 = λ v. IsWeight (Rule g v) (whole w.0 v) k in
        (w.0, w.2, subst P (same_word list.owner list.kids w.1 l w.3) w.4)),
    (λ w.
        let o = own_live list.owner list.kids l in
        let P : List PlainToken → Type 0 = λ v. IsWeight (Rule g v) (whole w.0 v) k in
        (w.0, o.0, w.1, o.1, subst P (sym (same_word list.owner list.kids o.0 l o.1)) w.2)),
  )

  module _ (proper : IsProperDtd g) (valid_misses_none : ValidMissesNone M) where
    one_list : (list : Listed M) (lists : List (Listed M)) (v : Verdict) (vs : List Verdict) (s : ℕ) → IsLive g root list → IsVerdict g root list v →
        ((n : ℕ) → PossibleWeigh g root lists vs n → WeighInAll g root lists n) → PossibleWeigh g root (list ∷ lists) (v ∷ vs) s → WeighInAll g root (list ∷ lists) s
    one_list list lists verdict.Valid vs s l v more w = (0, s, omega arith, (valid_misses_none g root list proper v).1, more s w)
    one_list list lists verdict.Possible vs s l v more w = (w.0, w.1, w.2, (live_weight list w.0 l).0 w.3, more w.1 w.4)
    one_list list lists verdict.Impossible vs s l v more w = absurd (v l)

    all_lists : (lists : List (Listed M)) (vs : List Verdict) (s : ℕ) → AllByRecursion (IsLive g root) lists → AreVerdicts g root lists vs →
        PossibleWeigh g root lists vs s → WeighInAll g root lists s
    all_lists [] vs s l a w = w
    all_lists (list ∷ lists) vs s l (v, rest, e, is, more) w =
        let P : List Verdict → Type 0 = λ u. PossibleWeigh g root (list ∷ lists) u s in
        one_list list lists v rest s l.0 is (λ n. all_lists lists rest n l.1 more) (subst P e w)

pub possible_weights : LiveFollows → OneLiveWord → (M : Type 0) → ValidMissesNone M → IsPotentiallyValidByLists M → WeightsAddUp M → PossibleWeightsAddUp M
possible_weights follows once M nothing by_lists add g root doc vs s proper proper_doc are valid w =
    add g root doc s proper proper_doc valid (all_lists follows once M g root proper nothing (lists_of doc) vs s ((by_lists g root doc proper proper_doc).0 valid) are w)
