-- What denies a document passes each test.
use Rattle.std.specs.Prelude.{option_map}
use Rattle.std.proofs.Common.{List, None, Option, Some, ap, inl, inr, length, refl, subst, sym, ℕ, ◌∙◌, ◌≡◌, ◌≢◌, ◌⊎◌}
use Rattle.pv_model.specs.Plain.{PlainToken, empty}
use Rattle.pv_dtd.specs.Plain.{PlainDtd, model_of, number_of}
use Rattle.pv_dtd.specs.Proper.{IsProperDtd}
use Rattle.pv_rules.specs.SiteDerivations.{DerivesAt}
use Rattle.pv_rules.specs.Sites.{PlainSite, content_site, name_site}
use Rattle.pv_tree.specs.Lists.{Listed, Owner, an_element, lists_of, the_document}
use Rattle.pv_tree.specs.Plain.{Forest, no_trees, tree}
use Rattle.pv_tree.specs.Words.{word_of}
use Rattle.pv_missing.specs.ListLaws.{KnownWord}
use Rattle.pv_missing.specs.LiveWords.{IsLiveWord}
use Rattle.pv_missing.specs.Verdicts.{IsLiveBy}
use Rattle.pv_missing.specs.ListWeights.{site_of}
use Rattle.pv_missing.specs.Widths.{IsListForVerdict}
use Rattle.pv_missing.specs.WordLaws.{LiveFollows, OneLiveWord, OwnerIsProductive, PossibleDerives}
use Rattle.pv_missing.specs.declared.owners.Of.TheVariants as of
use Rattle.pv_denial.specs.Causes.{HasKidsInEmpty, HoldsOfList, IsCause}
use Rattle.pv_denial.specs.Judgements.{IsReached, IsRightTable, JudgesAt}
use Rattle.pv_denial.specs.Rows.{AreBarrierRows}
use Rattle.pv_denial.specs.declared.denials.Cause.{Cause}
use Rattle.pv_denial.specs.declared.denials.Cause.TheVariants as cause
use Rattle.pv_denial.specs.declared.denials.Denial.{Denial}
use Rattle.pv_denial.specs.declared.denials.Judged.TheVariants as judged
use Rattle.pv_rules.specs.Rules.{IsKnownWord}
use Rattle.pv_denial.proofs.ListJudgements.{live_known}
use Rattle.pv_reach.specs.Laws.{SpansWithin}
use Rattle.pv_deny.specs.DocumentDenials.{AreFurthestRows}
use Rattle.pv_deny.specs.Laws.{DenialIsJudged, FurthestIsBarrier}
use Rattle.pv_deny.proofs.FurthestPlaces.{found}
use Rattle.pv_denial.proofs.Lists.{every}

module _ (M : Type 0) (spans : SpansWithin) (barrier : FurthestIsBarrier) (words : KnownWord M) (follows : LiveFollows) (one : OneLiveWord) (owner : OwnerIsProductive) (possible : PossibleDerives)
    (g : PlainDtd) (root : List ℕ) (d : Denial) (proper : IsProperDtd g) (list : Listed M) where
  holds : (c : Cause) → IsCause g root list c → HoldsOfList g root list c
  holds cause.Undeclared h = h
  holds cause.Unproductive h = h
  holds cause.Empty h = h.0
  holds cause.Word h = h.0

  is_word : (c : Cause) → (c ≡ cause.Word) ⊎ (c ≢ cause.Word)
  is_word cause.Undeclared = inr (λ e. cc)
  is_word cause.Unproductive = inr (λ e. cc)
  is_word cause.Empty = inr (λ e. cc)
  is_word cause.Word = inl refl

  module _ (w : List PlainToken) (is : IsLiveWord g (word_of g list.kids) w) (are : AreFurthestRows g w d.rows) where
    is_known : IsKnownWord g w
    is_known = live_known g (word_of g list.kids) w is (words g list.kids)

    rows : AreBarrierRows g w d.rows
    rows = barrier g w d.rows proper is_known (follows g (word_of g list.kids) w is).names are

    table : IsRightTable g d list
    table = λ _ v h. let P : List PlainToken → Type 0 = λ u. AreBarrierRows g u d.rows in subst P (one g (word_of g list.kids) w v is h) rows

    -- an element that isn't EMPTY, or has no kids
    no_kids : (x : ℕ) (name : List ℕ) (kids : Forest M) → number_of g name ≡ Some x → (HasKidsInEmpty g (an_element name) kids → ⊥) → model_of g x ≡ Some empty → kids ≡ no_trees
    no_kids x name no_trees n not m = refl
    no_kids x name (tree t rest) n not m = absurd (not (x, n, m, (λ e. cc)))

    live_by : (s : PlainSite) (o : Owner) (kids : Forest M) → site_of g root o ≡ Some s →
        IsLiveWord g (word_of g kids) w → (HasKidsInEmpty g o kids → ⊥) →
        DerivesAt g w s 0 (length w) → IsLiveBy g root o kids
    live_by s the_document kids e l not der = by_number (number_of g root) refl e
      where
        by_number : (m : Option ℕ) → number_of g root ≡ m → site_of g root the_document ≡ Some s → IsLiveBy g root the_document kids
        by_number None z f = let P : Option ℕ → Type 0 = λ v. option_map name_site v ≡ Some s in let y = subst P z f in absurd cc
        by_number (Some x) z f =
            let P : Option ℕ → Type 0 = λ v. option_map name_site v ≡ Some s in
            let y : name_site x ≡ s = let v = subst P z f in cc in
            let Q : PlainSite → Type 0 = λ v. DerivesAt g w v 0 (length w) in
            record { number = x; is_owner = z; live = w; is_live = l; possible = (possible g (of.Root (record { 0 = x })) w proper (follows g (word_of g kids) w l).names).0 (subst Q (sym y) der) }
    live_by s (an_element name) kids e l not der = by_number (number_of g name) refl e
      where
        by_number : (m : Option ℕ) → number_of g name ≡ m → site_of g root (an_element name) ≡ Some s → IsLiveBy g root (an_element name) kids
        by_number None z f = let P : Option ℕ → Type 0 = λ v. option_map content_site v ≡ Some s in let y = subst P z f in absurd cc
        by_number (Some x) z f =
            let P : Option ℕ → Type 0 = λ v. option_map content_site v ≡ Some s in
            let y : content_site x ≡ s = let v = subst P z f in cc in
            let Q : PlainSite → Type 0 = λ v. DerivesAt g w v 0 (length w) in
            let p = (possible g (of.Elem (record { 0 = x })) w proper (follows g (word_of g kids) w l).names).0 (subst Q (sym y) der) in
            record { number = x; is_owner = z; productive = owner g x w proper p; no_kids = no_kids x name kids z not; live = w; is_live = l; possible = p }

    not_reached : IsCause g root list d.cause → (IsLiveBy g root list.owner list.kids → ⊥) → IsReached g root d list → ⊥
    not_reached is_cause impossible r =
        let P : Cause → Type 0 = λ c. IsCause g root list c in
        let word = subst P r.by_word is_cause in
        let same : length (word_of g list.kids) ≡ length w = sym (follows g (word_of g list.kids) w is).same_length in
        let der = (found spans g w d.rows proper is_known (follows g (word_of g list.kids) w is).names are r.site 0 (length w) (r.is_value ∙ ap (λ v. Some v) same)).0 in
        impossible (live_by r.site list.owner list.kids r.is_site is word.2 der)

pub denial_judged : (M : Type 0) → SpansWithin → FurthestIsBarrier → KnownWord M → LiveFollows → OneLiveWord → OwnerIsProductive → PossibleDerives → DenialIsJudged M
denial_judged M spans barrier words follows one owner possible g root doc d proper is =
    inr (
      is.list,
      is.is_about,
      judges (is_word M spans barrier words follows one owner possible g
          root d proper is.list d.cause),
    )
  where
    judges : (d.cause ≡ cause.Word) ⊎ (d.cause ≢ cause.Word) → JudgesAt g root d is.list judged.Denied
    judges (inl e) =
        let w = is.by_word e in (
          (λ _. every (IsListForVerdict g) (lists_of doc) is.list is.narrow is.is_about.is_listed),
          record { holds = holds M spans barrier words follows one owner possible g root d proper is.list d.cause is.is_cause; rows = inl e },
          table M spans barrier words follows one owner possible g root d proper is.list w.0 w.1 w.2,
          not_reached M spans barrier words follows one owner possible g root d proper is.list w.0 w.1 w.2 is.is_cause is.impossible,
        )
    judges (inr n) = (
      (λ e. absurd (n e)),
      record { holds = holds M spans barrier words follows one owner possible g root d proper is.list d.cause is.is_cause; rows = inr (is.no_rows n) },
      (λ e. absurd (n e)),
      (λ (r : IsReached g root d is.list). n r.by_word),
    )
