use Rattle.std.proofs.Common.{arith, true, ◌<◌, ◌≤◌, ◌≡◌, ◌⊎◌, inl, inr, ℕ, subst, sym, ◌∙◌, refl}
use Rattle.std.proofs.lemmas.Bool.{cases_lt}
use Rattle.pv_rules.specs.PlainForms.{plain_site}
use Rattle.pv_rules.specs.Rules.{over}
use Rattle.pv_tables.specs.Values.{listed_value}
use Rattle.pv_table_check.specs.Lookup.{least_entry}
use Rattle.pv_table_check.proofs.ClosedSites.{same_value}
use Rattle.pv_table_check.proofs.forms.nothing_holds.Goals as goal

pub returns-then-value_at-ne0 : goal.returns-then-value_at-ne0
returns-then-value_at-ne0 c =
    let i = c.loop-place.place in
    let same = same_value c.listed_or_not_law.ensures c.args.entries.now c.requires true
    (least_entry c.args.left 0) c.entries_of-found.result.now c.entries_of-found.ensures.like
    c.entries_of-found.ensures.ascend i i (λ f. absurd cc) in (
      λ t. absurd cc,
      λ w. let h = w i (let lt = c.loop-place-test.true in omega arith) in let v = c.value_at.ensures in let n = c.if-value_at-ne0.true in absurd (n (v ∙ same ∙ h)),
    )

pub returns-else-value_at-ne0 : goal.returns-else-value_at-ne0
returns-else-value_at-ne0 c = (λ t i le. by_place i le (cases_lt i c.loop-place.place), λ w. refl)
  where
    same : (i : ℕ) → listed_value c.entries_of-found.result.now (over (plain_site c.args.left) i i) ≡ listed_value c.args.entries.now (over (plain_site c.args.left) i i)
    same i = same_value c.listed_or_not_law.ensures c.args.entries.now c.requires true
        (least_entry c.args.left 0) c.entries_of-found.result.now c.entries_of-found.ensures.like
        c.entries_of-found.ensures.ascend i i (λ f. absurd cc)

    by_place : (i : ℕ) → i ≤ c.args.most → (i < c.loop-place.place) ⊎ (c.loop-place.place ≤ i) → listed_value c.args.entries.now (over (plain_site c.args.left) i i) ≡ 0
    by_place i le (inl less) = sym (same i) ∙ c.loop-place.invariant i less
    by_place i le (inr more) =
        let here : c.loop-place.place ≡ i = omega arith in
        sym (same i) ∙ subst (λ k. listed_value c.entries_of-found.result.now (over (plain_site c.args.left) k k) ≡ 0) here (sym c.value_at.ensures ∙ c.if-value_at-ne0.false)

pub returns : goal.returns
returns c = (λ t i le. absurd (omega arith), λ w. refl)
