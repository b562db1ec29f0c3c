-- What passes the tests of a denial isn't live.
use Rattle.std.specs.List.{AllByRecursion, Contains}
use Rattle.std.proofs.Common.{List, Option, Some, [], ap, arith, inl, inr, length, refl, subst, suc, sym, zero, ℕ, ◌∙◌, ◌∷◌, ◌≡◌}
use Rattle.pv_model.specs.Plain.{PlainToken}
use Rattle.pv_dtd.specs.Plain.{PlainDtd, number_of}
use Rattle.pv_dtd.specs.Productive.{IsProductive}
use Rattle.pv_dtd.specs.Proper.{IsProperDtd}
use Rattle.pv_rules.specs.Barriers.{AreRising}
use Rattle.pv_rules.specs.Laws.{BarrierHolds, RowsMakeBarrier}
use Rattle.pv_rules.specs.Rules.{over}
use Rattle.pv_rules.specs.Sites.{content_site, name_site}
use Rattle.pv_tree.specs.Lists.{Listed, Owner, an_element, lists_of, the_document}
use Rattle.pv_tree.specs.Plain.{Forest}
use Rattle.pv_tree.specs.Words.{word_of}
use Rattle.pv_missing.specs.DocumentLaws.{IsPotentiallyValidByLists}
use Rattle.pv_missing.specs.LiveWords.{IsLiveWord}
use Rattle.pv_missing.specs.PlainForms.{plain_of}
use Rattle.pv_missing.specs.Verdicts.{IsLive, IsLiveBy}
use Rattle.pv_missing.specs.WordLaws.{LiveFollows, OwnerIsProductive, PossibleDerives}
use Rattle.pv_missing.specs.WordVerdicts.{IsPossibleAt}
use Rattle.pv_missing.specs.declared.owners.Of.{Of}
use Rattle.pv_missing.specs.declared.owners.Of.TheVariants as of
use Rattle.pv_missing.specs.FilledWords.{IsPossibleRoot, StandsFor}
use Rattle.pv_denial.specs.Causes.{HasKidsInEmpty, HoldsOfList, IsUndeclared, IsUnproductive}
use Rattle.pv_denial.specs.Judgements.{IsReached}
use Rattle.pv_denial.specs.Laws.{DeniedIsImpossible, DeniedListIsImpossible}
use Rattle.pv_denial.specs.Rows.{AreBarrierRows, row_value}
use Rattle.pv_denial.specs.declared.denials.Cause.{Cause}
use Rattle.pv_denial.specs.declared.denials.Cause.TheVariants as cause
use Rattle.pv_denial.specs.declared.denials.Denial.{Denial}
use Rattle.pv_denial.specs.declared.denials.Row.{Row}
use Rattle.pv_denial.proofs.SiteRows.{value_bounds, value_rises}

-- a name for whose root some word is possible is productive
root_productive : OwnerIsProductive → (g : PlainDtd) → IsProperDtd g → (x : ℕ) (live : List PlainToken) → IsPossibleRoot g x live → IsProductive g x
root_productive by_word g proper x live (d, stands) = at_depth d stands
  where
    at_depth : (d : ℕ) → StandsFor g d x live → IsProductive g x
    at_depth zero (productive, e) = productive
    at_depth (suc d) (inl (productive, e)) = productive
    at_depth (suc d) (inr fills) = by_word g x live proper (d, fills)

pub rows_rise : (g : PlainDtd) (w : List PlainToken) (rows : List Row) → AreBarrierRows g w rows → AreRising w (row_value rows)
rows_rise g w rows are = record {
  bounded = λ s i k e. value_bounds g (length w) rows are.each s i k e;
  rising = λ s i j k e le short. value_rises g (length w) rows are.each s i j k e le short;
}

module _ (follows : LiveFollows) (by_word : OwnerIsProductive) (possible : PossibleDerives)
    (barrier : (g : PlainDtd) (w : List PlainToken) → BarrierHolds g w) (by_rows : (g : PlainDtd)
    (w : List PlainToken) → RowsMakeBarrier g w)
    (g : PlainDtd) (proper : IsProperDtd g) where
  -- rows of a barrier reach the end of a possible word
  reached_end : (owner : Of) (live : List PlainToken) (w : List PlainToken) (rows : List Row) → IsLiveWord g w live → IsPossibleAt g (plain_of owner) live → AreBarrierRows g live rows →
      row_value rows (plain_of owner) 0 ≡ Some (length w)
  reached_end owner live w rows is poss are =
      let f = follows g w live is in
      let d = (possible g owner live proper f.names).1 poss in
      let b = (by_rows g live (row_value rows) (rows_rise g live rows are)).0 are.barrier in
      let r = barrier g live (row_value rows) b d.0 (over (plain_of owner) 0 (length live)) d.1 in
      let k = value_bounds g (length live) rows are.each (plain_of owner) 0 r.0 r.1 in
      let same = f.same_length in
      let z : r.0 ≡ length w = omega (arith, r.2, k.1, same) in
      r.1 ∙ ap (λ v. Some v) z

  module _ {M : Type 0} (root : List ℕ) (d : Denial) where
    by_cause : (list : Listed M) (c : Cause) → d.cause ≡ c → HoldsOfList g root list c → (c ≡ cause.Word → (w : List PlainToken) → IsLiveWord g (word_of g list.kids) w → AreBarrierRows g w d.rows) →
        (IsReached g root d list → ⊥) → IsLive g root list → ⊥
    by_cause list cause.Undeclared e h t n live = undeclared list.owner list.kids h live
      where
        undeclared : (o : Owner) (kids : Forest M) → IsUndeclared g root o → IsLiveBy g root o kids → ⊥
        undeclared the_document kids u l = let x = l.is_owner in cc
        undeclared (an_element x) kids u l = let y = l.is_owner in cc
    by_cause list cause.Unproductive e h t n live = unproductive list.owner list.kids h live
      where
        same_number : (o : Option ℕ) (x y : ℕ) → o ≡ Some x → o ≡ Some y → x ≡ y
        same_number o x y a b = cc

        unproductive : (o : Owner) (kids : Forest M) → IsUnproductive g root o → IsLiveBy g root o kids → ⊥
        unproductive the_document kids (x, u, p) l =
            let z = same_number (number_of g root) l.number x l.is_owner u in
            let P : ℕ → Type 0 = λ v. IsProductive g v in
            p (subst P z (root_productive by_word g proper l.number l.live l.possible))
        unproductive (an_element y) kids (x, u, p) l =
            let z = same_number (number_of g y) l.number x l.is_owner u in
            let P : ℕ → Type 0 = λ v. IsProductive g v in p (subst P z l.productive)
    by_cause list cause.Empty e h t n live = empty_kids list.owner list.kids h live
      where
        empty_kids : (o : Owner) (kids : Forest M) → HasKidsInEmpty g o kids → IsLiveBy g root o kids → ⊥
        empty_kids the_document kids h l = h
        empty_kids (an_element y) kids (x, u, m, not) l = not (l.no_kids (let a = l.is_owner in cc))
    by_cause list cause.Word e h t n live = reached list.owner list.kids refl refl live
      where
        reached : (o : Owner) (kids : Forest M) → list.owner ≡ o → list.kids ≡ kids → IsLiveBy g root o kids → ⊥
        reached the_document kids a b l =
            let P : Forest M → Type 0 = λ v. IsLiveWord g (word_of g v) l.live in
            let is = subst P (sym b) l.is_live in
            n (record {
              by_word = e;
              site = name_site l.number;
              is_site = rw (a, l.is_owner) refl;
              is_value = reached_end (of.Root (record { 0 = l.number })) l.live (word_of g list.kids) d.rows is l.possible (t refl l.live is);
            })
        reached (an_element x) kids a b l =
            let P : Forest M → Type 0 = λ v. IsLiveWord g (word_of g v) l.live in
            let is = subst P (sym b) l.is_live in
            n (record {
              by_word = e;
              site = content_site l.number;
              is_site = rw (a, l.is_owner) refl;
              is_value = reached_end (of.Elem (record { 0 = l.number })) l.live (word_of g list.kids) d.rows is l.possible (t refl l.live is);
            })

pub denied_list : (M : Type 0) → LiveFollows → OwnerIsProductive → PossibleDerives →
    ((g : PlainDtd) (w : List PlainToken) → BarrierHolds g w) →
    ((g : PlainDtd) (w : List PlainToken) → RowsMakeBarrier g w) → DeniedListIsImpossible M
denied_list M follows by_word possible barrier by_rows g root list d proper (narrow, right, table, not) live =
    by_cause follows by_word possible barrier by_rows g proper root d list d.cause refl right.holds table not live

pub denied : (M : Type 0) → DeniedListIsImpossible M → IsPotentiallyValidByLists M → DeniedIsImpossible M
denied M impossible by_lists g root doc d proper is (inl x) valid = absurd (let e = x.1 in cc)
denied M impossible by_lists g root doc d proper is (inr (list, about, judges)) valid =
    impossible g root list d proper judges (all_live (lists_of doc) ((by_lists g root doc proper is).0 valid) about.is_listed)
  where
    all_live : (lists : List (Listed M)) → AllByRecursion (IsLive g root) lists → Contains lists list → IsLive g root list
    all_live [] all (k, lt, e) = absurd (omega arith)
    all_live (l ∷ lists) all (zero, lt, e) = let P : Listed M → Type 0 = λ v. IsLive g root v in subst P e all.0
    all_live (l ∷ lists) all (suc k, lt, e) = all_live lists all.1 (k, omega arith, e)
