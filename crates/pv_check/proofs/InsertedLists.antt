-- What is found of some lists where one more stands among them.
use Rattle.std.proofs.Common.{◌≡◌, ℕ, ◌+◌, suc, List, [], ◌∷◌, ◌++◌, length, Option, Some, None, Bool, true, false, sym, ◌∙◌, subst, length-append, arith}
use Rattle.std.specs.List.{AllByRecursion}
use Rattle.pv_dtd.specs.Plain.{PlainDtd}
use Rattle.pv_tree.specs.Lists.{Listed, IsFirstNot}
use Rattle.pv_tree.specs.declared.nodes.Mark.{Mark}
use Rattle.pv_tree.specs.declared.nodes.Verdict.{Verdict}
use Rattle.pv_tree.proofs.JoinedLists.{all_left, all_right}
use Rattle.pv_missing.specs.Verdicts.{IsLive, IsVerdict, is_possible}
use Rattle.pv_lists.specs.WholeLists.{TellsFirst, TellsWhether}
use Rattle.pv_lists.proofs.FirstOfLists.{put_so, put_not, put_behind}
use Rattle.pv_check.specs.Findings.{HasFound}
use Rattle.pv_check.specs.ListJudgements.{IsListWithin, IsNarrowAndLive}
use Rattle.pv_check.specs.declared.findings.Findings.{Findings}
use Rattle.pv_check.specs.declared.widths.Widths.{Widths}
use Rattle.pv_check.proofs.PossibleCounts.{one_if, one_if_few, possible_more}

pub narrow_all : (s : Widths) (g : PlainDtd) (root : List ℕ) (xs : List (Listed Mark)) →
    AllByRecursion (IsNarrowAndLive s g root) xs → AllByRecursion (IsListWithin s g) xs
narrow_all s g root [] all = tt
narrow_all s g root (x ∷ xs) all = (all.0.0, narrow_all s g root xs all.1)

pub live_all : (s : Widths) (g : PlainDtd) (root : List ℕ) (xs : List (Listed Mark)) →
    AllByRecursion (IsNarrowAndLive s g root) xs → AllByRecursion (IsLive g root) xs
live_all s g root [] all = tt
live_all s g root (x ∷ xs) all = (all.0.1, live_all s g root xs all.1)

-- lists whose first that isn't so stands among them aren't all so
not_none : (P : Listed Mark → Type 0) (xs ys : List (Listed Mark)) (path : List ℕ) (found : Option (List ℕ)) → IsFirstNot P xs path → TellsFirst P (xs ++ ys) found → found ≡ None → ⊥
not_none P xs ys path None f all e = f.is_not (all_right P f.before (f.list ∷ f.after) (subst (AllByRecursion P) f.is_split (all_left P xs ys all))).0
not_none P xs ys path (Some other) f all e = absurd cc

some_is_none : (p : List ℕ) (found : Option (List ℕ)) → found ≡ Some p → found ≡ None → ⊥
some_is_none p found e f = cc

module _ (s : Widths) (g : PlainDtd) (root : List ℕ) (xs ys : List (Listed Mark)) (x : Listed Mark)
    (old new : Findings) (f : HasFound s g root (xs ++ ys) old) where
  many : length (xs ++ x ∷ ys) ≡ suc (length (xs ++ ys))
  many = let a = length-append xs (x ∷ ys) in let b = length-append xs ys in omega arith

  -- it stands after one that is too wide or impossible
  pub kept_behind : TellsWhether (IsNarrowAndLive s g root) xs true →
      TellsFirst (IsListWithin s g) (xs ++ x ∷ ys) new.wide
      → new.first ≡ old.first → new.possible ≡ old.possible → new.lists ≡ old.lists + 1
      → new.kept ≡ old.kept → HasFound s g root (xs ++ x ∷ ys) new
  kept_behind behind wide first_is possible_is count_is kept_is =
      let never : new.first ≡ None → ⊥ = λ none. not_none (IsNarrowAndLive s g root) xs ys behind.0
      old.first behind.1 f.first (sym first_is ∙ none) in
      record {
        first_wide = wide;
        first =
            rw first_is (put_behind (IsNarrowAndLive s g root) xs ys x old.first behind.0 behind.1
            f.first);
        possible = λ none. absurd (never none);
        few_possible = omega (arith, f.few_possible, possible_is, count_is);
        count = omega (arith, f.count, many, count_is);
        kept = rw kept_is f.kept;
      }

  -- the width of a list that isn't judged
  pub wide_behind : TellsWhether (IsListWithin s g) xs true →
      TellsFirst (IsListWithin s g) (xs ++ x ∷ ys) old.wide
  wide_behind behind = put_behind (IsListWithin s g) xs ys x old.wide behind.0 behind.1 f.first_wide

  pub wide_narrow : (b : Bool) → TellsWhether (IsListWithin s g) xs b → IsListWithin s g x →
      TellsFirst (IsListWithin s g) (xs ++ x ∷ ys) old.wide
  wide_narrow true behind narrow = wide_behind behind
  wide_narrow false all narrow = put_so (IsListWithin s g) xs ys x old.wide all narrow f.first_wide

  pub wide_found : TellsWhether (IsListWithin s g) xs false → (IsListWithin s g x → ⊥) →
      new.wide ≡ Some x.path → TellsFirst (IsListWithin s g) (xs ++ x ∷ ys) new.wide
  wide_found all wide wide_is = rw wide_is (put_not (IsListWithin s g) xs ys x all wide)

  -- no list before it is too wide or impossible
  module _ (all : AllByRecursion (IsNarrowAndLive s g root) xs) where
    pub put_wide : (IsListWithin s g x → ⊥) → new.wide ≡ Some x.path → new.first ≡ Some x.path →
        new.possible ≡ old.possible → new.lists ≡ old.lists + 1 → new.kept ≡ old.kept →
        HasFound s g root (xs ++ x ∷ ys) new
    put_wide wide wide_is first_is possible_is count_is kept_is = record {
      first_wide =
          rw wide_is (put_not (IsListWithin s g) xs ys x (narrow_all s g root xs all) wide);
      first = rw first_is (put_not (IsNarrowAndLive s g root) xs ys x all (λ so. wide so.0));
      possible = λ none. absurd (some_is_none x.path new.first first_is none);
      few_possible = omega (arith, f.few_possible, possible_is, count_is);
      count = omega (arith, f.count, many, count_is);
      kept = rw kept_is f.kept;
    }

    module _ (narrow : IsListWithin s g x) (wide_is : new.wide ≡ old.wide)
        (count_is : new.lists ≡ old.lists + 1) (kept_is : new.kept ≡ old.kept) where
      same_wide : TellsFirst (IsListWithin s g) (xs ++ x ∷ ys) new.wide
      same_wide =
          rw wide_is (put_so (IsListWithin s g) xs ys x old.wide (narrow_all s g root xs all) narrow
          f.first_wide)

      pub put_impossible : (IsLive g root x → ⊥) → new.first ≡ Some x.path →
          new.possible ≡ old.possible → HasFound s g root (xs ++ x ∷ ys) new
      put_impossible dead first_is possible_is = record {
        first_wide = same_wide;
        first = rw first_is (put_not (IsNarrowAndLive s g root) xs ys x all (λ so. dead so.1));
        possible = λ none. absurd (some_is_none x.path new.first first_is none);
        few_possible = omega (arith, f.few_possible, possible_is, count_is);
        count = omega (arith, f.count, many, count_is);
        kept = rw kept_is f.kept;
      }

      pub put_live : (v : Verdict) → IsVerdict g root x v → IsLive g root x →
          new.first ≡ old.first → new.possible ≡ one_if (is_possible v) + old.possible →
          HasFound s g root (xs ++ x ∷ ys) new
      put_live v is live first_is possible_is = record {
        first_wide = same_wide;
        first =
            rw first_is (put_so (IsNarrowAndLive s g root) xs ys x old.first all (narrow, live)
            f.first);
        possible = λ none. possible_more g root x v is xs ys old.possible new.possible (f.possible (sym first_is ∙ none)) possible_is;
        few_possible = let few = one_if_few (is_possible v) in omega (arith, f.few_possible, possible_is, count_is, few);
        count = omega (arith, f.count, many, count_is);
        kept = rw kept_is f.kept;
      }
