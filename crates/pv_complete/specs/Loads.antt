-- A walk that adds the weights of Possible lists, as it carries the proof.
use Rattle.std.specs.Prelude.{Bool, List, [], drop, false, min, true, ℕ, ◌+◌, ◌++◌, ◌∷◌, ◌≡◌, ◌≢◌}
use Rattle.std.specs.Prelude.{◌⊎◌}
use Rattle.std.specs.List.{AllByRecursion}
use Rattle.pv_dtd.specs.Plain.{PlainDtd}
use Rattle.pv_tree.specs.Lists.{IsFirstNot, Listed}
use Rattle.pv_tree.specs.declared.nodes.Mark.{Mark}
use Rattle.pv_tree.specs.declared.nodes.Verdict.{Verdict}
use Rattle.pv_tree.specs.declared.nodes.Verdict.TheVariants as verdict
use Rattle.pv_rules.specs.Derivations.{heaviest}
use Rattle.pv_missing.specs.Verdicts.{AreVerdicts}
use Rattle.pv_tables.specs.WeightLaws.{PossibleWeigh}
use Rattle.pv_complete.specs.NeededElements.{CanWeigh}

-- how many verdicts are used, and the sum of the weights so far, cut
pub record PlainLoad : Type 0 where
  pub used : ℕ
  pub total : ℕ

-- The verdict that is next is used, if there is one, and it is Possible or isn't.
abbrev pub UsesVerdict : List Verdict → ℕ → ℕ → Bool → Type 0
UsesVerdict vs old new true = drop old vs ≡ verdict.Possible ∷ drop new vs
UsesVerdict vs old new false = (drop old vs ≡ []) ⊎
    ((v : Verdict) × (drop old vs ≡ v ∷ drop new vs) × (v ≢ verdict.Possible))

-- The lists come first among those whose verdicts aren't used yet. Their Possible ones can be
-- weighed, and their weights add up to a.
pub record LoadsMore (g : PlainDtd) (root : List ℕ) (lists more : List (Listed Mark))
    (vs : List Verdict)
    (old new : PlainLoad) : Type 0 where
  pub left : AreVerdicts g root more (drop new.used vs)
  pub sum : ℕ
  pub total : new.total ≡ min heaviest (old.total + sum)
  pub weigh : (b : ℕ) → PossibleWeigh g root more (drop new.used vs) b →
      PossibleWeigh g root (lists ++ more) (drop old.used vs) (sum + b)
  pub weighed : AllByRecursion (CanWeigh g root) lists

-- where the verdicts that aren't used are those of these lists and more, these are added
abbrev pub AddsUp : PlainDtd → List ℕ → List (Listed Mark) → List Verdict → PlainLoad → PlainLoad →
    Type 0
AddsUp g root lists vs old new =
    (more : List (Listed Mark)) → AreVerdicts g root (lists ++ more) (drop old.used vs) →
    LoadsMore g root lists more vs old new

-- then the list at this path is the first of these that can't be weighed
abbrev pub StopsAtList : PlainDtd → List ℕ → List (Listed Mark) → List Verdict → PlainLoad →
    List ℕ →
    Type 0
StopsAtList g root lists vs old path =
    (more : List (Listed Mark)) → AreVerdicts g root (lists ++ more) (drop old.used vs) →
    IsFirstNot (CanWeigh g root) lists path
