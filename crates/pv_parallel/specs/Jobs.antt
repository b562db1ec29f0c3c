-- Lists as pieces of work, and what came of them.
use Rattle.std.specs.Prelude.{Err, IfErr, IfOk, List, Ok, Result, Vec, [], drop, length, take}
use Rattle.std.specs.Prelude.{◌+◌, ◌++◌, ◌<◌, ◌∷◌, ◌≡◌, ◌≤◌, ◌^◌, ℕ}
use Rattle.std.specs.List.{AllByRecursion}
use Rattle.pv_dtd.specs.Plain.{PlainDtd}
use Rattle.pv_tree.specs.Lists.{Listed, lists_from}
use Rattle.pv_tree.specs.Plain.{nodes_in_all}
use Rattle.pv_tree.specs.PlainForms.{forest}
use Rattle.pv_tree.specs.Walks.{owner_named}
use Rattle.pv_tree.specs.declared.nodes.Mark.{Mark}
use Rattle.pv_tree.specs.declared.nodes.Node.{Node}
use Rattle.pv_tree.specs.declared.nodes.Verdict.{Verdict}
use Rattle.pv_missing.specs.Verdicts.{AreVerdicts}
use Rattle.pv_missing.specs.Widths.{IsListForVerdict}
use Rattle.pv_missing.specs.WordVerdicts.{HoldsOne}
use Rattle.pv_reach.specs.declared.errors.ReachError.{ReachError}
use Rattle.pv_reach.specs.declared.errors.ReachError.TheVariants.{TooWide}
use Rattle.pv_parallel.specs.Sizes.{HasFewTokens}
use Rattle.pv_parallel.specs.declared.gathering.Gathering.{Gathering}
use Rattle.pv_parallel.specs.declared.jobs.Job.{Job}
use Rattle.pv_parallel.specs.declared.jobs.Run.{Run}
use Rattle.pv_parallel.specs.declared.jobs.Run.TheVariants as run_of
use Rattle.std.specs.declared.alloc.Global.{Global}

-- the list of these kids alone, or all lists in these subtrees, wherever they stand
abbrev pub IsRunOf : List (Listed Mark) → Run → Type 0
IsRunOf lists (run_of.List owner kids) = (list : Listed Mark) × (lists ≡ list ∷ []) ×
    (list.owner ≡ owner_named owner) × (list.kids ≡ forest kids.now) × HoldsOne list.owner list.kids
IsRunOf lists (run_of.Subtrees nodes) = (path : List ℕ) × (i : ℕ) ×
    (lists ≡ lists_from path i (forest nodes.now))

-- the jobs are to judge these lists, in their order, which are numbered from k
abbrev pub AreJobs : ℕ → List (Listed Mark) → List Job → Type 0
AreJobs k lists [] = lists ≡ []
AreJobs k lists (job ∷ jobs) = (here : List (Listed Mark)) × (more : List (Listed Mark)) ×
    (lists ≡ here ++ more) × (job.first ≡ k) × IsRunOf here job.run ×
    AreJobs (k + length here) more jobs

-- These lists were gathered.
pub record HasGathered (lists : List (Listed Mark)) (gathering : Gathering) : Type 0 where
  pub jobs : AreJobs 0 lists gathering.jobs.items
  pub count : gathering.count ≡ length lists
  pub narrow : AllByRecursion (HasFewTokens gathering.longest) lists

-- those of these lists come after what was gathered before
abbrev pub Adds : List (Listed Mark) → Gathering → Gathering → Type 0
Adds lists before after = (past : List (Listed Mark)) →
    HasGathered past before → HasGathered (past ++ lists) after

-- Some of these nodes, from the first on, were gathered, and the others are left.
pub record TakesFront (nodes rest : List Node) (before after : Gathering) : Type 0 where
  pub count : ℕ
  pub some : 0 < count
  pub within : count ≤ length nodes
  pub is_rest : rest ≡ drop count nodes
  pub adds : (path : List ℕ) (i : ℕ) →
      Adds (lists_from path i (forest (take count nodes))) before after
  pub few : after.count ≤ before.count + nodes_in_all (forest (take count nodes))

-- These lists were judged after those before them, each when its number was told; the first of all
-- has the number `first`.
pub record JudgesBehind (g : PlainDtd) (root : List ℕ) (entered : ℕ → Type 0) (first : ℕ)
    (lists : List (Listed Mark)) (before after : List Verdict) : Type 0 where
  pub verdicts : (past : List (Listed Mark)) → AreVerdicts g root past before →
      AreVerdicts g root (past ++ lists) after
  pub as_many : length after ≡ length before + length lists
  pub told : (k : ℕ) → length before ≤ k → k < length after → first + k < 2 ^ 64 →
      entered (first + k)

-- What came of a job: the verdicts of its lists; or one is too wide; or want of memory.
pub record JudgesJob (g : PlainDtd) (root : List ℕ) (entered : ℕ → Type 0) (job : Job)
    (judged : Result (Vec Verdict Global) ReachError) : Type 0 where
  pub verdicts : IfOk judged (λ vs. (lists : List (Listed Mark)) → IsRunOf lists job.run →
      JudgesBehind g root entered job.first lists [] vs.items)
  pub wide : IfErr judged (λ e. e ≡ TooWide → (lists : List (Listed Mark)) →
      IsRunOf lists job.run → ¬ AllByRecursion (IsListForVerdict g) lists)

-- the verdicts of jobs, one after the other
abbrev pub AreJoined : List (Result (Vec Verdict Global) ReachError) → List Verdict → Type 0
AreJoined [] vs = vs ≡ []
AreJoined (Ok here ∷ judged) vs = (rest : List Verdict) × (vs ≡ here.items ++ rest) ×
    AreJoined judged rest
AreJoined (Err e ∷ judged) vs = ⊥
