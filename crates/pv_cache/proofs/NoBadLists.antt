-- A document of which no list is Impossible.
use Rattle.std.proofs.Common.{List, [], arith, ℕ, ◌∙◌, ◌∷◌, ◌≡◌}
use Rattle.std.specs.List.{AllByRecursion}
use Rattle.pv_dtd.specs.Plain.{PlainDtd}
use Rattle.pv_missing.specs.Verdicts.{AreVerdicts, IsLive, Judges, impossible_in, is_impossible}
use Rattle.pv_missing.proofs.Counts.{same_counts}
use Rattle.pv_tree.specs.Lists.{Listed, lists_of}
use Rattle.pv_tree.specs.Plain.{PlainDoc}
use Rattle.pv_tree.specs.declared.nodes.Mark.{Mark}
use Rattle.pv_tree.specs.declared.nodes.Verdict.{Verdict}
use Rattle.pv_tree.specs.declared.nodes.Verdict.TheVariants as verdict
use Rattle.pv_cache.specs.LaidMarks.{lay_doc}
use Rattle.pv_cache.specs.WellMarked.{IsWellMarked, own_bad, told_bad}
use Rattle.pv_cache.proofs.Grounds.{bad_of}
use Rattle.pv_cache.proofs.LaidDocuments.{laid_same}
use Rattle.pv_cache.proofs.TreeMarks.{bad-first}

live-own : (v : Verdict) (live own : Type 0) → Judges v live own → live → own_bad v ≡ 0
live-own verdict.Valid live own j l = omega arith
live-own verdict.Possible live own j l = omega arith
live-own verdict.Impossible live own j l = absurd (j l)

module _ (g : PlainDtd) (root : List ℕ) where
  live-bad : (lists : List (Listed Mark)) (vs : List Verdict) → AreVerdicts g root lists vs →
      AllByRecursion (IsLive g root) lists → impossible_in vs ≡ 0
  live-bad [] vs e l = rw e (omega arith)
  live-bad (list ∷ lists) vs a l =
      let first = bad-first a.0 a.1 in
      let own = live-own a.0 _ _ a.3 l.0 in
      let others = live-bad lists a.1 a.4 l.1 in
      rw a.2 (omega arith)

  -- where no list of a document is, none is told by marks that tell its verdicts
  pub no-bad-laid : (vs : List Verdict) (doc : PlainDoc Mark) →
      IsWellMarked g root (lay_doc vs doc) → AllByRecursion (IsLive g root) (lists_of doc) →
      told_bad (lay_doc vs doc) ≡ 0
  no-bad-laid vs doc w l =
      let laid = lay_doc vs doc in
      let had =
      same_counts Mark Mark is_impossible g root laid doc (told_bad laid) (laid_same vs doc)
      (bad_of g root laid w) in
      had.count ∙ live-bad (lists_of doc) had.verdicts had.are_verdicts l
