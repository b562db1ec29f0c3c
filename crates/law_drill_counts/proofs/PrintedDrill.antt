-- What a run of a drill writes.
use Rattle.std.proofs.Common.{Some, ap, inl, inr, subst, ℕ, ◌/◌, ◌∙◌, ◌≡◌, ◌⊎◌}
use Rattle.std.specs.Io.KnownBytes.{Appends}
use Rattle.pv_cli.specs.CommandLine.{IsDrillSize, drill}
use Rattle.pv_cli.specs.Drill.{counts_text}
use Rattle.pv_cli.specs.Headline.{HadNoMemory}
use Rattle.pv_cli.specs.Laws.{Answered, AnswersWithoutFault}
use Rattle.pv_opening.specs.Devices.{Devices}
use Rattle.pv_cli.specs.Program.{Runs}
use Rattle.pv_opening.specs.Response.{PlainResponse, with_line}
use Rattle.pv_opening.specs.declared.status.Status.{Status}
use Rattle.pv_opening.specs.declared.status.Status.TheVariants.{Done}
use Rattle.law_drill_counts.specs.Counts.{PrintsFormula, RespondsByFormula, drill_counts}

module _ (S : Type 0) (responds_so : RespondsByFormula) (n : ℕ) (before after : Devices S) (status : Status) (size : IsDrillSize n) (run : Runs (Some (drill n)) before after status) where
  abbrev line : PlainResponse
  line = with_line Done (counts_text n (drill_counts n) (n / 3))

  printed : HadNoMemory before after status ⊎ Answered run → HadNoMemory before after status ⊎ ((status ≡ Done) × Appends before.output.written after.output.written line.output)
  printed (inl none) = inl none
  printed (inr told) =
      let same = responds_so n run.course told.response size run.is_defined told.is_response in
      inr (told.is_status ∙ ap (λ (r : PlainResponse). r.status) same, subst (λ (r : PlainResponse). Appends before.output.written after.output.written r.output) same told.written)

pub prints_formula : (S : Type 0) → RespondsByFormula → AnswersWithoutFault S → PrintsFormula S
prints_formula S responds_so complete n before after status size run shelf input output =
    printed S responds_so n before after status size run (complete (Some (drill n)) before after status run shelf input output)
