-- The counts of a drill, and its response.
use Rattle.std.proofs.Common.{ap, arith, sym, ℕ, ◌∙◌, ◌/◌, ◌≡◌}
use Rattle.pv_cli.proofs.DrillStages.{asks_none}
use Rattle.pv_cli.specs.CommandLine.{IsDrillSize}
use Rattle.pv_opening.specs.Course.{Course, responds}
use Rattle.pv_cli.specs.Drill.{TellsCounts, counts_text, drill_stage}
use Rattle.pv_opening.specs.Response.{PlainResponse, with_line}
use Rattle.pv_opening.specs.Stage.{Responds, opened, refused, responded, short_of_memory, stopped}
use Rattle.pv_cli.specs.declared.commands.drill.Counts.{Counts}
use Rattle.pv_opening.specs.declared.status.Status.TheVariants.{Done}
use Rattle.pv_session.specs.Sessions.{PlainSession}
use Rattle.law_drill_counts.proofs.LineCounts.{LineLaws, lines_counted, open_left}
use Rattle.law_drill_counts.proofs.OpenedDrill.{Reading, never_refused, opened_at}
use Rattle.law_drill_counts.specs.Counts.{CountsByFormula, RespondsByFormula, drill_counts}

pub counts_by_formula : Reading → LineLaws → CountsByFormula
counts_by_formula known laws n k session after counts open_lists size opens replies left =
    let counted = lines_counted laws n 0 n (omega arith) size.1 session after counts (opened_at known n size session k opens) replies in
    (counted.1, open_left n after open_lists size.0 counted.0 left)

told : Reading → LineLaws → (n k : ℕ) (session : PlainSession) (r : PlainResponse) → IsDrillSize n →
    (drill_stage n).Opens session k → TellsCounts n session r →
    r ≡ with_line Done (counts_text n (drill_counts n) (n / 3))
told known laws n k session r size opens tells =
    let both = counts_by_formula known laws n k session tells.after tells.counts tells.open_lists size opens tells.answers tells.left in
    tells.is_response ∙ ap (λ (c : Counts). with_line Done (counts_text n c tells.open_lists)) both.0 ∙ ap (λ k. with_line Done (counts_text n (drill_counts n) k)) both.1

told_behind : Reading → LineLaws → (n k : ℕ) (session : PlainSession) (course : Course) (r : PlainResponse) → IsDrillSize n → (drill_stage n).Opens session k → course.ending ≡ responds r →
    Responds (TellsCounts n session) course → r ≡ with_line Done (counts_text n (drill_counts n) (n / 3))
told_behind known laws n k session course r size opens at (responded other tells is) =
    let ends = ap (λ (c : Course). c.ending) is in
    let same : r ≡ other = cc in
    same ∙ told known laws n k session other size opens tells
told_behind known laws n k session course r size opens at (short_of_memory is) = let ends = ap (λ (c : Course). c.ending) is in absurd cc

pub responds_by_formula : Reading → LineLaws → RespondsByFormula
responds_by_formula known laws n course r size (opened session k rest opens tells is) at = told_behind known laws n k session rest r size opens (sym (ap (λ (c : Course). c.ending) is) ∙ at) tells
responds_by_formula known laws n course r size (refused other k refuses is) at = absurd (never_refused known n size other k refuses)
responds_by_formula known laws n course r size (stopped k asks is) at = absurd (asks_none n k asks)
responds_by_formula known laws n course r size (short_of_memory k lacks is) at = let ends = ap (λ (c : Course). c.ending) is in absurd cc
