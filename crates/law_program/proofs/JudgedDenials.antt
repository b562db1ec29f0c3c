-- What a run of `deny` that did all has shown.
use Rattle.std.proofs.Common.{◌≡◌, ◌∙◌, ◌⊎◌, inl, inr, ℕ, List, Option, Some, ap, refl, subst, sym}
use Rattle.std.specs.Io.KnownBytes.{Appends}
use Rattle.pv_denial.specs.declared.denials.Denial.{Denial}
use Rattle.pv_commands.specs.Certificates.{certificate_stage}
use Rattle.pv_cli.specs.CommandLine.{PlainCommandLine, on_certificate}
use Rattle.pv_opening.specs.Course.{Course}
use Rattle.pv_commands.specs.DenialFiles.{denial_file_stage}
use Rattle.pv_commands.specs.Deny.{TellsJudgement, is_denied, is_rejected, is_too_wide}
use Rattle.pv_opening.specs.Devices.{Devices}
use Rattle.pv_opening.specs.Documents.{PlainOpened}
use Rattle.law_program.specs.Laws.{DeniesImpossible, ShowsImpossible}
use Rattle.pv_opening.specs.Opening.{Files}
use Rattle.pv_opening.specs.Response.{PlainResponse}
use Rattle.pv_opening.specs.Stage.{Responds}
use Rattle.pv_cli.specs.declared.checker.Checker.TheVariants.{Deny}
use Rattle.pv_opening.specs.declared.status.Status.TheVariants.{Done, Limit, Negative}
use Rattle.law_program.proofs.VerifiedPacks.{WroteAll, no_limit_done, no_negative_done, wrote_all}
use Rattle.law_program.proofs.DenialCauses.{denial_reads}
use Rattle.pv_opening.proofs.OneOpening.{GoesWith, told, went_on}
use Rattle.law_program.proofs.Refusals.{IsUndone, denial_file_undone, opening_undone, undone}

module _ (dtd root doc file : List ℕ) (files : Files) where
  abbrev line : Option PlainCommandLine
  line = Some (on_certificate Deny dtd root doc file)

  stage_undone : (r : PlainResponse) (k : ℕ) →
      (certificate_stage denial_file_stage root files).Refuses r k → IsUndone r
  stage_undone r k (inl denies) = opening_undone root files r k denies
  stage_undone r k (inr (o, i, j, opens, denies, e)) = denial_file_undone _ r j denies

  module _ {S : Type 0} (before after : Devices S) where
    tells_impossible : (both : PlainOpened × Denial) (k : ℕ) (r : PlainResponse) →
        (certificate_stage denial_file_stage root files).Opens both k → r.status ≡ Done →
        Appends before.output.written after.output.written r.output →
        TellsJudgement root both.0.dtd both.0.doc both.1 r →
        ShowsImpossible line files root before after
    tells_impossible both k r opens done written (is_denied judges never is) = record {
      dtd = both.0.dtd;
      doc = both.0.doc;
      denial = both.1;
      reads = denial_reads dtd root doc file files both k opens;
      impossible = never;
      written = subst (Appends before.output.written after.output.written)
          (ap (λ (p : PlainResponse). p.output) is) written;
    }
    tells_impossible both k r opens done written (is_rejected test fails is) =
        absurd (undone Negative r _ no_negative_done is refl done)
    tells_impossible both k r opens done written (is_too_wide wide is) =
        absurd (undone Limit r _ no_limit_done is refl done)

    shows : (course : Course)
        (all : WroteAll course.ending before.output.written after.output.written) →
        GoesWith (certificate_stage denial_file_stage root files)
        (λ both. Responds (TellsJudgement root both.0.dtd both.0.doc both.1)) course ⊎
        ((k : ℕ) × (certificate_stage denial_file_stage root files).Refuses all.response k) →
        ShowsImpossible line files root before after
    shows course all (inl goes) =
        let both = goes.x in
        let t = told (TellsJudgement root both.0.dtd both.0.doc both.1) goes.rest all.response
        goes.goes (sym (ap (λ (c : Course). c.ending) goes.is_rest) ∙ all.is_ending) in
        tells_impossible both goes.count all.response goes.opens all.is_done all.written t
    shows course all (inr refuses) =
        absurd (stage_undone all.response refuses.0 refuses.1 all.is_done)

pub denies_impossible : (S : Type 0) → DeniesImpossible S
denies_impossible S dtd root doc file before after run =
    let all = wrote_all run.course.ending _ _ _ _ run.streams.output in
    shows dtd root doc file run.files before after run.course all
    (went_on (certificate_stage denial_file_stage root run.files)
    (λ both. Responds (TellsJudgement root both.0.dtd both.0.doc both.1)) run.course all.response
    run.is_defined all.is_ending)
