-- What a run of `verify` that did all has shown.
use Rattle.std.proofs.Common.{◌≡◌, ◌∙◌, ◌⊎◌, inl, inr, ℕ, List, Option, Some, ap, refl, subst, sym}
use Rattle.std.specs.Io.KnownBytes.{Appends}
use Rattle.pv_cert.specs.declared.packs.Pack.{Pack}
use Rattle.pv_commands.specs.Certificates.{certificate_stage}
use Rattle.pv_cli.specs.CommandLine.{PlainCommandLine, on_certificate}
use Rattle.pv_opening.specs.Course.{Course, RunEnding, input_fault, no_memory, output_fault}
use Rattle.pv_opening.specs.Course.{responds, shelf_fault}
use Rattle.pv_opening.specs.Devices.{Devices}
use Rattle.pv_opening.specs.Documents.{PlainOpened}
use Rattle.law_program.specs.Laws.{AcceptsLeast, ShowsLeast}
use Rattle.pv_opening.specs.Opening.{Files}
use Rattle.pv_commands.specs.PackFiles.{pack_file_stage}
use Rattle.pv_opening.specs.ShownCourses.{WritesEnding, cut_off, wrote}
use Rattle.pv_opening.specs.Response.{PlainResponse}
use Rattle.pv_opening.specs.Stage.{Responds}
use Rattle.pv_commands.specs.Verify.{TellsAcceptance, TellsOfPack, is_accepted, is_rejected}
use Rattle.pv_commands.specs.Verify.{names_wide}
use Rattle.pv_cli.specs.declared.checker.Checker.TheVariants.{Verify}
use Rattle.pv_opening.specs.declared.status.Status.TheVariants.{Done, Limit, Negative, NoMemory}
use Rattle.pv_opening.specs.declared.status.Status.TheVariants.{ReadFault, WriteFault}
use Rattle.law_program.proofs.CertificateCauses.{pack_reads}
use Rattle.pv_opening.proofs.OneOpening.{GoesWith, told, went_on}
use Rattle.law_program.proofs.Refusals.{IsUndone, opening_undone, pack_file_undone, undone}

-- a run that did all wrote its response
pub record WroteAll (ending : RunEnding) (old new : Option (List ℕ)) : Type 0 where
  pub response : PlainResponse
  pub is_ending : ending ≡ responds response
  pub is_done : response.status ≡ Done
  pub written : Appends old new response.output

pub wrote_all : (ending : RunEnding) (old new : Option (List ℕ)) (before after : ℕ) →
    WritesEnding ending old new before after Done → WroteAll ending old new
wrote_all (responds r) old new before after (wrote whole is written stays) =
    record { response = r; is_ending = refl; is_done = sym is; written = written }
wrote_all shelf_fault old new before after (wrote whole is written stays) =
    let never : Done ≡ ReadFault = is in cc
wrote_all (input_fault out) old new before after (wrote whole is written stays) =
    let never : Done ≡ ReadFault = is in cc
wrote_all (output_fault out) old new before after (wrote whole is written stays) =
    let never : Done ≡ WriteFault = is in cc
wrote_all no_memory old new before after (wrote whole is written stays) =
    let never : Done ≡ NoMemory = is in cc
wrote_all ending old new before after (cut_off out cuts is front rose) =
    let never : Done ≡ WriteFault = is in cc

pub no_negative_done : Negative ≡ Done → ⊥
no_negative_done e = cc

pub no_limit_done : Limit ≡ Done → ⊥
no_limit_done e = cc

module _ (dtd root doc file : List ℕ) (files : Files) where
  abbrev line : Option PlainCommandLine
  line = Some (on_certificate Verify dtd root doc file)

  stage_undone : (r : PlainResponse) (k : ℕ) →
      (certificate_stage pack_file_stage root files).Refuses r k → IsUndone r
  stage_undone r k (inl denies) = opening_undone root files r k denies
  stage_undone r k (inr (o, i, j, opens, denies, e)) = pack_file_undone _ r j denies

  module _ {S : Type 0} (before after : Devices S) where
    tells_least : (both : PlainOpened × Pack) (k : ℕ) (r : PlainResponse) →
        (certificate_stage pack_file_stage root files).Opens both k → r.status ≡ Done →
        Appends before.output.written after.output.written r.output →
        (t : TellsOfPack root both.0.dtd both.0.bytes both.1 r) →
        TellsAcceptance root both.0.dtd t.doc both.1 r → ShowsLeast line files root before after
    tells_least both k r opens done written t (is_accepted narrow passes least is) = record {
      dtd = both.0.dtd;
      doc = t.doc;
      pack = both.1;
      reads = pack_reads dtd root doc file files both k opens t.doc t.means;
      least = least;
      written = subst (Appends before.output.written after.output.written)
          (ap (λ (p : PlainResponse). p.output) is) written;
    }
    tells_least both k r opens done written t (is_rejected test narrow fails is) =
        absurd (undone Negative r _ no_negative_done is refl done)
    tells_least both k r opens done written t (names_wide path first is) =
        absurd (undone Limit r _ no_limit_done is refl done)

    shows : (course : Course)
        (all : WroteAll course.ending before.output.written after.output.written) →
        GoesWith (certificate_stage pack_file_stage root files)
        (λ both. Responds (TellsOfPack root both.0.dtd both.0.bytes both.1)) course ⊎
        ((k : ℕ) × (certificate_stage pack_file_stage root files).Refuses all.response k) →
        ShowsLeast line files root before after
    shows course all (inl goes) =
        let both = goes.x in
        let t = told (TellsOfPack root both.0.dtd both.0.bytes both.1) goes.rest all.response
        goes.goes (sym (ap (λ (c : Course). c.ending) goes.is_rest) ∙ all.is_ending) in
        tells_least both goes.count all.response goes.opens all.is_done all.written t t.tells
    shows course all (inr refuses) =
        absurd (stage_undone all.response refuses.0 refuses.1 all.is_done)

pub accepts_least : (S : Type 0) → AcceptsLeast S
accepts_least S dtd root doc file before after run =
    let all = wrote_all run.course.ending _ _ _ _ run.streams.output in
    shows dtd root doc file run.files before after run.course all
    (went_on (certificate_stage pack_file_stage root run.files)
    (λ both. Responds (TellsOfPack root both.0.dtd both.0.bytes both.1)) run.course all.response
    run.is_defined all.is_ending)
