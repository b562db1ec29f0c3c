use Rattle.std.proofs.Common.{◌∙◌, ℕ, List}
use Rattle.std.proofs.lemmas.Result.{err_from_is_err_and}
use Rattle.pv_denial.specs.declared.denials.Denial.{Denial}
use Rattle.pv_commands.specs.DenialFiles.{denial_file_stage}
use Rattle.pv_commands.specs.Deny.{IsDenyCourse, TellsJudgement}
use Rattle.pv_opening.specs.Documents.{PlainOpened}
use Rattle.pv_opening.specs.Response.{PlainResponse}
use Rattle.pv_commands.proofs.Certificates.{certificate_stopped, certificate_told, opening_stopped}
use Rattle.pv_commands.proofs.deny.deny.Goals as goal

-- what is told of the opened files and a denial
abbrev Told : List ℕ → PlainOpened × Denial → PlainResponse → Type 0
Told root both r = TellsJudgement root both.0.dtd both.0.doc both.1 r

pub returns-in_err-dtd-clause-finds : goal.returns-in_err-dtd-clause-finds
returns-in_err-dtd-clause-finds g c = λ checked.
    let named = c.args.named.now in
    let root = named.root.now in
    let p = err_from_is_err_and c.from_residual.result c.from_residual.ensures.1 in
    rw (p.1, p.2)
    (opening_stopped (IsDenyCourse root) named.dtd.now root named.doc.now c.args.name.now
    (λ (denial : Denial). denial) denial_file_stage (Told root) (λ files course goes. goes) _
    checked _ c.in_err-dtd.field-0.0 c.in_err-dtd.ensures.over)

pub returns-in_err-denial-clause-finds : goal.returns-in_err-denial-clause-finds
returns-in_err-denial-clause-finds g c = λ checked.
    let named = c.args.named.now in
    let root = named.root.now in
    let out = c.from_residual-in_err-denial in
    let p = err_from_is_err_and out.result out.ensures.1 in
    rw (p.1, p.2)
    (certificate_stopped (IsDenyCourse root) named.dtd.now root named.doc.now c.args.name.now
    (λ (denial : Denial). denial) denial_file_stage (Told root) (λ files course goes. goes) _
    checked _ _ c.in_ok-dtd.field-0 c.in_ok-dtd.ensures.over c.in_err-denial.field-0.0
    c.in_err-denial.ensures.over)

pub returns-clause-finds : goal.returns-clause-finds
returns-clause-finds g c = λ checked.
    let named = c.args.named.now in
    let root = named.root.now in
    certificate_told (IsDenyCourse root) named.dtd.now root named.doc.now c.args.name.now
    (λ (denial : Denial). denial) denial_file_stage (Told root) (λ files course goes. goes) _
    checked _ _ c.in_ok-dtd.field-0 c.in_ok-dtd.ensures.over c.in_ok-denial.denial
    c.tell-response.result c.in_ok-denial.ensures.over c.tell-response.ensures

pub returns-in_err-dtd-clause-files : goal.returns-in_err-dtd-clause-files
returns-in_err-dtd-clause-files g c = c.in_err-dtd.ensures.over.same

pub returns-in_err-denial-clause-files : goal.returns-in_err-denial-clause-files
returns-in_err-denial-clause-files g c =
    c.in_err-denial.ensures.over.same ∙ c.in_ok-dtd.ensures.over.same

pub returns-clause-files : goal.returns-clause-files
returns-clause-files g c = c.in_ok-denial.ensures.over.same ∙ c.in_ok-dtd.ensures.over.same
