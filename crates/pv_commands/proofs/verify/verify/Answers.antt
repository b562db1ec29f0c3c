use Rattle.std.proofs.Common.{◌∙◌, ℕ, List}
use Rattle.std.proofs.lemmas.Result.{err_from_is_err_and}
use Rattle.pv_cert.specs.declared.packs.Pack.{Pack}
use Rattle.pv_opening.specs.Documents.{PlainOpened}
use Rattle.pv_commands.specs.PackFiles.{pack_file_stage}
use Rattle.pv_opening.specs.Response.{PlainResponse}
use Rattle.pv_commands.specs.Verify.{IsVerifyCourse, TellsOfPack}
use Rattle.pv_commands.proofs.Certificates.{certificate_stopped, certificate_told, opening_stopped}
use Rattle.pv_commands.proofs.verify.verify.Goals as goal

-- what is told of the opened files and a pack
abbrev Told : List ℕ → PlainOpened × Pack → PlainResponse → Type 0
Told root both r = TellsOfPack root both.0.dtd both.0.bytes both.1 r

pub returns-in_err-dtd-clause-finds : goal.returns-in_err-dtd-clause-finds
returns-in_err-dtd-clause-finds g c = λ checked.
    let named = c.args.named.now in
    let root = named.root.now in
    let p = err_from_is_err_and c.from_residual.result c.from_residual.ensures.1 in
    rw (p.1, p.2)
    (opening_stopped (IsVerifyCourse root) named.dtd.now root named.doc.now c.args.name.now
    (λ (pack : Pack). pack) pack_file_stage (Told root) (λ files course goes. goes) _ checked _
    c.in_err-dtd.field-0.0 c.in_err-dtd.ensures.over)

pub returns-in_err-pack-clause-finds : goal.returns-in_err-pack-clause-finds
returns-in_err-pack-clause-finds g c = λ checked.
    let named = c.args.named.now in
    let root = named.root.now in
    let out = c.from_residual-in_err-pack in
    let p = err_from_is_err_and out.result out.ensures.1 in
    rw (p.1, p.2)
    (certificate_stopped (IsVerifyCourse root) named.dtd.now root named.doc.now c.args.name.now
    (λ (pack : Pack). pack) pack_file_stage (Told root) (λ files course goes. goes) _ checked _ _
    c.in_ok-dtd.field-0 c.in_ok-dtd.ensures.over c.in_err-pack.field-0.0
    c.in_err-pack.ensures.over)

pub returns-clause-finds : goal.returns-clause-finds
returns-clause-finds g c = λ checked.
    let named = c.args.named.now in
    let root = named.root.now in
    let opened = c.in_ok-dtd.field-0 in
    let told = c.tell-response.ensures opened.bytes.items c.in_ok-dtd.ensures.means in
    certificate_told (IsVerifyCourse root) named.dtd.now root named.doc.now c.args.name.now
    (λ (pack : Pack). pack) pack_file_stage (Told root) (λ files course goes. goes) _ checked _ _
    opened c.in_ok-dtd.ensures.over c.in_ok-pack.pack c.tell-response.result
    c.in_ok-pack.ensures.over told

pub returns-in_err-dtd-clause-files : goal.returns-in_err-dtd-clause-files
returns-in_err-dtd-clause-files g c = c.in_err-dtd.ensures.over.same

pub returns-in_err-pack-clause-files : goal.returns-in_err-pack-clause-files
returns-in_err-pack-clause-files g c =
    c.in_err-pack.ensures.over.same ∙ c.in_ok-dtd.ensures.over.same

pub returns-clause-files : goal.returns-clause-files
returns-clause-files g c = c.in_ok-pack.ensures.over.same ∙ c.in_ok-dtd.ensures.over.same

pub tell-response-requires : goal.tell-response-requires
tell-response-requires g c = record {
  bytes = c.in_ok-dtd.field-0.bytes.items;
  means = c.in_ok-dtd.ensures.means;
}
