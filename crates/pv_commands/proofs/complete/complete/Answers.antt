use Rattle.std.proofs.Common.{◌≡◌, Err, arith, refl, sym}
use Rattle.std.proofs.lemmas.Grind.{common_steps}
use Rattle.std.proofs.lemmas.Result.{err_from_is_err_and}
use Rattle.pv_dtd.specs.PlainForms.{plain_dtd}
use Rattle.pv_commands.specs.Complete.{IsCompleteCourse}
use Rattle.pv_opening.specs.Documents.{document_stage}
use Rattle.pv_opening.specs.Returns.{plain_opened}
use Rattle.pv_opening.specs.Stage.{short_of_memory}
use Rattle.pv_opening.specs.declared.stop.Stop.TheVariants.{NoMemory}
use Rattle.pv_opening.proofs.Stages.{found_behind, stop_found}
use Rattle.pv_commands.proofs.complete.complete.Goals as goal

pub tell-response-requires : goal.tell-response-requires
tell-response-requires c = record { bytes = _; is_text = c.in_ok-dtd.ensures.returns.0.is_text }

pub returns-in_err-dtd : goal.returns-in_err-dtd
returns-in_err-dtd c =
    let root = c.args.root.now in
    let stage = document_stage root (plain_dtd c.args.fetched.dtd) c.args.fetched.bytes.items in
    let p = err_from_is_err_and c.from_residual.result c.from_residual.ensures.1 in
    rw (p.1, p.2)
    (stop_found stage (IsCompleteCourse root) c.in_err-dtd.field-0.0 (λ never. never)
    c.in_err-dtd.ensures.returns)

pub returns-in_err-grammar : goal.returns-in_err-grammar
returns-in_err-grammar c =
    let out : c.from_residual-in_err-grammar.result ≡ Err NoMemory = grind (arith, common_steps) in
    rw out (short_of_memory 0 refl refl)

pub returns : goal.returns
returns c =
    let root = c.args.root.now in
    let both = plain_opened c.in_ok-dtd.field-0 in
    let stage = document_stage root (plain_dtd c.args.fetched.dtd) c.args.fetched.bytes.items in
    found_behind stage (IsCompleteCourse root) both c.tell-response.result c.in_ok-dtd.ensures.returns
    (c.tell-response.ensures both (sym c.in_ok-grammar.ensures) refl)
