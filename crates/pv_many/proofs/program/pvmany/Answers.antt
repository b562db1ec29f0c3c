use Rattle.std.proofs.Common.{◌≡◌, None, codes, sym}
use Rattle.pv_io.specs.Files.{byte_lists}
use Rattle.pv_opening.specs.Response.{PlainResponse, with_line}
use Rattle.pv_opening.specs.declared.status.Status.TheVariants.{Usage}
use Rattle.pv_opening.proofs.Stages.{tells_found}
use Rattle.pv_many.specs.Requests.{asked_request}
use Rattle.pv_many.proofs.Runs.{none_asked}
use Rattle.pv_many.proofs.program.pvmany.Goals as goal

pub returns-in-None-clause-answers : goal.returns-in-None-clause-answers
returns-in-None-clause-answers g c =
    let tells = λ (r : PlainResponse). r ≡ with_line Usage (codes "usage") in
    let none : asked_request (byte_lists c.args.words.now) ≡ None = sym c.in-None.ensures.request in
    rw none (none_asked _ _ _ _ _ c.usage.result _ (tells_found tells c.usage.result c.usage.ensures) c.respond.ensures)
