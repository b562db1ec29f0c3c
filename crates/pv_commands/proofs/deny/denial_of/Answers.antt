use Rattle.std.proofs.Common.{◌≡◌, ◌++◌, codes, decimal, refl}
use Rattle.pv_denial_text.specs.Meaning.{DenialMeans, is_denial}
use Rattle.pv_commands.specs.DenialFiles.{RefusesDenial, no_denial, too_large}
use Rattle.pv_opening.specs.Response.{with_line}
use Rattle.pv_opening.specs.declared.status.Status.TheVariants.{BadPack, Limit}
use Rattle.pv_opening.proofs.Stages.{refused_as}
use Rattle.pv_commands.proofs.deny.denial_of.Goals as goal

pub returns-in-Ok : goal.returns-in-Ok
returns-in-Ok c = (c.in-Ok.ensures.read, refl)

pub returns-in-Err-Syntax : goal.returns-in-Err-Syntax
returns-in-Err-Syntax c =
    let bytes = c.args.bytes.now in
    let k = c.in-Err-Syntax.line in
    refused_as (λ told. DenialMeans bytes (is_denial told))
    (λ r. r ≡ with_line BadPack (codes "table line " ++ decimal k)) (RefusesDenial bytes) _
    (λ r is. no_denial k (rw c.in-Err-Syntax.field-0-is at c.in-Err-Syntax.ensures.refused) is)
    c.refuse_item.ensures

pub returns-in-Err-Limit : goal.returns-in-Err-Limit
returns-in-Err-Limit c =
    let bytes = c.args.bytes.now in
    refused_as (λ told. DenialMeans bytes (is_denial told))
    (λ r. r ≡ with_line Limit (codes "limit table"))
    (RefusesDenial bytes) _
    (λ r is. too_large (rw c.in-Err-Limit.field-0-is at c.in-Err-Limit.ensures.refused) is)
    c.refuse.ensures
