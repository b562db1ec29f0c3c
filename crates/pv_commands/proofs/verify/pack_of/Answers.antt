use Rattle.std.proofs.Common.{◌≡◌, ◌++◌, codes, decimal, refl}
use Rattle.pv_cert.specs.Meaning.{PackMeans, is_pack}
use Rattle.pv_commands.specs.PackFiles.{RefusesPack, no_pack, too_large}
use Rattle.pv_opening.specs.Response.{with_line}
use Rattle.pv_opening.specs.declared.status.Status.TheVariants.{BadPack, Limit}
use Rattle.pv_opening.proofs.Stages.{refused_as}
use Rattle.pv_commands.proofs.verify.pack_of.Goals as goal

pub returns-in-Ok : goal.returns-in-Ok
returns-in-Ok c = (c.in-Ok.ensures.read, refl)

pub returns-in-Err-Syntax : goal.returns-in-Err-Syntax
returns-in-Err-Syntax c =
    let bytes = c.args.bytes.items in
    let k = c.in-Err-Syntax.line in
    refused_as (λ told. PackMeans bytes (is_pack told))
    (λ r. r ≡ with_line BadPack (codes "pack line " ++ decimal k)) (RefusesPack bytes) _
    (λ r is. no_pack k (rw c.in-Err-Syntax.field-0-is at c.in-Err-Syntax.ensures.refused) is)
    c.refuse_item.ensures

pub returns-in-Err-Limit : goal.returns-in-Err-Limit
returns-in-Err-Limit c =
    let bytes = c.args.bytes.items in
    refused_as (λ told. PackMeans bytes (is_pack told))
    (λ r. r ≡ with_line Limit (codes "limit pack"))
    (RefusesPack bytes) _
    (λ r is. too_large (rw c.in-Err-Limit.field-0-is at c.in-Err-Limit.ensures.refused) is)
    c.refuse.ensures
