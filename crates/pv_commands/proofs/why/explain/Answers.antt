use Rattle.std.proofs.Common.{◌≡◌, ℕ, List, ap, codes}
use Rattle.pv_missing.specs.Widths.{IsListForVerdict}
use Rattle.pv_productive.specs.PlainForms.{dtd_of}
use Rattle.pv_tree.specs.Lists.{lists_of}
use Rattle.pv_tree.specs.PlainDocs.{plain_doc}
use Rattle.pv_opening.specs.Response.{with_line}
use Rattle.pv_commands.specs.Why.{TellsWhy, has_too_many, is_denied}
use Rattle.pv_opening.specs.declared.status.Status.TheVariants.{Done, Limit}
use Rattle.pv_opening.proofs.OnePossibility.{none_first}
use Rattle.pv_opening.proofs.Stages.{stops_as}
use Rattle.pv_commands.proofs.why.explain.Goals as goal

pub returns-in_ok-write_denial-in-Ok : goal.returns-in_ok-write_denial-in-Ok
returns-in_ok-write_denial-in-Ok c =
    is_denied c.in-Ok.denial c.requires.impossible c.in-Ok.ensures.denied
    (ap (λ (out : List ℕ). record { status = Done; output = out })
    c.in_ok-write_denial-in-Ok.ensures.spelled)

pub returns-in-Err-TooMany : goal.returns-in-Err-TooMany
returns-in-Err-TooMany c =
    let many = rw c.in-Err-TooMany.field-0-is at c.in-Err-TooMany.ensures.refused in
    stops_as (λ r. r ≡ with_line Limit (codes "limit tables"))
    (TellsWhy c.args.root.now (dtd_of c.args.judge.now) (plain_doc c.args.doc.now)) c.refuse.result
    (λ r is. has_too_many c.requires.impossible many is) c.refuse.ensures

pub unreachable-requires : goal.unreachable-requires
unreachable-requires c =
    let d = dtd_of c.args.judge.now in
    let wide = rw c.in-Err-TooWide.field-0-is at c.in-Err-TooWide.ensures.refused in
    none_first (IsListForVerdict d) (lists_of (plain_doc c.args.doc.now)) _ c.requires.narrow wide

pub unreachable-requires-in-Err-Possible : goal.unreachable-requires-in-Err-Possible
unreachable-requires-in-Err-Possible c =
    let possible = rw c.in-Err-Possible.field-0-is at c.in-Err-Possible.ensures.refused in
    c.requires.impossible possible.1
