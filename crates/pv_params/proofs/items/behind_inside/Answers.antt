use Rattle.std.proofs.Common.{◌≡◌, Some, None, sym, ◌∙◌, arith}
use Rattle.pv_params.specs.Spelling.{SpellsInside}
use Rattle.pv_params.specs.ItemReading.{inside_at}
use Rattle.pv_params.specs.PlainForms.{plain_item}
use Rattle.pv_params.proofs.Runs.{read_shorter, next_items, ended_items}
use Rattle.pv_params.proofs.ItemsRead.{inside_reads}
use Rattle.pv_params.proofs.PlainRuns.{inside_behind_run}
use Rattle.pv_params.proofs.items.behind_inside.Goals as goal

pub items-init : goal.items-init
items-init c = inside_behind_run c.args.bytes.now c.behind_run-rest.result.now c.behind_run-rest.ensures.run

pub items-smaller : goal.items-smaller
items-smaller c =
    let read : Some (plain_item c.in-Some.field-0-0, c.in-Some.more.now) ≡ inside_at c.items.rest.now = rw c.in-Some.is at c.inside_at.ensures in
    let less = read_shorter SpellsInside inside_at inside_reads _ _ _ (sym read) in
    omega (arith, less, c.behind_run-rest-in-Some.ensures.within)

pub items-preserved : goal.items-preserved
items-preserved c =
    let read : Some (plain_item c.in-Some.field-0-0, c.in-Some.more.now) ≡ inside_at c.items.rest.now = rw c.in-Some.is at c.inside_at.ensures in
    inside_behind_run c.in-Some.more.now c.behind_run-rest-in-Some.result.now
    c.behind_run-rest-in-Some.ensures.run ∙ next_items SpellsInside inside_at inside_reads _ _ _
    (sym read) ∙ c.items.invariant

pub returns : goal.returns
returns c =
    let none : None ≡ inside_at c.items.rest.now = rw c.in_default.is at c.inside_at.ensures in
    sym (ended_items SpellsInside inside_at inside_reads _ (sym none)) ∙ c.items.invariant
