use Rattle.std.proofs.Common.{◌≡◌, arith}
use Rattle.std.proofs.lemmas.Grind.{common_steps}
use Rattle.pv_cli.specs.Drill.{counts_text}
use Rattle.pv_cli.proofs.commands.drill.tell.Goals as goal

pub returns : goal.returns
returns c =
    let text : c.deref.result.now ≡ counts_text c.args.n c.args.counts c.args.left =
    grind (
      arith,
      common_steps,
      c.deref.ensures.value,
      c.in_ok-push_count-6.ensures,
      c.in_ok-push_count-5.ensures,
      c.in_ok-push_count-4.ensures,
      c.in_ok-push_count-3.ensures,
      c.in_ok-push_count-2.ensures,
      c.in_ok-push_count.ensures,
      c.new-text.ensures.items,
      c.from.ensures,
    ) in
    rw text at c.with_line.ensures
