use Rattle.std.proofs.Common.{arith}
use Rattle.pv_columns.proofs.FreeColumns.{all_taken}
use Rattle.pv_columns.proofs.sets.takes_all.Goals as goal

pub returns : goal.returns
returns c = λ _. all_taken c.args.rules.now c.args.live.now c.args.layers.now c.args.big c.args.small c.requires.layers c.requires.tokens
    (λ m d l. c.loop-layer.invariant m d (let z = c.loop-layer-test.false in omega arith))
