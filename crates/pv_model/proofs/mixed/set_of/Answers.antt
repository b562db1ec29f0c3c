use Rattle.std.proofs.Common.{◌≡◌, take}
use Rattle.std.proofs.lemmas.List.{take_all}
use Rattle.pv_model.proofs.Tokens.{listed}
use Rattle.pv_model.proofs.mixed.set_of.Goals as goal

pub returns : goal.returns
returns c = λ y.
    let all : take c.loop-name.name-index c.args.names.now ≡ c.args.names.now = take_all c.loop-name.name-index c.args.names.now c.loop-name-test.false in
    rw (c.loop-name.invariant y, all) (listed c.args.names.now y)
