use Rattle.std.proofs.Common.{None, ap}
use Rattle.pv_opening.specs.Devices.{shelf_at}
use Rattle.pvlong.proofs.run_here.Goals as goal

pub returns : goal.returns
returns g c = (
  c.run.ensures.0,
  c.run.ensures.1,
  record {
    before = _;
    after = _;
    old = _;
    new = _;
    shelf = ap (λ s. shelf_at None s.calls s.faults) c.new-shelf.ensures;
    output = c.new-out.ensures.faults;
    answers = c.run.ensures.2;
  },
)
