use Rattle.std.proofs.Common.{None, ap}
use Rattle.pv_opening.specs.Devices.{shelf_at}
use Rattle.pvtag.specs.Here.{all_told_of}
use Rattle.pvtag.proofs.Endings.{runs_so}
use Rattle.pvtag.proofs.run_here.Goals as goal

pub returns : goal.returns
returns g c = (
  c.run.ensures.0,
  c.run.ensures.1,
  record {
    before = _;
    after = _;
    shelf = ap (λ s. shelf_at None s.calls s.faults) c.new-shelf.ensures;
    input_calls = c.new-input.ensures.calls;
    input_faults = c.new-input.ensures.faults;
    output_faults = c.new-out.ensures.faults;
    runs = runs_so _ _ _ _ c.run.ensures.2;
  },
)
