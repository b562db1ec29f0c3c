use Rattle.std.proofs.Common.{None, ap}
use Rattle.pv_opening.specs.Devices.{shelf_at}
use Rattle.pvmany.proofs.Endings.{answers_so}
use Rattle.pvmany.proofs.run_here.Goals as goal

pub returns : goal.returns
returns g c = (
  c.run.ensures.0,
  c.run.ensures.1,
  record {
    shelf = _;
    shelf_now = _;
    archive = _;
    archive_now = _;
    input = _;
    input_now = _;
    output = _;
    output_now = _;
    shelf_untold = ap (λ s. shelf_at None s.calls s.faults) c.new-shelf.ensures;
    archive_untold = ap (λ s. shelf_at None s.calls s.faults) c.new-archive.ensures;
    input_calls = c.new-input.ensures.calls;
    input_faults = c.new-input.ensures.faults;
    output_faults = c.new-out.ensures.faults;
    answers = answers_so _ _ _ _ _ _ _ _ _ _ c.run.ensures.2;
  },
)
