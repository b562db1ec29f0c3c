use Rattle.pv_read.proofs.Cuts.{cut_found, cut_nowhere}
use Rattle.pv_read.proofs.forms.values.cut_before.Goals as goal

pub returns-in-Some : goal.returns-in-Some
returns-in-Some c =
    let found = c.in-Some.ensures in
    cut_found c.args.byte c.args.bytes.now c.split_at.result.0.now c.split_at.result.1.now c.in-Some.at found.1 found.0 c.split_at.ensures.front c.split_at.ensures.back

pub returns-in-None : goal.returns-in-None
returns-in-None c =
    cut_nowhere c.args.byte c.args.bytes.now c.split_at-in-None.result.0.now c.split_at-in-None.result.1.now c.in-None.ensures c.split_at-in-None.ensures.front c.split_at-in-None.ensures.back
