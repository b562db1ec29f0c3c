use Rattle.pv_denial_text.proofs.Heads.{answers-result}
use Rattle.pv_denial_text.proofs.reading.read_denial.Goals as goal

pub returns-clause-exactly : goal.returns-clause-exactly
returns-clause-exactly c = answers-result c.args.bytes.now c.read_within.result c.read_within.ensures.read c.read_within.ensures.refused
