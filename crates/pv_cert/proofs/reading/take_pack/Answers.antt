use Rattle.pv_cert.proofs.Heads.{answers-result}
use Rattle.pv_cert.proofs.reading.take_pack.Goals as goal

pub returns-clause-exactly : goal.returns-clause-exactly
returns-clause-exactly c = answers-result c.args.bytes.items c.take_within.result c.take_within.ensures.read c.take_within.ensures.refused
