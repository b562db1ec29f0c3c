use Rattle.pv_cert.proofs.Heads.{fault-at-total}
use Rattle.pv_cert.proofs.reading.read_total.Goals as goal

pub returns-in_default-total_at-clause-refused : goal.returns-in_default-total_at-clause-refused
returns-in_default-total_at-clause-refused c = fault-at-total c.args.bytes.now c.in-Some.behind_version.now c.in-Some.ensures c.in_default-total_at.ensures
