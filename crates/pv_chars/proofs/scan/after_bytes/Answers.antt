use Rattle.std.proofs.lemmas.Slice.Eq.{strip_prefix_is}
use Rattle.std.proofs.lemmas.Bool.Decides.{Decides-eqb}
use Rattle.pv_chars.proofs.TextScans.{after_bytes_is}
use Rattle.pv_chars.proofs.scan.after_bytes.Goals as goal

pub returns-clause-found : goal.returns-clause-found
returns-clause-found c = strip_prefix_is Decides-eqb c.args.bytes.now c.args.front.now c.strip_prefix.result c.strip_prefix.ensures.cases

pub returns-clause-after : goal.returns-clause-after
returns-clause-after c = after_bytes_is c.args.front.now c.args.bytes.now c.strip_prefix.result (returns-clause-found c)
