use Rattle.std.proofs.Common.{sym}
use Rattle.pv_rules.proofs.FlatKinds.{end_of, some_flat}
use Rattle.pv_rules.proofs.flat_dtd.FlatDtd.end_of.Goals as goal

pub unreachable-requires : goal.unreachable-requires
unreachable-requires c = let r = c.requires in let s = some_flat r.0 c.args.number r.1 r.3 in let f = r.2.parts in let h = sym c.in_default.ensures in absurd cc

pub returns : goal.returns
returns c = λ g flat p e. end_of g c.args.number c.in-Some.part p e (let f = flat.parts in rw (← f) (sym c.in-Some.ensures))
