use Rattle.std.proofs.Common.{refl}
use Rattle.pv_productive.specs.PlainForms.{dtd_of}
use Rattle.pv_complete.proofs.KindFacts.{has_part}
use Rattle.pv_complete.proofs.listings.kinds.site_at.Goals as goal

pub returns-in-Content-clause-is : goal.returns-in-Content-clause-is
returns-in-Content-clause-is c = let e = c.in-Content.is in rw e ((refl, refl, rw e at c.requires))

pub returns-in-Name-clause-is : goal.returns-in-Name-clause-is
returns-in-Name-clause-is c = let e = c.in-Name.is in rw e ((refl, refl, rw e at c.requires))

pub returns-in-Part-clause-is : goal.returns-in-Part-clause-is
returns-in-Part-clause-is c = let e = c.in-Part.is in rw e ((refl, refl, has_part (dtd_of c.args.grammar.now) c.args.number (rw e at c.requires)))
