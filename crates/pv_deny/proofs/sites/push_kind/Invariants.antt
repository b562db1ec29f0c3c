use Rattle.pv_productive.specs.PlainForms.{dtd_of}
use Rattle.pv_deny.specs.ToldRows.{AreToldSites, rank_of}
use Rattle.pv_deny.proofs.sites.push_kind.Given as goal

abbrev pub invariant-loop-number : goal.invariant-loop-number
invariant-loop-number l = AreToldSites (dtd_of l.grammar) l.reaches (rank_of l.kind) l.number l.sites.items
