-- The DTD of a grammar whose rules are laid out.
use Rattle.std.specs.Prelude.{IfSome}
use Rattle.pv_cache.specs.declared.planned.PlannedGrammar.TheInside.{Inside}
use Rattle.pv_dtd.specs.Plain.{PlainDtd}
use Rattle.pv_productive.specs.PlainForms.{dtd_of}
use Rattle.pv_reach.specs.Plans.{IsPlan}
use Rattle.pv_verdicts.specs.LastJudgedWord.{IsLast}

-- the DTD of a grammar whose rules are laid out
abbrev pub planned_dtd : Inside → PlainDtd
planned_dtd p = dtd_of p.grammar

-- its plan is one of the grammar, and what is kept of the last word is that of the word
pub record HasPlan (p : Inside) : Type 0 where
  pub plan : IsPlan (dtd_of p.grammar) p.plan
  pub last : IfSome p.last (IsLast (dtd_of p.grammar))
