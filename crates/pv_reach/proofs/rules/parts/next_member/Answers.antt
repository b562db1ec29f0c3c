use Rattle.std.proofs.Common.{sym, ◌∙◌}
use Rattle.pv_productive.specs.PlainForms.{dtd_of}
use Rattle.pv_reach.proofs.MembersLeft.{next_of_followed, next_of_last, next_of_none, next_of_outside}
use Rattle.pv_reach.proofs.rules.parts.next_member.Goals as goal

pub returns-in_default : goal.returns-in_default
returns-in_default c = next_of_none (dtd_of c.args.grammar.now) c.args.number (sym c.part_of.ensures ∙ c.in_default.is)

pub returns-in-Outside : goal.returns-in-Outside
returns-in-Outside c = next_of_outside (dtd_of c.args.grammar.now) c.args.number c.in-Some.part (sym c.part_of.ensures ∙ c.in-Some.is) c.in-Outside.is

pub returns-in-Last : goal.returns-in-Last
returns-in-Last c = next_of_last (dtd_of c.args.grammar.now) c.args.number c.in-Some.part (sym c.part_of.ensures ∙ c.in-Some.is) c.in-Last.is

pub returns-in-Followed : goal.returns-in-Followed
returns-in-Followed c = next_of_followed (dtd_of c.args.grammar.now) c.args.number c.in-Some.part (sym c.part_of.ensures ∙ c.in-Some.is) c.in-Followed.is
