use Rattle.std.proofs.Common.{◌∙◌}
use Rattle.pv_denial_text.proofs.Heads.{begins-list, no-list-line, other-list}
use Rattle.pv_denial_text.proofs.lines.list_at.Goals as goal

pub returns-in_default-clause-list : goal.returns-in_default-clause-list
returns-in_default-clause-list c = no-list-line c.args.bytes.now c.in_default.ensures.line

pub returns-in-Some-2-clause-list : goal.returns-in-Some-2-clause-list
returns-in-Some-2-clause-list c = begins-list c.args.bytes.now c.in-Some.word.now c.in-Some.rest.now _ c.in-Some.ensures.line (c.in_ok-path.ensures ∙ c.in-Some-2.is)

pub returns-in-None-clause-list : goal.returns-in-None-clause-list
returns-in-None-clause-list c = other-list c.args.bytes.now c.in-Some.word.now c.in-Some.rest.now c.in-Some.ensures.line (c.in_ok-path.ensures ∙ c.in-None.is)
