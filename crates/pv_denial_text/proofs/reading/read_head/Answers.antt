use Rattle.pv_denial.proofs.ListJudgements.{matched_none}
use Rattle.pv_denial_text.proofs.Heads.{fault-at-cause, fault-at-list}
use Rattle.pv_denial_text.proofs.reading.read_head.Goals as goal

pub returns-in_default-2-clause-refused : goal.returns-in_default-2-clause-refused
returns-in_default-2-clause-refused c =
    fault-at-list c.args.bytes.now c.in-Some.behind_version.now c.in-Some.ensures.version (matched_none c.in_ok-path.field-0 _ _ c.in_ok-path.ensures.list c.in_default-2.is)

pub returns-in_default-cause_at-clause-refused : goal.returns-in_default-cause_at-clause-refused
returns-in_default-cause_at-clause-refused c =
    fault-at-cause c.args.bytes.now c.in-Some.behind_version.now _ c.in-Some-2.behind_list.now
    c.in-Some.ensures.version (rw c.in-Some-2.is at c.in_ok-path.ensures.list)
    c.in_default-cause_at.ensures.cause
