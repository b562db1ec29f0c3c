use Rattle.std.proofs.Common.{subst}
use Rattle.pv_cache.specs.Moves.{HasBad, HasOpen}
use Rattle.pv_session.specs.Sessions.{stamped_document}
use Rattle.pv_conversation.proofs.NoneMissing.{none_missing}
use Rattle.pv_conversation.proofs.missing.is_whole.Goals as goal

pub returns-then-bad_count-eq0 : goal.returns-then-bad_count-eq0
returns-then-bad_count-eq0 c = λ whole.
    let s = c.args.session.now in
    none_missing c.none_impossible_law.ensures c.none_possible_law.ensures s c.session_law.ensures
    (rw (c.dtd.ensures, c.grammar.ensures) at c.proper_dtd_law.ensures)
    (subst (HasOpen (stamped_document s)) c.if-open_count-eq0.true c.open_count.ensures)
    (subst (HasBad (stamped_document s)) c.if-bad_count-eq0.true c.bad_count.ensures)
