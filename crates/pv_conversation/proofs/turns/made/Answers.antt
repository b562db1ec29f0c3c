use Rattle.pv_conversation.proofs.Moves.{tells_move}
use Rattle.pv_conversation.proofs.turns.made.Goals as goal

pub returns-clause-tells : goal.returns-clause-tells
returns-clause-tells c =
    let is = rw c.session-now.ensures.same at c.session_law.ensures in
    let proper = rw (c.dtd.ensures, c.grammar.ensures, c.session-now.ensures.same) at c.proper_dtd_law.ensures in
    tells_move c.args.session.now c.args.done is proper c.requires.few c.requires.bad
