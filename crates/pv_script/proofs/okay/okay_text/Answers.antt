use Rattle.std.proofs.Common.{◌∙◌, arith}
use Rattle.pv_script.proofs.LaterPlaces.{same-behind}
use Rattle.pv_script.proofs.okay.okay_text.Goals as goal

pub returns-clause-behind : goal.returns-clause-behind
returns-clause-behind c =
    c.put.ensures.behind
    ∙ same-behind c.put-end-6.result c.put.result c.put-end-6.new.room c.put-end-5.new.room c.put-end-6.ensures.behind (omega arith)
    ∙ same-behind c.put-end-5.result c.put.result c.put-end-5.new.room c.put-end-4.new.room c.put-end-5.ensures.behind (omega arith)
    ∙ same-behind c.put-end-4.result c.put.result c.put-end-4.new.room c.put-end-3.new.room c.put-end-4.ensures.behind (omega arith)
    ∙ same-behind c.put-end-3.result c.put.result c.put-end-3.new.room c.put-end-2.new.room c.put-end-3.ensures.behind (omega arith)
    ∙ same-behind c.put-end-2.result c.put.result c.put-end-2.new.room c.put-end.new.room c.put-end-2.ensures.behind (omega arith)
    ∙ same-behind c.put-end.result c.put.result c.put-end.new.room c.args.room.now c.put-end.ensures.behind (omega arith)
