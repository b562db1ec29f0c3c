use Rattle.pv_params.proofs.Heads.{head_is}
use Rattle.pv_params.proofs.expansion.after_head.Goals as goal

pub returns : goal.returns
returns c = head_is _ _ _ c.after_byte_order_mark.ensures.behind c.after_declaration.ensures
