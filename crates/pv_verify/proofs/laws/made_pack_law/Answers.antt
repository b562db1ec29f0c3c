use Rattle.pv_verify.proofs.MadePack.{made_is_accepted}
use Rattle.pv_verify.proofs.laws.made_pack_law.Goals as goal

pub returns : goal.returns
returns g c = made_is_accepted _ c.tables_closed_law.ensures c.tables_add_up_law.ensures
