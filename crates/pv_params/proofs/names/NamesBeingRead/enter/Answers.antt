use Rattle.pv_params.proofs.Stacks.{name_entered}
use Rattle.pv_params.proofs.names.NamesBeingRead.enter.Goals as goal

pub returns : goal.returns
returns c = name_entered c.self.inside.set.keys _ c.self.view_is c.insert.new.self.keys c.args.name c.requires c.in_ok-insert.ensures.keys
