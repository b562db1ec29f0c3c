use Rattle.std.proofs.Common.{◌∙◌}
use Rattle.pv_params.proofs.Stacks.{holds_name}
use Rattle.pv_params.proofs.names.NamesBeingRead.contains.Goals as goal

pub returns : goal.returns
returns c = c.contains.ensures ∙ holds_name c.self.inside.set.keys _ c.self.view_is c.args.name.now
