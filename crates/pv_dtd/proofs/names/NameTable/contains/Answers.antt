use Rattle.std.proofs.Common.{◌∙◌}
use Rattle.pv_dtd.proofs.Places.{holds_name}
use Rattle.pv_dtd.proofs.names.NameTable.contains.Goals as goal

pub returns : goal.returns
returns c = c.contains.ensures ∙ holds_name c.args.name.now c.self.inside.set.keys _ c.self.view_is
