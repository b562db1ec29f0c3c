use Rattle.pv_dtd.specs.PlainForms.{plain_dtd}
use Rattle.pv_lists.proofs.TypesFound.{type_put}
use Rattle.pv_lists.proofs.types.FoundTypes.find.Goals as goal

pub returns-clause-kept : goal.returns-clause-kept
returns-clause-kept c =
    type_put (plain_dtd c.args.dtd.now) c.args.self.now.types.items c.place_of-place.result c.of-found.result c.args.name.now c.of-found.ensures c.requires
