use Rattle.std.proofs.Common.{◌≡◌, ap, sym, ◌∙◌, arith, Option, Some}
use Rattle.std.specs.Option.{option_map}
use Rattle.pv_tree.specs.Places.{spot_at}
use Rattle.pv_tree.specs.Places.{at_node as at_spot}
use Rattle.pv_tree.specs.PlainForms.{plain}
use Rattle.pv_tree.specs.PlainDocs.{plain_found}
use Rattle.pv_tree.specs.declared.places.Found.{Found}
use Rattle.pv_tree.specs.Marks.{blank_mark}
use Rattle.pv_edit.proofs.Sizes.{places-fit}
use Rattle.pv_edit.proofs.preparations.put_back.Goals as goal

pub put_into-requires-clause-fits : goal.put_into-requires-clause-fits
put_into-requires-clause-fits c =
    let root = plain c.args.doc.now.root in
    let there : spot_at c.args.path.now root ≡ Some (at_spot (plain c.in-Some-Inner.node.now)) =
    sym c.node_at.ensures ∙ ap (λ (o : Option Found). option_map plain_found o)
    c.in-Some-Inner.is ∙ ap (λ (f : Found). Some (plain_found f)) c.in-Some-Inner.field-0-is in
    omega (arith, places-fit blank_mark c.args.path.now root (plain c.in-Some-Inner.node.now) there, c.args.doc.now.small)
