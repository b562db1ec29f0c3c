use Rattle.std.proofs.Common.{List, Some, ap, refl, sym, ◌∙◌}
use Rattle.pv_tree.specs.Lists.{an_element}
use Rattle.pv_tree.specs.PlainForms.{plain, plain_all}
use Rattle.pv_tree.specs.Places.{at_node, list_of, owner_of}
use Rattle.pv_tree.specs.declared.nodes.Node.{Node}
use Rattle.pv_tree.proofs.Levels.{list_of-Elem, plain-Elem}
use Rattle.pv_denial.proofs.places.element_place.Goals as goal

pub returns-in-Elem : goal.returns-in-Elem
returns-in-Elem c =
    let i = c.in-Elem in
    record {
      of_document = refl;
      owner = ap (λ t. owner_of (at_node t)) (ap plain i.is ∙ plain-Elem i.name i.attrs i.end i.kids i.mark) ∙ ap (λ n. Some (an_element n)) (sym c.as_slice.ensures);
      kids = ap list_of (ap plain i.is) ∙ sym (list_of-Elem i.name i.attrs i.end i.kids i.mark) ∙ ap (λ (ks : List Node). Some (plain_all ks)) (sym c.deref.ensures.value);
    }
