use Rattle.std.specs.Prelude.{option_and_then}
use Rattle.std.proofs.Common.{Some, ap, refl, sym, ◌∙◌}
use Rattle.pv_tree.specs.Lists.{an_element, the_document}
use Rattle.pv_tree.specs.PlainDocs.{plain_doc, plain_found}
use Rattle.pv_tree.specs.PlainForms.{forest, plain, plain_all}
use Rattle.pv_tree.specs.Places.{owner_of}
use Rattle.pv_tree.specs.Plain.{no_trees, tree}
use Rattle.pv_tree.proofs.Levels.{trees-forest}
use Rattle.pv_denial.specs.Places.{owner_by}
use Rattle.pv_denial.proofs.ListsAtPaths.{list_of_document, list_of_element, no_list}
use Rattle.pv_denial.proofs.places.place_at.Goals as goal

pub returns-in-None : goal.returns-in-None
returns-in-None c = no_list (plain_doc c.args.doc.now) c.list_at_law.ensures c.args.path.now (ap (λ o. option_and_then owner_of o) (sym c.in-None.ensures))

pub returns-in-Some-Document : goal.returns-in-Some-Document
returns-in-Some-Document c =
    let doc = plain_doc c.args.doc.now in
    let e = sym c.in-Some-Document.ensures ∙ ap (λ f. Some (plain_found f)) c.in-Some-Document.field-0-is in
    record {
      list = record { path = c.args.path.now; owner = the_document; kids = tree doc.root no_trees };
      is_listed = list_of_document doc c.list_at_law.ensures c.args.path.now e;
      is_path = refl;
      is_place = record { owner = refl; name = refl; kids = ap forest (sym c.from_ref.ensures.value) };
    }

pub returns-in-None-element_place : goal.returns-in-None-element_place
returns-in-None-element_place c =
    let e = sym c.in-Some-Inner.ensures ∙ ap (λ f. Some (plain_found f)) c.in-Some-Inner.field-0-is in
    no_list (plain_doc c.args.doc.now) c.list_at_law.ensures c.args.path.now (ap (λ o. option_and_then owner_of o) e ∙ c.in-None-element_place.ensures)

pub returns-in-Some : goal.returns-in-Some
returns-in-Some c =
    let e = sym c.in-Some-Inner.ensures ∙ ap (λ f. Some (plain_found f)) c.in-Some-Inner.field-0-is in
    let p = c.in-Some.place in let n = c.in-Some.ensures in
    record {
      list = record { path = c.args.path.now; owner = an_element p.name.now; kids = forest p.kids.now };
      is_listed = list_of_element (plain_doc c.args.doc.now) c.list_at_law.ensures c.args.path.now p.name.now (plain c.in-Some-Inner.node.now) (forest p.kids.now) e n.owner
          (n.kids ∙ ap (λ ts. Some ts) (sym (trees-forest (plain_all p.kids.now))));
      is_path = refl;
      is_place = record { owner = ap (λ b. owner_by b p.name.now) (sym n.of_document); name = refl; kids = refl };
    }
