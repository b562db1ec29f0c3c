use Rattle.std.proofs.Common.{[], ◌∷◌, ◌++◌, ap, append-nil, map, ◌∙◌}
use Rattle.pv_tree.specs.Lists.{the_document}
use Rattle.pv_tree.specs.MarkedLists.{marked_at, list_alone}
use Rattle.pv_tree.specs.Plain.{no_trees, tree}
use Rattle.pv_tree.specs.PlainDocs.{plain_doc}
use Rattle.pv_tree.proofs.Walks.{unmarked_of}
use Rattle.pv_tree.proofs.walk.Lists.of.Goals as goal

pub returns-clause-lists : goal.returns-clause-lists
returns-clause-lists c =
    let doc = plain_doc c.args.doc.now in
    let below = marked_at (0 ∷ []) doc.root in
    rw (c.from_ref.ensures.value, c.new.ensures.items)
    (ap (λ lists. record { path = []; owner = the_document; kids = tree doc.root no_trees } ∷ map list_alone lists) (append-nil (below ++ []) ∙ append-nil below) ∙ unmarked_of doc)
