use Rattle.std.proofs.Common.{[], arith, refl, ◌++◌, ◌∷◌}
use Rattle.pv_tree.specs.Lists.{Listed, lists_at, the_document}
use Rattle.pv_tree.specs.Plain.{no_trees, tree}
use Rattle.pv_tree.specs.PlainDocs.{plain_doc}
use Rattle.pv_tree.specs.PlainForms.{plain}
use Rattle.pv_tree.specs.declared.nodes.Mark.{Mark}
use Rattle.pv_fresh.proofs.NarrowLists.{few_tokens}
use Rattle.pv_parallel.specs.Jobs.{Adds}
use Rattle.pv_parallel.proofs.JobLists.{whole_gathered}
use Rattle.pv_parallel.proofs.gathering.jobs_of.Goals as goal

pub returns-clause-jobs : goal.returns-clause-jobs
returns-clause-jobs c =
    let root = plain c.args.doc.now.root in
    let list : Listed Mark = record { path = []; owner = the_document; kids = tree root no_trees } in
    let own : Adds (list ∷ []) c.new-gathering.result c.add.new.self = c.in_ok-add.ensures.added
    (list ∷ []) (list, refl, refl, rw c.from_ref-root.ensures.value refl, (root, refl)) refl
    (λ g. few_tokens g (c.args.doc.now.root ∷ []), tt) in
    let below : Adds (lists_at (0 ∷ []) root ++ []) c.add.new.self c.add_nodes.new.gathering = rw c.from_ref-root.ensures.value at (c.in_ok-add_nodes.ensures.added [] 0) in
    (whole_gathered (plain_doc c.args.doc.now) c.new-gathering.result c.add.new.self c.add_nodes.new.gathering c.new-gathering.ensures own below).jobs

pub returns-clause-narrow : goal.returns-clause-narrow
returns-clause-narrow c =
    let root = plain c.args.doc.now.root in
    let list : Listed Mark = record { path = []; owner = the_document; kids = tree root no_trees } in
    let own : Adds (list ∷ []) c.new-gathering.result c.add.new.self = c.in_ok-add.ensures.added
    (list ∷ []) (list, refl, refl, rw c.from_ref-root.ensures.value refl, (root, refl)) refl
    (λ g. few_tokens g (c.args.doc.now.root ∷ []), tt) in
    let below : Adds (lists_at (0 ∷ []) root ++ []) c.add.new.self c.add_nodes.new.gathering = rw c.from_ref-root.ensures.value at (c.in_ok-add_nodes.ensures.added [] 0) in
    (whole_gathered (plain_doc c.args.doc.now) c.new-gathering.result c.add.new.self c.add_nodes.new.gathering c.new-gathering.ensures own below).narrow

pub returns-clause-few : goal.returns-clause-few
returns-clause-few c =
    let root = plain c.args.doc.now.root in
    let list : Listed Mark = record { path = []; owner = the_document; kids = tree root no_trees } in
    let own : Adds (list ∷ []) c.new-gathering.result c.add.new.self = c.in_ok-add.ensures.added
    (list ∷ []) (list, refl, refl, rw c.from_ref-root.ensures.value refl, (root, refl)) refl
    (λ g. few_tokens g (c.args.doc.now.root ∷ []), tt) in
    let below : Adds (lists_at (0 ∷ []) root ++ []) c.add.new.self c.add_nodes.new.gathering = rw c.from_ref-root.ensures.value at (c.in_ok-add_nodes.ensures.added [] 0) in
    let count = (whole_gathered (plain_doc c.args.doc.now) c.new-gathering.result c.add.new.self c.add_nodes.new.gathering c.new-gathering.ensures own below).count in
    let few = rw c.from_ref-root.ensures.value at c.in_ok-add_nodes.ensures.count in
    let one = c.in_ok-add.ensures.count in
    let begun = c.new-gathering.ensures.count in
    let small = c.args.doc.now.small in
    omega arith
