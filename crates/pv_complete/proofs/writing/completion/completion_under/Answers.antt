use Rattle.std.proofs.Math.Bridge.{le_prop}
use Rattle.std.proofs.Math.Logic.{∥∥₁_elim, ∥∥₁_map}
use Rattle.pv_productive.specs.PlainForms.{dtd_of}
use Rattle.pv_dtd.proofs.ProperDtds.{proper}
use Rattle.pv_tree.specs.PlainDocs.{plain_doc}
use Rattle.pv_write.specs.PieceForms.{plain_lists}
use Rattle.pv_complete.proofs.WritableDocuments.{doc_epilog, doc_writable, dtd_names, short_names}
use Rattle.pv_complete.proofs.CompletedDocuments.{bounded_text, grown_text, least_completion}
use Rattle.pv_tree.specs.declared.nodes.Mark.{Mark}
use Rattle.pv_complete.proofs.FewMarks.{few_marks}
use Rattle.pv_complete.proofs.LightLists.{light_lists, live_verdicts}
use Rattle.pv_complete.proofs.writing.completion.completion_under.Goals as goal

pub pieces_of_lists-requires-clause-possible : goal.pieces_of_lists-requires-clause-possible
pieces_of_lists-requires-clause-possible c =
    live_verdicts c.args.verdicts.now.verdicts
    (∥∥₁_map c.requires.verdicts
    (λ live. (c.locality_law.ensures (dtd_of c.args.layout.now.grammar.now) c.args.root.now
    (plain_doc c.args.doc.now) c.args.verdicts.now.verdicts
    (proper c.args.layout.now.grammar.now.layout.dtd) c.proper_doc_law.ensures live.verdicts).0
    live.possible))

pub pieces_of_lists-requires-clause-light : goal.pieces_of_lists-requires-clause-light
pieces_of_lists-requires-clause-light c = ∥∥₁_map c.requires.verdicts (λ live.
    record {
      verdicts = live.verdicts;
      light = light_lists Mark (dtd_of c.args.layout.now.grammar.now) c.args.root.now (plain_doc c.args.doc.now) c.args.count (proper c.args.layout.now.grammar.now.layout.dtd) c.proper_doc_law.ensures
          c.live_weight_law.ensures c.weight_is_least_law.ensures c.bounds_add_up_law.ensures (c.requires.needs live);
    })

pub numbers_of-requires : goal.numbers_of-requires
numbers_of-requires c =
    let dtd = c.args.layout.now.grammar.now.layout.dtd in
    let doc = plain_doc c.args.doc.now in
    let marks = c.in_ok-text.text.marks.items in
    let body = c.in_ok-text.text.body.items in
    rw c.as_slice.ensures.value
    (λ k d lt. ∥∥₁_elim c.requires.verdicts le_prop (λ live.
    few_marks (dtd_of c.args.layout.now.grammar.now) c.args.root.now doc c.args.count marks body c.args.doc.now.small
    (least_completion (dtd_of c.args.layout.now.grammar.now) c.args.root.now doc
    c.args.verdicts.now.verdicts (plain_lists c.in_ok-lists.lists.items) c.args.count marks body
    (proper dtd) (dtd_names dtd) c.every_view_is_written_law.ensures c.tags_extend_law.ensures c.possible_weights_law.ensures c.proper_doc_law.ensures (doc_writable c.args.doc.now)
    c.requires.names (doc_epilog c.args.doc.now) (c.requires.needs live) live.verdicts
    (c.in_ok-lists.ensures live.verdicts) (rw (c.dtd-2.ensures, c.deref.ensures.value)
    at c.in_ok-text.ensures)) k d lt))

pub returns-clause-completed : goal.returns-clause-completed
returns-clause-completed c = λ live.
    let dtd = c.args.layout.now.grammar.now.layout.dtd in
    rw (c.of.ensures, c.in_ok-marks.ensures, c.as_slice.ensures.value, c.of-2.ensures)
    (least_completion (dtd_of c.args.layout.now.grammar.now) c.args.root.now
    (plain_doc c.args.doc.now) c.args.verdicts.now.verdicts (plain_lists c.in_ok-lists.lists.items)
    c.args.count
    c.in_ok-text.text.marks.items c.in_ok-text.text.body.items
    (proper dtd) (dtd_names dtd) c.every_view_is_written_law.ensures c.tags_extend_law.ensures c.possible_weights_law.ensures c.proper_doc_law.ensures (doc_writable c.args.doc.now)
    c.requires.names (doc_epilog c.args.doc.now) (c.requires.needs live) live.verdicts
    (c.in_ok-lists.ensures live.verdicts) (rw (c.dtd-2.ensures, c.deref.ensures.value) at
    c.in_ok-text.ensures))

pub returns-clause-written : goal.returns-clause-written
returns-clause-written c = λ live.
    let dtd = c.args.layout.now.grammar.now.layout.dtd in
    rw c.of-2.ensures
    (grown_text (dtd_of c.args.layout.now.grammar.now) c.args.root.now (plain_doc c.args.doc.now)
    c.args.verdicts.now.verdicts (plain_lists c.in_ok-lists.lists.items)
    c.in_ok-text.text.marks.items c.in_ok-text.text.body.items
    (proper dtd) (dtd_names dtd) c.proper_doc_law.ensures (doc_writable c.args.doc.now)
    (c.in_ok-lists.ensures live.verdicts) (rw (c.dtd-2.ensures, c.deref.ensures.value) at
    c.in_ok-text.ensures))

pub returns-clause-bounded : goal.returns-clause-bounded
returns-clause-bounded c = λ live.
    let dtd = c.args.layout.now.grammar.now.layout.dtd in
    rw c.of-2.ensures
    (bounded_text (dtd_of c.args.layout.now.grammar.now) c.args.root.now (plain_doc c.args.doc.now)
    c.args.verdicts.now.verdicts (plain_lists c.in_ok-lists.lists.items)
    c.args.count c.in_ok-text.text.marks.items c.in_ok-text.text.body.items
    (proper dtd) (dtd_names dtd) c.every_view_is_written_law.ensures c.tags_extend_law.ensures c.possible_weights_law.ensures c.proper_doc_law.ensures (doc_writable c.args.doc.now)
    c.requires.names (doc_epilog c.args.doc.now) (c.requires.needs live) live.verdicts
    (c.in_ok-lists.ensures live.verdicts) (rw (c.dtd-2.ensures, c.deref.ensures.value)
    at c.in_ok-text.ensures) (short_names dtd) c.args.doc.now.formed)
