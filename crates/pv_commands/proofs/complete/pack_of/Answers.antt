use Rattle.pv_productive.specs.PlainForms.{dtd_of}
use Rattle.pv_tree.specs.PlainDocs.{plain_doc}
use Rattle.pv_commands.proofs.MadePacks.{verifiable}
use Rattle.pv_commands.proofs.complete.pack_of.Goals as goal

pub complete_with_tables-requires : goal.complete_with_tables-requires
complete_with_tables-requires c = record { names = c.requires.is_text.spelled.is_prolog }

pub returns-clause-verifiable : goal.returns-clause-verifiable
returns-clause-verifiable c =
    let made = c.in_ok-completion.ensures in
    let judged = made.judged in
    let completion = c.in_ok-completion.field-0.completion in
    let tables = c.in_ok-completion.field-0.tables in
    verifiable c.meant_law.ensures c.spelled_is_written_law.ensures c.one_list_at_path_law.ensures
    c.made_pack_law.ensures (dtd_of c.args.grammar.now) c.args.root.now c.requires.bytes
    (plain_doc c.args.doc.now)
    (record {
      total = completion.count;
      marks = completion.marks;
      body = completion.body;
      tables = tables;
    }) judged.verdicts
    (rw c.dtd.ensures at c.proper_dtd_law.ensures) c.proper_doc_law.ensures c.args.doc.now.small
    c.requires.is_text judged.are_verdicts
    (record { completion = made.completed; grown = made.written; tables = made.tables })
    made.bounded
