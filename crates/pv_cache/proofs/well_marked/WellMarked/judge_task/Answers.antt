use Rattle.std.specs.Option.{option_map}
use Rattle.pv_edit.specs.FittingChanges.{plain_task}
use Rattle.pv_missing.specs.PlainForms.{plain_of}
use Rattle.pv_tree.specs.PlainDocs.{plain_doc}
use Rattle.pv_cache.proofs.Tasks.{answer-judged, answer-wide, task-list}
use Rattle.pv_cache.proofs.well_marked.WellMarked.judge_task.Goals as goal

pub returns-clause-judged : goal.returns-clause-judged
returns-clause-judged g c =
    let ch = plain_task c.args.task.now in
    let d = c.args.self.now.grammar in
    let doc = plain_doc c.args.self.now.doc in
    let stands =
    task-list doc.root ch c.requires.task.can c.requires.task.unshort doc.mark in
    answer-judged d c.args.self.now.root doc ch c.requires.task.can c.requires.task.unshort
    c.args.words.now c.requires.words (option_map plain_of c.owner_of-owner.result)
    (c.owner_of-owner.ensures.owner stands) c.judge_words.result c.judge_words.ensures.found

pub returns-clause-wide : goal.returns-clause-wide
returns-clause-wide g c =
    let ch = plain_task c.args.task.now in
    let d = c.args.self.now.grammar in
    let doc = plain_doc c.args.self.now.doc in
    let stands =
    task-list doc.root ch c.requires.task.can c.requires.task.unshort doc.mark in
    answer-wide d c.args.self.now.root doc ch c.requires.task.can c.requires.task.unshort
    c.args.words.now c.requires.words (option_map plain_of c.owner_of-owner.result)
    (c.owner_of-owner.ensures.owner stands) c.judge_words.result c.judge_words.ensures.wide
