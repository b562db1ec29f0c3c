use Rattle.std.proofs.Common.{subst, sym}
use Rattle.pv_edit.specs.Changes.{list_after}
use Rattle.pv_edit.specs.FittingChanges.{plain_task}
use Rattle.pv_edit.specs.Reasons.{kids_at}
use Rattle.pv_tree.specs.Plain.{forest_of}
use Rattle.pv_tree.specs.PlainDocs.{plain_doc}
use Rattle.pv_cache.specs.ChangedWords.{AreListTokens}
use Rattle.pv_cache.proofs.well_marked.WellMarked.judge_back.Goals as goal

pub unreachable-requires : goal.unreachable-requires
unreachable-requires g c =
    c.in-Err-TooWide.ensures.wide c.in-Err-TooWide.field-0-is c.requires.narrow

pub returns-in-Ok-clause-tokens : goal.returns-in-Ok-clause-tokens
returns-in-Ok-clause-tokens g c =
    let d = c.args.self.now.grammar in
    let old = plain_doc c.args.self.now.doc in
    let t = c.args.task.now in
    subst (AreListTokens d (forest_of (list_after (plain_task t) (kids_at t.list old.root))))
    (sym c.into_outer.ensures) c.in_ok-words.ensures.outer
