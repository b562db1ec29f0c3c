use Rattle.std.proofs.Common.{◌≡◌, ap, List, subst, sym}
use Rattle.pv_dtd.specs.Plain.{PlainDtd}
use Rattle.pv_dtd.specs.PlainForms.{plain_dtd}
use Rattle.pv_edit.specs.FittingChanges.{SuitsChange, plain_task}
use Rattle.pv_edit.specs.Reasons.{items_of, kids_at}
use Rattle.pv_tree.specs.Plain.{Tree, forest_of}
use Rattle.pv_tree.specs.PlainDocs.{plain_doc}
use Rattle.pv_tree.specs.PlainForms.{plain_all}
use Rattle.pv_tree.specs.declared.nodes.Mark.{Mark}
use Rattle.pv_cache.specs.ChangedWords.{AreListTokens, AreWords}
use Rattle.pv_cache.proofs.Tasks.{task-suits}
use Rattle.pv_cache.proofs.well_marked.WellMarked.words_by.Goals as goal

pub words_after-requires-clause-suits : goal.words_after-requires-clause-suits
words_after-requires-clause-suits c =
    let t = c.args.task.now in
    let ch = plain_task t in
    let doc = plain_doc c.args.self.now.doc in
    let kids : plain_all c.in-Some.kids.now ≡ kids_at t.list doc.root =
    ap items_of c.in-Some.ensures in
    let s =
    subst (SuitsChange ch) (sym kids)
    (task-suits doc.root ch c.requires.task.can c.requires.task.unshort doc.mark) in
    record { order = s.order; within = s.within; fits = s.fits }

pub words_after-requires-clause-before : goal.words_after-requires-clause-before
words_after-requires-clause-before c =
    let t = c.args.task.now in
    let doc = plain_doc c.args.self.now.doc in
    let kids : plain_all c.in-Some.kids.now ≡ kids_at t.list doc.root =
    ap items_of c.in-Some.ensures in
    subst (λ (ks : List (Tree Mark)).
    AreListTokens (plain_dtd c.dtd-dtd.result.now) (forest_of ks) c.args.before.now) (sym kids)
    (subst (λ (e : PlainDtd).
    AreListTokens e (forest_of (kids_at t.list doc.root)) c.args.before.now) (sym c.dtd-dtd.ensures)
    c.requires.before)

pub returns : goal.returns
returns c =
    let t = c.args.task.now in
    let ch = plain_task t in
    let doc = plain_doc c.args.self.now.doc in
    let kids : plain_all c.in-Some.kids.now ≡ kids_at t.list doc.root =
    ap items_of c.in-Some.ensures in
    let words = c.in_ok-words.words in
    let first : AreWords (plain_dtd c.dtd-dtd.result.now) ch (plain_all c.in-Some.kids.now) words =
    record { outer = c.in_ok-words.ensures.outer; inner = c.in_ok-words.ensures.inner } in
    subst (λ (e : PlainDtd). AreWords e ch (kids_at t.list doc.root) words) c.dtd-dtd.ensures
    (subst (λ (ks : List (Tree Mark)).
    AreWords (plain_dtd c.dtd-dtd.result.now) ch ks words) kids first)
