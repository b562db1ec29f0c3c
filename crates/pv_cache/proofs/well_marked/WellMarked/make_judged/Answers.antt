use Rattle.std.proofs.Common.{◌≡◌, ◌≤◌, ◌∙◌, ap, arith, length, refl, sym, rules, subst, List}
use Rattle.std.proofs.Common.{ℕ}
use Rattle.std.specs.Prelude.{IsTrue}
use Rattle.std.specs.List.{between}
use Rattle.pv_edit.specs.BroughtElements.{lists_changed}
use Rattle.pv_edit.specs.Changes.{doc_after, in_place_of}
use Rattle.pv_edit.specs.Reasons.{kids_at}
use Rattle.pv_edit.specs.FittingChanges.{plain_task}
use Rattle.pv_tree.specs.Marks.{unmarked_doc}
use Rattle.pv_dtd.specs.Plain.{PlainDtd}
use Rattle.pv_tree.specs.Plain.{PlainDoc, forest_of, nodes_in}
use Rattle.pv_tree.specs.PlainDocs.{plain_doc}
use Rattle.pv_tree.specs.declared.nodes.Mark.{Mark}
use Rattle.pv_cache.specs.AcceptedEdits.{MAX_EDITED_NODES}
use Rattle.pv_cache.specs.Apart.{is_apart}
use Rattle.pv_cache.specs.MarkedTasks.{IsChanged}
use Rattle.pv_cache.specs.ChangedWords.{AreKeptLists, AreKeptTokens, AreListTokens}
use Rattle.pv_cache.specs.Updates.{CanUpdateDoc, CanUpdateOwner, IsDocCounted, update_doc}
use Rattle.pv_cache.specs.PlainMarked.{PlainMarked, plain_marked}
use Rattle.pv_cache.specs.WellMarked.{IsWellMarked, told_bad}
use Rattle.pv_cache.specs.declared.kept_lists.KeptTokens.{KeptTokens}
use Rattle.pv_cache.specs.Stamps.{changed_by, stamp_lists, stamps_of}
use Rattle.pv_cache.proofs.ApartLists.{kept-apart}
use Rattle.pv_cache.proofs.DocumentStamps.{changed_are, same_number, stamps_updated}
use Rattle.pv_cache.proofs.ImpossibleCounts.{updated-counted}
use Rattle.pv_cache.proofs.ListTokenFacts.{kept-after}
use Rattle.pv_cache.proofs.UpdatableDocuments.{ready-can, ready-counted, ready-marked}
use Rattle.pv_cache.proofs.MarksAlone.{doc-as, few-updated}
use Rattle.pv_cache.proofs.well_marked.WellMarked.make_judged.Goals as goal

pub update_doc-requires-clause-can : goal.update_doc-requires-clause-can
update_doc-requires-clause-can c =
    let t = c.args.task in
    let m = c.args.verdicts in
    let ch = plain_task t in
    let old = plain_doc c.args.self.now.doc in
    let l : c.places-2.result.now ≡ t.list = search rules in
    let made = c.in_ok-make.ensures.ok in
    let ex = c.exchange-exchange.result in
    let r =
    ready-can c.args.self.now.grammar c.args.self.now.root old ch m.outer m.inner c.args.stamp ex
    c.requires.task.can c.requires.task.unshort c.requires.task.bare c.requires.judged
    c.args.self.now.marked c.exchange-exchange.ensures in
    subst (λ (q : List ℕ).
    CanUpdateDoc (CanUpdateOwner m.inner c.args.stamp ex) q (plain_doc c.make.new.doc)) (sym l)
    (subst (λ (d : PlainDoc Mark).
    CanUpdateDoc (CanUpdateOwner m.inner c.args.stamp ex) t.list d) (sym made) r)

pub update_doc-requires-clause-counted : goal.update_doc-requires-clause-counted
update_doc-requires-clause-counted c =
    let t = c.args.task in
    let m = c.args.verdicts in
    let ch = plain_task t in
    let old = plain_doc c.args.self.now.doc in
    let l : c.places-2.result.now ≡ t.list = search rules in
    let made = c.in_ok-make.ensures.ok in
    let r =
    ready-counted c.args.self.now.grammar c.args.self.now.root old ch m.outer m.inner c.args.stamp
    c.exchange-exchange.result c.requires.task.can c.requires.task.unshort c.requires.task.bare
    c.requires.judged c.requires.task.kept c.args.self.now.marked in
    subst (λ (q : List ℕ).
    IsDocCounted (update_doc q m.outer m.inner c.args.stamp (plain_doc c.make.new.doc))) (sym l)
    (subst (λ (d : PlainDoc Mark).
    IsDocCounted (update_doc t.list m.outer m.inner c.args.stamp d)) (sym made) r)

abbrev Marked_ : PlainDtd → List ℕ → PlainDoc Mark → Type 0
Marked_ d root doc = ∥ IsWellMarked d root doc ∥₁

-- where there was no memory for the change
pub invariant_of-self : goal.invariant_of-self
invariant_of-self c =
    let d = c.args.self.now.grammar in
    let root = c.args.self.now.root in
    let same = c.in_err-make.ensures.err in
    record {
      marked = subst (Marked_ d root) (sym same) c.args.self.now.marked;
      counted = c.args.self.now.counted ∙ ap told_bad (sym same);
      few =
          subst (λ (e : PlainDoc Mark). nodes_in e.root ≤ MAX_EDITED_NODES)
          (sym same) c.args.self.now.few;
      held =
          subst (λ (e : PlainDoc Mark). AreKeptLists d e c.args.self.now.kept) (sym same)
          c.args.self.now.held;
    }

-- and after the change
pub invariant_of-self-2 : goal.invariant_of-self-2
invariant_of-self-2 c =
    let t = c.args.task in
    let m = c.args.verdicts in
    let ch = plain_task t in
    let d = c.args.self.now.grammar in
    let root = c.args.self.now.root in
    let old = plain_doc c.args.self.now.doc in
    let l : c.places-2.result.now ≡ t.list = search rules in
    let made = c.in_ok-make.ensures.ok in
    let r =
    ready-marked d root old ch m.outer m.inner c.args.stamp c.exchange-exchange.result
    c.requires.task.can c.requires.task.unshort c.requires.task.bare c.requires.judged
    c.args.self.now.marked in
    let is : plain_doc c.update_doc.new.doc ≡ update_doc t.list m.outer m.inner c.args.stamp
    (doc_after ch old) =
    c.update_doc.ensures
    ∙ ap (λ (q : List ℕ). update_doc q m.outer m.inner c.args.stamp (plain_doc c.make.new.doc)) l
    ∙ ap (update_doc t.list m.outer m.inner c.args.stamp) made in
    let count =
    updated-counted d root old ch m.outer m.inner c.args.stamp c.requires.task.can
    c.requires.task.unshort c.requires.task.bare c.requires.judged in
    let after = c.bad_after-bad.ensures in
    let before = c.args.self.now.counted in
    let told = ap told_bad is in
    let k : c.in_ok-list.list ≡ t.list = search rules in
    let new = update_doc t.list m.outer m.inner c.args.stamp (doc_after ch old) in
    let tokens =
    kept-after d old ch c.requires.task.can c.requires.task.unshort m.outer m.inner c.args.stamp
    c.args.tokens c.requires.tokens in
    let stays : (kept : KeptTokens) → IsTrue (is_apart c.in_ok-list.list kept.list) →
    AreKeptTokens d old kept → AreKeptTokens d new kept =
    λ kept apart h.
    kept-apart d old ch c.requires.task.can c.requires.task.unshort m.outer m.inner c.args.stamp
    kept (subst (λ (q : List ℕ). IsTrue (is_apart q kept.list)) k apart) h in
    let held : AreKeptLists d new c.change.new.self =
    c.change.ensures d old new c.args.self.now.held stays
    (subst (λ (q : List ℕ). AreListTokens d (forest_of (kids_at q new.root)) c.args.tokens) (sym k)
    tokens) in
    record {
      marked = subst (Marked_ d root) (sym is) r;
      counted = omega arith;
      few =
          subst (λ (e : PlainDoc Mark). nodes_in e.root ≤ MAX_EDITED_NODES) (sym is)
          (few-updated t.list m.outer m.inner c.args.stamp (doc_after ch old) c.requires.task.few);
      held =
          subst (λ (e : PlainDoc Mark). AreKeptLists d e c.change.new.self) (sym is) held;
    }

pub returns-clause-changed : goal.returns-clause-changed
returns-clause-changed c =
    let t = c.args.task in
    let m = c.args.verdicts in
    let ch = plain_task t in
    let d = c.args.self.now.grammar in
    let old = plain_doc c.args.self.now.doc in
    let l : c.places-2.result.now ≡ t.list = search rules in
    let made = c.in_ok-make.ensures.ok in
    let kids = in_place_of ch.filling (between ch.from ch.to (kids_at ch.list old.root)) in
    let lists = changed_are d c.args.self.now.root ch kids m.inner c.requires.judged.within in
    let P : PlainMarked → Type 0 =
    λ v. IsChanged (plain_marked c.args.self.now) t c.args.stamp c.number_of.result v in
    subst P (sym c.remember_kept.ensures.marked) (record {
      same_dtd = refl;
      same_root = refl;
      made =
          ap unmarked_doc c.update_doc.ensures
          ∙ doc-as c.places-2.result.now m.outer m.inner c.args.stamp (plain_doc c.make.new.doc)
          ∙ ap unmarked_doc made;
      stamps =
          ap stamps_of c.update_doc.ensures
          ∙ stamps_updated c.places-2.result.now m.outer m.inner c.args.stamp
          (plain_doc c.make.new.doc)
          ∙ ap (λ (q : List ℕ).
          stamp_lists c.args.stamp (changed_by q m.inner)
          (stamps_of (plain_doc c.make.new.doc))) l
          ∙ ap (λ (ls : List (List ℕ)).
          stamp_lists c.args.stamp ls (stamps_of (plain_doc c.make.new.doc))) lists
          ∙ ap (λ (e : PlainDoc Mark).
          stamp_lists c.args.stamp (lists_changed ch) (stamps_of e)) made;
      counted = c.number_of.ensures ∙ sym (same_number t.list m.inner) ∙ ap length lists;
    })
