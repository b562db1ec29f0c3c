-- The pack of a least completion and of the tables of its document can be verified.
use Rattle.std.proofs.Common.{List, [], arith, refl, subst, sym, ℕ, ◌+◌, ◌<◌, ◌^◌, ◌∙◌, ◌∷◌, ◌≡◌, ◌≤◌, length}
use Rattle.std.specs.List.{All, AllByRecursion, Contains}
use Rattle.std.proofs.lemmas.List.Elements.{All-cons, All-head, All-nil, All-tail}
use Rattle.pv_dtd.specs.Hedge.{Hedge, IsValid, elements}
use Rattle.pv_dtd.specs.Plain.{PlainDtd}
use Rattle.pv_dtd.specs.Proper.{IsProperDtd}
use Rattle.pv_tree.specs.Legal.{MAX_NODES}
use Rattle.pv_tree.specs.Lists.{Listed, lists_of}
use Rattle.pv_tree.specs.Marks.{blank_mark}
use Rattle.pv_tree.specs.Plain.{PlainDoc, nodes_in}
use Rattle.pv_tree.specs.View.{view}
use Rattle.pv_tree.specs.declared.nodes.Mark.{Mark}
use Rattle.pv_tree.specs.declared.nodes.Verdict.{Verdict}
use Rattle.pv_tree.proofs.JoinedLists.{contains_first, contains_later}
use Rattle.pv_read.specs.DocumentLaws.{MeansWhatItSpells, with_marks}
use Rattle.pv_read.specs.Grammar.{IsDocumentText}
use Rattle.pv_write.specs.Laws.{WritesWhatIsSpelled}
use Rattle.pv_write.specs.Text.{doc_text}
use Rattle.pv_missing.specs.Completions.{Completes, LeavesOut}
use Rattle.pv_missing.specs.Extensions.{Extends}
use Rattle.pv_missing.specs.Proper.{IsProperDoc}
use Rattle.pv_missing.specs.Verdicts.{AreVerdicts}
use Rattle.pv_missing.specs.Widths.{IsListForWeights}
use Rattle.pv_tables.specs.TableLaws.{OneListAtPath}
use Rattle.pv_tables.specs.Tables.{AreTables, no_list, other_list, possible_list}
use Rattle.pv_tables.specs.declared.tables.Table.{Table}
use Rattle.pv_flat.specs.ComingEvents.{flat_limits}
use Rattle.pv_compare.specs.Kept.{IsBodyText}
use Rattle.pv_table_check.specs.ClosedTables.{AreClosedTables, AreNarrowTables, IsNarrowTable}
use Rattle.pv_reach.proofs.OtherMarks.{view_as}
use Rattle.pv_complete.specs.GrownTrees.{IsBounded}
use Rattle.pv_complete.specs.NeededElements.{CanWeigh}
use Rattle.pv_complete.proofs.FewMarks.{few_marks}
use Rattle.pv_words.specs.Numbers.{AreNumbers}
use Rattle.pv_cert.specs.declared.packs.Pack.{Pack}
use Rattle.pv_verify.specs.Laws.{MadeIsAccepted}
use Rattle.pv_verify.specs.Tests.{PassesAllTests}
use Rattle.pv_verify.specs.declared.answers.Why.TheVariants as why
use Rattle.pv_commands.specs.Complete.{IsPackOfCompletion, IsVerifiable}
use Rattle.pv_commands.proofs.PackLines.{pack_lines}

-- ---- the width of the lists that the tables name
module _ {M : Type 0} (one : OneListAtPath M) (g : PlainDtd) (root : List ℕ)
    (doc : PlainDoc M) where
  narrow_among : (lists : List (Listed M)) (ts : List Table) →
      ((l : Listed M) → Contains lists l → Contains (lists_of doc) l) →
      AllByRecursion (CanWeigh g root) lists → AreTables g root lists ts →
      AreNarrowTables g (lists_of doc) ts
  narrow_among [] ts of_doc can no_list = All-nil (IsNarrowTable g (lists_of doc))
  narrow_among (list ∷ lists) ts of_doc can (possible_list _ _ t us possible is are) =
      All-cons (IsNarrowTable g (lists_of doc)) t us
      (λ other c same. subst (IsListForWeights g)
      (one doc list other (of_doc list (contains_first list lists)) c (sym is.is_path ∙ same))
      (can.0 possible))
      (narrow_among lists us (λ l c. of_doc l (contains_later list lists l c)) can.1 are)
  narrow_among (list ∷ lists) ts of_doc can (other_list _ _ us never are) =
      narrow_among lists ts (λ l c. of_doc l (contains_later list lists l c)) can.1 are

  narrow_tables : (ts : List Table) → AllByRecursion (CanWeigh g root) (lists_of doc) →
      AreTables g root (lists_of doc) ts → AreNarrowTables g (lists_of doc) ts
  narrow_tables ts can are = narrow_among (lists_of doc) ts (λ l c. c) can are

numbers : (ms : List ℕ) → All (λ k. k < 2 ^ 32) ms → AreNumbers ms
numbers [] all = tt
numbers (m ∷ ms) all = (
  (let k = All-head (λ k. k < 2 ^ 32) m ms all in omega arith),
  numbers ms
      (All-tail (λ k. k < 2 ^ 32) m ms all),
)

module _ (meant : MeansWhatItSpells) (written : WritesWhatIsSpelled) (one : OneListAtPath Mark)
    (made : MadeIsAccepted Mark) (g : PlainDtd) (root bytes : List ℕ) (doc : PlainDoc Mark)
    (pack : Pack) (vs : List Verdict)
    (dtd : IsProperDtd g) (proper : IsProperDoc doc) (small : nodes_in doc.root ≤ MAX_NODES)
    (text : IsDocumentText root bytes doc) (are : AreVerdicts g root (lists_of doc) vs)
    (least : IsPackOfCompletion root g doc pack)
    (bounded : IsBounded doc pack.total pack.body) where
  abbrev new : PlainDoc Mark
  new = record doc { root = least.completion.tree }

  abbrev body : PlainDoc Mark
  body = with_marks blank_mark new

  short_body : length pack.body ≤ flat_limits.bytes
  short_body =
      let same = written root bytes doc text.spelled in
      let few : length (doc_text doc) ≤ 67108864 =
      subst (λ (b : List ℕ). length b ≤ 67108864) (sym same) text.few_bytes in
      let light = least.completion.needs.light in
      let most = bounded in
      omega arith

  is_body : IsBodyText root pack.body body
  is_body =
      meant flat_limits blank_mark root pack.body new
      (record { spelled = least.completion.spelled; shallow = tt; few_bytes = short_body })

  same_view : view new.root ≡ view body.root
  same_view = sym (view_as (λ (m : Mark). blank_mark) new.root)

  completes : Completes g root doc body pack.marks pack.total
  completes =
      let c = least.completion.completes in record {
        valid = subst (IsValid g root) same_view c.valid;
        extends = subst (Extends (view doc.root)) same_view c.extends;
        inserted = subst (λ (h : Hedge). elements h ≡ pack.total + elements (view doc.root))
            same_view c.inserted;
        same_before = c.same_before;
        same_after = c.same_after;
        counted = c.counted;
        tags = subst (λ (h : Hedge). LeavesOut 0 (elements h) pack.marks (view doc.root) h)
            same_view c.tags;
      }

  accepted : PassesAllTests g root doc pack
  accepted =
      made g root doc pack body vs dtd proper are is_body completes least.completion.needs.least
      least.completion.needs.light least.tables.are_tables

  narrow : AreNarrowTables g (lists_of doc) pack.tables
  narrow =
      narrow_tables one g root doc pack.tables least.completion.needs.can.weighed
      least.tables.are_tables

  closed : AreClosedTables g root (lists_of doc) pack.tables
  closed = accepted.passes why.Closure

  pub verifiable : IsVerifiable root g doc pack
  verifiable = record {
    text = record {
      are_lines = pack_lines g root doc (omega (arith, small)) pack least.completion.needs.light
          (numbers pack.marks
          (few_marks g root doc pack.total pack.marks pack.body small least.completion)) closed
          narrow;
      spelled = refl;
    };
    narrow = narrow;
    accepted = accepted;
  }
