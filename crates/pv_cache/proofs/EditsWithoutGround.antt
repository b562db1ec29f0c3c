-- An edit that has no ground to be refused on is accepted.
use Rattle.std.proofs.Common.{Bool, IsTrue, List, None, Option, Some, [], ap, arith, false, inl}
use Rattle.std.proofs.Common.{inr, length, refl, subst, suc, sym, true, ℕ, ◌*◌, ◌++◌, ◌<◌, ◌≤◌, ◌∙◌}
use Rattle.std.proofs.Common.{◌∷◌, ◌≡◌, ◌⊎◌}
use Rattle.std.proofs.Math.Logic.{∥∥₁_elim, ∥∥₁_map}
use Rattle.std.proofs.lemmas.Bool.{cases_lt}
use Rattle.std.specs.List.{AllByRecursion, between}
use Rattle.pv_dtd.specs.Plain.{PlainDtd}
use Rattle.pv_edit.specs.BroughtElements.{brings_element, lists_changed}
use Rattle.pv_edit.specs.ChangedLists.{changed_lists, makes}
use Rattle.pv_edit.specs.Changes.{Change, doc_after, in_place_of, list_after}
use Rattle.pv_edit.specs.Effects.{change_of}
use Rattle.pv_edit.specs.Laws.{EditsAreChanges, EditsChangeLists, IsMadeBy}
use Rattle.pv_edit.specs.Reasons.{Outcome, edit_outcome, gives, is_top, kids_at, refuses}
use Rattle.pv_edit.specs.declared.answers.EditAnswer.{EditAnswer}
use Rattle.pv_edit.specs.declared.answers.EditAnswer.TheVariants.{Impossible, Limit, NoMemory}
use Rattle.pv_edit.specs.declared.edits.Edit.{Edit}
use Rattle.pv_edit.proofs.ListsKeptByUndo.{can-made}
use Rattle.pv_edit.proofs.Levels.{forest-trees}
use Rattle.pv_edit.proofs.DocumentAsElement.{Made, owner-kids}
use Rattle.pv_missing.specs.Verdicts.{AreVerdicts, IsVerdict, is_impossible}
use Rattle.pv_missing.specs.Widths.{FitsVerdict, columns_of}
use Rattle.pv_missing.proofs.Counts.{same_counts, same_verdicts}
use Rattle.pv_tree.specs.Lists.{Listed, Owner, an_element, lists_of}
use Rattle.pv_tree.specs.Marks.{blank_mark, unmarked_doc}
use Rattle.pv_tree.specs.Places.{list_at}
use Rattle.pv_tree.specs.Plain.{Forest, PlainDoc, Tree, cdata_node, element, forest_of, is_element}
use Rattle.pv_tree.specs.Plain.{misc_node, nodes_in, text_node, trees_of, without_marks}
use Rattle.pv_tree.specs.Words.{word_of}
use Rattle.pv_tree.specs.declared.nodes.Mark.{Mark}
use Rattle.pv_tree.specs.declared.nodes.Verdict.{Verdict}
use Rattle.pv_tree.specs.declared.nodes.Verdict.TheVariants as verdict
use Rattle.pv_cache.specs.AcceptedEdits.{HaveBoth, IsAccepted, IsHoldable, IsNarrowAt}
use Rattle.pv_cache.specs.AcceptedEdits.{IsWithinLimits}
use Rattle.pv_cache.specs.AcceptedEdits.{MAX_EDITED_NODES}
use Rattle.pv_cache.specs.BadLists.{bad_gained, bad_lost, own_inner}
use Rattle.pv_cache.specs.VerdictsAfterChange.{AreJudged, IsFirstAmong, IsFirstImpossibleAt}
use Rattle.pv_cache.specs.VerdictsAfterChange.{IsInnerJudged}
use Rattle.pv_cache.specs.VerdictsAfterChange.{IsJudged, inner_first, outer_first, owner_at}
use Rattle.pv_cache.specs.MarkedTasks.{AreNarrowAfter}
use Rattle.pv_cache.specs.GroundLaws.{AcceptedExactlyWithoutGround}
use Rattle.pv_cache.specs.LaidMarks.{lay_doc}
use Rattle.pv_cache.specs.Moves.{HasGround}
use Rattle.pv_cache.specs.Stamps.{doc_as}
use Rattle.pv_cache.specs.WellMarked.{IsWellMarked, own_bad}
use Rattle.pv_cache.specs.declared.updates.InnerVerdict.{InnerVerdict}
use Rattle.pv_cache.proofs.RemarkedDocuments.{applied_as, first_at_from, first_at_to, outcome_as}
use Rattle.pv_cache.proofs.RemarkedDocuments.{unmarked_as}
use Rattle.pv_cache.proofs.RemarkedDocuments.{within_from, within_to}
use Rattle.pv_cache.proofs.FirstChangedList.{first-is-first, owner_here, owner_stays}
use Rattle.pv_cache.proofs.Grounds.{gets_no_worse}
use Rattle.pv_cache.proofs.LaidDocuments.{doc_marked, laid_same}
use Rattle.pv_cache.proofs.Limits.{brought, came_stands, inner_stands, list_stands, paths_narrow}
use Rattle.pv_cache.proofs.ListMarks.{all_narrow_to}
use Rattle.pv_cache.proofs.ListPlaces.{had_at}
use Rattle.pv_cache.proofs.OneGround.{no_ground, not_worse}

too_much : (a b : ℕ) → a < b → b ≤ a → ⊥
too_much a b l h = absurd (omega arith)

-- ---- whether the changed lists are narrow
module _ {M : Type 0} (g : PlainDtd) (doc : PlainDoc M) where
  abbrev size : List (Tree M) → ℕ
  size ts = suc (length (word_of g (forest_of ts))) * columns_of g

  narrow_or : (path : List ℕ) → IsNarrowAt g doc path ⊎ (IsNarrowAt g doc path → ⊥)
  narrow_or path = by (list_at path doc.root) refl
    where
      by : (o : Option (List (Tree M))) → list_at path doc.root ≡ o →
          IsNarrowAt g doc path ⊎ (IsNarrowAt g doc path → ⊥)
      by None e = inl (λ kids k. absurd cc)
      by (Some ts) e =
          elim (cases_lt 67108864 (size ts)) [
            | inl lt ↦ inr (λ h. too_much 67108864 (size ts) lt (h ts e))
            | inr le ↦
                inl (λ kids k. let same : ts ≡ kids = cc in
                subst (λ (us : List (Tree M)).
                FitsVerdict g (length (word_of g (forest_of us)))) same le)
          ]

  all_narrow_or : (paths : List (List ℕ)) → AllByRecursion (IsNarrowAt g doc) paths ⊎
      (AllByRecursion (IsNarrowAt g doc) paths → ⊥)
  all_narrow_or [] = inl tt
  all_narrow_or (path ∷ paths) =
      elim (narrow_or path) [
        | inl n ↦
            elim (all_narrow_or paths) [
              | inl all ↦ inl (n, all)
              | inr not ↦ inr (λ h. not h.1)
            ]
        | inr not ↦ inr (λ h. not h.0)
      ]

-- ---- the verdict of the list at a path
module _ {M : Type 0} (g : PlainDtd) (root : List ℕ) where
  abbrev HasVerdict : Listed M → Type 0
  HasVerdict list = (v : Verdict) × IsVerdict g root list v

  all_have : (lists : List (Listed M)) (vs : List Verdict) → AreVerdicts g root lists vs →
      AllByRecursion HasVerdict lists
  all_have [] vs a = tt
  all_have (list ∷ lists) vs (v, rest, e, j, a) = ((v, j), all_have lists rest a)

  verdict_at : (doc : PlainDoc M) (vs : List Verdict) → AreVerdicts g root (lists_of doc) vs →
      (path : List ℕ) (kids : List (Tree M)) → list_at path doc.root ≡ Some kids →
      (v : Verdict) ×
      IsVerdict g root (record {
        path = path;
        owner = owner_at path doc.root;
        kids = forest_of kids;
      }) v
  verdict_at doc vs a path kids l = had_at HasVerdict doc path kids l (all_have (lists_of doc) vs a)

-- ---- the first of the changed lists that is Impossible
inner_among : (list : List ℕ) (v : Verdict) (i : Option InnerVerdict) → own_bad v ≡ 0 →
    (v ≡ verdict.Impossible → ⊥) → 0 < own_inner i → (path : List ℕ) × IsFirstAmong list v i path
inner_among list v None z n more = absurd (omega arith)
inner_among list v (Some i) z n more = by i.verdict refl
  where
    by : (w : Verdict) → i.verdict ≡ w → (path : List ℕ) × IsFirstAmong list v (Some i) path
    by verdict.Valid e = let none : own_bad i.verdict ≡ 0 = ap own_bad e in absurd (omega arith)
    by verdict.Possible e = let none : own_bad i.verdict ≡ 0 = ap own_bad e in absurd (omega arith)
    by verdict.Impossible e = (list ++ i.place ∷ [], inner_first i n refl e refl)

first_among : (list : List ℕ) (v : Verdict) (i : Option InnerVerdict) → 0 < bad_gained v i →
    (path : List ℕ) × IsFirstAmong list v i path
first_among list verdict.Valid i more =
    inner_among list verdict.Valid i refl (λ e. absurd cc) (omega arith)
first_among list verdict.Possible i more =
    inner_among list verdict.Possible i refl (λ e. absurd cc) (omega arith)
first_among list verdict.Impossible i more = (list, outer_first refl refl)

-- ---- the verdicts of the lists that a change changes
module _ (g : PlainDtd) (root : List ℕ) (doc : PlainDoc Mark) (c : Change Mark)
    (made : PlainDoc Mark) (m : IsMadeBy c doc made) (vs : List Verdict)
    (are : AreVerdicts g root (lists_of (doc_after c doc)) vs)
    (narrow : AreNarrowAfter g c (kids_at c.list doc.root)) (ts : List (Tree Mark))
    (d : Made doc.mark c.list c doc.root ts) where
  abbrev after : PlainDoc Mark
  after = doc_after c doc

  same_kids : kids_at c.list doc.root ≡ ts
  same_kids = owner-kids d.owner

  abbrev Outer : Type 0
  Outer = (v : Verdict) × IsJudged g root (owner_at c.list doc.root) (forest_of (list_after c ts)) v

  outer : Outer
  outer =
      let found =
      verdict_at g root after vs are c.list (list_after c ts)
      (list_stands doc.mark c.list c doc.root ts d) in
      let owner = owner_stays doc.mark c.list c doc.root ts d in
      let fits = rw same_kids at narrow.outer in (
        found.0,
        record {
          judged =
              subst (λ (o : Owner).
              IsVerdict g root (record { path = []; owner = o; kids = forest_of (list_after c ts) })
              found.0) owner found.1;
          narrow = fits;
        },
      )

  abbrev Inner : Option InnerVerdict → Type 0
  Inner i = IsInnerJudged g root c (in_place_of c.filling (between c.from c.to ts)) i

  inner_by : (b : Bool) → brings_element c.filling ≡ b → (i : Option InnerVerdict) × Inner i
  inner_by false e = (None, e)
  inner_by true e =
      let o = brought c.filling (between c.from c.to ts) m.bare d.fits e in
      let path = c.list ++ c.from ∷ [] in
      let stands =
      inner_stands doc.mark c.list c doc.root ts d o.name o.attrs o.ending o.kids o.mark o.is_one in
      let spot =
      came_stands doc.mark c.list c doc.root ts d o.name o.attrs o.ending o.kids o.mark o.is_one in
      let owner = owner_here path after.root o.name o.attrs o.ending o.kids o.mark spot in
      let found = verdict_at g root after vs are path (trees_of o.kids) stands in
      let judged =
      subst (λ (k : Forest Mark).
      IsVerdict g root (record { path = []; owner = an_element o.name; kids = k }) found.0)
      (forest-trees o.kids)
      (subst (λ (w : Owner).
      IsVerdict g root (record { path = []; owner = w; kids = forest_of (trees_of o.kids) })
      found.0) owner found.1) in
      let fits =
      (rw same_kids at narrow.inner) e o.name o.attrs o.ending o.kids o.mark o.is_one in (
        Some (record { place = c.from; verdict = found.0 }),
        (
          e,
          refl,
          record {
            name = o.name;
            attrs = o.attrs;
            ending = o.ending;
            kids = o.kids;
            mark = o.mark;
            is_one = o.is_one;
            list = record { judged = judged; narrow = fits };
          },
        ),
      )

  abbrev Judged : Type 0
  Judged =
      (v : Verdict) × (i : Option InnerVerdict) ×
      AreJudged g root (owner_at c.list doc.root) (kids_at c.list doc.root) c v i

  all_judged : Judged
  all_judged =
      let i = inner_by (brings_element c.filling) refl in (
        outer.0,
        i.0,
        subst (λ (us : List (Tree Mark)).
            AreJudged g root (owner_at c.list doc.root) us c outer.0 i.0) (sym same_kids)
            (record { outer = outer.1; within = i.1 }),
      )

-- ---- a document that is laid out
bare_element : {M : Type 0} (t : Tree M) → is_element (without_marks t) ≡ is_element t
bare_element (element x a e ks m) = refl
bare_element (text_node us) = refl
bare_element (cdata_node b) = refl
bare_element (misc_node b) = refl

given_from : {M : Type 0} (o : Outcome M) (d : PlainDoc Unit) → outcome_as (λ _. tt) o ≡ gives d →
    (x : PlainDoc M) × (o ≡ gives x) × (unmarked_doc x ≡ d)
given_from (gives x) d e = (x, refl, cc)
given_from (refuses reason) d e = absurd cc

module _ {M : Type 0} (g : PlainDtd) (root : List ℕ) (doc edited : PlainDoc M) (blank : M)
    (edit : Edit) (before after : ℕ) (changes : EditsAreChanges Mark)
    (lists : EditsChangeLists Mark) (elem : IsTrue (is_element doc.root))
    (holdable : IsHoldable g doc) (given : edit_outcome blank doc edit ≡ gives edited)
    (within : IsWithinLimits g edited (changed_lists (makes edit)))
    (both : HaveBoth g root doc edited before after) (more : before < after) where
  abbrev with_blanks : PlainDoc Mark
  with_blanks = doc_as (λ _. blank_mark) doc

  abbrev laid : PlainDoc Mark
  laid = lay_doc both.had.verdicts with_blanks

  same : unmarked_doc laid ≡ unmarked_doc doc
  same = laid_same both.had.verdicts with_blanks ∙ unmarked_as (λ _. blank_mark) doc

  marked : IsWellMarked g root laid
  marked =
      doc_marked g root both.had.verdicts with_blanks
      (same_verdicts M Mark g root doc with_blanks both.had.verdicts
      (sym (unmarked_as (λ _. blank_mark) doc)) both.had.are_verdicts)
      (all_narrow_to (λ _. blank_mark) doc g holdable.narrow)

  laid_given : (x : PlainDoc Mark) × (edit_outcome blank_mark laid edit ≡ gives x) ×
      (unmarked_doc x ≡ unmarked_doc edited)
  laid_given =
      given_from (edit_outcome blank_mark laid edit) (unmarked_doc edited)
      (sym (applied_as (λ _. tt) blank_mark laid edit)
      ∙ ap (λ (d : PlainDoc Unit). edit_outcome tt d edit) same
      ∙ applied_as (λ _. tt) blank doc edit ∙ ap (outcome_as (λ _. tt)) given)

  abbrev c : Change Mark
  c = change_of blank_mark laid.root edit

  laid_element : IsTrue (is_element laid.root)
  laid_element =
      sym (bare_element laid.root) ∙ ap (λ (d : PlainDoc Unit). is_element d.root) same
      ∙ bare_element doc.root ∙ elem

  made : IsMadeBy c laid laid_given.0
  made = changes blank_mark laid laid_given.0 edit laid_element laid_given.1

  same_lists : lists_changed c ≡ changed_lists (makes edit)
  same_lists = lists blank_mark laid laid_given.0 edit laid_given.1

  same_after : unmarked_doc edited ≡ unmarked_doc (doc_after c laid)
  same_after = sym (ap unmarked_doc made.is_made ∙ laid_given.2)

  unshort : is_top c.list ≡ true → c.shorten ≡ false
  unshort h = made.unshort

  d : (ts : List (Tree Mark)) × Made laid.mark c.list c laid.root ts
  d = can-made laid.mark c.list c laid.root made.can unshort

  narrow : AreNarrowAfter g c (kids_at c.list laid.root)
  narrow =
      let bare =
      subst (λ (e : PlainDoc Unit). IsWithinLimits g e (changed_lists (makes edit))) same_after
      (within_to (λ _. tt) edited g root (changed_lists (makes edit)) within) in
      let at = within_from (λ _. tt) (doc_after c laid) g root (changed_lists (makes edit)) bare in
      paths_narrow g laid c made.bare d.0 d.1
      (subst (AllByRecursion (IsNarrowAt g (doc_after c laid))) (sym same_lists) at.narrow)

  judged : (v : Verdict) × (i : Option InnerVerdict) ×
      AreJudged g root (owner_at c.list laid.root) (kids_at c.list laid.root) c v i
  judged =
      all_judged g root laid c laid_given.0 made both.has.verdicts
      (same_verdicts M Mark g root edited (doc_after c laid) both.has.verdicts same_after
      both.has.are_verdicts) narrow d.0 d.1

  -- as many are Impossible
  laid_both : HaveBoth g root laid (doc_after c laid) before after
  laid_both =
      record {
        had = same_counts M Mark is_impossible g root doc laid before (sym same) both.had;
        has =
            same_counts M Mark is_impossible g root edited (doc_after c laid) after
            same_after both.has;
      }

  gained : bad_lost c laid < bad_gained judged.0 judged.1
  gained = by (cases_lt (bad_lost c laid) (bad_gained judged.0 judged.1))
    where
      by : (bad_lost c laid < bad_gained judged.0 judged.1) ⊎
          (bad_gained judged.0 judged.1 ≤ bad_lost c laid) →
          bad_lost c laid < bad_gained judged.0 judged.1
      by (inl lt) = lt
      by (inr le) =
          absurd (∥∥₁_elim
          (gets_no_worse g root laid c made.can unshort made.bare judged.0 judged.1 judged.2 le
          ∣ marked ∣₁) (λ x. absurd x) (λ n.
          not_worse g root laid (doc_after c laid) n (before, after, laid_both, more)))

  -- a changed list is Impossible
  pub first_is : (path : List ℕ) ×
      IsFirstImpossibleAt g root edited (changed_lists (makes edit)) path
  first_is =
      let more_than = gained in
      let among = first_among c.list judged.0 judged.1 (omega arith) in
      let first =
      first-is-first g root laid c judged.0 judged.1 among.0 made.can unshort made.bare
      judged.2 among.1 in
      let bare =
      first_at_to (λ _. tt) (doc_after c laid) g root (lists_changed c) among.0 first in (
        among.0,
        first_at_from (λ _. tt) edited g root (changed_lists (makes edit)) among.0
            (subst (λ (ls : List (List ℕ)).
            IsFirstImpossibleAt g root (unmarked_doc edited) ls among.0) same_lists
            (subst (λ (e : PlainDoc Unit). IsFirstImpossibleAt g root e (lists_changed c) among.0)
            (sym same_after) bare)),
      )

module _ {M : Type 0} (changes : EditsAreChanges Mark) (lists : EditsChangeLists Mark) (blank : M)
    (g : PlainDtd) (root : List ℕ) (doc edited : PlainDoc M) (edit : Edit) (before after : ℕ)
    (elem : IsTrue (is_element doc.root)) (holdable : IsHoldable g doc)
    (both : ∥ HaveBoth g root doc edited before after ∥₁) (given : edit_outcome blank doc edit
    ≡ gives edited) (none : (answer : EditAnswer) → HasGround blank g root doc edit answer →
    answer ≡ NoMemory) where
  abbrev Changed : List (List ℕ)
  Changed = changed_lists (makes edit)

  unlimited : (IsWithinLimits g edited Changed → ⊥) → ⊥
  unlimited n = let z : Limit ≡ NoMemory = none Limit (edited, given, n) in absurd cc

  few : (MAX_EDITED_NODES < nodes_in edited.root) ⊎ (nodes_in edited.root ≤ MAX_EDITED_NODES) →
      nodes_in edited.root ≤ MAX_EDITED_NODES
  few (inl lt) = absurd (unlimited (λ w. too_much MAX_EDITED_NODES (nodes_in edited.root) lt w.few))
  few (inr le) = le

  narrow_by : AllByRecursion (IsNarrowAt g edited) Changed ⊎
      (AllByRecursion (IsNarrowAt g edited) Changed → ⊥) →
      AllByRecursion (IsNarrowAt g edited) Changed
  narrow_by (inl all) = all
  narrow_by (inr not) = absurd (unlimited (λ w. not w.narrow))

  are_within : IsWithinLimits g edited Changed
  are_within =
      record {
        few = few (cases_lt MAX_EDITED_NODES (nodes_in edited.root));
        narrow = narrow_by (all_narrow_or g edited Changed);
      }

  not_more : (before < after) ⊎ (after ≤ before) → after ≤ before
  not_more (inr le) = le
  not_more (inl lt) =
      absurd (∥∥₁_elim both (λ x. absurd x) (λ (b : HaveBoth g root doc edited before after).
      let first =
      first_is g root doc edited blank edit before after changes lists elem holdable given
      are_within b lt in
      let z : Impossible first.0 ≡ NoMemory =
      none (Impossible first.0)
      (edited, given, are_within, ∣ (before, after, b, lt) ∣₁, ∣ first.1 ∣₁) in
      absurd cc))

  accepted_then : IsAccepted blank g root doc edit edited
  accepted_then =
      record {
        is_edited = given;
        within = are_within;
        no_worse = ∥∥₁_map both (λ b. (before, after, b, not_more (cases_lt before after)));
      }

pub exactly_without : (M : Type 0) → EditsAreChanges Mark → EditsChangeLists Mark →
    AcceptedExactlyWithoutGround M
exactly_without M changes lists blank g root doc edited edit before after elem held both given = (
  λ a answer h. no_ground blank g root doc edit edited answer a h,
  λ none.
      accepted_then changes lists blank g root doc edited edit before after elem held both
      given none,
)
