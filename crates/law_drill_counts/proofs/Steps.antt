-- What the lines for a section do in a session.
use Rattle.std.specs.Prelude.{codes}
use Rattle.std.proofs.Common.{List, None, Some, [], ap, arith, length, refl, suc, sym, true, ℕ, ◌++◌, ◌+◌, ◌∙◌, ◌∷◌, ◌≡◌, ◌≤◌}
use Rattle.std.proofs.Math.Logic.{∥∥₁_elim}
use Rattle.std.specs.Prelude.{◌↔◌}
use Rattle.std.proofs.lemmas.List.{length-append, same_from_push}
use Rattle.pv_cache.proofs.OtherMarks.{nodes_unmarked}
use Rattle.pv_cache.specs.AcceptedEdits.{GetsNoWorse, GetsWorse, IsWithinLimits}
use Rattle.pv_chars.specs.Names.{is_name}
use Rattle.pv_chars.proofs.NameLemmas.{is_name-IsName}
use Rattle.pv_conversation.specs.Session.{done_of, reply_to}
use Rattle.pv_edit.proofs.InverseLeads.{given-doc}
use Rattle.pv_edit.proofs.RemarkedReasons.{marks-dont-count}
use Rattle.pv_edit.specs.ChangedLists.{changed_lists, makes, undoes}
use Rattle.pv_edit.specs.Laws.{unmarked_outcome}
use Rattle.pv_edit.specs.Reasons.{edit_outcome, gives, refuses}
use Rattle.pv_edit.specs.declared.answers.EditAnswer.TheVariants as refusal
use Rattle.pv_edit.specs.declared.edits.Edit.{Edit}
use Rattle.pv_edit.specs.declared.reasons.Reason.{Reason}
use Rattle.pv_missing.specs.Completions.{IsPotentiallyValid}
use Rattle.pv_missing.specs.Proper.{IsProperDoc}
use Rattle.pv_missing.specs.VerdictLaws.{NoneImpossible}
use Rattle.pv_missing.specs.Verdicts.{HaveImpossible, is_impossible as impossible_verdict}
use Rattle.pv_missing.proofs.Counts.{same_counts}
use Rattle.law_missing.proofs.Sections.{proper_sections}
use Rattle.law_missing.specs.Dtds.{sections_dtd}
use Rattle.pv_session.proofs.StampsAlone.{stamped_same, unmarked_bare}
use Rattle.pv_session.proofs.Ways.{one_replay, replays_more}
use Rattle.pv_session.proofs.Steps.{not_empty}
use Rattle.pv_session.specs.Sessions.{PlainSession, Replays, next_move}
use Rattle.pv_session.specs.Steps.{IsEditStep, IsUndoStep, PlainAnswer, accepted, is_done, is_impossible, no_past, refused, undone}
use Rattle.pv_tree.specs.Lists.{lists_of}
use Rattle.pv_tree.specs.Marks.{unmarked_doc}
use Rattle.pv_tree.specs.Plain.{PlainDoc, Tree, nodes_in}
use Rattle.pv_tree.specs.View.{view}
use Rattle.law_drill_tree.proofs.DtdText.{br_named, p_named}
use Rattle.law_drill_tree.proofs.Sections.{trees-join}
use Rattle.law_drill_tree.proofs.Verdicts.{br_impossible, br_proper, doc_possible, proper_doc}
use Rattle.law_drill_tree.proofs.WrappedSections.{nodes_around, wrap_made}
use Rattle.law_drill_tree.specs.Sections.{Section, bare, bare_section, drill_doc, root_tree, trees, with_around, section_wrap, wrapped}
use Rattle.law_drill_counts.proofs.Limits.{within_limits}

-- a session on the document of a drill with these sections
pub record At (ts : List (Tree Unit)) (s : PlainSession) : Type 0 where
  pub is_dtd : s.dtd ≡ sections_dtd
  pub is_root : s.root ≡ codes "doc"
  pub is_doc : unmarked_doc s.doc ≡ drill_doc ts
  pub replays : Replays s.opened s.past (unmarked_doc s.doc)

moved_replays : (a other : PlainDoc Unit) (b more : List Edit) (c last : PlainDoc Unit) → other ≡ a → more ≡ b → last ≡ c → Replays a b c → Replays other more last
moved_replays a other b more c last e f h r = rw (e, f, h) r

-- an edit of a document with stamps
unmarked_made : (doc : PlainDoc ℕ) (edit : Edit) (d e : PlainDoc Unit) → unmarked_doc doc ≡ d → edit_outcome tt d edit ≡ gives e → unmarked_outcome (edit_outcome 0 doc edit) ≡ gives e
unmarked_made doc edit d e is made = sym (marks-dont-count ℕ 0 doc edit).0 ∙ ap (λ x. edit_outcome tt x edit) is ∙ made

made_same : (doc edited : PlainDoc ℕ) (edit : Edit) (d e : PlainDoc Unit) → unmarked_doc doc ≡ d → edit_outcome tt d edit ≡ gives e → edit_outcome 0 doc edit ≡ gives edited → unmarked_doc edited ≡ e
made_same doc edited edit d e is made given = given-doc None (unmarked_doc edited) e (ap unmarked_outcome (sym given) ∙ unmarked_made doc edit d e is made)

not_refused : (doc : PlainDoc ℕ) (edit : Edit) (d e : PlainDoc Unit) (reason : Reason) → unmarked_doc doc ≡ d → edit_outcome tt d edit ≡ gives e → edit_outcome 0 doc edit ≡ refuses reason → ⊥
not_refused doc edit d e reason is made given =
    let both : refuses reason ≡ gives e = ap unmarked_outcome (sym given) ∙ unmarked_made doc edit d e is made in cc

-- no list of a document that can be made valid is Impossible, and where none is, it can
no_bad : NoneImpossible Unit → (doc : PlainDoc ℕ) (ts : List (Tree Unit)) →
    unmarked_doc doc ≡ drill_doc ts → IsProperDoc (drill_doc ts) → (n : ℕ) →
    HaveImpossible sections_dtd (codes "doc") (lists_of doc) n →
    IsPotentiallyValid sections_dtd (codes "doc") (view (root_tree ts)) ↔ (n ≡ 0)
no_bad none doc ts is proper n h =
    let bare = same_counts ℕ Unit impossible_verdict sections_dtd (codes "doc") doc (drill_doc ts) n (is ∙ sym (unmarked_bare (drill_doc ts))) h in
    let by = none sections_dtd (codes "doc") (drill_doc ts) bare.verdicts proper_sections proper bare.are_verdicts in
    ((λ v. bare.count ∙ by.0 v), (λ z. by.1 (sym bare.count ∙ z)))

same_nodes : (doc : PlainDoc ℕ) (d : PlainDoc Unit) → unmarked_doc doc ≡ d → nodes_in doc.root ≡ nodes_in d.root
same_nodes doc d e = sym (nodes_unmarked doc.root) ∙ ap (λ (x : PlainDoc Unit). nodes_in x.root) e

-- what is done where an edit is made that changes two lists
pub record Made (ts : List (Tree Unit)) (edit : Edit) (s after : PlainSession) (answer : PlainAnswer) : Type 0 where
  pub at : At ts after
  pub opened : after.opened ≡ s.opened
  pub past : after.past ≡ s.past ++ edit ∷ []
  pub left : ℕ
  pub bad : ℕ
  pub is_answer : answer ≡ is_done 2 left bad

module _ (none : NoneImpossible Unit) (front back : List Section) (k i : ℕ) (place : length front ≡ i) (few : length front + length back ≤ 20000) (s : PlainSession)
    (h : At (trees front ++ bare_section k ∷ trees back) s) where
  -- the document with the text of the section in an element, which is made
  made_around : (name : List ℕ) → is_name name ≡ true →
      edit_outcome tt (drill_doc (trees front ++ bare_section k ∷ trees back))
      (section_wrap (suc i) name) ≡ gives (drill_doc (with_around name front k back))
  made_around name named = wrap_made name front back k i place named

  is_around : (name : List ℕ) → is_name name ≡ true → (edited : PlainDoc ℕ) →
      edit_outcome 0 s.doc (section_wrap (suc i) name) ≡ gives edited →
      unmarked_doc edited ≡ drill_doc (with_around name front k back)
  is_around name named edited given = made_same s.doc edited (section_wrap (suc i) name) _ _ h.is_doc (made_around name named) given

  around_within : (name : List ℕ) (edited : PlainDoc ℕ) → unmarked_doc edited ≡ drill_doc (with_around name front k back) → (paths : List (List ℕ)) → IsWithinLimits s.dtd edited paths
  around_within name edited is paths =
      let nodes = same_nodes edited _ is in
      rw h.is_dtd (within_limits edited (omega (arith, nodes, nodes_around name front k back)) paths)

  -- the document can be made valid before
  here_possible : IsPotentiallyValid sections_dtd (codes "doc") (view (root_tree (trees front ++ bare_section k ∷ trees back)))
  here_possible = rw (trees-join front (bare k ∷ back)) at (doc_possible (front ++ bare k ∷ back) (omega (arith, length-append front (bare k ∷ back))))

  here_proper : IsProperDoc (drill_doc (trees front ++ bare_section k ∷ trees back))
  here_proper = rw (trees-join front (bare k ∷ back)) at (proper_doc (front ++ bare k ∷ back))

  -- more lists are Impossible with a text in a br
  br_worse : (edited : PlainDoc ℕ) → unmarked_doc edited ≡ drill_doc (with_around (codes "br") front k back) → GetsNoWorse s.dtd s.root s.doc edited → ⊥
  br_worse edited is (m, n, both, le) =
      let had : HaveImpossible sections_dtd (codes "doc") (lists_of s.doc) m = rw (h.is_dtd, h.is_root) at both.had in
      let has : HaveImpossible sections_dtd (codes "doc") (lists_of edited) n = rw (h.is_dtd, h.is_root) at both.has in
      let no_bad_before = (no_bad none s.doc _ h.is_doc here_proper m had).0 here_possible in
      br_impossible front k back ((no_bad none edited _ is (br_proper front k back) n has).1 (omega arith))

  pub br_refused : (after : PlainSession) (answer : PlainAnswer) → IsEditStep s (section_wrap (suc i) (codes "br")) answer after → (after ≡ s) × (done_of (reply_to answer) ≡ None)
  br_refused after answer (accepted edited left bad acc is has also ans) =
      let here = is_around (codes "br") (is_name-IsName (codes "br") br_named) edited acc.is_edited in
      absurd (∥∥₁_elim acc.no_worse (λ a b. absurd a) (br_worse edited here))
  br_refused after answer (refused (refusal.Shape reason) given told is) =
      absurd (not_refused s.doc (section_wrap (suc i) (codes "br")) _ _ reason h.is_doc (made_around (codes "br") (is_name-IsName (codes "br") br_named)) given)
  br_refused after answer (refused refusal.Limit (edited, given, beyond) told is) =
      absurd (beyond (around_within (codes "br") edited (is_around (codes "br") (is_name-IsName (codes "br") br_named) edited given) _))
  br_refused after answer (refused (refusal.Impossible path) h told is) =
      let ans : answer ≡ is_impossible path = (let z : Some (is_impossible path) ≡ Some answer = told in cc) in (is, rw ans refl)
  br_refused after answer (refused refusal.NoMemory h told is) = let z : None ≡ Some answer = told in absurd cc

  p_possible : IsPotentiallyValid sections_dtd (codes "doc") (view (root_tree (with_around (codes "p") front k back)))
  p_possible = rw (trees-join front (wrapped k ∷ back)) at (doc_possible (front ++ wrapped k ∷ back) (omega (arith, length-append front (wrapped k ∷ back))))

  p_proper : IsProperDoc (drill_doc (with_around (codes "p") front k back))
  p_proper = rw (trees-join front (wrapped k ∷ back)) at (proper_doc (front ++ wrapped k ∷ back))

  p_no_worse : (edited : PlainDoc ℕ) → unmarked_doc edited ≡ drill_doc (with_around (codes "p") front k back) → GetsWorse s.dtd s.root s.doc edited → ⊥
  p_no_worse edited is (m, n, both, lt) =
      let has : HaveImpossible sections_dtd (codes "doc") (lists_of edited) n = rw (h.is_dtd, h.is_root) at both.has in
      let no_bad_after = (no_bad none edited _ is p_proper n has).0 p_possible in
      absurd (omega arith)

  pub p_made : (after : PlainSession) (answer : PlainAnswer) → IsEditStep s (section_wrap (suc i) (codes "p")) answer after →
      Made (with_around (codes "p") front k back) (section_wrap (suc i) (codes "p")) s after answer
  p_made after answer (accepted edited left bad acc is has also ans) =
      let edit = section_wrap (suc i) (codes "p") in
      let same = is_around (codes "p") (is_name-IsName (codes "p") p_named) edited acc.is_edited in
      let stamped = ap (λ (t : PlainSession). unmarked_doc t.doc) is ∙ stamped_same (next_move s.moves) (changed_lists (makes edit)) edited in
      let made : edit_outcome tt (unmarked_doc s.doc) edit
      ≡ gives (drill_doc (with_around (codes "p") front k back)) =
      ap (λ x. edit_outcome tt x edit) h.is_doc ∙ made_around (codes "p")
      (is_name-IsName (codes "p") p_named) in
      let opened = ap (λ (t : PlainSession). t.opened) is in
      let past = ap (λ (t : PlainSession). t.past) is in
      record {
        at = record {
          is_dtd = ap (λ (t : PlainSession). t.dtd) is ∙ h.is_dtd;
          is_root = ap (λ (t : PlainSession). t.root) is ∙ h.is_root;
          is_doc = stamped ∙ same;
          replays = moved_replays s.opened after.opened (s.past ++ edit ∷ []) after.past (drill_doc (with_around (codes "p") front k back)) (unmarked_doc after.doc) opened past (stamped ∙ same)
              (replays_more s.opened (unmarked_doc s.doc) (drill_doc (with_around (codes "p") front k back)) s.past edit h.replays made);
        };
        opened = opened;
        past = past;
        left = left;
        bad = bad;
        is_answer = ans;
      }
  p_made after answer (refused (refusal.Shape reason) given told is) =
      absurd (not_refused s.doc (section_wrap (suc i) (codes "p")) _ _ reason h.is_doc (made_around (codes "p") (is_name-IsName (codes "p") p_named)) given)
  p_made after answer (refused refusal.Limit (edited, given, beyond) told is) =
      absurd (beyond (around_within (codes "p") edited (is_around (codes "p") (is_name-IsName (codes "p") p_named) edited given) _))
  p_made after answer (refused (refusal.Impossible path) (edited, given, within, worse, first) told is) =
      let here = is_around (codes "p") (is_name-IsName (codes "p") p_named) edited given in
      absurd (∥∥₁_elim worse (λ x. absurd x) (p_no_worse edited here))
  p_made after answer (refused refusal.NoMemory none told is) = let z : None ≡ Some answer = told in absurd cc

-- The edit that was made last is undone.
pub undone_at : (ts now : List (Tree Unit)) (edit : Edit) (s w after : PlainSession)
    (answer made : PlainAnswer) → length (changed_lists (undoes edit)) ≡ 1 → At ts s →
    Made now edit s w made → IsUndoStep w answer after →
    At ts after × ((left : ℕ) × (bad : ℕ) × (answer ≡ is_done 1 left bad))
undone_at ts now edit s w after answer made one h m (undone other past doc left bad e replays same is has also ans) =
    let last = same_from_push past s.past other edit (sym e ∙ m.past) in
    let there = moved_replays w.opened s.opened past s.past doc doc (sym m.opened) (sym last.0) refl replays in
    let docs = one_replay s.opened doc (unmarked_doc s.doc) s.past there h.replays in
    let opened = ap (λ (t : PlainSession). t.opened) is ∙ m.opened in
    let before = ap (λ (t : PlainSession). t.past) is ∙ last.0 in (
      record {
        is_dtd = ap (λ (t : PlainSession). t.dtd) is ∙ m.at.is_dtd;
        is_root = ap (λ (t : PlainSession). t.root) is ∙ m.at.is_root;
        is_doc = same ∙ docs ∙ h.is_doc;
        replays = moved_replays s.opened after.opened s.past after.past (unmarked_doc s.doc) (unmarked_doc after.doc) opened before (same ∙ docs) h.replays;
      },
      (left, bad, ans ∙ ap (λ u. is_done (length (changed_lists (undoes u))) left bad) last.1 ∙ ap (λ n. is_done n left bad) one),
    )
undone_at ts now edit s w after answer made one h m (no_past e ans is) = absurd (not_empty s.past w.past edit m.past e)
