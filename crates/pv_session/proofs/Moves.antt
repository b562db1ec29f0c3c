-- What a session keeps after each move, and that the move is a step.
use Rattle.std.proofs.Common.{List, [], ap, refl, subst, sym, ◌++◌, ◌∙◌, ◌∷◌, ◌≡◌, ℕ}
use Rattle.std.specs.Prelude.{Err, None, Option, Some}
use Rattle.std.specs.Option.{MatchOption}
use Rattle.pv_cache.specs.AcceptedEdits.{IsAccepted, IsHoldable}
use Rattle.pv_cache.specs.MarkLaws.{HoldsByOtherMarks}
use Rattle.pv_cache.specs.Moves.{HasBad, HasGround, HasOpen, IsEdited, IsReverted}
use Rattle.pv_cache.specs.Stamps.{StampedDoc, doc_as, stamp_lists}
use Rattle.pv_edit.specs.ChangedLists.{changed_lists, makes, undoes}
use Rattle.pv_edit.specs.Inverses.{IsKept, LeadsBack, inverse_of, doc_back}
use Rattle.pv_edit.specs.Laws.{LeadsToOne}
use Rattle.pv_edit.specs.Reasons.{gives}
use Rattle.pv_edit.specs.declared.answers.Done.{Done}
use Rattle.pv_edit.specs.declared.answers.EditAnswer.{EditAnswer}
use Rattle.pv_edit.specs.declared.edits.Edit.{Edit}
use Rattle.pv_edit.specs.declared.inverses.Inverse.{Inverse}
use Rattle.pv_session.specs.Answers.{edit_answer}
use Rattle.pv_session.specs.SessionFacts.{IsEditMade, IsSession, KeepsWays, LeadsOn, LeadsTo}
use Rattle.pv_session.specs.SessionFacts.{opened_doc}
use Rattle.pv_session.specs.Sessions.{PlainSession, session_on, next_move, stamped_document}
use Rattle.pv_session.specs.Steps.{IsEditStep, IsRedoStep, IsUndoStep, PlainAnswer, accepted, behind_move, is_done, lacks_history, no_past, redone, refusal_of, refused, undone}
use Rattle.pv_session.proofs.LastItems.{HasLast, has_some}
use Rattle.pv_session.proofs.WaysToOpenedDocuments.{led_opened}
use Rattle.pv_session.proofs.StampsAlone.{begun_doc, begun_unmarked, stamped_same}
use Rattle.pv_session.proofs.Steps.{not_empty}
use Rattle.pv_session.proofs.Ways.{IsLast, IsNext, both_empty, empty_both, goes_back, last_edit, leads_more, leads_on_more, next_undone, replays, same_before}
use Rattle.pv_tree.specs.Marks.{unmarked_doc}
use Rattle.pv_dtd.specs.Plain.{PlainDtd}
use Rattle.pv_tree.specs.Plain.{PlainDoc}
use Rattle.pv_tree.specs.declared.nodes.Mark.{Mark}

-- a session of these parts
abbrev pub session_of : StampedDoc → List Edit → List Inverse → List Edit → ℕ → PlainSession
session_of m edits ways gone moves =
    record { dtd = m.dtd; root = m.root; opened = opened_doc ways (unmarked_doc m.doc); past = edits; undone = gone; moves = moves; doc = m.doc }

module _ (one : LeadsToOne Unit) (marks : HoldsByOtherMarks ℕ Unit) (m : StampedDoc)
    (edits : List Edit) (ways : List Inverse) (gone : List Edit) (moves : ℕ)
    (k : KeepsWays (session_of m edits ways gone moves) ways) where
  abbrev s : PlainSession
  s = session_of m edits ways gone moves

  abbrev now : PlainDoc Unit
  now = unmarked_doc m.doc

  pub is_session : IsSession s
  is_session =
      let steps = replays s.dtd s.root s.opened now edits ways k.past in
      record { replays = steps; holdable = k.holdable; kept = k.kept; same_before = sym (same_before s.opened now edits steps) }

  holdable_now : IsHoldable s.dtd now
  holdable_now = marks.holdable (λ _. tt) s.dtd m.doc k.holdable

  kept_now : IsKept now.root
  kept_now = marks.kept (λ _. tt) m.doc.root k.kept

  -- ---- an edit
  module _ (edit : Edit) (n : ℕ) (is_next : n ≡ next_move moves) (done : Done) (way : Inverse)
      (after : StampedDoc) (e : IsEdited m edit n done way after) (holdable : IsHoldable after.dtd
      after.doc) (kept : IsKept after.doc.root) where
    same_dtd : after.dtd ≡ m.dtd
    same_dtd = ap (λ (a : StampedDoc). a.dtd) e.is_after

    same_root : after.root ≡ m.root
    same_root = ap (λ (a : StampedDoc). a.root) e.is_after

    is_doc : after.doc ≡ stamp_lists n (changed_lists (makes edit)) e.edited
    is_doc = ap (λ (a : StampedDoc). a.doc) e.is_after

    abbrev later : PlainDoc Unit
    later = unmarked_doc after.doc

    is_later : later ≡ unmarked_doc e.edited
    is_later = ap unmarked_doc is_doc ∙ stamped_same n (changed_lists (makes edit)) e.edited

    made : IsEditMade s.dtd s.root now edit way later
    made = record {
      kept = kept_now;
      accepted = subst (IsAccepted tt s.dtd s.root now edit) (sym is_later) (marks.accepted (λ _. tt) 0 s.dtd s.root m.doc e.edited edit e.accepted);
      is_inverse = marks.inverse (λ _. tt) m.doc.root edit ∙ sym e.is_inverse;
    }

    longer : LeadsTo s.dtd s.root s.opened (edits ++ edit ∷ []) (ways ++ way ∷ []) later
    longer = leads_more s.dtd s.root s.opened now later edits ways edit way k.past holdable_now made

    still_opened : opened_doc (ways ++ way ∷ []) later ≡ s.opened
    still_opened = led_opened one s.dtd s.root s.opened later (edits ++ edit ∷ []) (ways ++ way ∷ []) longer

    -- the session after it
    module _ (past' undone' : List Edit) (ways' : List Inverse) (p : past' ≡ edits ++ edit ∷ []) (w : ways' ≡ ways ++ way ∷ []) where
      abbrev t : PlainSession
      t = session_of after past' ways' undone' n

      same_opened : t.opened ≡ s.opened
      same_opened = ap (λ (ws : List Inverse). opened_doc ws later) w ∙ still_opened

      leads_past : LeadsTo t.dtd t.root t.opened t.past ways' (unmarked_doc t.doc)
      leads_past = rw (same_opened, p, w, same_dtd, same_root) longer

      is_left : HasOpen (stamped_document t) done.left
      is_left = e.is_left

      is_bad : HasBad (stamped_document t) done.bad
      is_bad = e.is_bad

      keeps_with : (last : PlainDoc Unit) → LeadsOn t.dtd t.root (unmarked_doc t.doc) undone' last → KeepsWays t ways'
      keeps_with last on =
          record { holdable = holdable; kept = kept; past = leads_past; last = last; undone = on }

      -- whose parts are those of the session before it
      same_parts : (u : List Edit) → undone' ≡ u → t ≡ record s { past = edits ++ edit ∷ []; undone = u; moves = next_move moves; doc = behind_move s (changed_lists (makes edit)) e.edited }
      same_parts u is =
          let d : after.doc ≡ behind_move s (changed_lists (makes edit)) e.edited = is_doc ∙ ap (λ (i : ℕ). stamp_lists i (changed_lists (makes edit)) e.edited) is_next in
          let a = same_dtd in
          let b = same_root in
          let c = same_opened in
          cc

      module _ (u : undone' ≡ []) where
        pub edit_keeps : KeepsWays t ways'
        edit_keeps = keeps_with later (subst (λ (es : List Edit). LeadsOn t.dtd t.root later es later) (sym u) refl)

        pub edit_is_step : IsEditStep s edit (is_done done.checked done.left done.bad) t
        edit_is_step = accepted e.edited done.left done.bad e.accepted (same_parts [] u) is_left is_bad (ap (λ (i : ℕ). is_done i done.left done.bad) e.is_checked)

      -- ---- made again
      module _ (rest : List Edit) (o : gone ≡ rest ++ edit ∷ []) (u : undone' ≡ rest) where
        next : IsNext s.dtd s.root now rest edit k.last
        next = next_undone s.dtd s.root now k.last rest edit (subst (λ (es : List Edit). LeadsOn s.dtd s.root now es k.last) o k.undone)

        same_next : next.next ≡ later
        same_next = let n : gives next.next ≡ gives later = sym next.accepted.is_edited ∙ made.accepted.is_edited in cc

        pub redo_keeps : KeepsWays t ways'
        redo_keeps =
            let on : LeadsOn s.dtd s.root later rest k.last = subst (λ (d : PlainDoc Unit). LeadsOn s.dtd s.root d rest k.last) same_next next.leads in
            keeps_with k.last (rw (same_dtd, same_root, u) on)

        pub redo_is_step : IsRedoStep s (is_done done.checked done.left done.bad) t
        redo_is_step =
            redone edit rest e.edited done.left done.bad o e.accepted.is_edited (replays s.dtd s.root s.opened later (edits ++ edit ∷ []) (ways ++ way ∷ []) longer) (same_parts rest u) is_left is_bad
            (ap (λ (i : ℕ). is_done i done.left done.bad) e.is_checked)

  -- ---- an undo
  module _ (before : List Edit) (fewer : List Inverse) (edit : Edit) (way : Inverse) (e : edits ≡ before ++ edit ∷ []) (f : ways ≡ fewer ++ way ∷ []) where
    pub last_made : IsLast s.dtd s.root s.opened before fewer edit way now
    last_made =
        last_edit s.dtd s.root s.opened now before fewer edit way
        (subst (λ (ws : List Inverse). LeadsTo s.dtd s.root s.opened (before ++ edit ∷ []) ws now) f (subst (λ (es : List Edit). LeadsTo s.dtd s.root s.opened es ways now) e k.past))

    -- the way back leads back
    abbrev pub leads_back : LeadsBack way m.doc last_made.before
    leads_back = goes_back s.dtd s.root last_made.before edit way m.doc last_made.made

    pub holdable_before : IsHoldable s.dtd last_made.before
    holdable_before = last_made.holdable

    module _ (n : ℕ) (is_next : n ≡ next_move moves) (done : Done) (after : StampedDoc)
        (r : IsReverted m way edit last_made.before n done after) (holdable : IsHoldable after.dtd
        after.doc) (kept : IsKept after.doc.root) where
      back_dtd : after.dtd ≡ m.dtd
      back_dtd = ap (λ (a : StampedDoc). a.dtd) r.is_after

      back_root : after.root ≡ m.root
      back_root = ap (λ (a : StampedDoc). a.root) r.is_after

      back_doc : after.doc ≡ stamp_lists n (changed_lists (undoes edit)) (doc_back 0 m.doc way)
      back_doc = ap (λ (a : StampedDoc). a.doc) r.is_after

      shorter : LeadsTo s.dtd s.root s.opened before fewer (unmarked_doc after.doc)
      shorter = subst (LeadsTo s.dtd s.root s.opened before fewer) (sym r.led) last_made.led

      module _ (past' undone' : List Edit) (ways' : List Inverse) (p : past' ≡ before) (u : undone' ≡ gone ++ edit ∷ []) (w : ways' ≡ fewer) where
        abbrev b : PlainSession
        b = session_of after past' ways' undone' n

        back_opened : b.opened ≡ s.opened
        back_opened = ap (λ (ws : List Inverse). opened_doc ws (unmarked_doc after.doc)) w ∙ led_opened one s.dtd s.root s.opened (unmarked_doc after.doc) before fewer shorter

        pub undo_keeps : KeepsWays b ways'
        undo_keeps =
            let again : IsAccepted tt s.dtd s.root (unmarked_doc after.doc) edit now = subst (λ (d : PlainDoc Unit). IsAccepted tt s.dtd s.root d edit now) (sym r.led) last_made.made.accepted in
            let on = leads_on_more s.dtd s.root (unmarked_doc after.doc) now k.last gone edit k.undone again in
            record {
              holdable = holdable;
              kept = kept;
              past = rw (back_opened, p, w, back_dtd, back_root) shorter;
              last = k.last;
              undone = rw (back_dtd, back_root, u) on;
            }

        pub undo_is_step : IsUndoStep s (is_done done.checked done.left done.bad) b
        undo_is_step =
            let d : after.doc ≡ behind_move s (changed_lists (undoes edit)) (doc_back 0 m.doc (inverse_of last_made.before.root edit)) =
            back_doc ∙ ap (λ (i : ℕ). stamp_lists i (changed_lists (undoes edit)) (doc_back 0 m.doc way)) is_next
            ∙ ap (λ (w : Inverse). behind_move s (changed_lists (undoes edit)) (doc_back 0 m.doc w)) (sym last_made.made.is_inverse) in
            let parts : b ≡ record s {
              past = before;
              undone = gone ++ edit ∷ [];
              moves = next_move moves;
              doc = behind_move s (changed_lists (undoes edit))
                  (doc_back 0 m.doc (inverse_of last_made.before.root edit));
            } =
            (let x = back_dtd in let y = back_root in let z = back_opened in cc) in
            undone edit before last_made.before done.left done.bad e (replays s.dtd s.root s.opened last_made.before before fewer last_made.led) r.led parts r.is_left r.is_bad
            (ap (λ (i : ℕ). is_done i done.left done.bad) r.is_checked)

  -- the last edit can be undone by the last way back
  pub record CanUndo (way : Inverse) : Type 0 where
    pub edit : Edit
    pub made : HasLast s.past edit
    pub last : HasLast ways way

  pub can_undo : (way : Inverse) → HasLast ways way → CanUndo way
  can_undo way l =
      let n : s.past ≡ [] → ⊥ = λ e. not_empty l.front ways way l.whole (empty_both s.dtd s.root s.opened now edits ways k.past e) in
      let h = has_some s.past n in
      record { edit = h.item; made = h.last; last = l }

  pub nothing_to_undo : ways ≡ [] → IsUndoStep s lacks_history s
  nothing_to_undo e = no_past (both_empty s.dtd s.root s.opened now edits ways k.past e) refl refl

  -- the last undone edit can be made again
  pub can_redo : (edit : Edit) (l : HasLast gone edit) → IsNext s.dtd s.root now l.front edit k.last
  can_redo edit l = next_undone s.dtd s.root now k.last l.front edit (subst (λ (es : List Edit). LeadsOn s.dtd s.root now es k.last) l.whole k.undone)

-- a refused edit
refused_by : (s : PlainSession) (edit : Edit) (a : EditAnswer) →
    HasGround 0 s.dtd s.root s.doc edit a → (told : Option PlainAnswer) → refusal_of a ≡ told →
    MatchOption told (s ≡ s) (λ answer. IsEditStep s edit answer s)
refused_by s edit a h None e = refl
refused_by s edit a h (Some answer) e = refused a h e refl

pub refuse_step : (s : PlainSession) (edit : Edit) (a : EditAnswer) → HasGround 0 s.dtd s.root s.doc edit a → MatchOption (edit_answer (Err a)) (s ≡ s) (λ a. IsEditStep s edit a s)
refuse_step s edit a h = refused_by s edit a h (refusal_of a) refl

-- a session that begins
pub begun_keeps : (m : StampedDoc) (edits gone : List Edit) (ways : List Inverse) → edits ≡ [] → ways ≡ [] → gone ≡ [] → IsHoldable m.dtd m.doc → IsKept m.doc.root →
    KeepsWays (session_of m edits ways gone 0) ways
begun_keeps m edits gone ways p w u holdable kept = record {
  holdable = holdable;
  kept = kept;
  past = rw (p, w) refl;
  last = unmarked_doc m.doc;
  undone = rw u refl;
}

pub begun_is : (g : PlainDtd) (root : List ℕ) (doc : PlainDoc Mark) (m : StampedDoc) →
    m ≡ record { dtd = g; root = root; doc = doc_as (λ _. 0) doc } →
    (edits gone : List Edit) (ways : List Inverse) → edits ≡ [] → ways ≡ [] → gone ≡ [] →
    session_of m edits ways gone 0 ≡ session_on g root (unmarked_doc doc)
begun_is g root doc m e edits gone ways p w u =
    rw (e, p, w, u)
    (ap (λ (d : PlainDoc Unit). record { dtd = g; root = root; opened = d; past = []; undone = []; moves = 0; doc = doc_as {M = Mark} {N = ℕ} (λ _. 0) doc }) (begun_unmarked doc)
    ∙ ap (λ (d : PlainDoc ℕ). record { dtd = g; root = root; opened = unmarked_doc doc; past = []; undone = []; moves = 0; doc = d }) (sym (begun_doc doc)))

-- a refused edit, with room for one more
pub refused_step : (now : PlainSession) (m : StampedDoc) (edits : List Edit) (ways : List Inverse)
    (gone : List Edit) (moves : ℕ) → session_of m edits ways gone moves ≡ now →
    (edit : Edit) (a : EditAnswer) → HasGround 0 m.dtd m.root m.doc edit a →
    (after : StampedDoc) → after ≡ m → (edits' : List Edit) (ways' : List Inverse) → edits' ≡ edits → ways' ≡ ways →
    MatchOption (edit_answer (Err a)) (session_of after edits' ways' gone moves ≡ now) (λ answer. IsEditStep now edit answer (session_of after edits' ways' gone moves))
refused_step now m edits ways gone moves v edit a h after e edits' ways' p w =
    rw (e, p, w) (subst (λ (s : PlainSession). MatchOption (edit_answer (Err a))
    (session_of m edits ways gone moves ≡ s) (λ answer. IsEditStep s edit answer
    (session_of m edits ways gone moves))) v (refuse_step (session_of m edits ways gone moves) edit a h))
