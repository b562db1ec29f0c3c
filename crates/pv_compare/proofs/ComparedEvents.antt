-- Events compared, one by one.
use Rattle.std.proofs.Common.{Bool, List, [], append-nil, append_assoc, ap, false, sym, true, ℕ, ◌++◌, ◌∙◌, ◌∷◌, ◌≡◌}
use Rattle.std.proofs.lemmas.List.{append_cancel_left}
use Rattle.pv_flat.specs.Plain.{PlainEvent}
use Rattle.pv_compare.specs.EventComparison.{IsPast}
use Rattle.pv_compare.specs.LeftOut.{LeavesEvents, bytewise, kept_events, marks_left}
use Rattle.pv_compare.specs.ReaderMoves.{PassesBy, kept_from, left_from}
use Rattle.pv_compare.specs.WantedEvents.{IsTaken, wanted_events}
use Rattle.pv_compare.specs.declared.comparing.Comparison.{Comparison}
use Rattle.pv_compare.proofs.OneHedge.{bytewise-append}

module _ (marks : List ℕ) (other given : List PlainEvent) (e : PlainEvent) (old new : Comparison) (i : IsPast marks other given old) where
  -- an event that doesn't stay
  pub past-left-out : PassesBy e false old.tags new.tags → new.same ≡ old.same → new.wanted ≡ old.wanted → IsPast marks other (given ++ e ∷ []) new
  past-left-out p same wanted = record {
    out = i.out;
    kept = λ es. ap (kept_events 0 marks []) (append_assoc given (e ∷ []) es) ∙ i.kept (e ∷ es) ∙ ap (λ l. i.out ++ l) (p.kept es);
    left = λ es. ap (marks_left 0 marks) (append_assoc given (e ∷ []) es) ∙ i.left (e ∷ es) ∙ p.left es;
    agrees = λ s. i.agrees (sym same ∙ s) ∙ ap (λ w. bytewise i.out ++ wanted_events w) (sym wanted);
    differs = λ s. i.differs (sym same ∙ s);
  }

  behind-event : (rest : List PlainEvent) → bytewise (i.out ++ e ∷ []) ++ rest ≡ bytewise i.out ++ (bytewise (e ∷ []) ++ rest)
  behind-event rest = ap (λ l. l ++ rest) (bytewise-append i.out (e ∷ [])) ∙ append_assoc (bytewise i.out) (bytewise (e ∷ [])) rest

  kept-more : PassesBy e true old.tags new.tags → (es : List PlainEvent) → kept_events 0 marks [] ((given ++ e ∷ []) ++ es) ≡ (i.out ++ e ∷ []) ++ kept_from new.tags es
  kept-more p es = ap (kept_events 0 marks []) (append_assoc given (e ∷ []) es) ∙ i.kept (e ∷ es) ∙ ap (λ l. i.out ++ l) (p.kept es) ∙ sym (append_assoc i.out (e ∷ []) (kept_from new.tags es))

  left-more : PassesBy e true old.tags new.tags → (es : List PlainEvent) → marks_left 0 marks ((given ++ e ∷ []) ++ es) ≡ left_from new.tags es
  left-more p es = ap (marks_left 0 marks) (append_assoc given (e ∷ []) es) ∙ i.left (e ∷ es) ∙ p.left es

  -- one that stays, where something was different before
  pub past-different : PassesBy e true old.tags new.tags → old.same ≡ false → new.same ≡ false → IsPast marks other (given ++ e ∷ []) new
  past-different p was is = record {
    out = i.out ++ e ∷ [];
    kept = kept-more p;
    left = left-more p;
    agrees = λ s. absurd (let f : true ≡ false = sym s ∙ is in cc);
    differs = λ s more h. i.differs was (bytewise (e ∷ []) ++ more) (h ∙ behind-event more);
  }

  -- one that stays, and is looked for in the other document
  pub past-compared : PassesBy e true old.tags new.tags → old.same ≡ true → (b : Bool) → new.same ≡ b → IsTaken e b old.wanted new.wanted → IsPast marks other (given ++ e ∷ []) new
  past-compared p was true is taken = record {
    out = i.out ++ e ∷ [];
    kept = kept-more p;
    left = left-more p;
    agrees = λ s. i.agrees was ∙ ap (λ l. bytewise i.out ++ l) taken ∙ sym (behind-event (wanted_events new.wanted));
    differs = λ s. absurd (let f : true ≡ false = sym is ∙ s in cc);
  }
  past-compared p was false is taken = record {
    out = i.out ++ e ∷ [];
    kept = kept-more p;
    left = left-more p;
    agrees = λ s. absurd (let f : true ≡ false = sym s ∙ is in cc);
    differs = λ s more h. taken more (append_cancel_left (bytewise i.out) (wanted_events old.wanted) (bytewise (e ∷ []) ++ more) (sym (i.agrees was) ∙ h ∙ behind-event more));
  }

module _ (marks : List ℕ) (other given : List PlainEvent) (c : Comparison) (i : IsPast marks other given c) where
  left-is : marks_left 0 marks given ≡ c.tags.marks.now
  left-is = ap (marks_left 0 marks) (sym (append-nil given)) ∙ i.left []

  kept-is : kept_events 0 marks [] given ≡ i.out
  kept-is = ap (kept_events 0 marks []) (sym (append-nil given)) ∙ i.kept [] ∙ append-nil i.out

  pub whole : c.same ≡ true → c.tags.marks.now ≡ [] → wanted_events c.wanted ≡ [] → LeavesEvents marks given other
  whole same none nothing = record {
    none_left = left-is ∙ none;
    same = ap bytewise kept-is ∙ sym (append-nil (bytewise i.out)) ∙ ap (λ l. bytewise i.out ++ l) (sym nothing) ∙ sym (i.agrees same);
  }

  pub none-behind : LeavesEvents marks given other → c.tags.marks.now ≡ []
  none-behind l = sym left-is ∙ l.none_left

  pub was-same : LeavesEvents marks given other → c.same ≡ false → ⊥
  was-same l not-same = i.differs not-same [] (sym l.same ∙ ap bytewise kept-is ∙ sym (append-nil (bytewise i.out)))

  pub nothing-wanted : LeavesEvents marks given other → c.same ≡ true → wanted_events c.wanted ≡ []
  nothing-wanted l same = append_cancel_left (bytewise i.out) (wanted_events c.wanted) [] (sym (i.agrees same) ∙ sym l.same ∙ ap bytewise kept-is ∙ sym (append-nil (bytewise i.out)))
