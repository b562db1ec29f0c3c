-- What a reader of events has given, from one event to the next and at the end.
use Rattle.std.proofs.Common.{List, [], append-nil, append_assoc, refl, subst, sym, ℕ, ◌++◌, ◌∷◌, ◌≡◌}
use Rattle.pv_tree.specs.Marks.{blank_mark}
use Rattle.pv_read.specs.Errors.{Refuses}
use Rattle.pv_read.specs.Meaning.{DocumentMeansWithin}
use Rattle.pv_read.specs.declared.errors.DocError.{DocError}
use Rattle.pv_read.specs.declared.errors.DocError.TheVariants.{Deep, DoctypeName, Entity, Limit, Mismatch, NoMemory, Subset, Syntax}
use Rattle.pv_flat.specs.ComingEvents.{EventsCome, ComesAt, TextEnd, LeadsBy, RefusesRest}
use Rattle.pv_flat.specs.ComingEvents.{TextComes, ends_with, flat_limits}
use Rattle.pv_flat.specs.Plain.{PlainEvent}
use Rattle.pv_flat.specs.declared.state.Events.{Events}
use Rattle.pv_flat.specs.declared.state.Stage.TheVariants as stage
use Rattle.pv_compare.specs.ReadEvents.{HasGiven}

module _ (root bytes : List ℕ) (given : List PlainEvent) (old : Events) (g : HasGiven root bytes given old) where
  pub given-more : (e : PlainEvent) (new : Events) → LeadsBy (e ∷ []) old new → HasGiven root bytes (given ++ e ∷ []) new
  given-more e new leads = record { comes = λ es end c. subst (λ l. TextComes root bytes l end) (sym (append_assoc given (e ∷ []) es)) (g.comes (e ∷ es) end (leads es end c)) }

  pub given-all : (new : Events) → LeadsBy [] old new → new.stage ≡ stage.Ended → TextComes root bytes given (ends_with new.before.now new.rest.now)
  given-all new leads at =
      let end : TextEnd = ends_with new.before.now new.rest.now in
      let here : EventsCome new [] end = subst (λ st. ComesAt st new [] end) (sym at) (refl, refl) in
      subst (λ l. TextComes root bytes l end) (append-nil given) (g.comes [] end (leads [] end here))

  pub given-refused : (error : DocError) → RefusesRest old error → Refuses (DocumentMeansWithin flat_limits blank_mark root bytes) error
  given-refused (Syntax k) r = g.comes [] _ (r [])
  given-refused (Mismatch k) r = g.comes [] _ (r [])
  given-refused (Entity k) r = g.comes [] _ (r [])
  given-refused Subset r = ((r []).0, g.comes [] _ (r []).1)
  given-refused DoctypeName r = ((r []).0, g.comes [] _ (r []).1)
  given-refused (Deep k) r = g.comes [] _ (r [])
  given-refused Limit r = g.comes [] _ (r [])
  given-refused NoMemory r = tt
