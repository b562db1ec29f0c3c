-- What the comparison of two documents tells.
use Rattle.std.proofs.Common.{IsTrue, List, map, subst, sym, ℕ, ◌∙◌, ◌≡◌}
use Rattle.pv_tree.specs.Plain.{PlainDoc}
use Rattle.pv_tree.specs.declared.nodes.Mark.{Mark}
use Rattle.pv_read.specs.DocumentLaws.{DocumentsMeanOne, GrammarsAgree}
use Rattle.pv_read.specs.Meaning.{is_document}
use Rattle.pv_flat.specs.ComingEvents.{flat_limits}
use Rattle.pv_flat.specs.Plain.{events_of, plain_event}
use Rattle.pv_compare.specs.EventComparison.{AgreesWith, AreEventsOf, ArePartsOf, IsCompared}
use Rattle.pv_compare.specs.Kept.{IsBodyText, KeepsDocument}
use Rattle.pv_compare.specs.LeftOut.{EventsLeaveOut, LeavesEvents}
use Rattle.pv_compare.specs.declared.comparing.Compared.{Compared}
use Rattle.pv_compare.specs.declared.reading.EventParts.{EventParts}
use Rattle.pv_compare.proofs.UnitTexts.{body-texts}

same-doc : DocumentsMeanOne → (root bytes : List ℕ) (a b : PlainDoc Mark) → IsBodyText root bytes a → IsBodyText root bytes b → a ≡ b
same-doc one root bytes a b p q = let e : is_document a ≡ is_document b = one flat_limits root bytes (is_document a) (is_document b) p q in cc

module _ (agree : GrammarsAgree) (one : DocumentsMeanOne) (leave : EventsLeaveOut)
    (root bytes body marks : List ℕ) (doc : PlainDoc Mark) (text : IsBodyText root bytes doc)
    (parts : EventParts) (found : Compared)
    (p : AreEventsOf doc parts) (q : IsCompared root body marks (map plain_event parts.events.items) found) where
  first-whole : LeavesEvents marks (events_of q.doc.root) (events_of doc.root) → IsTrue found.leaves
  first-whole l = q.leaves.1 (subst (LeavesEvents marks (events_of q.doc.root)) p.is_events l)

  first-leaves : IsTrue found.leaves → LeavesEvents marks (events_of q.doc.root) (events_of doc.root)
  first-leaves t = subst (LeavesEvents marks (events_of q.doc.root)) (sym p.is_events) (q.leaves.0 t)

  here : (AgreesWith found parts → KeepsDocument doc q.doc marks) × (KeepsDocument doc q.doc marks → AgreesWith found parts)
  here =
      let law = leave marks doc.root q.doc.root (body-texts agree root bytes doc text) (body-texts agree root body q.doc q.is_text) in (
        λ a. record { same_before = q.is_before ∙ a.1 ∙ sym p.is_before; same_after = q.is_after ∙ a.2 ∙ sym p.is_after; tags = law.1 (first-leaves a.0) },
        λ k. (first-whole (law.0 k.tags), sym q.is_before ∙ k.same_before ∙ p.is_before, sym q.is_after ∙ k.same_after ∙ p.is_after),
      )

  -- of the document with these events
  pub kept-of : (b : PlainDoc Mark) → IsBodyText root body b → (AgreesWith found parts → KeepsDocument doc b marks) × (KeepsDocument doc b marks → AgreesWith found parts)
  kept-of b is-body = subst (λ y. (AgreesWith found parts → KeepsDocument doc y marks) × (KeepsDocument doc y marks → AgreesWith found parts)) (same-doc one root body q.doc b q.is_text is-body) here

-- and of the document that the bytes are
pub kept-is : (agree : GrammarsAgree) (one : DocumentsMeanOne) (leave : EventsLeaveOut) (root bytes body marks : List ℕ) (parts : EventParts) (found : Compared) (p : ArePartsOf root bytes parts)
    (q : IsCompared root body marks (map plain_event parts.events.items) found) (d b : PlainDoc Mark) → IsBodyText root bytes d → IsBodyText root body b →
    (AgreesWith found parts → KeepsDocument d b marks) × (KeepsDocument d b marks → AgreesWith found parts)
kept-is agree one leave root bytes body marks parts found p q d b is-doc is-body =
    subst (λ x. (AgreesWith found parts → KeepsDocument x b marks) × (KeepsDocument x b marks → AgreesWith found parts)) (same-doc one root bytes p.doc d p.is_text is-doc)
    (kept-of agree one leave root bytes body marks p.doc p.is_text parts found p.are q b is-body)
