-- What holds of grounds to refuse an edit. M and N are types of marks.
use Rattle.std.specs.Prelude.{IsTrue, List, ℕ, ◌↔◌, ◌≡◌}
use Rattle.pv_cache.specs.AcceptedEdits.{HaveBoth, IsAccepted, IsHoldable, KeepsPossible}
use Rattle.pv_cache.specs.Moves.{HasGround}
use Rattle.pv_dtd.specs.Plain.{PlainDtd}
use Rattle.pv_dtd.specs.Proper.{IsProperDtd}
use Rattle.pv_edit.specs.Reasons.{edit_outcome, gives}
use Rattle.pv_edit.specs.declared.answers.EditAnswer.{EditAnswer}
use Rattle.pv_edit.specs.declared.answers.EditAnswer.TheVariants.{NoMemory}
use Rattle.pv_edit.specs.declared.edits.Edit.{Edit}
use Rattle.pv_missing.specs.Proper.{IsProperDoc}
use Rattle.pv_missing.specs.Verdicts.{AreVerdicts, HaveImpossible}
use Rattle.pv_tree.specs.Lists.{lists_of}
use Rattle.pv_tree.specs.Marks.{unmarked_doc}
use Rattle.pv_tree.specs.Plain.{PlainDoc, is_element}
use Rattle.pv_tree.specs.declared.nodes.Verdict.{Verdict}

-- An accepted edit has no ground to be refused on, whatever the marks of the document are; only
-- want of memory needs none.
abbrev pub AcceptedHasNoGround : (M N : Type 0) → Type 0
AcceptedHasNoGround M N = (blank : M) (other : N) (g : PlainDtd) (root : List ℕ) (doc : PlainDoc M)
    (same : PlainDoc N) (edit : Edit) (edited : PlainDoc M) (answer : EditAnswer) →
    unmarked_doc doc ≡ unmarked_doc same → IsAccepted blank g root doc edit edited →
    HasGround other g root same edit answer → answer ≡ NoMemory

-- An edit that can be made is accepted exactly where it has no ground to be refused on but want of
-- memory. The document can be held, and so many lists of it and of the edited one are Impossible.
abbrev pub AcceptedExactlyWithoutGround : Type 0 → Type 0
AcceptedExactlyWithoutGround M = (blank : M) (g : PlainDtd) (root : List ℕ)
    (doc edited : PlainDoc M) (edit : Edit) (before after : ℕ) → IsTrue (is_element doc.root) →
    IsHoldable g doc → ∥ HaveBoth g root doc edited before after ∥₁ →
    edit_outcome blank doc edit ≡ gives edited →
    IsAccepted blank g root doc edit edited ↔
    ((answer : EditAnswer) → HasGround blank g root doc edit answer → answer ≡ NoMemory)

-- Where no list of a document is Impossible, an edit of it is accepted exactly where it can be made
-- within the limits and inserting elements can make the edited document valid. The lists of that
-- have verdicts.
abbrev pub AcceptsThePossible : Type 0 → Type 0
AcceptsThePossible M = (blank : M) (g : PlainDtd) (root : List ℕ) (doc edited : PlainDoc M)
    (edit : Edit) (vs : List Verdict) → IsProperDtd g → IsProperDoc edited →
    HaveImpossible g root (lists_of doc) 0 → AreVerdicts g root (lists_of edited) vs →
    IsAccepted blank g root doc edit edited ↔ KeepsPossible blank g root doc edit edited

-- An edit has one ground at most.
abbrev pub HasOneGround : Type 0 → Type 0
HasOneGround M = (blank : M) (g : PlainDtd) (root : List ℕ) (doc : PlainDoc M) (edit : Edit)
    (answer other : EditAnswer) → HasGround blank g root doc edit answer →
    HasGround blank g root doc edit other → (answer ≡ NoMemory → ⊥) → (other ≡ NoMemory → ⊥) →
    answer ≡ other
