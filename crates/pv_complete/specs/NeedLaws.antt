-- The law of what is told of a document's missing elements, a statement. M is the type of its
-- marks.
use Rattle.std.specs.Prelude.{Err, List, Ok, Result, ℕ, ◌≡◌}
use Rattle.pv_dtd.specs.Plain.{PlainDtd}
use Rattle.pv_dtd.specs.Proper.{IsProperDtd}
use Rattle.pv_tree.specs.Plain.{PlainDoc}
use Rattle.pv_missing.specs.Proper.{IsProperDoc}
use Rattle.pv_complete.specs.NeededElements.{HasCause, Needs}
use Rattle.pv_complete.specs.declared.errors.NeedError.{NeedError}
use Rattle.pv_complete.specs.declared.errors.NeedError.TheVariants.{Impossible, NoMemory}
use Rattle.pv_complete.specs.declared.errors.NeedError.TheVariants.{TooHeavy, TooMany, TooWide}

-- a least number, or why there is none; want of memory says nothing of a document
abbrev pub HasNeed : {M : Type 0} → PlainDtd → List ℕ → PlainDoc M → Result ℕ NeedError → Type 0
HasNeed g root doc (Ok n) = Needs g root doc n
HasNeed g root doc (Err (Impossible path)) = HasCause g root doc (Impossible path)
HasNeed g root doc (Err (TooWide path)) = HasCause g root doc (TooWide path)
HasNeed g root doc (Err TooHeavy) = HasCause g root doc TooHeavy
HasNeed g root doc (Err TooMany) = ⊥
HasNeed g root doc (Err NoMemory) = ⊥

-- a document has one answer to how many elements are missing in it
abbrev pub OneNeed : (M : Type 0) → Type 0
OneNeed M = (g : PlainDtd) (root : List ℕ) (doc : PlainDoc M) (a b : Result ℕ NeedError) →
    IsProperDtd g → IsProperDoc doc → HasNeed g root doc a → HasNeed g root doc b → a ≡ b
