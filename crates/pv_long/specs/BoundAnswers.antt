-- What is told of the elements that are missing in a document, and why nothing is. M is the type of
-- a document's marks.
use Rattle.std.specs.Prelude.{List, [], ℕ, ◌<◌, ◌≡◌, ◌≤◌}
use Rattle.std.specs.List.{AllByRecursion}
use Rattle.pv_dtd.specs.Hedge.{Hedge, IsValid}
use Rattle.pv_dtd.specs.Plain.{PlainDtd}
use Rattle.pv_tree.specs.Lists.{lists_of}
use Rattle.pv_tree.specs.Plain.{PlainDoc}
use Rattle.pv_tree.specs.View.{view}
use Rattle.pv_tree.specs.declared.nodes.Mark.{Mark}
use Rattle.pv_rules.specs.Derivations.{heaviest}
use Rattle.pv_missing.specs.Completions.{Completes, HasCompletion, IsLeast, IsPotentiallyValid}
use Rattle.pv_missing.specs.Verdicts.{HavePossible}
use Rattle.pv_missing.specs.Widths.{IsFirstTooWide, IsListForVerdict}
use Rattle.pv_fresh.specs.Answers.{IsImpossibleAt}
use Rattle.pv_compare.specs.Kept.{IsBodyText}
use Rattle.pv_long.specs.NewTags.{IsWrittenWithTags}
use Rattle.pv_long.specs.declared.answers.Completion.{Completion}
use Rattle.pv_long.specs.declared.answers.Missing.{Missing}
use Rattle.pv_long.specs.declared.answers.Missing.TheVariants.{Between, Exactly}
use Rattle.pv_long.specs.declared.errors.LongError.{LongError}
use Rattle.pv_long.specs.declared.errors.LongError.TheVariants.{Impossible, NoMemory, TooMany}
use Rattle.pv_long.specs.declared.errors.LongError.TheVariants.{TooHeavy, TooWide, Unproved}

-- The body is the text of a valid document that is this one with count elements inserted, and
-- written as this one is. The marks are their numbers in it, in document order, the root having the
-- number 0.
pub record IsCompletionText {M : Type 0} (g : PlainDtd) (root : List ℕ) (doc : PlainDoc M)
    (count : ℕ) (marks body : List ℕ) : Type 0 where
  pub completed : PlainDoc Mark
  pub is_text : IsBodyText root body completed
  pub completes : Completes g root doc completed marks count
  pub written : IsWrittenWithTags g doc body

abbrev pub IsCompletion : {M : Type 0} → PlainDtd → List ℕ → PlainDoc M → Completion → Type 0
IsCompletion g root doc c = IsCompletionText g root doc c.count c.marks.items c.body.items

-- each completion inserts at least so many elements
abbrev pub AreMissing : {M : Type 0} → PlainDtd → List ℕ → PlainDoc M → ℕ → Type 0
AreMissing g root doc least = (n : ℕ) → HasCompletion g root n (view doc.root) → least ≤ n

-- Some lists of the document are Possible, and the bound is at least their number: each of them
-- lacks an element.
pub record CountsPossible {M : Type 0} (g : PlainDtd) (root : List ℕ) (doc : PlainDoc M)
    (least : ℕ) : Type 0 where
  pub possible : ℕ
  pub have_possible : HavePossible g root (lists_of doc) possible
  pub some : 0 < possible
  pub reached : possible ≤ least

-- a valid document stays as it is, byte for byte
abbrev pub KeepsValid : {M : Type 0} → PlainDtd → List ℕ → PlainDoc M → List ℕ → List ℕ → Type 0
KeepsValid g root doc bytes body = IsValid g root (view doc.root) → body ≡ bytes

-- a completion of which the body is these bytes, and in which nothing is new
pub record IsOwnText (bytes : List ℕ) (c : Completion) : Type 0 where
  pub count : c.count ≡ 0
  pub marks : c.marks.items ≡ []
  pub body : c.body.items ≡ bytes

-- The completion is one of the document, which these bytes are, and inserts as few elements as any.
pub record IsExact {M : Type 0} (g : PlainDtd) (root : List ℕ) (doc : PlainDoc M) (bytes : List ℕ)
    (c : Completion) : Type 0 where
  pub completion : IsCompletion g root doc c
  pub least : IsLeast g root c.count (view doc.root)
  pub keeps_valid : KeepsValid g root doc bytes c.body.items

-- The completion is one of the document. It inserts more than so many elements, and each inserts as
-- many at least, which are no fewer than the Possible lists.
pub record IsWithinBounds {M : Type 0} (g : PlainDtd) (root : List ℕ) (doc : PlainDoc M) (least : ℕ)
    (c : Completion) : Type 0 where
  pub completion : IsCompletion g root doc c
  pub less : least < c.count
  pub missing : AreMissing g root doc least
  pub lists : CountsPossible g root doc least

-- what is told is so of the document, which these bytes are
abbrev pub IsMissing : {M : Type 0} → PlainDtd → List ℕ → PlainDoc M → List ℕ → Missing → Type 0
IsMissing g root doc bytes (Exactly c) = IsExact g root doc bytes c
IsMissing g root doc bytes (Between least c) = IsWithinBounds g root doc least c

-- no list is too wide for a verdict, and inserting elements can make the document valid
pub record MayBeCompleted {M : Type 0} (g : PlainDtd) (root : List ℕ) (doc : PlainDoc M) : Type 0
  where
    pub narrow : AllByRecursion (IsListForVerdict g) (lists_of doc)
    pub possible : IsPotentiallyValid g root (view doc.root)

-- it can be made valid, and each completion inserts more than 1,000,000 elements
pub record IsTooHeavy {M : Type 0} (g : PlainDtd) (root : List ℕ) (doc : PlainDoc M) : Type 0 where
  pub may : MayBeCompleted g root doc
  pub heavy : AreMissing g root doc heaviest

-- Why nothing is told. That too many elements are missing, a limit, and a check that isn't passed
-- come only where none of the other causes does; want of memory says nothing of the document.
abbrev pub TellsNone : {M : Type 0} → PlainDtd → List ℕ → PlainDoc M → LongError → Type 0
TellsNone g root doc (Impossible path) = IsImpossibleAt root g doc path
TellsNone g root doc (TooWide path) = IsFirstTooWide g (lists_of doc) path
TellsNone g root doc TooHeavy = IsTooHeavy g root doc
TellsNone g root doc TooMany = MayBeCompleted g root doc
TellsNone g root doc Unproved = MayBeCompleted g root doc
TellsNone g root doc NoMemory = Unit {0}

-- an error that says nothing of a document
abbrev pub SaysNothing : LongError → Type 0
SaysNothing (Impossible path) = ⊥
SaysNothing (TooWide path) = ⊥
SaysNothing TooHeavy = ⊥
SaysNothing TooMany = Unit {0}
SaysNothing Unproved = Unit {0}
SaysNothing NoMemory = Unit {0}

-- an error that says nothing of a document, or that more than 1,000,000 elements are missing in it
abbrev pub SaysHeavy : {M : Type 0} → PlainDtd → List ℕ → PlainDoc M → LongError → Type 0
SaysHeavy g root doc (Impossible path) = ⊥
SaysHeavy g root doc (TooWide path) = ⊥
SaysHeavy g root doc TooHeavy = AreMissing g root doc heaviest
SaysHeavy g root doc TooMany = Unit {0}
SaysHeavy g root doc Unproved = Unit {0}
SaysHeavy g root doc NoMemory = Unit {0}

-- a hedge has one least number of missing elements
abbrev pub OneLeast : Type 0
OneLeast = (g : PlainDtd) (root : List ℕ) (h : Hedge) (a b : ℕ) → IsLeast g root a h →
    IsLeast g root b h → a ≡ b
