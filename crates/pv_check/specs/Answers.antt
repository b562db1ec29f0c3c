-- What is told of a text, and why nothing is.
use Rattle.std.specs.Prelude.{◌≡◌, ◌+◌, ℕ, List, [], ◌∷◌, length, Err}
use Rattle.std.specs.List.{AllByRecursion}
use Rattle.pv_dtd.specs.Plain.{PlainDtd}
use Rattle.pv_tree.specs.Lists.{IsFirstNot, Listed, lists_at, lists_of, the_document}
use Rattle.pv_tree.specs.Plain.{PlainDoc, Tree, no_trees, tree}
use Rattle.pv_tree.specs.View.{view}
use Rattle.pv_tree.specs.declared.nodes.Mark.{Mark}
use Rattle.pv_read.specs.Errors.{Refuses}
use Rattle.pv_read.specs.Meaning.{Outcome}
use Rattle.pv_read.specs.PlainForms.{Answers}
use Rattle.pv_read.specs.declared.errors.DocError.TheVariants as unread
use Rattle.pv_missing.specs.Completions.{IsPotentiallyValid}
use Rattle.pv_missing.specs.Verdicts.{HavePossible, IsFirstImpossible, IsLive}
use Rattle.pv_missing.specs.Widths.{IsFirstTooWide, IsListForVerdict}
use Rattle.pv_fresh.specs.Answers.{IsImpossibleAt}
use Rattle.pv_lists.specs.declared.errors.ReadError.{ReadError}
use Rattle.pv_lists.specs.declared.errors.ReadError.TheVariants as read_error
use Rattle.pv_check.specs.ListJudgements.{IsListWithin}
use Rattle.pv_check.specs.declared.checking.Told.{Told}
use Rattle.pv_check.specs.declared.checking.Told.TheVariants as told
use Rattle.pv_check.specs.declared.errors.ListError.{ListError}
use Rattle.pv_check.specs.declared.errors.ListError.TheVariants as list_error
use Rattle.pv_check.specs.declared.errors.TextError.{TextError}
use Rattle.pv_check.specs.declared.errors.TextError.TheVariants as text_error
use Rattle.pv_check.specs.declared.widths.Widths.{Widths}

-- No list is too wide, inserting elements can make the document valid, and so many of its lists are
-- Possible.
pub record IsPossibleBy (root : List ℕ) (g : PlainDtd) (doc : PlainDoc Mark) (n : ℕ) : Type 0 where
  pub narrow : AllByRecursion (IsListForVerdict g) (lists_of doc)
  pub possible : IsPotentiallyValid g root (view doc.root)
  pub count : HavePossible g root (lists_of doc) n

-- what is told of a document: that it is possible, or the first list that is impossible, or too
-- wide
abbrev pub Tells : PlainDtd → List ℕ → PlainDoc Mark → Told → Type 0
Tells g root doc (told.Possible n) = IsPossibleBy root g doc n
Tells g root doc (told.Impossible path) = IsImpossibleAt root g doc path
Tells g root doc (told.TooWide path) = IsFirstTooWide g (lists_of doc) path

-- Inserting elements can make the document valid, and so many of its lists are Possible.
pub record IsPossibleAtAnyWidth (root : List ℕ) (g : PlainDtd) (doc : PlainDoc Mark)
    (n : ℕ) : Type 0 where
  pub possible : IsPotentiallyValid g root (view doc.root)
  pub count : HavePossible g root (lists_of doc) n

-- No insertions can make it valid, and this is the path of its first impossible list.
pub record IsImpossibleAtAnyWidth (root : List ℕ) (g : PlainDtd) (doc : PlainDoc Mark)
    (path : List ℕ) : Type 0 where
  pub impossible : IsPotentiallyValid g root (view doc.root) → ⊥
  pub first : IsFirstImpossible g root (lists_of doc) path

-- what is told of a document where no list is too wide for it
abbrev pub TellsAtAnyWidth : PlainDtd → List ℕ → PlainDoc Mark → Told → Type 0
TellsAtAnyWidth g root doc (told.Possible n) = IsPossibleAtAnyWidth root g doc n
TellsAtAnyWidth g root doc (told.Impossible path) = IsImpossibleAtAnyWidth root g doc path
TellsAtAnyWidth g root doc (told.TooWide path) = ⊥

-- how many steps an answer of lists takes: one for each list, and none where one is too wide
abbrev pub CountsTold : List (Listed Mark) → Told → ℕ → ℕ → Type 0
CountsTold lists (told.Possible n) from to = to ≡ from + length lists
CountsTold lists (told.Impossible path) from to = to ≡ from + length lists
CountsTold lists (told.TooWide path) from to = to ≡ from

-- all lists of a document with this root
abbrev pub root_lists : Tree Mark → List (Listed Mark)
root_lists t =
    record { path = []; owner = the_document; kids = tree t no_trees } ∷ lists_at (0 ∷ []) t

-- No list is too wide and none is impossible, and so many are Possible.
pub record AreLiveLists (s : Widths) (g : PlainDtd) (root : List ℕ) (lists : List (Listed Mark))
    (n : ℕ) : Type 0 where
  pub narrow : AllByRecursion (IsListWithin s g) lists
  pub live : AllByRecursion (IsLive g root) lists
  pub count : HavePossible g root lists n

-- No list is too wide, and this is the path of the first impossible one.
pub record HaveFirstImpossible (s : Widths) (g : PlainDtd) (root : List ℕ)
    (lists : List (Listed Mark)) (path : List ℕ) : Type 0 where
  pub narrow : AllByRecursion (IsListWithin s g) lists
  pub first : IsFirstImpossible g root lists path

-- what is told of lists that may be so wide
abbrev pub TellsLists : Widths → PlainDtd → List ℕ → List (Listed Mark) → Told → Type 0
TellsLists s g root lists (told.Possible n) = AreLiveLists s g root lists n
TellsLists s g root lists (told.Impossible path) = HaveFirstImpossible s g root lists path
TellsLists s g root lists (told.TooWide path) = IsFirstNot (IsListWithin s g) lists path

-- the refusal of a text where a list that ended has no verdict
abbrev pub refusal_of : ListError → TextError
refusal_of list_error.LongLists = text_error.LongLists
refusal_of list_error.NoMemory = text_error.Document unread.NoMemory

-- and the refusal of a text where its lists weren't read
abbrev pub read_refusal_of : ReadError ListError → TextError
read_refusal_of (read_error.Document error) = text_error.Document error
read_refusal_of (read_error.Judge cause) = refusal_of cause

-- a refusal, other than for long lists, is one of the reader
abbrev pub RefusesBytes : {M : Type 0} → (Outcome M → Type 0) → TextError → Type 0
RefusesBytes Is (text_error.Document error) = Refuses Is error
RefusesBytes Is text_error.LongLists = Unit {0}

-- and then the answer to a text that means this
abbrev pub AnswersText : Outcome Mark → TextError → Type 0
AnswersText outcome (text_error.Document error) = Answers outcome (Err error)
AnswersText outcome text_error.LongLists = Unit {0}
