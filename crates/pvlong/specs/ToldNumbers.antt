-- What is told of the elements that are missing in a document.
use Rattle.std.specs.Prelude.{◌≡◌, ◌<◌, ℕ, Bool, Err, List, Ok, Result, ◌++◌, codes, decimal}
use Rattle.std.specs.Prelude.{false, true}
use Rattle.pv_dtd.specs.Plain.{PlainDtd}
use Rattle.pv_tree.specs.Lists.{lists_of}
use Rattle.pv_tree.specs.Plain.{PlainDoc}
use Rattle.pv_tree.specs.View.{view}
use Rattle.pv_tree.specs.declared.nodes.Mark.{Mark}
use Rattle.pv_missing.specs.Completions.{HasCompletion, IsLeast}
use Rattle.pv_missing.specs.Widths.{IsFirstTooWide}
use Rattle.pv_fresh.specs.Answers.{IsImpossibleAt}
use Rattle.pv_long.specs.BoundAnswers.{AreMissing, CountsPossible, IsCompletionText, KeepsValid}
use Rattle.pv_long.specs.BoundAnswers.{IsTooHeavy, MayBeCompleted}
use Rattle.pv_words.specs.Paths.{path_text}
use Rattle.pv_opening.specs.Possibility.{TellsPossibility}
use Rattle.pv_opening.specs.declared.status.Status.TheVariants.{Done, Limit, Negative}
use Rattle.pv_opening.specs.Response.{PlainResponse, with_line}
use Rattle.pv_opening.specs.declared.response.Response.{Response}
use Rattle.pv_opening.specs.declared.stop.Stop.{Stop}
use Rattle.pvlong.specs.declared.requests.Question.{Question}
use Rattle.pvlong.specs.declared.requests.Question.TheVariants.{Check, Complete, Need}
use Rattle.pvlong.specs.declared.telling.Told.{Told}

-- Nothing is told: the path is that of the first list that is too wide for a verdict; or none is,
-- no insertions make the document valid, and the path is that of its first impossible list. Or none
-- is, some insertions do, and all such insert more than 1,000,000 elements, or what is made passes
-- a limit or doesn't pass its check.
pub data TellsNothing {M : Type 0} (root : List ℕ) (g : PlainDtd) (doc : PlainDoc M)
    (r : PlainResponse) : Type 0 where
  is_too_wide : (path : List ℕ) → IsFirstTooWide g (lists_of doc) path →
      r ≡ with_line Limit (codes "no wide " ++ path_text path) → TellsNothing root g doc r
  is_impossible : (path : List ℕ) → IsImpossibleAt root g doc path →
      r ≡ with_line Negative (codes "no impossible " ++ path_text path) →
      TellsNothing root g doc r
  is_heavy : IsTooHeavy g root doc → r ≡ with_line Limit (codes "no heavy") →
      TellsNothing root g doc r
  passes_limit : MayBeCompleted g root doc → r ≡ with_line Limit (codes "no limit") →
      TellsNothing root g doc r
  is_unproved : MayBeCompleted g root doc → r ≡ with_line Limit (codes "no proof") →
      TellsNothing root g doc r

-- the text of two bounds
abbrev pub bounds_text : ℕ → ℕ → List ℕ
bounds_text least most = codes "need " ++ decimal least ++ codes " to " ++ decimal most

-- So many elements, and no fewer, make the document valid when they are inserted. Or so many do,
-- and each completion inserts a number of them at least that is told beside it, and that is no less
-- than the number of the Possible lists. Or nothing is told.
pub data TellsNumber {M : Type 0} (root : List ℕ) (g : PlainDtd) (doc : PlainDoc M)
    (r : PlainResponse) : Type 0 where
  is_least : (n : ℕ) → IsLeast g root n (view doc.root) →
      r ≡ with_line Done (codes "need " ++ decimal n) → TellsNumber root g doc r
  is_between : (least most : ℕ) → least < most → AreMissing g root doc least →
      CountsPossible g root doc least → HasCompletion g root most (view doc.root) →
      r ≡ with_line Done (bounds_text least most) → TellsNumber root g doc r
  has_no_number : TellsNothing root g doc r → TellsNumber root g doc r

-- The text of a completion of the document, which these bytes are, is told, of several any: one
-- that inserts as few elements as any; or one for which it is also told that another may insert
-- fewer, but a number of them at least that is no less than the number of the Possible lists. Or
-- nothing is told.
pub data TellsDocument {M : Type 0} (root : List ℕ) (g : PlainDtd) (doc : PlainDoc M)
    (bytes : List ℕ) (not_least : Bool) (r : PlainResponse) : Type 0 where
  is_of_least : (n : ℕ) (marks body : List ℕ) → IsCompletionText g root doc n marks body →
      IsLeast g root n (view doc.root) → KeepsValid g root doc bytes body → not_least ≡ false →
      r ≡ record { status = Done; output = body } →
      TellsDocument root g doc bytes not_least r
  is_of_more : (least n : ℕ) (marks body : List ℕ) → least < n → AreMissing g root doc least →
      CountsPossible g root doc least → IsCompletionText g root doc n marks body →
      not_least ≡ true → r ≡ record { status = Done; output = body } →
      TellsDocument root g doc bytes not_least r
  has_no_document : TellsNothing root g doc r → TellsDocument root g doc bytes not_least r

-- What a question about a document, which these bytes are, is answered; and whether a document is
-- told that may not be least.
abbrev pub TellsFor : Question → List ℕ → PlainDtd → PlainDoc Mark → List ℕ → Bool →
    PlainResponse → Type 0
TellsFor Check root g doc bytes not_least r = TellsPossibility root g doc r × (not_least ≡ false)
TellsFor Need root g doc bytes not_least r = TellsNumber root g doc r × (not_least ≡ false)
TellsFor Complete root g doc bytes not_least r = TellsDocument root g doc bytes not_least r

-- the response in what is told
abbrev pub response_in : Result Told Stop → Result Response Stop
response_in (Ok told) = Ok told.response
response_in (Err stop) = Err stop

-- whether it is that of a document that may not be least
abbrev pub not_least_in : Result Told Stop → Bool
not_least_in (Ok told) = told.not_least
not_least_in (Err stop) = false
