-- Refusals of texts.
use Rattle.std.proofs.Common.{◌≡◌, ℕ, List}
use Rattle.pv_tree.specs.Marks.{blank_mark}
use Rattle.pv_tree.specs.declared.nodes.Mark.{Mark}
use Rattle.pv_read.specs.Limits.{TextLimits}
use Rattle.pv_read.specs.Meaning.{DocumentMeansWithin, Outcome}
use Rattle.pv_read.specs.declared.errors.DocError.TheVariants as unread
use Rattle.pv_lists.specs.Answers.{RefusesLists}
use Rattle.pv_lists.specs.declared.errors.ReadError.{ReadError}
use Rattle.pv_lists.specs.declared.errors.ReadError.TheVariants as read_error
use Rattle.pv_lists.proofs.Refusals.{read_answered}
use Rattle.pv_check.specs.Answers.{AnswersText, RefusesBytes, read_refusal_of, refusal_of}
use Rattle.pv_check.specs.declared.errors.ListError.{ListError}
use Rattle.pv_check.specs.declared.errors.ListError.TheVariants as list_error
use Rattle.pv_check.specs.declared.errors.TextError.{TextError}

-- where a list that ended has no verdict, any text may be refused
pub list_refused : (P : Outcome Mark → Type 0) (cause : ListError) (e : TextError) → e ≡ refusal_of cause → RefusesBytes P e
list_refused P list_error.LongLists e is = rw is tt
list_refused P list_error.NoMemory e is = rw is tt

pub list_answered : (limits : TextLimits) (root bytes : List ℕ) (cause : ListError)
    (e : TextError) → e ≡ refusal_of cause → (o : Outcome Mark) →
    DocumentMeansWithin limits blank_mark root bytes o → AnswersText o e
list_answered limits root bytes list_error.LongLists e is o means = rw is tt
list_answered limits root bytes list_error.NoMemory e is o means = rw is (read_answered {E = ListError} limits root bytes (read_error.Document unread.NoMemory) tt o means)

-- and where the lists weren't read, the reader refuses it
pub read_refused : (P : Outcome Mark → Type 0) (cause : ReadError ListError) (e : TextError) → e ≡ read_refusal_of cause → RefusesLists P cause → RefusesBytes P e
read_refused P (read_error.Document error) e is h = rw is h
read_refused P (read_error.Judge cause) e is h = list_refused P cause e is

pub refused_answered : (limits : TextLimits) (root bytes : List ℕ) (cause : ReadError ListError)
    (e : TextError) → e ≡ read_refusal_of cause →
    RefusesLists (DocumentMeansWithin limits blank_mark root bytes) cause
    → (o : Outcome Mark) → DocumentMeansWithin limits blank_mark root bytes o → AnswersText o e
refused_answered limits root bytes (read_error.Document error) e is h o means = rw is (read_answered {E = ListError} limits root bytes (read_error.Document error) h o means)
refused_answered limits root bytes (read_error.Judge cause) e is h o means = list_answered limits root bytes cause e is o means
