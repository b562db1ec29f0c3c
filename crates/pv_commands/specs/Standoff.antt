-- What `standoff DTD ROOT TEXT RANGES` responds.
use Rattle.std.specs.Prelude.{◌≡◌, ℕ, List, [], ◌∷◌, ◌++◌, length, codes, decimal, Option, Ok, Err}
use Rattle.pv_chars.specs.Units.{TextMeans}
use Rattle.pv_chars.specs.declared.errors.TextError.{TextError}
use Rattle.pv_chars.specs.declared.errors.TextError.TheVariants as fault
use Rattle.pv_dtd.specs.Plain.{PlainDtd}
use Rattle.pv_standoff.specs.Lines.{RangesMean}
use Rattle.pv_standoff.specs.NestOutcomes.{NestMeans}
use Rattle.pv_standoff.specs.declared.errors.NestError.{NestError}
use Rattle.pv_standoff.specs.declared.errors.NestError.TheVariants as nesting
use Rattle.pv_standoff.specs.declared.errors.RangesError.{RangesError}
use Rattle.pv_standoff.specs.declared.errors.RangesError.TheVariants as line
use Rattle.pv_standoff.specs.declared.ranges.Range.{Range}
use Rattle.pv_tree.specs.Lists.{lists_of}
use Rattle.pv_tree.specs.Plain.{PlainDoc}
use Rattle.pv_words.specs.Words.{counted_text}
use Rattle.pv_write.specs.Text.{doc_text}
use Rattle.pv_tree.specs.declared.nodes.Mark.{Mark}
use Rattle.pv_opening.specs.declared.status.Status.TheVariants.{BadDocument, BadPack, Limit}
use Rattle.pv_opening.specs.Course.{Course}
use Rattle.pv_opening.specs.JudgedCounts.{CountsJudged, CountsNoMore}
use Rattle.pv_opening.specs.Opening.{Files, dtd_file_stage, file_at, file_stage}
use Rattle.pv_opening.specs.Possibility.{TellsPossibility, width_stage}
use Rattle.pv_opening.specs.Response.{PlainResponse, with_line}
use Rattle.pv_words.specs.Numbers.{numbers_text}
use Rattle.pv_opening.specs.Stage.{Behind, Responds, Stage, beside, followed_by, without_fetch}

-- the most bytes of the file of a text, and of the file of ranges
abbrev pub MAX_TEXT_BYTES : ℕ
MAX_TEXT_BYTES = 67108864

abbrev pub MAX_RANGES_BYTES : ℕ
MAX_RANGES_BYTES = 67108864

-- the response to bytes that are no text, with the place of the first fault; want of memory has
-- none
abbrev pub IsTextRefusal : TextError → PlainResponse → Type 0
IsTextRefusal fault.Empty r = r ≡ with_line BadDocument (codes "text empty 0")
IsTextRefusal (fault.BadChar place) r =
    r ≡ with_line BadDocument (codes "text bad-char " ++ decimal place)
IsTextRefusal (fault.BadReference place) r =
    r ≡ with_line BadDocument (codes "text bad-reference " ++ decimal place)
IsTextRefusal (fault.Entity place) r =
    r ≡ with_line BadDocument (codes "text entity " ++ decimal place)
IsTextRefusal (fault.CloseMark place) r =
    r ≡ with_line BadDocument (codes "text close-mark " ++ decimal place)
IsTextRefusal fault.NoMemory r = ⊥

pub data RefusesText (bytes : List ℕ) (r : PlainResponse) : Type 0 where
  no_text : (e : TextError) → TextMeans bytes (Err e) → IsTextRefusal e r → RefusesText bytes r

-- reading a text, unit by unit
abbrev pub text_stage : List ℕ → Stage (List (List ℕ))
text_stage bytes = without_fetch (λ units. TextMeans bytes (Ok units)) (RefusesText bytes)

abbrev pub text_file_stage : Option (List ℕ) → Stage (List (List ℕ))
text_file_stage file = file_stage file MAX_TEXT_BYTES (codes "limit text-file") text_stage

-- the response to bytes that are no ranges: the first line that is none, or too many
abbrev pub IsRangesRefusal : RangesError → PlainResponse → Type 0
IsRangesRefusal (line.Syntax k) r = r ≡ with_line BadPack (codes "ranges line " ++ decimal k)
IsRangesRefusal line.Limit r = r ≡ with_line Limit (codes "limit ranges")
IsRangesRefusal line.NoMemory r = ⊥

pub data RefusesRanges (bytes : List ℕ) (r : PlainResponse) : Type 0 where
  no_ranges : (e : RangesError) → RangesMean bytes (Err e) → IsRangesRefusal e r →
      RefusesRanges bytes r

-- reading ranges
abbrev pub ranges_stage : List ℕ → Stage (List Range)
ranges_stage bytes = without_fetch (λ ranges. RangesMean bytes (Ok ranges)) (RefusesRanges bytes)

abbrev pub ranges_file_stage : Option (List ℕ) → Stage (List Range)
ranges_file_stage file = file_stage file MAX_RANGES_BYTES (codes "limit ranges-file") ranges_stage

-- the response to ranges that no document stands for
abbrev pub IsNestRefusal : NestError → PlainResponse → Type 0
IsNestRefusal (nesting.Outside k) r = r ≡ with_line BadPack (codes "ranges outside " ++ decimal k)
IsNestRefusal (nesting.Twice from to level) r =
    r ≡ with_line BadPack (codes "ranges twice" ++ numbers_text (from ∷ to ∷ level ∷ []))
IsNestRefusal (nesting.Crossing from to next_from next_to) r =
    r ≡ with_line BadPack (codes "ranges cross"
    ++ numbers_text (from ∷ to ∷ next_from ∷ next_to ∷ []))
IsNestRefusal nesting.Deep r = r ≡ with_line Limit (codes "limit depth")
IsNestRefusal nesting.NoMemory r = ⊥

pub data RefusesNesting (root : List ℕ) (text : List (List ℕ)) (ranges : List Range)
    (r : PlainResponse) : Type 0 where
  no_document : (e : NestError) → NestMeans root text ranges (Err e) → IsNestRefusal e r →
      RefusesNesting root text ranges r

-- the document that stands for a text and ranges
abbrev pub nesting_stage : List ℕ → List (List ℕ) → List Range → Stage (PlainDoc Mark)
nesting_stage root text ranges =
    without_fetch (λ doc. NestMeans root text ranges (Ok doc)) (RefusesNesting root text ranges)

-- opening a DTD, a text and ranges, in this order
abbrev pub annotation_stage : Files → Stage ((PlainDtd × List (List ℕ)) × List Range)
annotation_stage files =
    followed_by
    (followed_by (dtd_file_stage (file_at 0 files))
    (λ g. beside g (text_file_stage (file_at 1 files))))
    (λ both. beside both (ranges_file_stage (file_at 2 files)))

-- and then the document that stands for them, beside the DTD
abbrev pub nested_stage : List ℕ → Files → Stage (PlainDtd × PlainDoc Mark)
nested_stage root files = followed_by (annotation_stage files)
    (λ given. beside given.0.0 (nesting_stage root given.0.1 given.1))

-- a response with what `show` replies of a document after it
abbrev pub with_shown : PlainResponse → PlainDoc Mark → PlainResponse
with_shown r doc =
    record r { output = r.output ++ counted_text (codes "show") (doc_text doc) }

-- What `check` would respond of the document, and after its line what `show` replies of it.
pub record TellsNested (root : List ℕ) (g : PlainDtd) (doc : PlainDoc Mark) (r : PlainResponse) :
    Type 0 where
  pub checked : PlainResponse
  pub tells : TellsPossibility root g doc checked
  pub is_response : r ≡ with_shown checked doc

-- after the document: the width of all lists, and then the verdict
abbrev pub IsShownCourse : List ℕ → PlainDtd → PlainDoc Mark → Course → Type 0
IsShownCourse root g doc =
    Behind (width_stage g doc) (λ _. Responds (TellsNested root g doc))

-- what `standoff` does over its files
abbrev pub IsStandoffCourse : List ℕ → Files → Course → Type 0
IsStandoffCourse root files = Behind (nested_stage root files)
    (λ nested. IsShownCourse root nested.0 nested.1)

-- the document that stands for a text and ranges, and testing the width of its lists
abbrev pub judging_nested_stage : List ℕ → PlainDtd → List (List ℕ) → List Range →
    Stage ((PlainDtd × PlainDoc Mark) × Unit {0})
judging_nested_stage root g text ranges = followed_by (beside g (nesting_stage root text ranges))
    (λ nested. beside nested (width_stage nested.0 nested.1))

-- the document that stands for the text and the ranges of some files, and testing the width of its
-- lists
abbrev pub judging_ranges_stage : List ℕ → Files → Stage ((PlainDtd × PlainDoc Mark) × Unit {0})
judging_ranges_stage root files = followed_by (annotation_stage files)
    (λ given. judging_nested_stage root given.0.0 given.0.1 given.1)

-- how many lists that document has
abbrev pub nested_lists : (PlainDtd × PlainDoc Mark) × Unit {0} → ℕ
nested_lists judged = length (lists_of judged.0.1)

-- what `standoff` counts over its files: each list of that document once, where they are judged
abbrev pub CountsNested : List ℕ → Files → Course → ℕ → ℕ → Type 0
CountsNested root files course before after =
    CountsJudged (judging_ranges_stage root files) nested_lists CountsNoMore course.ending before
    after
