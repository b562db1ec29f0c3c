-- Over given files `standoff` has one response.
use Rattle.std.proofs.Common.{◌≡◌, ◌∙◌, ℕ, List, Option, Ok, Err, ap, codes, refl, subst, sym}
use Rattle.pv_chars.specs.Laws.{TextsMeanOne}
use Rattle.pv_chars.specs.Units.{TextMeans}
use Rattle.pv_chars.specs.declared.errors.TextError.{TextError}
use Rattle.pv_chars.specs.declared.errors.TextError.TheVariants as bad_text
use Rattle.pv_dtd.specs.Plain.{PlainDtd}
use Rattle.pv_standoff.specs.Laws.{OneMeaning, OneReading}
use Rattle.pv_standoff.specs.Lines.{RangesMean}
use Rattle.pv_standoff.specs.NestOutcomes.{NestMeans}
use Rattle.pv_standoff.specs.declared.errors.NestError.{NestError}
use Rattle.pv_standoff.specs.declared.errors.NestError.TheVariants as bad_nest
use Rattle.pv_standoff.specs.declared.errors.RangesError.{RangesError}
use Rattle.pv_standoff.specs.declared.errors.RangesError.TheVariants as bad_line
use Rattle.pv_standoff.specs.declared.ranges.Range.{Range}
use Rattle.pv_tree.specs.Plain.{PlainDoc}
use Rattle.pv_tree.specs.declared.nodes.Mark.{Mark}
use Rattle.pv_opening.specs.Course.{Course}
use Rattle.pv_opening.specs.Opening.{Files, dtd_file_stage, fetch_stage, file_at}
use Rattle.pv_opening.specs.Possibility.{width_stage}
use Rattle.pv_opening.specs.Response.{PlainResponse}
use Rattle.pv_opening.specs.Stage.{Responds, Stage, beside, followed_by}
use Rattle.pv_commands.specs.Standoff.{IsNestRefusal, IsRangesRefusal, IsShownCourse, IsTextRefusal}
use Rattle.pv_commands.specs.Standoff.{MAX_RANGES_BYTES, MAX_TEXT_BYTES, RefusesNesting}
use Rattle.pv_commands.specs.Standoff.{RefusesRanges, RefusesText, TellsNested, annotation_stage}
use Rattle.pv_commands.specs.Standoff.{nested_stage, nesting_stage, no_document, no_ranges, no_text}
use Rattle.pv_commands.specs.Standoff.{ranges_file_stage, ranges_stage, text_file_stage, text_stage}
use Rattle.pv_commands.specs.Standoff.{with_shown}
use Rattle.law_program.proofs.OneCheck.{one_possibility}
use Rattle.pv_opening.proofs.OnePossibility.{width_sure}
use Rattle.pv_opening.proofs.OneOpening.{AreSure, IsEqual, IsSamePair, IsSure, ReadsOneDtd, RunsAs}
use Rattle.pv_opening.proofs.OneOpening.{beside_sure, dtd_file_sure, fetch_sure, followed_sure}
use Rattle.pv_opening.proofs.OneOpening.{one_like, reading_sure, sure_at, told}
use Rattle.law_program.proofs.OneVerification.{beside_same}

same_text_refusal : (e : TextError) (r also : PlainResponse) → IsTextRefusal e r →
    IsTextRefusal e also → r ≡ also
same_text_refusal bad_text.Empty r also is are = is ∙ sym are
same_text_refusal (bad_text.BadChar place) r also is are = is ∙ sym are
same_text_refusal (bad_text.BadReference place) r also is are = is ∙ sym are
same_text_refusal (bad_text.Entity place) r also is are = is ∙ sym are
same_text_refusal (bad_text.CloseMark place) r also is are = is ∙ sym are
same_text_refusal bad_text.NoMemory r also is are = absurd is

same_ranges_refusal : (e : RangesError) (r also : PlainResponse) → IsRangesRefusal e r →
    IsRangesRefusal e also → r ≡ also
same_ranges_refusal (bad_line.Syntax k) r also is are = is ∙ sym are
same_ranges_refusal bad_line.Limit r also is are = is ∙ sym are
same_ranges_refusal bad_line.NoMemory r also is are = absurd is

same_nest_refusal : (e : NestError) (r also : PlainResponse) → IsNestRefusal e r →
    IsNestRefusal e also → r ≡ also
same_nest_refusal (bad_nest.Outside k) r also is are = is ∙ sym are
same_nest_refusal (bad_nest.Twice from to level) r also is are = is ∙ sym are
same_nest_refusal (bad_nest.Crossing from to after past) r also is are = is ∙ sym are
same_nest_refusal bad_nest.Deep r also is are = is ∙ sym are
same_nest_refusal bad_nest.NoMemory r also is are = absurd is

-- what the laws say that the proof stands on
pub record NestsOnce : Type 0 where
  pub texts : TextsMeanOne
  pub lines : OneReading
  pub nests : OneMeaning

text_sure : TextsMeanOne → (bytes : List ℕ) → IsSure (text_stage bytes) IsEqual
text_sure one bytes =
    reading_sure (λ u. TextMeans bytes (Ok u)) (λ u. TextMeans bytes (Ok u)) (RefusesText bytes)
    (RefusesText bytes) IsEqual opens_or (λ u r denies means. opens_or u r means denies) one_refusal
    (λ u w means again. let same = one bytes (Ok u) (Ok w) means again in cc)
  where
    opens_or : (u : List (List ℕ)) (r : PlainResponse) → TextMeans bytes (Ok u) →
        RefusesText bytes r → ⊥
    opens_or u r means (no_text e faulty is) =
        let same = one bytes (Ok u) (Err e) means faulty in cc

    one_refusal : (r also : PlainResponse) → RefusesText bytes r → RefusesText bytes also → r ≡ also
    one_refusal r also (no_text e faulty is) (no_text d again are) =
        let same = one bytes (Err e) (Err d) faulty again in
        let faults : d ≡ e = cc in
        same_text_refusal e r also is (subst (λ (f : TextError). IsTextRefusal f also) faults are)

ranges_sure : OneReading → (bytes : List ℕ) → IsSure (ranges_stage bytes) IsEqual
ranges_sure one bytes =
    reading_sure (λ u. RangesMean bytes (Ok u)) (λ u. RangesMean bytes (Ok u)) (RefusesRanges bytes)
    (RefusesRanges bytes) IsEqual opens_or (λ u r denies means. opens_or u r means denies)
    one_refusal
    (λ u w means again. let same = one bytes (Ok u) (Ok w) means again in cc)
  where
    opens_or : (u : List Range) (r : PlainResponse) → RangesMean bytes (Ok u) →
        RefusesRanges bytes r → ⊥
    opens_or u r means (no_ranges e faulty is) =
        let same = one bytes (Ok u) (Err e) means faulty in cc

    one_refusal : (r also : PlainResponse) → RefusesRanges bytes r → RefusesRanges bytes also →
        r ≡ also
    one_refusal r also (no_ranges e faulty is) (no_ranges d again are) =
        let same = one bytes (Err e) (Err d) faulty again in
        let faults : d ≡ e = cc in
        same_ranges_refusal e r also is
        (subst (λ (f : RangesError). IsRangesRefusal f also) faults are)

nesting_sure : OneMeaning → (root : List ℕ) (text : List (List ℕ)) (ranges : List Range) →
    IsSure (nesting_stage root text ranges) IsEqual
nesting_sure one root text ranges =
    reading_sure (λ d. NestMeans root text ranges (Ok d)) (λ d. NestMeans root text ranges (Ok d))
    (RefusesNesting root text ranges) (RefusesNesting root text ranges) IsEqual opens_or
    (λ d r denies means. opens_or d r means denies) one_refusal
    (λ d w means again. let same = one root text ranges (Ok d) (Ok w) means again in cc)
  where
    opens_or : (d : PlainDoc Mark) (r : PlainResponse) → NestMeans root text ranges (Ok d) →
        RefusesNesting root text ranges r → ⊥
    opens_or d r means (no_document e faulty is) =
        let same = one root text ranges (Ok d) (Err e) means faulty in cc

    one_refusal : (r also : PlainResponse) → RefusesNesting root text ranges r →
        RefusesNesting root text ranges also → r ≡ also
    one_refusal r also (no_document e faulty is) (no_document d again are) =
        let same = one root text ranges (Err e) (Err d) faulty again in
        let faults : d ≡ e = cc in
        same_nest_refusal e r also is (subst (λ (f : NestError). IsNestRefusal f also) faults are)

text_file_sure : TextsMeanOne → (file : Option (List ℕ)) → IsSure (text_file_stage file) IsEqual
text_file_sure one file =
    let fetch = fetch_stage file MAX_TEXT_BYTES (codes "limit text-file") in
    followed_sure fetch fetch IsEqual text_stage text_stage IsEqual
    (fetch_sure file MAX_TEXT_BYTES (codes "limit text-file"))
    (sure_at text_stage IsEqual (text_sure one))

ranges_file_sure : OneReading → (file : Option (List ℕ)) → IsSure (ranges_file_stage file) IsEqual
ranges_file_sure one file =
    let fetch = fetch_stage file MAX_RANGES_BYTES (codes "limit ranges-file") in
    followed_sure fetch fetch IsEqual ranges_stage ranges_stage IsEqual
    (fetch_sure file MAX_RANGES_BYTES (codes "limit ranges-file"))
    (sure_at ranges_stage IsEqual (ranges_sure one))

-- both have the same DTD, text and ranges
abbrev AreSameGiven : (PlainDtd × List (List ℕ)) × List Range →
    (PlainDtd × List (List ℕ)) × List Range → Type 0
AreSameGiven a b = IsSamePair IsEqual a.0 b.0 × (a.1 ≡ b.1)

annotation_sure : NestsOnce → ReadsOneDtd → (files : Files) →
    IsSure (annotation_stage files) AreSameGiven
annotation_sure known dtds files =
    let dtd = dtd_file_stage (file_at 0 files) in
    let text = text_file_stage (file_at 1 files) in
    let ranges = ranges_file_stage (file_at 2 files) in
    let both = followed_by dtd (λ g. beside g text) in
    followed_sure both both (IsSamePair IsEqual) (λ b. beside b ranges) (λ b. beside b ranges)
    AreSameGiven
    (followed_sure dtd dtd IsEqual (λ g. beside g text) (λ g. beside g text) (IsSamePair IsEqual)
    (dtd_file_sure dtds (file_at 0 files))
    (sure_at (λ g. beside g text) (IsSamePair IsEqual)
    (λ g. beside_sure g text IsEqual (text_file_sure known.texts (file_at 1 files)))))
    (beside_same ranges (ranges_file_sure known.lines (file_at 2 files)) (IsSamePair IsEqual))

module _ (known : NestsOnce) (root : List ℕ) where
  abbrev nests : (PlainDtd × List (List ℕ)) × List Range → Stage (PlainDtd × PlainDoc Mark)
  nests given = beside given.0.0 (nesting_stage root given.0.1 given.1)

  nests_sure : (a b : (PlainDtd × List (List ℕ)) × List Range) → AreSameGiven a b →
      AreSure (nests a) (nests b) (IsSamePair IsEqual)
  nests_sure a b same =
      subst (λ (g : PlainDtd). AreSure (nests a) (beside g (nesting_stage root b.0.1 b.1))
      (IsSamePair IsEqual)) same.0.0
      (subst (λ (t : List (List ℕ)). AreSure (nests a) (beside a.0.0 (nesting_stage root t b.1))
      (IsSamePair IsEqual)) same.0.1
      (subst (λ (rs : List Range). AreSure (nests a) (beside a.0.0 (nesting_stage root a.0.1 rs))
      (IsSamePair IsEqual)) same.1
      (beside_sure a.0.0 (nesting_stage root a.0.1 a.1) IsEqual
      (nesting_sure known.nests root a.0.1 a.1))))

  pub nested_sure : ReadsOneDtd → (files : Files) →
      IsSure (nested_stage root files) (IsSamePair IsEqual)
  nested_sure dtds files =
      followed_sure (annotation_stage files) (annotation_stage files) AreSameGiven nests nests
      (IsSamePair IsEqual) (annotation_sure known dtds files) nests_sure

one_told : (root : List ℕ) (g : PlainDtd) (doc : PlainDoc Mark) (r also : PlainResponse) →
    TellsNested root g doc r → TellsNested root g doc also → r ≡ also
one_told root g doc r also t u =
    t.is_response ∙ ap (λ (c : PlainResponse). with_shown c doc)
    (one_possibility root g doc doc t.checked u.checked refl t.tells u.tells) ∙ sym u.is_response

one_course : (root : List ℕ) (g : PlainDtd) (doc : PlainDoc Mark) (course other : Course)
    (r also : PlainResponse) → RunsAs course other r also → IsShownCourse root g doc course →
    IsShownCourse root g doc other → r ≡ also
one_course root g doc course other r also so is are =
    one_like (width_stage g doc) (width_stage g doc) IsEqual
    (λ _. Responds (TellsNested root g doc)) (λ _. Responds (TellsNested root g doc)) r also
    (r ≡ also) (λ e. e) (width_sure g doc doc refl)
    (λ u v rest more e both here there. one_told root g doc r also
    (told (TellsNested root g doc) rest r here both.ends)
    (told (TellsNested root g doc) more also there both.ends_too)) course other so is are

pub one_annotation : (root : List ℕ) (x y : PlainDtd × PlainDoc Mark) (course other : Course)
    (r also : PlainResponse) → IsSamePair IsEqual x y → RunsAs course other r also →
    IsShownCourse root x.0 x.1 course → IsShownCourse root y.0 y.1 other → r ≡ also
one_annotation root x y course other r also same so is are =
    one_course root x.0 x.1 course other r also so is
    (subst (λ (g : PlainDtd). IsShownCourse root g x.1 other) (sym same.0)
    (subst (λ (d : PlainDoc Mark). IsShownCourse root y.0 d other) (sym same.1) are))
