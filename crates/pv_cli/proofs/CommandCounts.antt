-- How many lists a command judged.
use Rattle.std.proofs.Common.{◌≡◌, ◌⊎◌, inl, inr, ◌≤◌, ◌<◌, ◌+◌, ◌*◌, ◌%◌, ℕ, suc, zero, Bool, true}
use Rattle.std.proofs.Common.{false, ◌==◌, if◌then◌else◌, List, [], ◌∷◌, length, Result, Err, refl}
use Rattle.std.proofs.Common.{arith}
use Rattle.std.proofs.lemmas.Bool.{cases_lt}
use Rattle.std.proofs.lemmas.List.{length-append}
use Rattle.pv_dtd.specs.Plain.{PlainDtd}
use Rattle.pv_drill.specs.Drill.{drill_lines, section_line, section_lines}
use Rattle.pv_tree.specs.Lists.{lists_of}
use Rattle.pv_cli.specs.RunCounts.{CountsAtMost, CountsVerb, judging_files_stage}
use Rattle.pv_cli.specs.declared.verb.Verb.{Verb}
use Rattle.pv_cli.specs.declared.verb.Verb.TheVariants.{Valid, Check, Session, Complete, Why}
use Rattle.pv_conversation.specs.CountedLines.{CountsScript}
use Rattle.pv_opening.specs.Course.{Course, RunEnding, after_fetches, without_input}
use Rattle.pv_opening.specs.Documents.{PlainOpened, document_stage}
use Rattle.pv_opening.specs.JudgedCounts.{CountsJudged, CountsNoMore, CountsOpening, judges_all}
use Rattle.pv_opening.specs.JudgedCounts.{judges_none, judging_stage, lists_judged}
use Rattle.pv_opening.specs.Opening.{Files, fetching_stage}
use Rattle.pv_opening.specs.Possibility.{width_stage}
use Rattle.pv_opening.specs.Returns.{StopsBy, ending_of}
use Rattle.pv_opening.specs.Stage.{Stage, beside}
use Rattle.pv_opening.specs.declared.stop.Stop.{Stop}
use Rattle.pv_opening.proofs.JudgedLists.{judged_second, opening_beside, opening_second, stops_first}

-- what was counted before a session on a document that was opened
pub opened_document : {Z : Type 0} (root : List ℕ) (g : PlainDtd) (bytes : List ℕ)
    (opened : PlainOpened) (before after : ℕ) (result : Result Z Stop) →
    (document_stage root g bytes).Opens opened 0 →
    CountsOpening (width_stage opened.dtd opened.doc) (λ _. length (lists_of opened.doc)) before
    after result → CountsOpening (judging_stage root g bytes) lists_judged before after result
opened_document root g bytes opened before after result opens counts =
    opening_second (document_stage root g bytes) (λ o. beside o (width_stage o.dtd o.doc))
    lists_judged opened 0 before after result opens
    (opening_beside opened (width_stage opened.dtd opened.doc) lists_judged before after result
    counts)

-- what counts no more counts at most so many
pub drill_stopped : {X : Type 0} (judging : Stage X) (lists : X → ℕ) (most : ℕ) (ending : RunEnding)
    (before after : ℕ) → CountsJudged judging lists CountsNoMore ending before after →
    CountsJudged judging lists (CountsAtMost most) ending before after
drill_stopped judging lists most ending before after (judges_none within same) =
    judges_none within same
drill_stopped judging lists most ending before after (judges_all x k opens same) =
    judges_all x k opens (omega (arith, same), omega (arith, same))

-- a session that wasn't begun took no line
pub session_quiet : {X : Type 0} (judging : Stage X) (lists : X → ℕ) (n : ℕ)
    (ending other : RunEnding) (before after : ℕ) →
    CountsJudged judging lists CountsNoMore ending before after →
    CountsJudged judging lists (CountsScript (without_input n other)) ending before after
session_quiet judging lists n ending other before after (judges_none within same) =
    judges_none within same
session_quiet judging lists n ending other before after (judges_all x k opens same) =
    judges_all x k opens same

-- a verb whose files stopped it counts nothing
pub verb_stopped : (verb : Verb) (root : List ℕ) (files : Files) (n : ℕ) (stop : Stop)
    (checked : ℕ) → StopsBy (fetching_stage files) n stop →
    CountsVerb verb (judging_files_stage root files) (without_input n (ending_of (Err stop)))
    checked checked
verb_stopped Valid root files n stop checked stops = refl
verb_stopped Check root files n stop checked stops =
    stops_first (fetching_stage files) (λ both. judging_stage root both.0 both.1) lists_judged
    CountsNoMore n stop checked checked stops refl
verb_stopped Session root files n stop checked stops =
    session_quiet (judging_files_stage root files) lists_judged n (ending_of (Err stop))
    (ending_of (Err stop)) checked checked
    (stops_first (fetching_stage files) (λ both. judging_stage root both.0 both.1) lists_judged
    CountsNoMore n stop checked checked stops refl)
verb_stopped Complete root files n stop checked stops = refl
verb_stopped Why root files n stop checked stops =
    stops_first (fetching_stage files) (λ both. judging_stage root both.0 both.1) lists_judged
    CountsNoMore n stop checked checked stops refl

-- what it counts after its files is what it counts with them
pub verb_counts : (verb : Verb) (root : List ℕ) (files : Files) (fetched : PlainDtd × List ℕ)
    (n : ℕ) (rest : Course) (before after : ℕ) → (fetching_stage files).Opens fetched n →
    CountsVerb verb (judging_stage root fetched.0 fetched.1) rest before after →
    CountsVerb verb (judging_files_stage root files) (after_fetches n rest) before after
verb_counts Valid root files fetched n rest before after opens counts = counts
verb_counts Check root files fetched n rest before after opens counts =
    judged_second (fetching_stage files) (λ both. judging_stage root both.0 both.1) lists_judged
    CountsNoMore fetched n rest.ending before after opens counts
verb_counts Session root files fetched n rest before after opens counts =
    judged_second (fetching_stage files) (λ both. judging_stage root both.0 both.1) lists_judged
    (CountsScript rest) fetched n rest.ending before after opens counts
verb_counts Complete root files fetched n rest before after opens counts = counts
verb_counts Why root files fetched n rest before after opens counts =
    judged_second (fetching_stage files) (λ both. judging_stage root both.0 both.1) lists_judged
    CountsNoMore fetched n rest.ending before after opens counts

-- the lines of a drill up to a section
pub sections_within : (k n : ℕ) → k ≤ n → length (drill_lines k) ≤ length (drill_lines n)
sections_within k zero within = let none : k ≡ zero = omega (arith, within) in rw none (omega arith)
sections_within k (suc n) within = by (cases_lt n k) (λ less. sections_within k n less)
  where
    by : (n < k) ⊎ (k ≤ n) → (k ≤ n → length (drill_lines k) ≤ length (drill_lines n)) →
        length (drill_lines k) ≤ length (drill_lines (suc n))
    by (inl more) below = let e : k ≡ suc n = omega (arith, more, within) in rw e (omega arith)
    by (inr less) below =
        omega (arith, below less, length-append (drill_lines n) (section_lines (suc n)))

-- the lines for a section
pub two_lines : (k : ℕ) → 2 ≤ length (section_lines k)
two_lines k = by (k % 3 == 0)
  where
    by : (third : Bool) →
        2 ≤ length (if third then section_line k 0 ∷ section_line k 1 ∷ section_line k 2 ∷ [] else
        section_line k 0 ∷ section_line k 1 ∷ [])
    by true = omega arith
    by false = omega arith

pub three_lines : (k : ℕ) → k % 3 ≡ 0 → 3 ≤ length (section_lines k)
three_lines k is = rw is (omega arith)

pub section_few : (k first middle last : ℕ) → middle ≤ first + 2 * length (drill_lines k) →
    last ≤ middle + 2 * length (section_lines (k + 1)) →
    last ≤ first + 2 * length (drill_lines (k + 1))
section_few k first middle last before more =
    let next : k + 1 ≡ suc k = omega arith in
    let few : last ≤ middle + 2 * length (section_lines (suc k)) = rw next at more in
    rw next (omega (arith, before, few, length-append (drill_lines k) (section_lines (suc k))))

pub section_cut : (k n first middle last : ℕ) → k < n →
    middle ≤ first + 2 * length (drill_lines k) →
    last ≤ middle + 2 * length (section_lines (k + 1)) →
    last ≤ first + 2 * length (drill_lines n)
section_cut k n first middle last less before more =
    omega (
      arith,
      section_few k first middle last before more,
      sections_within (k + 1) n
          (omega (arith, less)),
    )
