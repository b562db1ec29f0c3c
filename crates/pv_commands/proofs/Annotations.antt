-- What `standoff` did, as a course that is defined for it.
use Rattle.std.proofs.Common.{◌≡◌, ℕ, ◌+◌, List, [], ◌∷◌, Option, Result, Ok, Err, false, length}
use Rattle.std.proofs.Common.{refl, subst, sym, ◌≤◌, arith}
use Rattle.pv_chars.specs.Texts.{holds_close_mark}
use Rattle.pv_chars.specs.Units.{TextMeans}
use Rattle.pv_dtd.specs.Plain.{PlainDtd}
use Rattle.pv_dtd.specs.PlainForms.{plain_dtd}
use Rattle.pv_dtd.specs.declared.dtd.Dtd.{Dtd}
use Rattle.pv_standoff.specs.Laws.{TextsHaveNoCloseMark}
use Rattle.pv_standoff.specs.Lines.{SpellRanges}
use Rattle.pv_standoff.specs.Ranges.{AreNamed, MAX_RANGES}
use Rattle.pv_standoff.specs.declared.ranges.Range.{Range}
use Rattle.pv_opening.specs.declared.response.Response.{Response}
use Rattle.pv_opening.specs.declared.stop.Stop.{Stop}
use Rattle.pv_opening.specs.Course.{RunEnding, without_input}
use Rattle.pv_opening.specs.Devices.{ShelfNow}
use Rattle.pv_opening.specs.JudgedCounts.{CountsJudged, CountsNoMore}
use Rattle.pv_opening.specs.Possibility.{width_stage}
use Rattle.pv_tree.specs.Lists.{lists_of}
use Rattle.pv_tree.specs.Plain.{PlainDoc}
use Rattle.pv_tree.specs.declared.nodes.Mark.{Mark}
use Rattle.pv_opening.proofs.JudgedLists.{judged_beside, judged_second, stops_first}
use Rattle.pv_opening.specs.Opening.{Files, IsFile, dtd_file_stage}
use Rattle.pv_opening.specs.ShownCourses.{CountsShelf}
use Rattle.pv_opening.specs.Returns.{TakesCourse, ReturnsOver, ending_of}
use Rattle.pv_opening.specs.Stage.{Behind, Stage, beside, followed_by}
use Rattle.pv_commands.specs.Returns.{FindsOver}
use Rattle.pv_commands.specs.Standoff.{CountsNested, IsShownCourse, IsStandoffCourse}
use Rattle.pv_commands.specs.Standoff.{annotation_stage, judging_nested_stage, nested_lists}
use Rattle.pv_commands.specs.Standoff.{nested_stage, nesting_stage, ranges_file_stage}
use Rattle.pv_commands.specs.Standoff.{text_file_stage}
use Rattle.pv_opening.proofs.Stages.{behind_second, finds_goes, finds_stays, stays_from, stop_counts}
use Rattle.pv_opening.proofs.Stages.{stop_ends, stopped_first}

-- the files of a DTD and a text, and of ranges
abbrev pub ThreeFiles : Type 0
ThreeFiles = (Option (List ℕ) × Option (List ℕ)) × Option (List ℕ)

abbrev pub AreThree : Option (List (List ℕ × List ℕ)) → List ℕ → List ℕ → List ℕ → ThreeFiles →
    Type 0
AreThree told dtd text ranges files =
    (IsFile told dtd files.0.0 × IsFile told text files.0.1) × IsFile told ranges files.1

abbrev pub plain_given : (Dtd × List (List ℕ)) × List Range →
    (PlainDtd × List (List ℕ)) × List Range
plain_given given = ((plain_dtd given.0.0, given.0.1), given.1)

abbrev pub three_stage : ThreeFiles → Stage ((PlainDtd × List (List ℕ)) × List Range)
three_stage files =
    followed_by
    (followed_by (dtd_file_stage files.0.0) (λ g. beside g (text_file_stage files.0.1)))
    (λ both. beside both (ranges_file_stage files.1))

abbrev files_of : ThreeFiles → Files
files_of files = files.0.0 ∷ files.0.1 ∷ files.1 ∷ []

module _ (dtd root text ranges : List ℕ) (before after : ShelfNow) where
  abbrev Finds : ℕ → ℕ → Result Response Stop → Type 0
  Finds checked checked_now result =
      FindsOver (dtd ∷ text ∷ ranges ∷ []) (IsStandoffCourse root) (CountsNested root) before after
      checked checked_now result

  -- its files stopped it
  pub annotation_stopped : (checked : ℕ) (stop : Stop) →
      ReturnsOver {X = (Dtd × List (List ℕ)) × List Range}
      (AreThree before.files dtd text ranges) plain_given three_stage before after (Err stop) →
      Finds checked checked (Err stop)
  annotation_stopped checked stop over =
      let files = files_of over.files in
      record {
        files = files;
        are_files = (over.are_such.0.0, (over.are_such.0.1, (over.are_such.1, tt)));
        fetches = over.fetches;
        takes = stop_ends (nested_stage root files) (λ nested. IsShownCourse root nested.0 nested.1)
            over.fetches stop
            (stopped_first (annotation_stage files)
            (λ given. beside given.0.0 (nesting_stage root given.0.1 given.1)) over.fetches stop
            over.returns);
        shelf = record {
          calls = over.calls;
          faults = stop_counts before.faults after.faults stop over.faults;
        };
        checks = stops_first (annotation_stage files)
            (λ g. judging_nested_stage root g.0.0 g.0.1 g.1) nested_lists CountsNoMore over.fetches
            stop checked checked over.returns refl;
      }

  -- it found this after them
  pub annotation_found : (checked checked_now : ℕ) (given : (Dtd × List (List ℕ)) × List Range)
      (result : Result Response Stop) →
      ReturnsOver (AreThree before.files dtd text ranges) plain_given three_stage before after
      (Ok given) →
      TakesCourse (Behind (beside (plain_dtd given.0.0) (nesting_stage root given.0.1 given.1))
      (λ nested. IsShownCourse root nested.0 nested.1)) result →
      CountsJudged (judging_nested_stage root (plain_dtd given.0.0) given.0.1 given.1) nested_lists
      CountsNoMore (ending_of result) checked checked_now → Finds checked checked_now result
  annotation_found checked checked_now given result over finds counts =
      let files = files_of over.files in
      let Goes = Behind (beside (plain_dtd given.0.0) (nesting_stage root given.0.1 given.1))
      (λ nested. IsShownCourse root nested.0 nested.1) in
      record {
        files = files;
        are_files = (over.are_such.0.0, (over.are_such.0.1, (over.are_such.1, tt)));
        fetches = over.fetches + 0;
        takes = behind_second (annotation_stage files)
            (λ g. beside g.0.0 (nesting_stage root g.0.1 g.1))
            (λ nested. IsShownCourse root nested.0 nested.1) (plain_given given) over.fetches
            (without_input 0 (ending_of result)) over.returns (finds_goes Goes result finds);
        shelf = record {
          calls = omega (arith, over.calls);
          faults = stays_from (CountsShelf (ending_of result)) before.faults after.faults
              over.faults (finds_stays Goes result finds);
        };
        checks = judged_second (annotation_stage files)
            (λ g. judging_nested_stage root g.0.0 g.0.1 g.1) nested_lists CountsNoMore
            (plain_given given) over.fetches (ending_of result) checked checked_now over.returns
            counts;
      }

-- what was counted of the document that stands for a text and ranges, by a grammar of the DTD
pub nested_counts : (root : List ℕ) (g d : PlainDtd) (text : List (List ℕ)) (ranges : List Range)
    (doc : PlainDoc Mark) (ending : RunEnding) (before after : ℕ) →
    (nesting_stage root text ranges).Opens doc 0 → d ≡ g →
    CountsJudged (width_stage d doc) (λ _. length (lists_of doc)) CountsNoMore ending before after →
    CountsJudged (judging_nested_stage root g text ranges) nested_lists CountsNoMore ending before
    after
nested_counts root g d text ranges doc ending before after opens same counts =
    let here = subst (λ (h : PlainDtd). CountsJudged (width_stage h doc)
    (λ _. length (lists_of doc)) CountsNoMore ending before after) same counts in
    judged_second (beside g (nesting_stage root text ranges))
    (λ nested. beside nested (width_stage nested.0 nested.1)) nested_lists CountsNoMore (g, doc) 0
    ending before after (refl, opens)
    (judged_beside (g, doc) (width_stage g doc) nested_lists CountsNoMore ending before after here)

-- what was read is named, few, and without `]]>`
named : (lines : List (List ℕ)) (ranges : List Range) → SpellRanges lines ranges → AreNamed ranges
named [] [] spells = tt
named [] (r ∷ rs) spells = absurd spells
named (l ∷ ls) [] spells = absurd spells
named (l ∷ ls) (r ∷ rs) spells = (spells.0.is_name, named ls rs spells.1)

pub record CanNest (text : List (List ℕ)) (ranges : List Range) : Type 0 where
  pub named : AreNamed ranges
  pub few : length ranges ≤ MAX_RANGES
  pub no_close_mark : holds_close_mark text ≡ false

pub can_nest : TextsHaveNoCloseMark → (files : ThreeFiles)
    (given : (PlainDtd × List (List ℕ)) × List Range) (k : ℕ) →
    (three_stage files).Opens given k → CanNest given.0.1 given.1
can_nest none files given k (
  both,
  i,
  j,
  (g, a, b, dtd, (same, (bytes, u, v, fetched, text, e)), f),
  (are, (lines, x, y, more, ranges, h)),
  l,
) = record {
  named = named _ given.1 ranges.0.0;
  few = ranges.0.1;
  no_close_mark = none bytes given.0.1
      (subst (λ (p : PlainDtd × List (List ℕ)). TextMeans bytes (Ok p.1)) (sym are) text.0);
}
