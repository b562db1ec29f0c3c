-- How many lists a run judges, as the counter of the call counts them: one step for each list of
-- its document, and those that the lines of a script judge.
use Rattle.std.specs.Prelude.{◌≤◌, ◌+◌, ◌*◌, ℕ, List, length}
use Rattle.pv_drill.specs.Drill.{DRILL_DTD, drill_lines, drill_text}
use Rattle.pv_cli.specs.Drill.{DRILL_ROOT}
use Rattle.pv_cli.specs.declared.verb.Verb.{Verb}
use Rattle.pv_cli.specs.declared.verb.Verb.TheVariants.{Check, Session, Why}
use Rattle.pv_conversation.specs.CountedLines.{CountsScript}
use Rattle.pv_opening.specs.Course.{Course, RunEnding}
use Rattle.pv_opening.specs.Documents.{PlainOpened}
use Rattle.pv_opening.specs.JudgedCounts.{CountsJudged, CountsNoMore, judging_stage, lists_judged}
use Rattle.pv_opening.specs.Opening.{Files, dtd_stage, fetching_stage}
use Rattle.pv_opening.specs.Stage.{Stage, followed_by}

-- opening the files of a command on a document, and testing the width of its lists
abbrev pub judging_files_stage : List ℕ → Files → Stage (PlainOpened × Unit {0})
judging_files_stage root files =
    followed_by (fetching_stage files) (λ both. judging_stage root both.0 both.1)

-- What each verb counts after such a stage: `check` and `why` no more than the document's lists,
-- `session` those that its lines judge. Any other verb counts nothing.
abbrev pub CountsVerb : Verb → Stage (PlainOpened × Unit {0}) → Course → ℕ → ℕ → Type 0
CountsVerb Check judging course before after =
    CountsJudged judging lists_judged CountsNoMore course.ending before after
CountsVerb Why judging course before after =
    CountsJudged judging lists_judged CountsNoMore course.ending before after
CountsVerb Session judging course before after =
    CountsJudged judging lists_judged (CountsScript course) course.ending before after
CountsVerb other judging course before after = CountsNoMore before after

-- reading the DTD and the document of a drill, and testing the width of its lists
abbrev pub judging_drill_stage : ℕ → Stage (PlainOpened × Unit {0})
judging_drill_stage n =
    followed_by (dtd_stage DRILL_DTD) (λ g. judging_stage DRILL_ROOT g (drill_text n))

-- the counter rose by so many at most
abbrev pub CountsAtMost : ℕ → ℕ → ℕ → Type 0
CountsAtMost most before after = (before ≤ after) × (after ≤ before + most)

-- what a drill counts: its document's lists, and two at most for each of its lines, all of which
-- are moves
abbrev pub CountsDrill : ℕ → RunEnding → ℕ → ℕ → Type 0
CountsDrill n ending before after = CountsJudged (judging_drill_stage n) lists_judged
    (CountsAtMost (2 * length (drill_lines n))) ending before after
