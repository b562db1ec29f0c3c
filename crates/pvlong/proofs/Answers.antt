-- What a request comes to, as the devices show it.
use Rattle.std.proofs.Common.{◌≡◌, ℕ, ◌+◌, List, [], ◌∷◌, Option, Some, None, Result, Err, Ok, false, subst, sym, arith}
use Rattle.pv_opening.specs.declared.opening.Fetched.{Fetched}
use Rattle.pv_opening.specs.declared.stop.Stop.{Stop}
use Rattle.pv_opening.specs.Course.{without_input}
use Rattle.pv_opening.specs.Devices.{OutputNow, ShelfNow}
use Rattle.pv_opening.specs.Documents.{document_stage}
use Rattle.pv_opening.specs.Opening.{AreFiles, fetching_stage, opening_stage}
use Rattle.pv_opening.specs.Returns.{ReturnsOver, TakesCourse, ending_of, plain_fetched}
use Rattle.pv_opening.specs.ShownCourses.{CountsShelf}
use Rattle.pv_opening.proofs.Stages.{behind_second, finds_goes, finds_stays, stays_from, stop_counts, stop_ends, stopped_first}
use Rattle.pvlong.specs.RequestAnswers.{AnswersWords, EndsWith, FindsAnswer, AnswersFetched}
use Rattle.pvlong.specs.RequestAnswers.{IsAnswerTo, IsToldOf}
use Rattle.pvlong.specs.Requests.{PlainRequest, request, request_of}
use Rattle.pvlong.specs.ToldNumbers.{not_least_in, response_in}
use Rattle.pvlong.specs.declared.exits.Exit.{Exit}
use Rattle.pvlong.specs.declared.requests.Question.{Question}
use Rattle.pvlong.specs.declared.telling.Told.{Told}

-- its files stopped it
pub files_refused : (question : Question) (dtd root doc : List ℕ) (before after : ShelfNow)
    (stop : Stop) → ReturnsOver {X = Fetched} (AreFiles before.files (dtd ∷ doc ∷ [])) plain_fetched
    fetching_stage before after (Err stop) →
    FindsAnswer (Some (request question dtd root doc)) before after (Err stop)
files_refused question dtd root doc before after stop over = record {
  files = over.files;
  are_files = over.are_such;
  fetches = over.fetches;
  is_answer = stop_ends (opening_stage root over.files) (IsToldOf question root false) over.fetches stop
      (stopped_first (fetching_stage over.files) (λ both. document_stage root both.0 both.1) over.fetches stop over.returns);
  shelf = record { calls = over.calls; faults = stop_counts before.faults after.faults stop over.faults };
}

-- they were fetched, and it went on
pub answer_found : (question : Question) (dtd root doc : List ℕ) (before after : ShelfNow) (fetched : Fetched) (result : Result Told Stop) →
    ReturnsOver (AreFiles before.files (dtd ∷ doc ∷ [])) plain_fetched fetching_stage before after (Ok fetched) →
    TakesCourse (AnswersFetched question root (plain_fetched fetched) (not_least_in result)) (response_in result) → FindsAnswer (Some (request question dtd root doc)) before after result
answer_found question dtd root doc before after fetched result over finds =
    let both = plain_fetched fetched in
    let not_least = not_least_in result in
    let goes = finds_goes (AnswersFetched question root both not_least) (response_in result) finds in
    let stays = finds_stays (AnswersFetched question root both not_least) (response_in result) finds in
    record {
      files = over.files;
      are_files = over.are_such;
      fetches = over.fetches + 0;
      is_answer = behind_second (fetching_stage over.files) (λ b. document_stage root b.0 b.1) (IsToldOf question root not_least) both over.fetches
          (without_input 0 (ending_of (response_in result))) over.returns goes;
      shelf = record { calls = omega (arith, over.calls); faults = stays_from (CountsShelf (ending_of (response_in result))) before.faults after.faults over.faults stays };
    }

-- words that are no request ask no shelf
pub none_found : (shelf : ShelfNow) (result : Result Told Stop) → TakesCourse (IsAnswerTo None [] (not_least_in result)) (response_in result) → FindsAnswer None shelf shelf result
none_found shelf result finds = record {
  files = [];
  are_files = tt;
  fetches = 0;
  is_answer = finds_goes (IsAnswerTo None [] (not_least_in result)) (response_in result) finds;
  shelf = record { calls = omega arith; faults = finds_stays (IsAnswerTo None [] (not_least_in result)) (response_in result) finds shelf.faults };
}

-- what was found, once it is written
pub found_answers : (words : List (List ℕ)) (asked : Option PlainRequest) (before after : ShelfNow) (old new : OutputNow) (result : Result Told Stop) (exit : Exit) → request_of words ≡ asked →
    FindsAnswer asked before after result → EndsWith result old new exit → AnswersWords words before after old new exit
found_answers words asked before after old new result exit is found writes =
    let finds = subst (λ (a : Option PlainRequest). FindsAnswer a before after result) (sym is) found in
    record {
      files = finds.files;
      are_files = finds.are_files;
      not_least = not_least_in result;
      course = without_input finds.fetches (ending_of (response_in result));
      is_answer = finds.is_answer;
      shelf = finds.shelf;
      status = writes.status;
      output = writes.output;
      ends = writes.ends;
    }
