-- Answers, one after another.
use Rattle.std.proofs.Common.{◌≡◌, inl, inr, ℕ, ◌+◌, List, [], ◌∷◌, ◌++◌, Option, Result, Ok, Err}
use Rattle.std.proofs.Common.{Vec, Global, refl, sym, ap, ◌∙◌, subst}
use Rattle.std.proofs.Common.{append_assoc, arith}
use Rattle.std.proofs.lemmas.List.{append-nil, map-append}
use Rattle.std.specs.List.{AllByRecursion}
use Rattle.pv_dtd.specs.Plain.{PlainDtd}
use Rattle.pv_commands.specs.Returns.{BehindDocument}
use Rattle.pv_opening.specs.Course.{Course, after_fetches, without_input}
use Rattle.pv_opening.specs.Devices.{ShelfNow}
use Rattle.pv_opening.specs.Documents.{document_stage}
use Rattle.pv_opening.specs.Opening.{IsFile, document_fetch_stage, dtd_file_stage}
use Rattle.pv_opening.specs.Returns.{Returns, ReturnsOver, TakesCourse, ending_of}
use Rattle.pv_opening.specs.ShownCourses.{CountsShelf, ShowsShelf}
use Rattle.pv_opening.specs.Stage.{Stage, Behind, beside, followed_by, opened, refused, stopped, short_of_memory}
use Rattle.pv_opening.specs.declared.response.Response.{Response}
use Rattle.pv_opening.specs.declared.stop.Stop.{Stop}
use Rattle.pv_opening.specs.declared.stop.Stop.TheVariants.{Refused, ShelfFault, NoMemory}
use Rattle.pv_opening.proofs.Stages.{behind_second, finds_goes, finds_stays, stays_from, stop_counts, stop_ends, stopped_first}
use Rattle.pv_many.specs.Answers.{NamedAnswer, AnswersName, AnswersNames, Does, FindsDocumentAnswer, IsDocumentAnswer, IsAnswerFor, IsCommandAnswer}
use Rattle.pv_many.specs.Answers.{ShowsAnswers, answer_text, answers_text, document_file_stage}
use Rattle.pv_many.specs.Answers.{names_answered}
use Rattle.pv_many.specs.declared.requests.Question.{Question}
use Rattle.pv_many.proofs.NamesRead.{all_as, all_both}

-- a fetch of a document is one, however it ends
fetched_once : (file : Option (List ℕ)) (n : ℕ) (result : Result (Vec ℕ Global) Stop) → Returns (λ v. v.items) (document_fetch_stage file) n result → n ≡ 1
fetched_once file n (Ok v) returns = returns.1
fetched_once file n (Err (Refused r)) returns = returns.1
fetched_once file n (Err ShelfFault) returns = returns.1
fetched_once file n (Err NoMemory) returns = returns

module _ (question : Question) (root : List ℕ) (g : PlainDtd) (name : List ℕ) (before after : ShelfNow) where
  -- the fetch stopped it
  pub fetch_stopped : (stop : Stop) → ReturnsOver {X = Vec ℕ Global} (IsFile before.files name) (λ v. v.items) document_fetch_stage before after (Err stop) →
      FindsDocumentAnswer question root g name before after (ending_of (Err stop))
  fetch_stopped stop over =
      let once = fetched_once over.files over.fetches (Err stop) over.returns in
      let ends = stop_ends (document_file_stage root g over.files) (Does question root) over.fetches stop
      (stopped_first (document_fetch_stage over.files) (λ bytes. document_stage root g bytes) over.fetches stop over.returns) in
      record {
        file = over.files;
        is_file = over.are_such;
        is_answer = subst (λ (n : ℕ). Behind (document_file_stage root g over.files) (Does question root) (without_input n (ending_of (Err stop)))) once ends;
        shelf = record {
          calls = let calls = over.calls in omega (arith, once);
          faults = stop_counts before.faults after.faults stop over.faults;
        };
        same = over.same;
      }

  -- it was fetched, and answered
  pub document_answered : (v : Vec ℕ Global) (result : Result Response Stop) →
      ReturnsOver (IsFile before.files name) (λ v. v.items) document_fetch_stage before after (Ok v) →
      TakesCourse (BehindDocument (Does question) root (g, v.items)) result → FindsDocumentAnswer question root g name before after (ending_of result)
  document_answered v result over takes =
      let Goes : Course → Type 0 = BehindDocument (Does question) root (g, v.items) in
      let once = fetched_once over.files over.fetches (Ok v) over.returns in
      let ends = behind_second (document_fetch_stage over.files) (λ bytes. document_stage root g bytes) (Does question root) v.items over.fetches
      (without_input 0 (ending_of result)) over.returns (finds_goes Goes result takes) in
      record {
        file = over.files;
        is_file = over.are_such;
        is_answer = subst (λ (n : ℕ). Behind (document_file_stage root g over.files)
            (Does question root) (after_fetches n (without_input 0 (ending_of result)))) once ends;
        shelf = record {
          calls = let calls = over.calls in omega (arith, once);
          faults = stays_from (CountsShelf (ending_of result)) before.faults after.faults over.faults (finds_stays Goes result takes);
        };
        same = over.same;
      }

shows_more : (answers : List NamedAnswer) (a : NamedAnswer) (before between after : ShelfNow) →
    ShowsAnswers answers before between → ShowsShelf (without_input 1 a.ending) between after →
    ShowsAnswers (answers ++ a ∷ []) before after
shows_more [] a before between after shows more = (after, subst (λ (s : ShelfNow). ShowsShelf (without_input 1 a.ending) s after) shows more, refl)
shows_more (b ∷ answers) a before between after shows more = (shows.0, shows.1, shows_more answers a shows.0 between after shows.2 more)

pub shows_both : (answers more : List NamedAnswer) (before between after : ShelfNow) → ShowsAnswers answers before between → ShowsAnswers more between after →
    ShowsAnswers (answers ++ more) before after
shows_both [] more before between after shows then_ = subst (λ (s : ShelfNow). ShowsAnswers more s after) shows then_
shows_both (a ∷ answers) more before between after shows then_ = (shows.0, shows.1, shows_both answers more shows.0 between after shows.2 then_)

pub text_both : (answers more : List NamedAnswer) → answers_text (answers ++ more) ≡ answers_text answers ++ answers_text more
text_both [] more = refl
text_both (a ∷ answers) more = ap (λ (h : List ℕ). answer_text a ++ h) (text_both answers more)
    ∙ sym (append_assoc (answer_text a) (answers_text answers) (answers_text more))

pub names_both : (answers more : List NamedAnswer) → names_answered (answers ++ more) ≡ names_answered answers ++ names_answered more
names_both answers more = map-append (λ (a : NamedAnswer). a.name) answers more

text_one : (a : NamedAnswer) → answers_text (a ∷ []) ≡ answer_text a
text_one a = append-nil (answer_text a)

module _ (question : Question) (root : List ℕ) (g : PlainDtd) where
  pub answers_none : (now : ShelfNow) (Shows : List ℕ → Type 0) → Shows [] → AnswersNames question root g now now [] Shows
  answers_none now Shows shown = record { answered = tt; shelf = refl; shown = shown; same = refl }

  -- answers, and then more of them
  pub answers_both : (before between after : ShelfNow) (answers more : List NamedAnswer) (Here There Both : List ℕ → Type 0) →
      ((s t : List ℕ) → Here s → There t → Both (s ++ t)) →
      AnswersNames question root g before between answers Here →
      AnswersNames question root g between after more There →
      AnswersNames question root g before after (answers ++ more) Both
  answers_both before between after answers more Here There Both join here there = record {
    answered = all_both (IsAnswerFor question root g before.files) answers more here.answered
        (subst (λ told. AllByRecursion (IsAnswerFor question root g told) more) here.same there.answered);
    shelf = shows_both answers more before between after here.shelf there.shelf;
    shown = subst Both (sym (text_both answers more)) (join (answers_text answers) (answers_text more) here.shown there.shown);
    same = there.same ∙ here.same;
  }

  -- one answer
  abbrev pub answer_of : (name : List ℕ) (before after : ShelfNow) (Shows : List ℕ → Type 0) → AnswersName question root g name before after Shows → NamedAnswer
  answer_of name before after Shows one = record { name = name; file = one.found.file; ending = one.ending }

  pub one_answer : (name : List ℕ) (before after : ShelfNow) (Shows : List ℕ → Type 0) → (one : AnswersName question root g name before after Shows) →
      AnswersNames question root g before after (answer_of name before after Shows one ∷ []) Shows
  one_answer name before after Shows one = record {
    answered = ((one.found.is_file, one.found.is_answer), tt);
    shelf = (after, one.found.shelf, refl);
    shown = subst Shows (sym (text_one (answer_of name before after Shows one))) one.shown;
    same = one.found.same;
  }

after_both : (k m : ℕ) (rest : Course) → after_fetches k (after_fetches m rest) ≡ after_fetches (k + m) rest
after_both k m rest =
    let count : k + (m + rest.fetches) ≡ (k + m) + rest.fetches = omega arith in
    ap (λ (n : ℕ). record { fetches = n; taken = rest.taken; at_end = rest.at_end; silent = rest.silent; ending = rest.ending }) count

sum_of : (k n i j : ℕ) → n ≡ i + j → k + n ≡ (k + i) + j
sum_of k n i j is = omega (arith, is)

-- A run over two stages, of which the second is after what was opened before both, is one over all three.
module _ {X Y Z : Type 0} (first : Stage X) (second : Stage Y) (third : X → Y → Stage Z) (Goes : Z →
    Course → Type 0) (x : X) (k : ℕ) (opens : first.Opens x k) where
  pub behind_third : (course : Course) → Behind (followed_by second (third x)) Goes course →
      Behind (followed_by (followed_by first (λ x. beside x second)) (λ (both : X × Y). third both.0 both.1)) Goes (after_fetches k course)
  behind_third course (opened z n rest (y, i, j, here, there, is) goes by) =
      opened z (k + n) rest
      ((x, y), k + i, j, (x, k, i, opens, (refl, here), refl), there, sum_of k n i j is) goes
      (ap (after_fetches k) by ∙ after_both k n rest)
  behind_third course (refused r n (inl refuses) by) = refused r (k + n) (inl (inr (x, k, n, opens, refuses, refl))) (ap (after_fetches k) by)
  behind_third course (refused r n (inr (y, i, j, here, refuses, is)) by) =
      refused r (k + n) (inr ((x, y), k + i, j, (x, k, i, opens, (refl, here), refl), refuses, sum_of k n i j is)) (ap (after_fetches k) by)
  behind_third course (stopped n (inl faults) by) = stopped (k + n) (inl (inr (x, k, n, opens, faults, refl))) (ap (after_fetches k) by)
  behind_third course (stopped n (inr (y, i, j, here, faults, is)) by) =
      stopped (k + n) (inr ((x, y), k + i, j, (x, k, i, opens, (refl, here), refl), faults, sum_of k n i j is)) (ap (after_fetches k) by)
  behind_third course (short_of_memory n (inl lacks) by) = short_of_memory (k + n) (inl (inr (x, k, n, opens, lacks, refl))) (ap (after_fetches k) by)
  behind_third course (short_of_memory n (inr (y, i, j, here, lacks, is)) by) =
      short_of_memory (k + n) (inr ((x, y), k + i, j, (x, k, i, opens, (refl, here), refl), lacks, sum_of k n i j is)) (ap (after_fetches k) by)

-- an answer by a DTD is that of the command line over the DTD's file
as_command : (question : Question) (root : List ℕ) (g : PlainDtd) (dtd : Option (List ℕ)) (k : ℕ) (a : NamedAnswer) → (dtd_file_stage dtd).Opens g k →
    IsDocumentAnswer question root g a.file a.ending → IsCommandAnswer question root dtd a
as_command question root g dtd k a opens is = record {
  fetches = k + 1;
  is_course = behind_third (dtd_file_stage dtd) (document_fetch_stage a.file) (document_stage root)
      (Does question root) g k opens (without_input 1 a.ending) is;
}

pub as_commands : (question : Question) (root : List ℕ) (g : PlainDtd) (dtd : Option (List ℕ))
    (k : ℕ) (told : Option (List (List ℕ × List ℕ))) (answers : List NamedAnswer) →
    (dtd_file_stage dtd).Opens g k → AllByRecursion (IsAnswerFor question root g told) answers →
    AllByRecursion (λ (a : NamedAnswer). IsFile told a.name a.file × IsCommandAnswer question root dtd a) answers
as_commands question root g dtd k told answers opens all =
    all_as (IsAnswerFor question root g told) (λ (a : NamedAnswer). IsFile told a.name a.file × IsCommandAnswer question root dtd a) answers
    (λ a is. (is.0, as_command question root g dtd k a opens is.1)) all
