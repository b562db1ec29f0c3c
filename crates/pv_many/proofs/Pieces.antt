-- Names that are answered, piece by piece of the input.
use Rattle.std.proofs.Common.{◌≡◌, ◌≢◌, ℕ, ◌+◌, ◌-◌, ◌<◌, ◌≤◌, Bool, true, false, List, [], ◌∷◌}
use Rattle.std.proofs.Common.{◌++◌, codes, length, get_or, take, drop, nat_eq, Option, Ok, refl}
use Rattle.std.proofs.Common.{sym, ap, ◌∙◌, subst, append_assoc, arith}
use Rattle.std.proofs.lemmas.List.{append-nil, length-append, take-append-drop, take_more}
use Rattle.std.specs.Io.KnownBytes.{Appends, Consumes}
use Rattle.pv_dtd.specs.Plain.{PlainDtd}
use Rattle.pv_io.specs.Causes.{AppendsFront, Asked, WasAsked, empty_in}
use Rattle.pv_io.specs.declared.source.Failed.{Failed}
use Rattle.pv_opening.specs.Course.{RunEnding, input_fault, output_fault, responds}
use Rattle.pv_opening.specs.Devices.{InputNow, OutputNow, ShelfNow}
use Rattle.pv_opening.specs.ShownCourses.{AskedAtMost, CountsInput, CountsShelf, WritesEnding}
use Rattle.pv_opening.specs.declared.status.Status.{Status}
use Rattle.pv_opening.specs.declared.status.Status.TheVariants.{Done, Limit, NoMemory}
use Rattle.pv_many.specs.Answers.{NamedAnswer, AnswersName, AnswersNames, answers_text, names_answered}
use Rattle.pv_many.specs.Many.{AnswersOver, AnswersThese, EndsAfter, AnswersPiece, StopsWithin}
use Rattle.pv_many.specs.Many.{answered_all, input_failed, output_failed, too_many}
use Rattle.pv_many.specs.Many.{max_names_bytes, without_memory}
use Rattle.pv_many.specs.Names.{AreNames, HasNoNul, StandInOrder, last_name}
use Rattle.pv_many.specs.declared.requests.Question.{Question}
use Rattle.pv_many.proofs.NamedAnswers.{answer_of, answers_both, answers_none, names_both, one_answer}
use Rattle.pv_io.proofs.Streams.{appends_behind, consumes_more, front_behind, not_at_end}
use Rattle.pv_many.proofs.Inputs.{has_course}
use Rattle.pv_opening.proofs.AskedInputs.{asked_more, asked_within}
use Rattle.pv_many.proofs.NamesRead.{in_order, in_order_last, in_order_then, names_byte, names_end, names_held, names_then}

abbrev pub Adds : Option (List ℕ) → Option (List ℕ) → List ℕ → Type 0
Adds old new text = Appends old new text

abbrev pub AddsFront : Option (List ℕ) → Option (List ℕ) → List ℕ → Type 0
AddsFront old new text = AppendsFront old new text

module _ (question : Question) (root : List ℕ) (g : PlainDtd) where
  pub goes_none : (now : ShelfNow) (held : List ℕ) (Shows : List ℕ → Type 0) → HasNoNul held →
      Shows [] → AnswersPiece question root g now now held [] held Shows
  goes_none now held Shows none shown = record {
    answers = [];
    are_names = rw append-nil (names_held held none);
    so_far = answers_none question root g now Shows shown;
  }

  module _ (before between : ShelfNow) (held front held_now : List ℕ) (b : ℕ) where
    -- a byte that is held
    pub goes_byte : (Shows : List ℕ → Type 0) → AnswersPiece question root g before between held front held_now Shows → (b ≡ 0 → ⊥) →
        AnswersPiece question root g before between held (front ++ b ∷ []) (held_now ++ b ∷ []) Shows
    goes_byte Shows goes other = record {
      answers = goes.answers;
      are_names = subst (λ (bytes : List ℕ). AreNames bytes (names_answered goes.answers) (held_now ++ b ∷ [])) (append_assoc held front (b ∷ []))
          (names_byte (held ++ front) (names_answered goes.answers) held_now b goes.are_names other);
      so_far = goes.so_far;
    }

    module _ (after : ShelfNow) (Here There Both : List ℕ → Type 0) (join : (s t : List ℕ) →
        Here s → There t → Both (s ++ t)) (goes : AnswersPiece question root g before between held
        front held_now Here)
        (is : b ≡ 0) (one : AnswersName question root g held_now between after There) where
      all_now : List NamedAnswer
      all_now = goes.answers ++ answer_of question root g held_now between after There one ∷ []

      all_names : AreNames (held ++ (front ++ b ∷ [])) (names_answered (goes.answers ++ answer_of question root g held_now between after There one ∷ [])) []
      all_names = rw (names_both goes.answers (answer_of question root g held_now between after There one ∷ []))
          (subst (λ (bytes : List ℕ). AreNames bytes (names_answered goes.answers ++ held_now ∷ []) []) (append_assoc held front (b ∷ []))
          (names_end (held ++ front) (names_answered goes.answers) held_now b goes.are_names is))

      -- the NUL of a name, which is answered
      pub goes_name : AnswersPiece question root g before after held (front ++ b ∷ []) [] Both
      goes_name = record {
        answers = goes.answers ++ answer_of question root g held_now between after There one ∷ [];
        are_names = all_names;
        so_far = answers_both question root g before between after goes.answers
            (answer_of question root g held_now between after There one ∷ []) Here There Both join goes.so_far
            (one_answer question root g held_now between after There one);
      }

      -- and at whose answer the run halts
      pub stops_name : (piece rest : List ℕ) → piece ≡ (front ++ b ∷ []) ++ rest → StopsWithin question root g before after held piece Both
      stops_name piece rest cut = record {
        answers = goes.answers ++ answer_of question root g held_now between after There one ∷ [];
        in_order = subst (λ (bytes : List ℕ). StandInOrder bytes (names_answered (goes.answers
            ++ answer_of question root g held_now between after There one ∷ [])))
            (append_assoc held (front ++ b ∷ []) rest ∙ ap (λ (h : List ℕ). held ++ h) (sym cut))
            (in_order (held ++ (front ++ b ∷ [])) (names_answered (goes.answers
            ++ answer_of question root g held_now between after There one ∷ [])) [] all_names rest);
        so_far = answers_both question root g before between after goes.answers
            (answer_of question root g held_now between after There one ∷ []) Here There Both join goes.so_far
            (one_answer question root g held_now between after There one);
      }

  -- a byte for which there is no memory
  pub stops_byte : (before now : ShelfNow) (held front held_now : List ℕ) (Shows : List ℕ →
      Type 0) → AnswersPiece question root g before now held front held_now Shows →
      (piece rest : List ℕ) → piece ≡ front ++ rest → StopsWithin question root g before now held piece Shows
  stops_byte before now held front held_now Shows goes piece rest cut = record {
    answers = goes.answers;
    in_order = subst (λ (bytes : List ℕ). StandInOrder bytes (names_answered goes.answers))
        (append_assoc held front rest ∙ ap (λ (h : List ℕ). held ++ h) (sym cut))
        (in_order (held ++ front) (names_answered goes.answers) held_now goes.are_names rest);
    so_far = goes.so_far;
  }

pub cut_here : (piece : List ℕ) (i : ℕ) → piece ≡ take i piece ++ drop i piece
cut_here piece i = sym (take-append-drop i piece)

pub cut_after : (piece : List ℕ) (i : ℕ) (d : ℕ) → i < length piece → piece ≡ (take i piece ++ get_or piece i d ∷ []) ++ drop (i + 1) piece
cut_after piece i d within = cut_here piece (i + 1) ∙ ap (λ (h : List ℕ). h ++ drop (i + 1) piece) (take_more piece i d within)

-- a run over an input, so far, and how many bytes more it may take
pub record Reads (question : Question) (root : List ℕ) (g : PlainDtd) (before now : ShelfNow)
    (held : List ℕ) (old new : Option (List ℕ)) (left left_now : Option (List ℕ))
    (calls calls_now : Asked) (room : ℕ) : Type 0 where
  pub script : List ℕ
  pub answers : List NamedAnswer
  pub are_names : AreNames script (names_answered answers) held
  pub so_far : AnswersNames question root g before now answers (Adds old new)
  pub taken : Consumes left left_now script
  pub asked : AskedAtMost (length script) 0 calls calls_now
  pub few : room + length script ≡ max_names_bytes

-- answers, and how the run ended after them
pub record Ended (question : Question) (root : List ℕ) (g : PlainDtd) (before now : ShelfNow)
    (taken : List ℕ) (at_end : Bool) (Ends : List NamedAnswer → RunEnding) (Shows : List ℕ → Type 0) :
    Type 0 where
  pub answers : List NamedAnswer
  pub ends : EndsAfter taken answers at_end (Ends answers)
  pub so_far : AnswersNames question root g before now answers Shows

abbrev pub done_with : List NamedAnswer → RunEnding
done_with answers = responds (record { status = Done; output = answers_text answers })

abbrev pub cut_at : List NamedAnswer → RunEnding
cut_at answers = output_fault (answers_text answers)

abbrev pub failed_after : List NamedAnswer → RunEnding
failed_after answers = input_fault (answers_text answers)

abbrev pub short_after : List NamedAnswer → RunEnding
short_after answers = responds (record { status = NoMemory; output = answers_text answers })

abbrev pub limited_after : List NamedAnswer → RunEnding
limited_after answers = responds (record { status = Limit; output = answers_text answers ++ codes "limit names\n" })

-- of the bytes that may still be taken a piece is taken
pub less_left : (left count : ℕ) (script piece : List ℕ) → left + length script ≡ max_names_bytes →
    count ≤ left → length piece ≡ count → (left - count) + length (script ++ piece) ≡
    max_names_bytes
less_left left count script piece all within long =
    omega (arith, all, within, long, length-append script piece)

module _ (question : Question) (root : List ℕ) (g : PlainDtd) (before between : ShelfNow)
    (held : List ℕ) (old mid : Option (List ℕ)) (script : List ℕ) (answers : List NamedAnswer)
    (are_names : AreNames script (names_answered answers) held) (so_far : AnswersNames question root g before between answers (Adds old mid)) where
  -- the last name was answered, or the output failed at it
  pub ended_all : (after : ShelfNow) (new : Option (List ℕ)) → length script ≤ max_names_bytes →
      AnswersThese question root g between after (last_name held) (Adds mid new) →
      Ended question root g before after script true done_with (Adds old new)
  ended_all after new few last = record {
    answers = answers ++ last.answers;
    ends = answered_all (names_answered answers) held are_names few (names_both answers last.answers
        ∙ ap (λ (h : List (List ℕ)). names_answered answers ++ h) last.are_names) refl refl;
    so_far = answers_both question root g before between after answers last.answers (Adds old mid)
        (Adds mid new) (Adds old new) (λ s t. appends_behind old mid new s t) so_far last.so_far;
  }

  pub ended_at_last : (after : ShelfNow) (new : Option (List ℕ)) → AnswersThese question root g between after (last_name held) (AddsFront mid new) →
      Ended question root g before after script false cut_at (AddsFront old new)
  ended_at_last after new last = record {
    answers = answers ++ last.answers;
    ends = output_failed (rw (names_both answers last.answers, last.are_names) (in_order_last script (names_answered answers) held are_names)) refl refl;
    so_far = answers_both question root g before between after answers last.answers (Adds old mid)
        (AddsFront mid new) (AddsFront old new) (λ s t. front_behind old mid new s t) so_far last.so_far;
  }

  pub ended_at_input : Ended question root g before between script false failed_after (Adds old mid)
  ended_at_input = record { answers = answers; ends = input_failed held are_names refl refl; so_far = so_far }

  module _ (piece : List ℕ) where
    pub ended_by_limit : max_names_bytes < length (script ++ piece) →
        Ended question root g before between (script ++ piece) false limited_after (Adds old mid)
    ended_by_limit many = record {
      answers = answers;
      ends =
          too_many (in_order script (names_answered answers) held are_names piece) many refl refl;
      so_far = so_far;
    }

    pub ended_without_memory : (after : ShelfNow) (new : Option (List ℕ)) → StopsWithin question root g between after held piece (Adds mid new) →
        Ended question root g before after (script ++ piece) false short_after (Adds old new)
    ended_without_memory after new stops = record {
      answers = answers ++ stops.answers;
      ends = without_memory (rw (names_both answers stops.answers) (in_order_then script piece
          (names_answered answers) (names_answered stops.answers) held are_names stops.in_order)) refl refl;
      so_far = answers_both question root g before between after answers stops.answers
          (Adds old mid) (Adds mid new) (Adds old new) (λ s t. appends_behind old mid new s t)
          so_far stops.so_far;
    }

    pub ended_within : (after : ShelfNow) (new : Option (List ℕ)) → StopsWithin question root g between after held piece (AddsFront mid new) →
        Ended question root g before after (script ++ piece) false cut_at (AddsFront old new)
    ended_within after new stops = record {
      answers = answers ++ stops.answers;
      ends = output_failed (rw (names_both answers stops.answers) (in_order_then script piece
          (names_answered answers) (names_answered stops.answers) held are_names stops.in_order)) refl refl;
      so_far = answers_both question root g before between after answers stops.answers
          (Adds old mid) (AddsFront mid new) (AddsFront old new) (λ s t. front_behind old mid new s
          t) so_far stops.so_far;
    }

    -- the names of a piece were answered
    pub reads_more : (after : ShelfNow) (held_now : List ℕ) (new left left_now : Option (List ℕ))
        (calls calls_now : Asked) (room : ℕ) → AnswersPiece question root g between after held piece
        held_now (Adds mid new) → Consumes left left_now (script ++ piece) →
        AskedAtMost (length (script ++ piece)) 0 calls calls_now →
        room + length (script ++ piece) ≡ max_names_bytes →
        Reads question root g before after held_now old new left left_now calls calls_now room
    reads_more after held_now new left left_now calls calls_now room goes taken asked few = record {
      script = script ++ piece;
      answers = answers ++ goes.answers;
      are_names = rw (names_both answers goes.answers) (names_then script piece
          (names_answered answers) (names_answered goes.answers) held held_now are_names goes.are_names);
      so_far = answers_both question root g before between after answers goes.answers (Adds old mid)
          (Adds mid new) (Adds old new) (λ s t. appends_behind old mid new s t) so_far goes.so_far;
      taken = taken;
      asked = asked;
      few = few;
    }

-- some bytes of a buffer are more than none
pub some_taken : (count : ℕ) (buf : List ℕ) → count ≡ length (take count buf) → count ≢ 0 →
    0 < length (take count buf)
some_taken count buf long some = omega (arith, long, some)

-- a run that ended within the piece of the input that was read last
pub ended_at_piece : {S : Type 0} (question : Question) (root : List ℕ) (g : PlainDtd)
    (archive between archive_now : ShelfNow) (held : List ℕ) (input input_now : InputNow S)
    (old new : OutputNow) (mid left : Option (List ℕ)) (calls : Asked) (room count : ℕ)
    (piece : List ℕ) (Ends : List NamedAnswer → RunEnding) (Shows : List ℕ → Type 0)
    (status : Status)
    (reads : Reads question root g archive between held old.written mid input.left left input.calls
    calls room)
    (ended : Ended question root g archive archive_now (reads.script ++ piece) false Ends Shows) →
    Consumes left input_now.left piece → WasAsked 1 (empty_in {E = Failed} (Ok count)) calls
    input_now.calls →
    count ≢ 0 → 0 < length piece → ((n : ℕ) → CountsShelf (Ends ended.answers) n n) →
    CountsInput (Ends ended.answers) input.faults input_now.faults →
    WritesEnding (Ends ended.answers) old.written new.written old.faults new.faults status →
    AnswersOver question root g archive archive_now input input_now old new status
ended_at_piece question root g archive between archive_now held input input_now old new mid left
    calls room count piece Ends Shows status reads ended consumes asked none some stays counts
    writes =
    has_course question root g (reads.script ++ piece) ended.answers false (Ends ended.answers)
    archive archive_now input input_now old new status ended.ends ended.so_far.answered
    ended.so_far.shelf
    (consumes_more input.left left input_now.left reads.script piece reads.taken consumes)
    (asked_within _ _ _ (asked_more reads.script piece count _ _ _ reads.asked asked none some))
    (not_at_end _) stays counts writes

-- the name that a rest of some bytes is
last_some : (held : List ℕ) → 0 < length held → held ∷ [] ≡ last_name held
last_some [] some = absurd (omega arith)
last_some (b ∷ bs) some = refl

pub these_last : (question : Question) (root : List ℕ) (g : PlainDtd) (held : List ℕ) (before after : ShelfNow) (Shows : List ℕ → Type 0) → 0 < length held →
    AnswersName question root g held before after Shows → AnswersThese question root g before after (last_name held) Shows
these_last question root g held before after Shows some one = record {
  answers = answer_of question root g held before after Shows one ∷ [];
  are_names = last_some held some;
  so_far = one_answer question root g held before after Shows one;
}

pub these_none : (question : Question) (root : List ℕ) (g : PlainDtd) (held : List ℕ) (now : ShelfNow) (Shows : List ℕ → Type 0) → held ≡ [] → Shows [] →
    AnswersThese question root g now now (last_name held) Shows
these_none question root g held now Shows none shown = record {
  answers = [];
  are_names = sym (ap last_name none);
  so_far = answers_none question root g now Shows shown;
}

true_is_no_false : true ≡ false → ⊥
true_is_no_false is = cc

pub some_held : (held : List ℕ) (b : Bool) → b ≡ nat_eq (length held) 0 → b ≡ false → 0 < length held
some_held [] b is other = absurd (true_is_no_false (sym is ∙ other))
some_held (x ∷ held) b is other = omega arith
