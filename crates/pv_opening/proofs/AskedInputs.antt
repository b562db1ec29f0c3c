-- How often an input is asked, and what is written over a count that stayed.
use Rattle.std.proofs.Common.{◌≢◌, ◌≤◌, ◌<◌, ◌+◌, ℕ, zero, suc, List, ◌++◌, length, Option, Result}
use Rattle.std.proofs.Common.{Ok, Err, refl, subst, arith}
use Rattle.std.proofs.lemmas.List.{length-append}
use Rattle.pv_io.specs.Causes.{Asked, CountStays, MadeCalls, WasAsked, empty_in}
use Rattle.pv_io.specs.declared.source.Failed.{Failed}
use Rattle.pv_opening.specs.Course.{RunEnding}
use Rattle.pv_opening.specs.ShownCourses.{AskedAtMost, MadeAtMost, WritesEnding}
use Rattle.pv_opening.specs.declared.status.Status.{Status}

-- how often an input was asked: not yet; once more, for more bytes; and once more at the end
made_none : (calls : ℕ) → MadeAtMost 0 calls calls
made_none calls = (0, omega arith, omega arith)

made_more : (most n before between after : ℕ) → MadeAtMost most before between →
    MadeCalls n between after → MadeAtMost (most + n) before after
made_more most n before between after made more =
    let count = made.1 in let calls = made.2 in (made.0 + n, omega arith, omega arith)

made_within : (least most before after : ℕ) → least ≤ most → MadeAtMost least before after →
    MadeAtMost most before after
made_within least most before after within made =
    let count = made.1 in (made.0, omega arith, made.2)

-- one answer has no byte at most, and a number of bytes isn't such a one
empty_once : {E : Type 0} (result : Result ℕ E) → empty_in result ≤ 1
empty_once (Ok zero) = omega arith
empty_once (Ok (suc n)) = omega arith
empty_once (Err error) = omega arith

not_empty : (n : ℕ) → n ≢ 0 → empty_in {E = Failed} (Ok n) ≤ 0
not_empty zero some = absurd (some refl)
not_empty (suc n) some = omega arith

pub asked_none : (calls : Asked) → AskedAtMost 0 0 calls calls
asked_none calls = record { all = made_none calls.calls; none_given = made_none calls.empty }

pub asked_once : {E : Type 0} (most : ℕ) (before between after : Asked) (result : Result ℕ E) →
    AskedAtMost most 0 before between → WasAsked 1 (empty_in result) between after →
    AskedAtMost (most + 1) 1 before after
asked_once most before between after result made once = record {
  all = made_more most 1 before.calls between.calls after.calls made.all once.all;
  none_given = made_within (0 + empty_in result) 1 before.empty after.empty
      (omega (arith, empty_once result)) (made_more 0 (empty_in result) before.empty between.empty
      after.empty made.none_given once.none_given);
}

pub asked_more : (script piece : List ℕ) (n : ℕ) (before between after : Asked) →
    AskedAtMost (length script) 0 before between →
    WasAsked 1 (empty_in {E = Failed} (Ok n)) between after →
    n ≢ 0 → 0 < length piece → AskedAtMost (length (script ++ piece)) 0 before after
asked_more script piece n before between after made once none some = record {
  all =
      made_within (length script + 1) (length (script ++ piece)) before.calls after.calls
      (omega (arith, length-append script piece, some))
      (made_more (length script) 1 before.calls between.calls after.calls made.all once.all);
  none_given =
      made_within (0 + empty_in {E = Failed} (Ok n)) 0 before.empty after.empty
      (let few = not_empty n none in omega (arith, few))
      (made_more 0 (empty_in {E = Failed} (Ok n)) before.empty between.empty after.empty
      made.none_given once.none_given);
}

pub asked_within : (most : ℕ) (before after : Asked) → AskedAtMost most 0 before after →
    AskedAtMost (most + 1) 1 before after
asked_within most before after made = record {
  all = made_within most (most + 1) before.calls after.calls (omega arith) made.all;
  none_given = made_within 0 1 before.empty after.empty (omega arith) made.none_given;
}

-- writing over a count that stayed
pub writes_from : (ending : RunEnding) (old new : Option (List ℕ)) (first before after : ℕ)
    (status : Status) → CountStays first before → WritesEnding ending old new before after status →
    WritesEnding ending old new first after status
writes_from ending old new first before after status stays writes =
    subst (λ (n : ℕ). WritesEnding ending old new n after status) stays writes
