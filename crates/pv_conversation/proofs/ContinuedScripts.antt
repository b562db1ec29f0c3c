-- Bytes that come after a limit or a `quit` change nothing.
use Rattle.std.proofs.Common.{◌≡◌, ◌⊎◌, inl, inr, ℕ, suc, ◌-◌, ◌+◌, ◌<◌, ◌≤◌, Bool, true, false, ◌||◌, List, [], ◌∷◌, ◌++◌, map, length, take, refl, sym, ap, ◌∙◌, append_assoc, arith}
use Rattle.std.proofs.Math.Seq.{take-append-add}
use Rattle.std.proofs.lemmas.Bool.{cases_lt}
use Rattle.std.proofs.lemmas.List.{append-nil, length-append, map-append, take-append-le, take_all}
use Rattle.std.proofs.lemmas.List.Folds.{list_any-append}
use Rattle.std.specs.List.{list_any}
use Rattle.pv_words.proofs.RawLines.{BeginsRawLines, cut_of, ended_raw_lines-front, ended_raw_lines-lines, raw_lines_of-front, raw_lines_of-lines, raw_lines_of-part}
use Rattle.pv_words.specs.Lines.{ended_raw_lines, lines_of, raw_lines_of, without_returns, HasNoFeed, with_feeds}
use Rattle.pv_conversation.specs.Laws.{MoreChangesNothing}
use Rattle.pv_conversation.specs.Script.{MAX_SCRIPT_BYTES, IsWithin, before_too_long, has_long_line, is_line_too_long, lines_within}
use Rattle.pv_conversation.specs.Session.{finished, quitted, past_line, past_script, input_failed, output_failed}
use Rattle.pv_conversation.proofs.Limits.{cut_stays, goes_on, goes_on_long}
use Rattle.pv_conversation.proofs.Replies.{ends_at_quit}

-- the pieces of bytes that go on
ended_on : (bytes more : List ℕ) → ended_raw_lines (bytes ++ more) ≡ ended_raw_lines bytes ++ ended_raw_lines ((cut_of bytes).part ++ more)
ended_on bytes more = let cut = cut_of bytes in
    ap (λ (h : List ℕ). ended_raw_lines (h ++ more)) cut.is_cut ∙ ap ended_raw_lines (append_assoc (with_feeds (ended_raw_lines bytes)) cut.part more)
    ∙ ended_raw_lines-lines (ended_raw_lines bytes) (cut.part ++ more) cut.lines_free

pieces_on : (bytes more : List ℕ) → raw_lines_of (bytes ++ more) ≡ ended_raw_lines bytes ++ raw_lines_of ((cut_of bytes).part ++ more)
pieces_on bytes more = let cut = cut_of bytes in
    ap (λ (h : List ℕ). raw_lines_of (h ++ more)) cut.is_cut ∙ ap raw_lines_of (append_assoc (with_feeds (ended_raw_lines bytes)) cut.part more)
    ∙ raw_lines_of-lines (ended_raw_lines bytes) (cut.part ++ more) cut.lines_free

-- what is answered of bytes is answered first of bytes that go on
before_on : (ps qs : List (List ℕ)) → (more : List (List ℕ)) × (before_too_long (ps ++ qs) ≡ before_too_long ps ++ more)
before_on ps qs = by (list_any is_line_too_long ps) refl
  where
    by : (b : Bool) → list_any is_line_too_long ps ≡ b → (more : List (List ℕ)) × (before_too_long (ps ++ qs) ≡ before_too_long ps ++ more)
    by true is = ([], cut_stays ps qs is ∙ sym (append-nil (before_too_long ps)))
    by false is =
        let all : before_too_long ps ≡ ps = ap before_too_long (sym (append-nil ps)) ∙ goes_on ps [] is ∙ append-nil ps in
        (before_too_long qs, goes_on ps qs is ∙ ap (λ (l : List (List ℕ)). l ++ before_too_long qs) (sym all))

-- Where a piece is too long, nothing more is answered.
record StaysLong (bytes : List ℕ) : Type 0 where
  pub same : (more : List ℕ) → before_too_long (ended_raw_lines (bytes ++ more)) ≡ before_too_long (ended_raw_lines bytes)
  pub long : (more : List ℕ) → list_any is_line_too_long (raw_lines_of (bytes ++ more)) ≡ true

or_true : (b : Bool) → (b || true) ≡ true
or_true true = refl
or_true false = refl

-- a part of a line that is too long
or_none : (c : Bool) → (c || false) ≡ c
or_none true = refl
or_none false = refl

cut_at_first : (p : List ℕ) (ps : List (List ℕ)) → is_line_too_long p ≡ true → before_too_long (p ∷ ps) ≡ []
cut_at_first p ps is = rw is refl

ended_long : (part more : List ℕ) → is_line_too_long part ≡ true →
    (ended_raw_lines (part ++ more) ≡ []) ⊎ BeginsRawLines part (ended_raw_lines (part ++ more)) →
    before_too_long (ended_raw_lines (part ++ more)) ≡ []
ended_long part more is (inl none) = ap before_too_long none
ended_long part more is (inr begins) = ap before_too_long begins.are ∙ cut_at_first (part ++ begins.behind) begins.others (goes_on_long part begins.behind is)

pieces_long : (part more : List ℕ) → is_line_too_long part ≡ true → BeginsRawLines part (raw_lines_of (part ++ more)) → list_any is_line_too_long (raw_lines_of (part ++ more)) ≡ true
pieces_long part more is begins =
    ap (list_any is_line_too_long) begins.are ∙ ap (λ c. c || list_any is_line_too_long begins.others) (goes_on_long part begins.behind is)

long_part : (part : List ℕ) → HasNoFeed part → list_any is_line_too_long (raw_lines_of part) ≡ true → (more : List ℕ) →
    (before_too_long (ended_raw_lines (part ++ more)) ≡ []) × (list_any is_line_too_long (raw_lines_of (part ++ more)) ≡ true)
long_part [] free any more = cc
long_part (b ∷ bs) free any more =
    let is : is_line_too_long (b ∷ bs) ≡ true = sym (or_none (is_line_too_long (b ∷ bs))) ∙ ap (list_any is_line_too_long) (sym (raw_lines_of-part b bs free)) ∙ any in
    (ended_long (b ∷ bs) more is (ended_raw_lines-front (b ∷ bs) more free), pieces_long (b ∷ bs) more is (raw_lines_of-front b bs more free))

any_in_parts : (bytes : List ℕ) → (list_any is_line_too_long (ended_raw_lines bytes) || list_any is_line_too_long (raw_lines_of (cut_of bytes).part)) ≡ list_any is_line_too_long (raw_lines_of bytes)
any_in_parts bytes =
    sym (list_any-append is_line_too_long (ended_raw_lines bytes) (raw_lines_of (cut_of bytes).part))
    ∙ ap (list_any is_line_too_long) (ap (λ (h : List ℕ). ended_raw_lines bytes ++ raw_lines_of h)
    (sym (append-nil (cut_of bytes).part)) ∙ sym (pieces_on bytes [])
    ∙ ap raw_lines_of (append-nil bytes))

none_cut : (ps : List (List ℕ)) → list_any is_line_too_long ps ≡ false → before_too_long ps ≡ ps
none_cut ps none = ap before_too_long (sym (append-nil ps)) ∙ goes_on ps [] none ∙ append-nil ps

stays_by : (bytes : List ℕ) (b : Bool) → list_any is_line_too_long (ended_raw_lines bytes) ≡ b → list_any is_line_too_long (raw_lines_of bytes) ≡ true → StaysLong bytes
stays_by bytes true is any =
    let part = (cut_of bytes).part in
    record {
      same = λ more. ap before_too_long (ended_on bytes more) ∙ cut_stays (ended_raw_lines bytes) (ended_raw_lines (part ++ more)) is;
      long = λ more. ap (list_any is_line_too_long) (pieces_on bytes more) ∙ list_any-append is_line_too_long (ended_raw_lines bytes) (raw_lines_of (part ++ more))
          ∙ ap (λ c. c || list_any is_line_too_long (raw_lines_of (part ++ more))) is;
    }
stays_by bytes false is any =
    let cut = cut_of bytes in
    let in_part : list_any is_line_too_long (raw_lines_of cut.part) ≡ true = sym (ap (λ c. c || list_any is_line_too_long (raw_lines_of cut.part)) is) ∙ any_in_parts bytes ∙ any in
    let part = long_part cut.part cut.part_free in_part in
    record {
      same = λ more. ap before_too_long (ended_on bytes more) ∙ goes_on (ended_raw_lines bytes) (ended_raw_lines (cut.part ++ more)) is
          ∙ ap (λ (l : List (List ℕ)). ended_raw_lines bytes ++ l) (part more).0 ∙ append-nil (ended_raw_lines bytes) ∙ sym (none_cut (ended_raw_lines bytes) is);
      long = λ more. ap (list_any is_line_too_long) (pieces_on bytes more) ∙ list_any-append is_line_too_long (ended_raw_lines bytes) (raw_lines_of (cut.part ++ more))
          ∙ ap (λ c. list_any is_line_too_long (ended_raw_lines bytes) || c) (part more).1 ∙ or_true (list_any is_line_too_long (ended_raw_lines bytes));
    }

stays_long : (bytes : List ℕ) → list_any is_line_too_long (raw_lines_of bytes) ≡ true → StaysLong bytes
stays_long bytes any = stays_by bytes (list_any is_line_too_long (ended_raw_lines bytes)) refl any

-- a front of bytes that go on
take_on : (n : ℕ) (bytes more : List ℕ) → length bytes ≤ n → take n (bytes ++ more) ≡ bytes ++ take (n - length bytes) more
take_on n bytes more within =
    let sum : n ≡ length bytes + (n - length bytes) = omega (arith, within) in
    ap (λ k. take k (bytes ++ more)) sum ∙ take-append-add bytes more (n - length bytes)

-- how the lines and the limits of a script go on
pub lines_on : (script more : List ℕ) → (behind : List (List ℕ)) × (lines_within (script ++ more) ≡ lines_within script ++ behind)
lines_on script more = by (cases_lt (length script) MAX_SCRIPT_BYTES)
  where
    by : (length script < MAX_SCRIPT_BYTES) ⊎ (MAX_SCRIPT_BYTES ≤ length script) → (behind : List (List ℕ)) × (lines_within (script ++ more) ≡ lines_within script ++ behind)
    by (inr full) =
        ([], ap (λ (h : List ℕ). map without_returns (before_too_long (ended_raw_lines h))) (take-append-le MAX_SCRIPT_BYTES script more full) ∙ sym (append-nil (lines_within script)))
    by (inl less) =
        let rest = take (MAX_SCRIPT_BYTES - length script) more in
        let on = before_on (ended_raw_lines script) (ended_raw_lines ((cut_of script).part ++ rest)) in (
          map without_returns on.0,
          ap (λ (h : List ℕ). map without_returns (before_too_long (ended_raw_lines h))) (take_on MAX_SCRIPT_BYTES script more (omega (arith, less)))
              ∙ ap (λ (ps : List (List ℕ)). map without_returns (before_too_long ps)) (ended_on script rest)
              ∙ ap (map without_returns) on.1 ∙ map-append without_returns (before_too_long (ended_raw_lines script)) on.0
              ∙ ap (λ (h : List ℕ). map without_returns (before_too_long (ended_raw_lines h)) ++ map without_returns on.0) (sym (take_all MAX_SCRIPT_BYTES script (omega (arith, less)))),
        )

pub record KeepsLimit (script more : List ℕ) : Type 0 where
  pub lines : lines_within (script ++ more) ≡ lines_within script
  pub long : has_long_line (script ++ more) ≡ has_long_line script

-- the first byte past the limit on the script tells all
pub past_on : (script more : List ℕ) → MAX_SCRIPT_BYTES < length script → KeepsLimit script more
past_on script more beyond = record {
  lines = ap (λ (h : List ℕ). map without_returns (before_too_long (ended_raw_lines h))) (take-append-le MAX_SCRIPT_BYTES script more (omega (arith, beyond)));
  long = ap (λ (h : List ℕ). list_any is_line_too_long (raw_lines_of h)) (take-append-le (suc MAX_SCRIPT_BYTES) script more (omega (arith, beyond)));
}

-- and so does the first byte of a line that is too long
pub long_on : (script more : List ℕ) → has_long_line script ≡ true → KeepsLimit script more
long_on script more is = by (cases_lt (length script) (suc MAX_SCRIPT_BYTES))
  where
    by : (length script < suc MAX_SCRIPT_BYTES) ⊎ (suc MAX_SCRIPT_BYTES ≤ length script) → KeepsLimit script more
    by (inr beyond) = past_on script more (omega (arith, beyond))
    by (inl less) =
        let any : list_any is_line_too_long (raw_lines_of script) ≡ true =
        ap (λ (h : List ℕ). list_any is_line_too_long (raw_lines_of h)) (sym (take_all (suc MAX_SCRIPT_BYTES) script (omega (arith, less)))) ∙ is in
        let stays = stays_long script any in
        record {
          lines = ap (λ (h : List ℕ). map without_returns (before_too_long (ended_raw_lines h))) (take_on MAX_SCRIPT_BYTES script more (omega (arith, less)))
              ∙ ap (map without_returns) (stays.same (take (MAX_SCRIPT_BYTES - length script) more))
              ∙ ap (λ (h : List ℕ). map without_returns (before_too_long (ended_raw_lines h))) (sym (take_all MAX_SCRIPT_BYTES script (omega (arith, less))));
          long = ap (λ (h : List ℕ). list_any is_line_too_long (raw_lines_of h)) (take_on (suc MAX_SCRIPT_BYTES) script more (omega (arith, less)))
              ∙ stays.long (take (suc MAX_SCRIPT_BYTES - length script) more) ∙ sym is;
        }

-- Where no limit is passed, the lines are those that an LF ends, and then the last.
first_false : (b c : Bool) → (b || c) ≡ false → b ≡ false
first_false true c is = cc
first_false false c is = refl

pub lines_and_last : (script : List ℕ) → IsWithin script → lines_of script ≡ lines_within script ++ lines_of (cut_of script).part
lines_and_last script within =
    let part = (cut_of script).part in
    let none : (list_any is_line_too_long (ended_raw_lines script) || list_any is_line_too_long (raw_lines_of part)) ≡ false =
    any_in_parts script
    ∙ ap (λ (h : List ℕ). list_any is_line_too_long (raw_lines_of h)) (sym (take_all (suc MAX_SCRIPT_BYTES) script (omega (arith, within.whole)))) ∙ within.lines in
    let here : lines_within script ≡ map without_returns (ended_raw_lines script) =
    ap (λ (h : List ℕ). map without_returns (before_too_long (ended_raw_lines h))) (take_all MAX_SCRIPT_BYTES script within.whole)
    ∙ ap (map without_returns) (none_cut (ended_raw_lines script) (first_false _ _ none)) in
    ap lines_of (sym (append-nil script)) ∙ ap (map without_returns) (pieces_on script [])
    ∙ map-append without_returns (ended_raw_lines script) (raw_lines_of (part ++ []))
    ∙ ap (λ (l : List (List ℕ)). l ++ lines_of (part ++ [])) (sym here)
    ∙ ap (λ (h : List ℕ). lines_within script ++ lines_of h) (append-nil part)

pub more_changes_nothing : MoreChangesNothing
more_changes_nothing session script more silent ending no_fault (finished out place at_end within replies is) = cc
more_changes_nothing session script more silent ending no_fault (quitted out replies is) =
    let on = lines_on script more in
    quitted out (rw on.1 (ends_at_quit silent 1 session (lines_within script) on.0 out replies)) is
more_changes_nothing session script more silent ending no_fault (past_line out number after long replies is) =
    let on = long_on script more long in
    past_line out number after (on.long ∙ long) (rw on.lines replies) is
more_changes_nothing session script more silent ending no_fault (past_script out number after none beyond replies is) =
    let on = past_on script more beyond in
    past_script out number after (on.long ∙ none) (omega (arith, beyond, length-append script more)) (rw on.lines replies) is
more_changes_nothing session script more silent ending no_fault (input_failed out number after within replies is) = absurd (no_fault out is)
more_changes_nothing session script more silent ending no_fault (output_failed lines behind out place are replies is) =
    let on = lines_on script more in
    output_failed lines (behind ++ on.0) out place (on.1 ∙ ap (λ (l : List (List ℕ)). l ++ on.0) are ∙ append_assoc lines behind on.0) replies is
