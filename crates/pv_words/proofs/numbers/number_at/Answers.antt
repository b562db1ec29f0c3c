use Rattle.std.proofs.Common.{List, arith, drop, get_or, length, subst, sym, take, ◌-◌, ◌<◌, ◌≡◌, ℕ}
use Rattle.pv_chars.proofs.Arms.{cons_of}
use Rattle.pv_chars.proofs.Options.{match_none, match_same}
use Rattle.pv_words.specs.Numbers.{BeginsNoDigit, GoesOnTo, IsNumberAt}
use Rattle.pv_words.proofs.DigitsRead.{from-first, no-zero-at, none-at, none-left, to-first, zero-at}
use Rattle.pv_words.proofs.numbers.number_at.Goals as goal

pub returns-in_default : goal.returns-in_default
returns-in_default c = none-at c.args.bytes.now (none-left c.args.bytes.now c.in_default.len_below)

pub returns-in_err-first : goal.returns-in_err-first
returns-in_err-first c =
    let bytes = c.args.bytes.now in
    match_none _ ((n : ℕ) (rest : List ℕ) → IsNumberAt bytes n rest → ⊥) (λ r. IsNumberAt bytes r.0 r.1.now) c.from_residual.ensures
    (none-at bytes (subst BeginsNoDigit (sym (cons_of bytes c.in-len1-up.len_at_least)) c.in_err-first.ensures))

pub returns-then-first-ne0 : goal.returns-then-first-ne0
returns-then-first-ne0 c =
    let bytes = c.args.bytes.now in
    let b = get_or bytes 0 0 in
    let d = c.in_ok-first.first in
    let rest = take (length bytes - 1) (drop 1 bytes) in
    let front = cons_of bytes c.in-len1-up.len_at_least in
    let is = c.in_ok-first.ensures in
    let some : 0 < d = omega (arith, c.if-first-ne0.true) in
    match_same c.go_on.result ((n : ℕ) (behind : List ℕ) → GoesOnTo d rest n behind →
    ⊥) ((n : ℕ) (behind : List ℕ) → IsNumberAt bytes n behind →
    ⊥) (λ r. GoesOnTo d rest r.0 r.1.now) (λ r. IsNumberAt bytes r.0 r.1.now)
    (λ none n behind a. none n behind (to-first bytes b d rest n behind front is.0 is.1 a)) (λ r g. from-first bytes b d rest r.0 r.1.now front is.0 some is.1 g) c.go_on.ensures

pub returns-then-not-begins_no_digit : goal.returns-then-not-begins_no_digit
returns-then-not-begins_no_digit c =
    let bytes = c.args.bytes.now in
    let zero : c.in_ok-first.first ≡ 0 = omega (arith, c.if-first-ne0.false) in
    no-zero-at bytes (get_or bytes 0 0) c.in_ok-first.first (take (length bytes - 1) (drop 1 bytes)) (cons_of bytes c.in-len1-up.len_at_least) c.in_ok-first.ensures.0 zero
    (λ none. let told = c.begins_no_digit.ensures.1 none in let other = c.if-not-begins_no_digit.true in cc)

pub returns : goal.returns
returns c =
    let bytes = c.args.bytes.now in
    let zero : c.in_ok-first.first ≡ 0 = omega (arith, c.if-first-ne0.false) in
    zero-at bytes (get_or bytes 0 0) c.in_ok-first.first (take (length bytes - 1) (drop 1 bytes))
    (cons_of bytes c.in-len1-up.len_at_least) c.in_ok-first.ensures.0 zero
    (c.begins_no_digit.ensures.0 c.if-not-begins_no_digit.false)
