use Rattle.std.proofs.Common.{List, arith, drop, get_or, length, subst, sym, take, ◌-◌, ℕ}
use Rattle.pv_chars.proofs.Arms.{cons_of}
use Rattle.pv_chars.proofs.Options.{match_none}
use Rattle.pv_words.specs.Numbers.{BeginsNoDigit, GoesOnTo}
use Rattle.pv_words.proofs.DigitsRead.{digit-read, none-left, nothing-read, past-read, whole-read}
use Rattle.pv_words.proofs.numbers.go_on.Goals as goal

pub digits-init : goal.digits-init
digits-init c = nothing-read c.args.first c.args.bytes.now (omega arith)

pub returns-in_default-digit_of : goal.returns-in_default-digit_of
returns-in_default-digit_of c =
    whole-read c.args.first c.args.bytes.now c.digits.number c.digits.rest.now c.digits.invariant
    (subst BeginsNoDigit (sym (cons_of c.digits.rest.now c.in-len1-up.len_at_least))
    c.in_default-digit_of.ensures)

pub returns-in_err-number : goal.returns-in_err-number
returns-in_err-number c =
    let first = c.args.first in
    let bytes = c.args.bytes.now in
    let rest = c.digits.rest.now in
    match_none _ ((n : ℕ) (behind : List ℕ) → GoesOnTo first bytes n behind → ⊥) (λ r. GoesOnTo first bytes r.0 r.1.now) c.from_residual.ensures
    (past-read first bytes c.digits.number rest (get_or rest 0 0) c.in-Some.digit
    (take (length rest - 1) (drop 1 rest)) c.digits.invariant
    (cons_of rest c.in-len1-up.len_at_least) c.in-Some.ensures.0 c.in-Some.ensures.1
    c.in_err-number.ensures)

pub digits-preserved : goal.digits-preserved
digits-preserved c =
    let rest = c.digits.rest.now in
    digit-read c.args.first c.args.bytes.now c.digits.number rest (get_or rest 0 0) c.in-Some.digit
    (take (length rest - 1) (drop 1 rest)) c.in_ok-number.number c.digits.invariant
    (cons_of rest c.in-len1-up.len_at_least)
    c.in-Some.ensures.0 c.in-Some.ensures.1 c.in_ok-number.ensures.0 c.in_ok-number.ensures.1

pub returns : goal.returns
returns c = whole-read c.args.first c.args.bytes.now c.digits.number c.digits.rest.now c.digits.invariant (none-left c.digits.rest.now c.in_default.len_below)
