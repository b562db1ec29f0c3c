use Rattle.std.proofs.Common.{ap, length, sym, true, ◌∙◌, ◌≡◌}
use Rattle.std.proofs.lemmas.Bool.{eq-eqb, eqb-true}
use Rattle.std.proofs.lemmas.List.{nil_from_length}
use Rattle.pv_words.proofs.DigitsRead.{spelled-alone, spelled-none, spelled-not-alone}
use Rattle.pv_words.proofs.numbers.written_number.Goals as goal

pub returns-in_err-number : goal.returns-in_err-number
returns-in_err-number c = spelled-none c.args.word.now c.in_err-number.ensures ∙ sym c.from_residual.ensures

pub returns-then-not-is_empty : goal.returns-then-not-is_empty
returns-then-not-is_empty c =
    spelled-not-alone c.args.word.now c.in_ok-number.number c.in_ok-number.rest.now c.in_ok-number.ensures
    (λ none. let told : c.is_empty.result ≡ true = c.is_empty.ensures ∙ eq-eqb _ 0 (ap length none) in let other = c.if-not-is_empty.true in cc)

pub returns : goal.returns
returns c =
    spelled-alone c.args.word.now c.in_ok-number.number c.in_ok-number.rest.now
    c.in_ok-number.ensures (nil_from_length c.in_ok-number.rest.now
    (eqb-true _ 0 (sym c.is_empty.ensures ∙ c.if-not-is_empty.false)))
