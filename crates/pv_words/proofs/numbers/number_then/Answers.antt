use Rattle.std.proofs.Common.{ap, arith, get_or, length, ◌≡◌}
use Rattle.pv_chars.proofs.Arms.{cons_of}
use Rattle.pv_words.proofs.DigitsRead.{no-stop-behind}
use Rattle.pv_words.proofs.numbers.number_then.Goals as goal

pub returns-in_default : goal.returns-in_default
returns-in_default c =
    no-stop-behind c.args.stop c.requires c.args.bytes.now c.in_ok-number.number c.in_ok-number.behind.now c.in_ok-number.ensures (λ rest is. omega (arith, ap length is, c.in_default.len_below))

pub returns-then-byte-stop : goal.returns-then-byte-stop
returns-then-byte-stop c =
    let behind = c.in_ok-number.behind.now in
    no-stop-behind c.args.stop c.requires c.args.bytes.now c.in_ok-number.number behind c.in_ok-number.ensures
    (λ rest is. let front = cons_of behind c.in-len1-up.len_at_least in let same : get_or behind 0 0 ≡ c.args.stop = ap (λ l. get_or l 0 0) is in c.if-byte-stop.true same)
