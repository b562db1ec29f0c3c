use Rattle.std.proofs.Common.{◌∙◌, ◌+◌, ◌-◌, ◌++◌, ◌≡◌, ap, arith, length, length-append, refl}
use Rattle.std.proofs.Common.{vec_len}
use Rattle.std.proofs.lemmas.Slice.{pushed}
use Rattle.pv_verdicts.proofs.ReplacedParts.{exchanged}
use Rattle.pv_verdicts.proofs.last.exchange.Goals as goal

pub returns-clause-items : goal.returns-clause-items
returns-clause-items c =
    let xs = c.args.tokens.now.items in
    let came = c.args.came.now in
    let from = c.args.from in
    let put = c.extend_from_slice.new.self in
    let is : put.items ≡ xs ++ came =
    pushed came refl c.in_ok-extend_from_slice.was c.extend_from_slice.ensures.items in
    let count = ap length is ∙ length-append xs came in
    exchanged xs came put.items c.move_last.new.tokens.items c.take_out.new.tokens.items from
    c.args.to (vec_len put - from - length came) (from + length came)
    (c.args.to + length came) c.requires.order (omega arith) is (omega (arith, count))
    c.move_last.ensures.items refl refl c.take_out.ensures
