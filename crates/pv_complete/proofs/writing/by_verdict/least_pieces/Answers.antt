use Rattle.std.proofs.Common.{arith}
use Rattle.pv_productive.specs.PlainForms.{dtd_of}
use Rattle.pv_rules.specs.Derivations.{heaviest}
use Rattle.pv_complete.proofs.writing.by_verdict.least_pieces.Goals as goal

pub unreachable-requires : goal.unreachable-requires
unreachable-requires c =
    let w = rw c.in-Ok-None.field-0-is at c.in-Ok-None.ensures.pieces in
    let l = c.requires.light heaviest w in
    omega arith

pub returns-in-Some : goal.returns-in-Some
returns-in-Some c =
    rw c.in_ok-from_slice.ensures.items (c.in-Some.ensures (dtd_of c.args.owner.now.layout.now.grammar.now) c.requires.known)
