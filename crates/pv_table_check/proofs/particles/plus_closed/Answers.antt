use Rattle.std.proofs.Common.{arith, true, ◌+◌}
use Rattle.pv_table_check.specs.Tested.{dtd_in, word_in}
use Rattle.pv_table_check.proofs.EntriesAtSites.{one_inner, one_outer, plus_from, plus_to}
use Rattle.pv_table_check.proofs.EntriesAtSites.{two_inner, two_outer}
use Rattle.pv_table_check.proofs.particles.plus_closed.Goals as goal

pub returns-then-not-one_holds : goal.returns-then-not-one_holds
returns-then-not-one_holds c = (
  λ t. absurd cc,
  λ h.
      let held = plus_from c.listed_or_not_law.ensures (dtd_in c.args.tested.now)
      (word_in c.args.tested.now) c.args.tested.now.entries.now c.requires.sound.over
      c.args.number c.requires.plus.0 c.requires.plus.1 h in
      let t = c.one_holds.ensures.1 (one_outer c.listed_or_not_law.ensures
      (dtd_in c.args.tested.now) (word_in c.args.tested.now) c.args.tested.now.entries.now
      c.requires.sound.over c.args.number (c.args.number + 1) (omega arith) held.0) in let f =
      c.if-not-one_holds.true in cc,
)

pub returns : goal.returns
returns c = (
  λ t. plus_to c.listed_or_not_law.ensures (dtd_in c.args.tested.now) (word_in c.args.tested.now)
      c.args.tested.now.entries.now c.requires.sound.over c.args.number c.requires.plus.0
      c.requires.plus.1 (one_inner c.listed_or_not_law.ensures (dtd_in c.args.tested.now)
      (word_in c.args.tested.now) c.args.tested.now.entries.now c.requires.sound.over c.args.number
      (c.args.number + 1) (omega arith) (c.one_holds.ensures.0 c.if-not-one_holds.false))
      (two_inner c.listed_or_not_law.ensures (dtd_in c.args.tested.now) (word_in c.args.tested.now)
      c.args.tested.now.entries.now c.requires.sound.over c.args.number (c.args.number + 1)
      (omega arith) true (c.two_holds.ensures.0 t)),
  λ h. c.two_holds.ensures.1 (two_outer c.listed_or_not_law.ensures (dtd_in c.args.tested.now)
      (word_in c.args.tested.now) c.args.tested.now.entries.now c.requires.sound.over c.args.number
      (c.args.number + 1) (omega arith) true (plus_from c.listed_or_not_law.ensures
      (dtd_in c.args.tested.now) (word_in c.args.tested.now) c.args.tested.now.entries.now
      c.requires.sound.over c.args.number c.requires.plus.0 c.requires.plus.1 h).1),
)
