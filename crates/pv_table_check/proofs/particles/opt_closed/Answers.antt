use Rattle.std.proofs.Common.{arith, ◌+◌}
use Rattle.pv_rules.specs.Sites.{part_site}
use Rattle.pv_table_check.specs.Tested.{dtd_in, word_in}
use Rattle.pv_table_check.proofs.EntriesAtSites.{one_inner, one_outer, opt_from, opt_to}
use Rattle.pv_table_check.proofs.Words.{nothing_from, nothing_to}
use Rattle.pv_table_check.proofs.particles.opt_closed.Goals as goal

pub returns-then-not-nothing_holds : goal.returns-then-not-nothing_holds
returns-then-not-nothing_holds c = (
  λ t. absurd cc,
  λ h.
      let held = opt_from c.listed_or_not_law.ensures (dtd_in c.args.tested.now)
      (word_in c.args.tested.now) c.args.tested.now.entries.now c.requires.sound.over
      c.args.number c.requires.opt.0 c.requires.opt.1 h in
      let t = c.nothing_holds.ensures.1 (nothing_from c.args.tested.now (part_site c.args.number) held.0) in let f = c.if-not-nothing_holds.true in cc,
)

pub returns : goal.returns
returns c = (
  λ t. opt_to c.listed_or_not_law.ensures (dtd_in c.args.tested.now) (word_in c.args.tested.now)
      c.args.tested.now.entries.now c.requires.sound.over c.args.number c.requires.opt.0
      c.requires.opt.1 (nothing_to c.args.tested.now (part_site c.args.number)
      (c.nothing_holds.ensures.0 c.if-not-nothing_holds.false))
      (one_inner c.listed_or_not_law.ensures (dtd_in c.args.tested.now) (word_in c.args.tested.now)
      c.args.tested.now.entries.now c.requires.sound.over c.args.number (c.args.number + 1)
      (omega arith) (c.one_holds.ensures.0 t)),
  λ h. c.one_holds.ensures.1 (one_outer c.listed_or_not_law.ensures (dtd_in c.args.tested.now)
      (word_in c.args.tested.now) c.args.tested.now.entries.now c.requires.sound.over c.args.number
      (c.args.number + 1) (omega arith) (opt_from c.listed_or_not_law.ensures
      (dtd_in c.args.tested.now) (word_in c.args.tested.now) c.args.tested.now.entries.now
      c.requires.sound.over c.args.number c.requires.opt.0 c.requires.opt.1 h).1),
)
