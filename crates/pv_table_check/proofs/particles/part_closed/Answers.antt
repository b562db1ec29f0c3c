use Rattle.std.proofs.Common.{arith, refl, ◌+◌}
use Rattle.pv_rules.proofs.FlatKinds.{choice_at, name_at, no_part, opt_at, plus_at, seq_at, star_at}
use Rattle.pv_table_check.specs.Tested.{dtd_in, word_in}
use Rattle.pv_table_check.proofs.EntriesAtSites.{name_part_closed, part_none, rest_inner}
use Rattle.pv_table_check.proofs.EntriesAtSites.{rest_outer, seq_closed}
use Rattle.pv_table_check.proofs.Sequences.{some_member}
use Rattle.pv_table_check.proofs.Words.{flat_part, no_flat_part}
use Rattle.pv_table_check.proofs.particles.part_closed.Goals as goal

pub returns-in_default : goal.returns-in_default
returns-in_default c = (
  λ t. part_none c.listed_or_not_law.ensures (dtd_in c.args.tested.now) (word_in c.args.tested.now)
      c.args.tested.now.entries.now c.requires.sound.over c.args.number
      (no_part (dtd_in c.args.tested.now) c.args.number (no_flat_part c.args.tested.now
      c.requires.sound.flat c.args.number c.in_default.ensures)),
  λ h. refl,
)

pub returns-in-Name : goal.returns-in-Name
returns-in-Name c =
    let k = name_part_closed c.listed_or_not_law.ensures (dtd_in c.args.tested.now)
    (word_in c.args.tested.now) c.args.tested.now.entries.now c.requires.sound.over
    c.args.number c.in-Name.id.0 (name_at (dtd_in c.args.tested.now) c.args.number
    c.in-Name.id.0 c.in-Some.part (flat_part c.args.tested.now c.requires.sound.flat
    c.args.number c.in-Some.part c.in-Some.ensures) c.in-Name.is) in
    (λ t. k.0 (c.one_holds.ensures.0 t), λ h. c.one_holds.ensures.1 (k.1 h))

pub returns-in-Seq : goal.returns-in-Seq
returns-in-Seq c =
    let a = seq_at (dtd_in c.args.tested.now) c.args.number c.in-Some.part (flat_part c.args.tested.now c.requires.sound.flat c.args.number c.in-Some.part c.in-Some.ensures) c.in-Seq.is in
    let m = some_member (dtd_in c.args.tested.now) c.args.tested.now.dtd.now.formed c.args.number a.0 a.1 in
    let k = seq_closed c.listed_or_not_law.ensures (dtd_in c.args.tested.now) (word_in c.args.tested.now) c.args.tested.now.entries.now c.requires.sound.over c.args.number m.0 m.1 m.2 in (
      λ t. k.0 (rest_inner c.listed_or_not_law.ensures (dtd_in c.args.tested.now)
          (word_in c.args.tested.now) c.args.tested.now.entries.now c.requires.sound.over
          c.args.number (c.args.number + 1) (omega arith) (c.one_holds-in-Seq.ensures.0 t)),
      λ h. c.one_holds-in-Seq.ensures.1 (rest_outer c.listed_or_not_law.ensures
          (dtd_in c.args.tested.now) (word_in c.args.tested.now) c.args.tested.now.entries.now
          c.requires.sound.over c.args.number (c.args.number + 1) (omega arith) (k.1 h)),
    )

pub opt_closed-requires-clause-opt : goal.opt_closed-requires-clause-opt
opt_closed-requires-clause-opt c = let a = opt_at (dtd_in c.args.tested.now) c.args.number
    c.in-Some.part (flat_part c.args.tested.now c.requires.sound.flat c.args.number c.in-Some.part
    c.in-Some.ensures) c.in-Opt.is in (a.0, a.1)

pub star_closed-requires-clause-star : goal.star_closed-requires-clause-star
star_closed-requires-clause-star c = let a = star_at (dtd_in c.args.tested.now) c.args.number
    c.in-Some.part (flat_part c.args.tested.now c.requires.sound.flat c.args.number c.in-Some.part
    c.in-Some.ensures) c.in-Star.is in (a.0, a.1)

pub plus_closed-requires-clause-plus : goal.plus_closed-requires-clause-plus
plus_closed-requires-clause-plus c = let a = plus_at (dtd_in c.args.tested.now) c.args.number
    c.in-Some.part (flat_part c.args.tested.now c.requires.sound.flat c.args.number c.in-Some.part
    c.in-Some.ensures) c.in-Plus.is in (a.0, a.1)

pub choice_closed-requires-clause-choice : goal.choice_closed-requires-clause-choice
choice_closed-requires-clause-choice c =
    let a = choice_at (dtd_in c.args.tested.now) c.args.number c.in-Some.part (flat_part c.args.tested.now c.requires.sound.flat c.args.number c.in-Some.part c.in-Some.ensures) c.in-Choice.is in
    (a.0, a.1, let z = a.2 in omega arith)
