use Rattle.std.proofs.Common.{false, refl, subst, sym}
use Rattle.pv_rules.specs.Sites.{part_site, rest_site}
use Rattle.pv_rules.proofs.FlatKinds.{followed_at, last_at, no_rest, outside_at}
use Rattle.pv_table_check.specs.ClosedForms.{WeighsAsTwo}
use Rattle.pv_table_check.specs.Tested.{dtd_in, word_in}
use Rattle.pv_table_check.proofs.EntriesAtSites.{followed_closed, last_closed, outside_closed}
use Rattle.pv_table_check.proofs.Words.{flat_part, no_flat_part}
use Rattle.pv_table_check.proofs.particles.rest_closed.Goals as goal

pub returns-in_default : goal.returns-in_default
returns-in_default c = (
  λ t. outside_closed c.listed_or_not_law.ensures (dtd_in c.args.tested.now)
      (word_in c.args.tested.now) c.args.tested.now.entries.now c.requires.over c.args.number
      (no_rest (dtd_in c.args.tested.now) c.args.number (no_flat_part c.args.tested.now
      c.requires.flat c.args.number c.in_default.ensures)),
  λ h. refl,
)

pub returns-in-Outside : goal.returns-in-Outside
returns-in-Outside c = (
  λ t. outside_closed c.listed_or_not_law.ensures (dtd_in c.args.tested.now)
      (word_in c.args.tested.now) c.args.tested.now.entries.now c.requires.over c.args.number
      (outside_at (dtd_in c.args.tested.now) c.args.number c.in-Some.part
      (flat_part c.args.tested.now c.requires.flat c.args.number c.in-Some.part c.in-Some.ensures)
      c.in-Outside.is),
  λ h. refl,
)

pub returns-in-Last : goal.returns-in-Last
returns-in-Last c =
    let l = last_at (dtd_in c.args.tested.now) c.args.number c.in-Some.part (flat_part c.args.tested.now c.requires.flat c.args.number c.in-Some.part c.in-Some.ensures) c.in-Last.is in
    let k = last_closed c.listed_or_not_law.ensures (dtd_in c.args.tested.now) (word_in c.args.tested.now) c.args.tested.now.entries.now c.requires.over c.args.number l.0 l.1 in
    (λ t. k.0 (c.one_holds.ensures.0 t), λ h. c.one_holds.ensures.1 (k.1 h))

pub returns-in-Followed : goal.returns-in-Followed
returns-in-Followed c =
    let f = followed_at (dtd_in c.args.tested.now) c.args.number c.in-Some.part (flat_part c.args.tested.now c.requires.flat c.args.number c.in-Some.part c.in-Some.ensures) c.in-Followed.is in
    let k = followed_closed c.listed_or_not_law.ensures (dtd_in c.args.tested.now) (word_in c.args.tested.now) c.args.tested.now.entries.now c.requires.over c.args.number f.0 f.1 f.2 f.3 in (
      λ t. k.0 (subst (λ e. WeighsAsTwo c.args.tested.now.entries.now (rest_site c.args.number) (part_site c.args.number) (rest_site e) false false) f.4 (c.two_holds.ensures.0 t)),
      λ h. c.two_holds.ensures.1 (subst (λ e. WeighsAsTwo c.args.tested.now.entries.now (rest_site c.args.number) (part_site c.args.number) (rest_site e) false false) (sym f.4) (k.1 h)),
    )
