use Rattle.pv_dtd.proofs.ProperDtds.{proper}
use Rattle.pv_table_check.specs.Tested.{dtd_in, word_in}
use Rattle.pv_table_check.proofs.EachSite.{at_sites, keeps_names, names_closed, parts_closed}
use Rattle.pv_table_check.proofs.closing.is_closed.Goals as goal

pub returns-then-not-names_hold : goal.returns-then-not-names_hold
returns-then-not-names_hold c = (
  λ t. absurd cc,
  λ h. let t = c.names_hold.ensures.1 (keeps_names c.listed_or_not_law.ensures
      (dtd_in c.args.tested.now) (word_in c.args.tested.now) c.args.tested.now.entries.now
      c.requires.sound.over h) in let f = c.if-not-names_hold.true in cc,
)

pub returns-then-not-all_names_closed : goal.returns-then-not-all_names_closed
returns-then-not-all_names_closed c = (
  λ t. absurd cc,
  λ h. let t = c.all_names_closed.ensures.1 (names_closed c.listed_or_not_law.ensures
      (dtd_in c.args.tested.now) (word_in c.args.tested.now) c.args.tested.now.entries.now
      c.requires.sound.over h) in let f = c.if-not-all_names_closed.true in cc,
)

pub returns : goal.returns
returns c = (
  λ t. c.closed_at_sites_law.ensures (dtd_in c.args.tested.now) (word_in c.args.tested.now) (proper c.args.tested.now.dtd.now).named c.requires.known _
      (at_sites c.listed_or_not_law.ensures (dtd_in c.args.tested.now) (word_in c.args.tested.now)
      c.args.tested.now.entries.now c.requires.sound.over
      (c.names_hold.ensures.0 c.if-not-names_hold.false) (c.all_names_closed.ensures.0
      c.if-not-all_names_closed.false) (c.parts_closed.ensures.0 t)),
  λ h. c.parts_closed.ensures.1 (parts_closed c.listed_or_not_law.ensures (dtd_in c.args.tested.now) (word_in c.args.tested.now) c.args.tested.now.entries.now c.requires.sound.over h),
)
