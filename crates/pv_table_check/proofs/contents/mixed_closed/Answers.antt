use Rattle.std.proofs.Common.{arith, false, refl, subst, sym, true, ◌+◌, ◌-◌, ◌≡◌}
use Rattle.pv_rules.specs.Numbering.{first_part}
use Rattle.pv_rules.specs.Sites.{content_site, part_site}
use Rattle.pv_table_check.specs.ClosedForms.{WeighsAsTwo}
use Rattle.pv_table_check.specs.Tested.{dtd_in, word_in}
use Rattle.pv_table_check.proofs.EntriesAtSites.{mixed_from, mixed_to}
use Rattle.pv_table_check.proofs.FewMembers.{member_part}
use Rattle.pv_table_check.proofs.Words.{nothing_from, nothing_to}
use Rattle.pv_table_check.proofs.contents.mixed_closed.Goals as goal

pub returns-then-not-nothing_holds : goal.returns-then-not-nothing_holds
returns-then-not-nothing_holds c = (
  λ t. absurd cc,
  λ h.
      let held = mixed_from c.listed_or_not_law.ensures (dtd_in c.args.tested.now)
      (word_in c.args.tested.now) c.args.tested.now.entries.now c.requires.sound.over
      c.args.id.0 c.requires.mixed.0 c.requires.mixed.1 h in
      let t = c.nothing_holds.ensures.1 (nothing_from c.args.tested.now (content_site c.args.id.0) held.nothing) in let f = c.if-not-nothing_holds.true in cc,
)

pub returns-then-not-text_holds : goal.returns-then-not-text_holds
returns-then-not-text_holds c = (
  λ t. absurd cc,
  λ h.
      let held = mixed_from c.listed_or_not_law.ensures (dtd_in c.args.tested.now)
      (word_in c.args.tested.now) c.args.tested.now.entries.now c.requires.sound.over
      c.args.id.0 c.requires.mixed.0 c.requires.mixed.1 h in
      let t = c.text_holds.ensures.1 held.texts in let f = c.if-not-text_holds.true in cc,
)

pub returns : goal.returns
returns c =
    let g = dtd_in c.args.tested.now in
    let es = c.args.tested.now.entries.now in
    let fst = c.requires.mixed.2 in let end = c.requires.mixed.3 in (
      λ t. mixed_to c.listed_or_not_law.ensures g (word_in c.args.tested.now) es c.requires.sound.over c.args.id.0 c.requires.mixed.0 c.requires.mixed.1 (record {
        nothing = nothing_to c.args.tested.now (content_site c.args.id.0) (c.nothing_holds.ensures.0 c.if-not-nothing_holds.false);
        texts = c.text_holds.ensures.0 c.if-not-text_holds.false;
        names = λ e few. c.each_member_holds.ensures.0 t (part_site (first_part g c.args.id.0 + e)) (refl, omega arith, omega arith);
      }),
      λ h.
          let held = mixed_from c.listed_or_not_law.ensures g (word_in c.args.tested.now) es c.requires.sound.over c.args.id.0 c.requires.mixed.0 c.requires.mixed.1 h in
          c.each_member_holds.ensures.1 (λ s is.
          let m = member_part c.args.first c.args.end s is in
          let low = m.2 in let high = m.3 in
          let e = m.0 - c.args.first in
          let same : first_part g c.args.id.0 + e ≡ m.0 = omega arith in
          let two = subst (λ q. WeighsAsTwo es (content_site c.args.id.0) (part_site q) (content_site c.args.id.0) true false) same (held.names e (omega arith)) in
          subst (λ z. WeighsAsTwo es (content_site c.args.id.0) z (content_site c.args.id.0) true false) (sym m.1) two),
    )
