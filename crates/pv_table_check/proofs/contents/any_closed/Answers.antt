use Rattle.std.proofs.Common.{arith, false, refl, subst, sym, true}
use Rattle.pv_rules.specs.Sites.{content_site, name_site}
use Rattle.pv_table_check.specs.ClosedForms.{WeighsAsTwo}
use Rattle.pv_table_check.specs.Tested.{dtd_in, word_in}
use Rattle.pv_table_check.proofs.EntriesAtSites.{any_from, any_to}
use Rattle.pv_table_check.proofs.FewMembers.{member_name}
use Rattle.pv_table_check.proofs.Words.{nothing_from, nothing_to}
use Rattle.pv_table_check.proofs.contents.any_closed.Goals as goal

pub returns-then-not-nothing_holds : goal.returns-then-not-nothing_holds
returns-then-not-nothing_holds c = (
  λ t. absurd cc,
  λ h.
      let held = any_from c.listed_or_not_law.ensures (dtd_in c.args.tested.now) (word_in c.args.tested.now) c.args.tested.now.entries.now c.requires.sound.over c.args.id.0 c.requires.any h in
      let t = c.nothing_holds.ensures.1 (nothing_from c.args.tested.now (content_site c.args.id.0) held.nothing) in let f = c.if-not-nothing_holds.true in cc,
)

pub returns-then-not-text_holds : goal.returns-then-not-text_holds
returns-then-not-text_holds c = (
  λ t. absurd cc,
  λ h.
      let held = any_from c.listed_or_not_law.ensures (dtd_in c.args.tested.now) (word_in c.args.tested.now) c.args.tested.now.entries.now c.requires.sound.over c.args.id.0 c.requires.any h in
      let t = c.text_holds.ensures.1 held.texts in let f = c.if-not-text_holds.true in cc,
)

pub members_hold-requires-clause-members : goal.members_hold-requires-clause-members
members_hold-requires-clause-members c = rw c.count.ensures c.requires.declared

pub returns : goal.returns
returns c =
    let g = dtd_in c.args.tested.now in
    let es = c.args.tested.now.entries.now in
    let n = c.count.ensures in (
      λ t. any_to c.listed_or_not_law.ensures g (word_in c.args.tested.now) es c.requires.sound.over c.args.id.0 c.requires.any (record {
        nothing = nothing_to c.args.tested.now (content_site c.args.id.0) (c.nothing_holds.ensures.0 c.if-not-nothing_holds.false);
        texts = c.text_holds.ensures.0 c.if-not-text_holds.false;
        names = λ y d. c.members_hold.ensures.0 t (name_site y) (refl, omega arith, (let x = d in omega arith));
      }),
      λ h.
          let held = any_from c.listed_or_not_law.ensures g (word_in c.args.tested.now) es c.requires.sound.over c.args.id.0 c.requires.any h in
          c.members_hold.ensures.1 (λ s is. let m = member_name 0 c.count.result s is in
          subst (λ z. WeighsAsTwo es (content_site c.args.id.0) z (content_site c.args.id.0) true false) (sym m.1) (held.names m.0 (let l = m.2 in omega arith))),
    )
