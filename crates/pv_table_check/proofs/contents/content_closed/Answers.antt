use Rattle.std.proofs.Common.{refl, subst, sym}
use Rattle.pv_rules.specs.Sites.{content_site, part_site}
use Rattle.pv_rules.proofs.FlatContents.{any_at, children_at, empty_at, mixed_at, no_content}
use Rattle.pv_table_check.specs.ClosedForms.{WeighsAsOne}
use Rattle.pv_table_check.specs.Tested.{dtd_in, word_in}
use Rattle.pv_table_check.proofs.EntriesAtSites.{children_closed, content_none, empty_closed}
use Rattle.pv_table_check.proofs.Words.{flat_content, no_flat_content, nothing_from, nothing_to}
use Rattle.pv_table_check.proofs.contents.content_closed.Goals as goal

pub returns-in_default : goal.returns-in_default
returns-in_default c = (
  λ t. content_none c.listed_or_not_law.ensures (dtd_in c.args.tested.now)
      (word_in c.args.tested.now) c.args.tested.now.entries.now c.requires.sound.over c.args.name
      (no_content (dtd_in c.args.tested.now) c.args.name (no_flat_content c.args.tested.now
      c.requires.sound.flat c.args.name c.in_default.ensures)),
  λ h. refl,
)

pub returns-in-Empty : goal.returns-in-Empty
returns-in-Empty c =
    let k = empty_closed c.listed_or_not_law.ensures (dtd_in c.args.tested.now)
    (word_in c.args.tested.now) c.args.tested.now.entries.now c.requires.sound.over c.args.name
    (empty_at (dtd_in c.args.tested.now) c.args.name c.in-Some.content
    (flat_content c.args.tested.now c.requires.sound.flat c.args.name c.in-Some.content
    c.in-Some.ensures) c.in-Empty.is) in (
      λ t. k.0 (nothing_to c.args.tested.now (content_site c.args.name) (c.nothing_holds.ensures.0 t)),
      λ h. c.nothing_holds.ensures.1 (nothing_from c.args.tested.now (content_site c.args.name) (k.1 h)),
    )

pub any_closed-requires-clause-any : goal.any_closed-requires-clause-any
any_closed-requires-clause-any c = any_at (dtd_in c.args.tested.now) c.args.name c.in-Some.content
    (flat_content c.args.tested.now c.requires.sound.flat c.args.name c.in-Some.content
    c.in-Some.ensures) c.in-Any.is

pub mixed_closed-requires-clause-mixed : goal.mixed_closed-requires-clause-mixed
mixed_closed-requires-clause-mixed c = mixed_at (dtd_in c.args.tested.now) c.args.name
    c.in-Some.content (flat_content c.args.tested.now c.requires.sound.flat c.args.name
    c.in-Some.content c.in-Some.ensures) c.in-Mixed.is

pub returns-in-Children : goal.returns-in-Children
returns-in-Children c =
    let a = children_at (dtd_in c.args.tested.now) c.args.name c.in-Some.content
    (flat_content c.args.tested.now c.requires.sound.flat c.args.name c.in-Some.content
    c.in-Some.ensures) c.in-Children.is in
    let k = children_closed c.listed_or_not_law.ensures (dtd_in c.args.tested.now) (word_in c.args.tested.now) c.args.tested.now.entries.now c.requires.sound.over c.args.name a.0 a.1 in (
      λ t. k.0 (subst (λ f. WeighsAsOne c.args.tested.now.entries.now (content_site c.args.name) (part_site f) 0) a.2 (c.one_holds.ensures.0 t)),
      λ h. c.one_holds.ensures.1 (subst (λ f. WeighsAsOne c.args.tested.now.entries.now (content_site c.args.name) (part_site f) 0) (sym a.2) (k.1 h)),
    )
