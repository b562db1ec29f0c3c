use Rattle.std.proofs.Common.{false, IsTrue, refl, sym}
use Rattle.pv_tree.specs.Marks.{blank_mark}
use Rattle.pv_read.specs.Meaning.{fault}
use Rattle.pv_read.specs.Kinds.{subset, syntax, entity, mismatch, doctype_name, deep}
use Rattle.pv_read.specs.PlainItems.{plain_item}
use Rattle.pv_read.specs.PlainPlaces.{plain_place}
use Rattle.pv_read.proofs.NextItems.{subset_is_first, nothing_begins, may_not_stand, other_reference, other_name, other_doctype, too_deep, takes}
use Rattle.pv_read.proofs.OneItem.{one_item}
use Rattle.pv_read.proofs.ItemsAtPlaces.{subset_at, subset_of, stands_at, none_at, mismatch_at}
use Rattle.pv_read.proofs.ItemsAtPlaces.{mismatch_of, deep_at, deep_of, not_whole_at}
use Rattle.pv_read.proofs.faults.next_item.Goals as goal

never : IsTrue false → ⊥
never e = cc

pub returns-then-has_subset-clause-refused : goal.returns-then-has_subset-clause-refused
returns-then-has_subset-clause-refused c = λ left at. (
  c.args.count,
  fault subset (subset_is_first one_item c.args.most_depth blank_mark c.args.root.now left c.args.rest.now
      (subset_at c.args.most_depth blank_mark c.args.root.now c.args.rest.now left (plain_place c.args.place.now) at (c.if-has_subset.ensures.0 refl))),
)

pub returns-in_default-clause-refused : goal.returns-in_default-clause-refused
returns-in_default-clause-refused c = λ left at.
    fault syntax (nothing_begins one_item c.args.most_depth blank_mark c.args.root.now left
    c.args.rest.now (λ h. never (c.if-has_subset.ensures.1 (subset_of c.args.most_depth
    blank_mark c.args.root.now c.args.rest.now left (plain_place c.args.place.now) at h)))
    (not_whole_at left (plain_place c.args.place.now) c.args.rest.now at c.requires) c.in_default.ensures.item)

pub returns-then-not-may_hold-clause-refused : goal.returns-then-not-may_hold-clause-refused
returns-then-not-may_hold-clause-refused c = λ left at.
    fault syntax (may_not_stand one_item c.args.most_depth blank_mark c.args.root.now left
    c.args.rest.now (λ h. never (c.if-has_subset.ensures.1 (subset_of c.args.most_depth
    blank_mark c.args.root.now c.args.rest.now left (plain_place c.args.place.now) at h)))
    (plain_item c.in-Some.item) c.in-Some.more.now c.in-Some.ensures.item
    (none_at c.args.most_depth blank_mark c.args.root.now c.args.rest.now left
    (plain_place c.args.place.now) at (plain_item c.in-Some.item) (sym c.if-not-may_hold.ensures)))

pub returns-then-not-has_known_references-clause-refused : goal.returns-then-not-has_known_references-clause-refused
returns-then-not-has_known_references-clause-refused c = λ left at.
    let there = stands_at c.args.most_depth blank_mark c.args.root.now c.args.rest.now left (plain_place c.args.place.now) at (plain_item c.in-Some.item) (sym c.if-not-may_hold.ensures) in
    fault entity (other_reference one_item c.args.most_depth blank_mark c.args.root.now left
    c.args.rest.now (λ h. never (c.if-has_subset.ensures.1 (subset_of c.args.most_depth
    blank_mark c.args.root.now c.args.rest.now left (plain_place c.args.place.now) at h)))
    (plain_item c.in-Some.item) c.in-Some.more.now c.in-Some.ensures.item there.next there.is (λ h. never (c.if-not-has_known_references.ensures.1 h)))

pub returns-then-is_mismatch-clause-refused : goal.returns-then-is_mismatch-clause-refused
returns-then-is_mismatch-clause-refused c = λ left at.
    let there = stands_at c.args.most_depth blank_mark c.args.root.now c.args.rest.now left (plain_place c.args.place.now) at (plain_item c.in-Some.item) (sym c.if-not-may_hold.ensures) in
    fault mismatch (other_name one_item c.args.most_depth blank_mark c.args.root.now left
    c.args.rest.now (λ h. never (c.if-has_subset.ensures.1 (subset_of c.args.most_depth
    blank_mark c.args.root.now c.args.rest.now left (plain_place c.args.place.now) at h)))
    (plain_item c.in-Some.item) c.in-Some.more.now c.in-Some.ensures.item there.next there.is
    (c.if-not-has_known_references.ensures.0 refl) (mismatch_at c.args.most_depth blank_mark
    c.args.root.now c.args.rest.now left (plain_place c.args.place.now) at
    (plain_item c.in-Some.item) (c.if-is_mismatch.ensures.0 refl)))

pub returns-then-is_other_doctype-clause-refused : goal.returns-then-is_other_doctype-clause-refused
returns-then-is_other_doctype-clause-refused c = λ left at.
    let there = stands_at c.args.most_depth blank_mark c.args.root.now c.args.rest.now left (plain_place c.args.place.now) at (plain_item c.in-Some.item) (sym c.if-not-may_hold.ensures) in (
      c.args.count,
      fault doctype_name (other_doctype one_item c.args.most_depth blank_mark c.args.root.now left
          c.args.rest.now (λ h. never (c.if-has_subset.ensures.1 (subset_of c.args.most_depth
          blank_mark c.args.root.now c.args.rest.now left (plain_place c.args.place.now) at h)))
          (plain_item c.in-Some.item) c.in-Some.more.now c.in-Some.ensures.item there.next there.is
          (c.if-not-has_known_references.ensures.0 refl) (λ h. never (c.if-is_mismatch.ensures.1
          (mismatch_of c.args.most_depth blank_mark c.args.root.now c.args.rest.now left
          (plain_place c.args.place.now) at (plain_item c.in-Some.item) h)))
          (c.if-is_other_doctype.ensures.0 refl)),
    )

pub returns-then-is_too_deep-clause-refused : goal.returns-then-is_too_deep-clause-refused
returns-then-is_too_deep-clause-refused c = λ left at.
    let there = stands_at c.args.most_depth blank_mark c.args.root.now c.args.rest.now left (plain_place c.args.place.now) at (plain_item c.in-Some.item) (sym c.if-not-may_hold.ensures) in
    fault deep (too_deep one_item c.args.most_depth blank_mark c.args.root.now left c.args.rest.now
    (λ h. never (c.if-has_subset.ensures.1 (subset_of c.args.most_depth blank_mark
    c.args.root.now c.args.rest.now left (plain_place c.args.place.now) at h)))
    (plain_item c.in-Some.item) c.in-Some.more.now c.in-Some.ensures.item there.next there.is
    (c.if-not-has_known_references.ensures.0 refl) (λ h. never (c.if-is_mismatch.ensures.1
    (mismatch_of c.args.most_depth blank_mark c.args.root.now c.args.rest.now left
    (plain_place c.args.place.now) at (plain_item c.in-Some.item) h)))
    (λ h. never (c.if-is_other_doctype.ensures.1 h)) (deep_at c.args.most_depth blank_mark
    c.args.root.now c.args.rest.now left (plain_place c.args.place.now) at
    (plain_item c.in-Some.item) (c.if-is_too_deep.ensures.0 refl)))

pub returns-clause-taken : goal.returns-clause-taken
returns-clause-taken c = λ left at.
    let there = stands_at c.args.most_depth blank_mark c.args.root.now c.args.rest.now left (plain_place c.args.place.now) at (plain_item c.in-Some.item) (sym c.if-not-may_hold.ensures) in
    takes one_item c.args.most_depth blank_mark c.args.root.now left c.args.rest.now
    (λ h. never (c.if-has_subset.ensures.1 (subset_of c.args.most_depth blank_mark
    c.args.root.now c.args.rest.now left (plain_place c.args.place.now) at h)))
    (plain_item c.in-Some.item) c.in-Some.more.now c.in-Some.ensures.item there.next there.is
    (c.if-not-has_known_references.ensures.0 refl) (λ h. never (c.if-is_mismatch.ensures.1
    (mismatch_of c.args.most_depth blank_mark c.args.root.now c.args.rest.now left
    (plain_place c.args.place.now) at (plain_item c.in-Some.item) h)))
    (λ h. never (c.if-is_other_doctype.ensures.1 h)) (λ h. never (c.if-is_too_deep.ensures.1
    (deep_of c.args.most_depth blank_mark c.args.root.now c.args.rest.now left
    (plain_place c.args.place.now) at (plain_item c.in-Some.item) h)))
