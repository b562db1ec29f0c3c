use Rattle.std.proofs.Common.{subst, sym}
use Rattle.pv_dtd.specs.PlainForms.{plain_dtd}
use Rattle.pv_tree.specs.Lists.{lists_of}
use Rattle.pv_tree.specs.PlainDocs.{plain_doc}
use Rattle.pv_table_check.specs.ClosedTables.{AreClosedTables}
use Rattle.pv_verify.proofs.EarlierTests.{accepted, at-closure, at-kept, at-totals, at-validity}
use Rattle.pv_verify.proofs.EarlierTests.{not-so}
use Rattle.pv_verify.proofs.TestedBodies.{tested-body}
use Rattle.pv_verify.proofs.verifying.first_failed.Goals as goal

pub is_valid-requires : goal.is_valid-requires
is_valid-requires c = let read = (rw c.in-Some.is at c.in_ok-plain.ensures).is_read in record { body = read.body; is_text = read.is_text }

pub returns-then-not-kept : goal.returns-then-not-kept
returns-then-not-kept c =
    let found = rw c.in-Some.is at c.in_ok-plain.ensures in
    let t = tested-body _ _ c.args.pack.now _ _ _ _ _ found c.as_slice-body.ensures
    c.as_slice-marks.ensures c.wider_limits_law.ensures c.requires c.deref.ensures.value
    c.are_marks.ensures in
    at-kept (plain_dtd c.args.dtd.now) _ _ _ t.body t.text (t.marks.0 c.if-not-are_marks.false)
    (λ k. not-so (t.kept.1 k) c.if-not-kept.true)

pub returns-then-not-branch : goal.returns-then-not-branch
returns-then-not-branch c =
    let found = rw c.in-Some.is at c.in_ok-plain.ensures in
    let t = tested-body _ _ c.args.pack.now _ _ _ _ _ found c.as_slice-body.ensures
    c.as_slice-marks.ensures c.wider_limits_law.ensures c.requires c.deref.ensures.value
    c.are_marks.ensures in
    let valid = c.in_ok-is_valid.ensures t.body t.is_text in
    at-validity (plain_dtd c.args.dtd.now) _ _ _ t.body t.text (t.marks.0 c.if-not-are_marks.false)
    (t.kept.0 c.if-not-kept.false)
    (λ v. not-so (valid.1 v) c.if-not-branch.true)

pub returns-then-not-branch-2 : goal.returns-then-not-branch-2
returns-then-not-branch-2 c =
    let found = rw c.in-Some.is at c.in_ok-plain.ensures in
    let t = tested-body _ _ c.args.pack.now _ _ _ _ _ found c.as_slice-body.ensures
    c.as_slice-marks.ensures c.wider_limits_law.ensures c.requires c.deref.ensures.value
    c.are_marks.ensures in
    let valid = c.in_ok-is_valid.ensures t.body t.is_text in
    at-closure (plain_dtd c.args.dtd.now) _ _ _ t.body t.text (t.marks.0 c.if-not-are_marks.false)
    (t.kept.0 c.if-not-kept.false)
    (valid.0 c.if-not-branch.false)
    (λ u. not-so (c.in_ok-tables_closed.ensures.1
    (subst (λ ts. AreClosedTables (plain_dtd c.args.dtd.now) c.args.root.now
    (lists_of (plain_doc c.args.doc.now)) ts)
    (sym c.as_slice-tables.ensures) u)) c.if-not-branch-2.true)

pub returns-then-not-branch-3 : goal.returns-then-not-branch-3
returns-then-not-branch-3 c =
    let found = rw c.in-Some.is at c.in_ok-plain.ensures in
    let t = tested-body _ _ c.args.pack.now _ _ _ _ _ found c.as_slice-body.ensures
    c.as_slice-marks.ensures c.wider_limits_law.ensures c.requires c.deref.ensures.value
    c.are_marks.ensures in
    let valid = c.in_ok-is_valid.ensures t.body t.is_text in
    at-totals (plain_dtd c.args.dtd.now) _ _ _ t.body t.text (t.marks.0 c.if-not-are_marks.false)
    (t.kept.0 c.if-not-kept.false)
    (valid.0 c.if-not-branch.false) (rw (← c.as_slice-tables.ensures)
    (c.in_ok-tables_closed.ensures.0 c.if-not-branch-2.false))
    (λ a. not-so (c.in_ok-totals_agree.ensures.1 a) c.if-not-branch-3.true)

pub returns : goal.returns
returns c =
    let found = rw c.in-Some.is at c.in_ok-plain.ensures in
    let t = tested-body _ _ c.args.pack.now _ _ _ _ _ found c.as_slice-body.ensures
    c.as_slice-marks.ensures c.wider_limits_law.ensures c.requires c.deref.ensures.value
    c.are_marks.ensures in
    let valid = c.in_ok-is_valid.ensures t.body t.is_text in
    accepted (plain_dtd c.args.dtd.now) _ _ _ t.body t.text (t.marks.0 c.if-not-are_marks.false)
    (t.kept.0 c.if-not-kept.false)
    (valid.0 c.if-not-branch.false) (rw (← c.as_slice-tables.ensures)
    (c.in_ok-tables_closed.ensures.0 c.if-not-branch-2.false))
    (c.in_ok-totals_agree.ensures.0 c.if-not-branch-3.false)
