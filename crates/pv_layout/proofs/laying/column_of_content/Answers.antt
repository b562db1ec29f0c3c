use Rattle.std.proofs.Common.{ap, arith, length, ◌+◌, ◌<◌, ◌∙◌, ◌≡◌}
use Rattle.std.proofs.lemmas.Result.{IfOk-weaker}
use Rattle.pv_dtd.specs.Plain.{declared}
use Rattle.pv_rules.specs.Numbering.{first_part}
use Rattle.pv_rules.proofs.FlatContents.{any_at, children_at, empty_at, mixed_at}
use Rattle.pv_productive.specs.PlainForms.{dtd_of}
use Rattle.pv_layout.specs.Columns.{AreColumns, column_at}
use Rattle.pv_layout.proofs.MemberColumns.{listed_columns, declared_columns}
use Rattle.pv_layout.proofs.laying.column_of_content.Goals as goal

pub columns_from-requires : goal.columns_from-requires
columns_from-requires c =
    let e = mixed_at (dtd_of c.args.grammar.now) c.args.id.0 c.args.content c.requires.content c.in-Mixed.is in
    let x = e.2 in let y = e.3 in omega arith

pub returns-in-Empty-clause-fits : goal.returns-in-Empty-clause-fits
returns-in-Empty-clause-fits c =
    let e = empty_at (dtd_of c.args.grammar.now) c.args.id.0 c.args.content c.requires.content c.in-Empty.is in
    rw e c.column.ensures.made

pub returns-in-Children-clause-fits : goal.returns-in-Children-clause-fits
returns-in-Children-clause-fits c =
    let e = children_at (dtd_of c.args.grammar.now) c.args.id.0 c.args.content c.requires.content c.in-Children.is in
    rw e.1 (c.column_at.ensures ∙ ap (λ xs. column_at xs c.args.content.first) c.deref.ensures.value ∙ ap (column_at c.args.sites.now.parts.items) e.2)

pub returns-in_ok-listed-in-Mixed-clause-fits : goal.returns-in_ok-listed-in-Mixed-clause-fits
returns-in_ok-listed-in-Mixed-clause-fits c =
    let g = dtd_of c.args.grammar.now in
    let e = mixed_at g c.args.id.0 c.args.content c.requires.content c.in-Mixed.is in
    let are = rw c.deref-in-Mixed.ensures.value at c.in_ok-listed-in-Mixed.ensures in
    let cols : AreColumns (λ k. k < length e.0) (λ k. column_at c.args.sites.now.parts.items (first_part g c.args.id.0 + k)) c.in_ok-listed-in-Mixed.listed.items =
    listed_columns (column_at c.args.sites.now.parts.items) c.args.content.first c.args.content.end (first_part g c.args.id.0) (length e.0) c.in_ok-listed-in-Mixed.listed.items e.2 e.3 are in
    rw e.1 (IfOk-weaker c.column_of_mixed.result _ _ (λ x made. (made.0, c.in_ok-listed-in-Mixed.listed.items, made.1, made.2, cols)) c.column_of_mixed.ensures.made)

pub returns-in_ok-declared-in-Any-clause-fits : goal.returns-in_ok-declared-in-Any-clause-fits
returns-in_ok-declared-in-Any-clause-fits c =
    let g = dtd_of c.args.grammar.now in
    let e = any_at g c.args.id.0 c.args.content c.requires.content c.in-Any.is in
    let are = rw c.deref-in-Any.ensures.value at c.in_ok-declared-in-Any.ensures in
    let n : c.count.result ≡ declared g = c.count.ensures ∙ ap declared c.dtd.ensures in
    let cols : AreColumns (λ k. k < declared g) (column_at c.args.sites.now.names.items) c.in_ok-declared-in-Any.declared.items =
    declared_columns (column_at c.args.sites.now.names.items) c.count.result (declared g) c.in_ok-declared-in-Any.declared.items n are in
    rw e (IfOk-weaker c.column_of_mixed-in-Any.result _ _ (λ x made. (made.0, c.in_ok-declared-in-Any.declared.items, made.1, made.2, cols)) c.column_of_mixed-in-Any.ensures.made)
