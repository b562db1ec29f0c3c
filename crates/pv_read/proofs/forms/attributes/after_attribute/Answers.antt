use Rattle.std.proofs.Common.{sym}
use Rattle.std.proofs.lemmas.Bool.{iff_false}
use Rattle.pv_chars.specs.Fronts.{Begins, BeginsNone}
use Rattle.pv_tree.specs.Attributes.{IsAttribute}
use Rattle.pv_read.specs.PlainReferences.{IsReferenceOf}
use Rattle.pv_chars.proofs.Options.{match_none}
use Rattle.pv_read.proofs.KnownReferences.{are_references}
use Rattle.pv_read.proofs.AttributeLemmas.{name_some, name_alone_black, by_part, none_by_blank, none_by_name, none_by_part, none_by_value}
use Rattle.pv_read.proofs.forms.attributes.after_attribute.Goals as goal

pub declaration_part_at-requires : goal.declaration_part_at-requires
declaration_part_at-requires c = record { some = name_some c.in_ok-name.name.now c.in_ok-name.ensures.found.is_name; black = name_alone_black c.in_ok-name.name.now c.in_ok-name.ensures.found.is_name }

pub returns-in_err-start : goal.returns-in_err-start
returns-in_err-start c =
    let R = IsReferenceOf c.args.references in
    let bytes = c.args.bytes.now in
    match_none _ (BeginsNone (IsAttribute R) bytes) (λ r. Begins (IsAttribute R) bytes r.now)
    c.from_residual.ensures (none_by_blank R (are_references c.args.references) bytes
    (sym c.in_err-start.ensures.after))

pub returns-in_err-name : goal.returns-in_err-name
returns-in_err-name c =
    let R = IsReferenceOf c.args.references in
    let bytes = c.args.bytes.now in
    match_none _ (BeginsNone (IsAttribute R) bytes) (λ r. Begins (IsAttribute R) bytes r.now)
    c.from_residual-in_err-name.ensures (none_by_name R (are_references c.args.references) bytes
    c.in_ok-start.start.now (sym c.in_ok-start.ensures.after) c.in_err-name.ensures.found)

pub returns-in_err-value : goal.returns-in_err-value
returns-in_err-value c =
    let R = IsReferenceOf c.args.references in
    let bytes = c.args.bytes.now in
    match_none _ (BeginsNone (IsAttribute R) bytes) (λ r. Begins (IsAttribute R) bytes r.now)
    c.from_residual-in_err-value.ensures (none_by_part R (are_references c.args.references)
    bytes c.in_ok-start.start.now c.in_ok-name.name.now _ (sym c.in_ok-start.ensures.after)
    c.in_ok-name.ensures.found c.in_err-value.ensures)

pub returns-then-not-are_pieces : goal.returns-then-not-are_pieces
returns-then-not-are_pieces c =
    none_by_value (IsReferenceOf c.args.references) (are_references c.args.references)
    c.args.bytes.now c.in_ok-start.start.now c.in_ok-name.name.now _ c.in_ok-value.value.now
    c.in_ok-value.rest.now (sym c.in_ok-start.ensures.after) c.in_ok-name.ensures.found
    c.in_ok-value.ensures
    (iff_false c.are_pieces.ensures c.if-not-are_pieces.true)

pub returns : goal.returns
returns c =
    by_part (IsReferenceOf c.args.references) (are_references c.args.references) c.args.bytes.now
    c.in_ok-name.name.now c.in_ok-value.value.now c.in_ok-value.rest.now
    c.in_ok-name.ensures.found.is_name c.in_ok-value.ensures
    (c.are_pieces.ensures.0 c.if-not-are_pieces.false)
