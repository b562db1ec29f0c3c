use Rattle.std.proofs.Common.{◌≡◌, false, true, sym, ◌∙◌}
use Rattle.std.specs.Prelude.{IsTrue}
use Rattle.std.specs.List.{list_all}
use Rattle.pv_chars.specs.Fronts.{Begins, BeginsNone}
use Rattle.pv_tree.specs.Prolog.{is_pubid_char, IsPubidLiteral}
use Rattle.pv_chars.proofs.Options.{match_none}
use Rattle.pv_read.proofs.ExternalLemmas.{no_literal, no_value}
use Rattle.pv_read.proofs.forms.external_ids.after_pubid_literal.Goals as goal

pub returns-in_err-value : goal.returns-in_err-value
returns-in_err-value c =
    let bytes = c.args.bytes.now in
    match_none _ (BeginsNone IsPubidLiteral bytes) (λ r. Begins IsPubidLiteral bytes r.now) c.from_residual.ensures (no_literal (λ v. IsTrue (list_all is_pubid_char v)) bytes c.in_err-value.ensures)

pub returns-then-not-are_pubid_chars : goal.returns-then-not-are_pubid_chars
returns-then-not-are_pubid_chars c =
    no_value (λ v. IsTrue (list_all is_pubid_char v)) c.args.bytes.now c.in_ok-value.value.now c.in_ok-value.rest.now c.in_ok-value.ensures
    (λ is. let other : false ≡ true = sym c.if-not-are_pubid_chars.true ∙ c.are_pubid_chars.ensures ∙ is in cc)
