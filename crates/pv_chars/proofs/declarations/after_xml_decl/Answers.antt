use Rattle.std.proofs.Common.{◌≡◌, ◌≢◌, ◌++◌, List, ℕ, sym, ◌∙◌, inl}
use Rattle.std.specs.Prelude.{codes}
use Rattle.pv_chars.specs.Fronts.{Begins, BeginsNone}
use Rattle.pv_chars.specs.Declarations.{IsEncodingDecl, IsStandaloneDecl, IsXmlDecl}
use Rattle.pv_chars.proofs.Options.{match_none, match_same}
use Rattle.pv_chars.proofs.DeclarationLemmas.{passes_by, xml_decl_by, no_xml_decl_version, no_xml_decl_end}
use Rattle.pv_chars.proofs.declarations.after_xml_decl.Goals as goal

pub returns : goal.returns
returns c =
    let bytes = c.args.bytes.now in
    let start = c.in_ok-start.start in
    let version = c.in_ok-version.version in
    let encoding = c.unwrap_or-encoding.result in
    let end = c.unwrap_or-end.result in
    let first = c.in_ok-version.ensures in
    let second = passes_by IsEncodingDecl version encoding c.after_encoding.result c.after_encoding.ensures c.unwrap_or-encoding.ensures in
    let third = passes_by IsStandaloneDecl encoding end c.after_standalone.result c.after_standalone.ensures c.unwrap_or-end.ensures in
    match_same _ ((rest : List ℕ) → c.after_space.result.now ≢ codes "?>" ++ rest)
    (BeginsNone IsXmlDecl bytes) (λ r. c.after_space.result.now ≡ codes "?>" ++ r.now)
    (λ r. Begins IsXmlDecl bytes r.now)
    (λ none. no_xml_decl_end bytes start.now version.now encoding.now end.now
    c.in_ok-start.ensures.found record { first = inl first; second = second; third = third }
    (λ rest e. none rest (c.after_space.ensures.after ∙ e)))
    (λ r closes. xml_decl_by bytes start.now version.now encoding.now end.now r.now c.in_ok-start.ensures.found first second third (sym c.after_space.ensures.after ∙ closes))
    c.after_bytes-2.ensures.found

pub returns-in_err-version : goal.returns-in_err-version
returns-in_err-version c =
    let bytes = c.args.bytes.now in
    match_none _ (BeginsNone IsXmlDecl bytes) (λ r. Begins IsXmlDecl bytes r.now) c.from_residual-in_err-version.ensures
    (no_xml_decl_version bytes c.in_ok-start.start.now c.in_ok-start.ensures.found c.in_err-version.ensures)
