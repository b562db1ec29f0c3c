use Rattle.std.proofs.Common.{◌≡◌, ◌≢◌, ◌++◌, List, ℕ, sym, ◌∙◌}
use Rattle.std.specs.Prelude.{codes}
use Rattle.pv_chars.specs.Fronts.{Begins, BeginsNone}
use Rattle.pv_chars.specs.Declarations.{IsVersionInfo, IsEncodingDecl, IsStandaloneDecl, IsTextDecl}
use Rattle.pv_chars.proofs.Options.{match_same}
use Rattle.pv_chars.proofs.DeclarationLemmas.{passes_by, text_decl_by, no_text_decl_parts, no_text_decl_end}
use Rattle.pv_chars.proofs.declarations.after_text_decl.Goals as goal

pub returns-then-end-start : goal.returns-then-end-start
returns-then-end-start c =
    let start = c.in_ok-start.start in
    let version = c.unwrap_or-version.result in
    let encoding = c.unwrap_or-encoding.result in
    let end = c.unwrap_or-end.result in
    no_text_decl_parts c.args.bytes.now start.now version.now encoding.now end.now c.in_ok-start.ensures.found record {
      first = passes_by IsVersionInfo start version c.after_version.result c.after_version.ensures c.unwrap_or-version.ensures;
      second = passes_by IsEncodingDecl version encoding c.after_encoding.result c.after_encoding.ensures c.unwrap_or-encoding.ensures;
      third = passes_by IsStandaloneDecl encoding end c.after_standalone.result c.after_standalone.ensures c.unwrap_or-end.ensures;
    } c.if-end-start.true

pub returns : goal.returns
returns c =
    let bytes = c.args.bytes.now in
    let start = c.in_ok-start.start in
    let version = c.unwrap_or-version.result in
    let encoding = c.unwrap_or-encoding.result in
    let end = c.unwrap_or-end.result in
    let first = passes_by IsVersionInfo start version c.after_version.result c.after_version.ensures c.unwrap_or-version.ensures in
    let second = passes_by IsEncodingDecl version encoding c.after_encoding.result c.after_encoding.ensures c.unwrap_or-encoding.ensures in
    let third = passes_by IsStandaloneDecl encoding end c.after_standalone.result c.after_standalone.ensures c.unwrap_or-end.ensures in
    match_same _ ((rest : List ℕ) → c.after_space.result.now ≢ codes "?>" ++ rest)
    (BeginsNone IsTextDecl bytes) (λ r. c.after_space.result.now ≡ codes "?>" ++ r.now)
    (λ r. Begins IsTextDecl bytes r.now)
    (λ none. no_text_decl_end bytes start.now version.now encoding.now end.now
    c.in_ok-start.ensures.found record { first = first; second = second; third = third }
    (λ rest e. none rest (c.after_space.ensures.after ∙ e)))
    (λ r closes. text_decl_by bytes start.now version.now encoding.now end.now r.now
    c.in_ok-start.ensures.found
    record {
      first = first;
      second = second;
      third = third;
      closes = sym c.after_space.ensures.after ∙ closes;
    } c.if-end-start.false)
    c.after_bytes-2.ensures.found
