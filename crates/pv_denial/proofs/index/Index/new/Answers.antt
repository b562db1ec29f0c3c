use Rattle.std.proofs.Common.{ap, arith, length, ◌∙◌, ◌≡◌}
use Rattle.std.specs.Prelude.{vec_len}
use Rattle.pv_dtd.specs.Plain.{PlainDtd, parts_in_models}
use Rattle.pv_productive.specs.PlainForms.{dtd_of}
use Rattle.pv_denial.proofs.RowIndex.{rooms}
use Rattle.pv_denial.proofs.index.Index.new.Goals as goal

pub returns-clause-room : goal.returns-clause-room
returns-clause-room c =
    let names = c.names-names.ensures ∙ ap (λ (d : PlainDtd). length d.names) c.dtd.ensures in
    let parts = c.parts-parts.ensures ∙ ap (λ (d : PlainDtd). parts_in_models d.models) c.dtd-2.ensures in
    let a : length c.in_ok-by_name.by_name.items ≡ vec_len c.in_ok-by_name.by_name = omega (arith, c.in_ok-by_name.by_name.ok.0) in
    let b : length c.in_ok-by_content.by_content.items ≡ vec_len c.in_ok-by_content.by_content = omega (arith, c.in_ok-by_content.by_content.ok.0) in
    let e : length c.in_ok-by_part.by_part.items ≡ vec_len c.in_ok-by_part.by_part = omega (arith, c.in_ok-by_part.by_part.ok.0) in
    let f : length c.in_ok-by_rest.by_rest.items ≡ vec_len c.in_ok-by_rest.by_rest = omega (arith, c.in_ok-by_rest.by_rest.ok.0) in
    rooms (dtd_of c.args.grammar.now)
    (record {
      names = c.in_ok-by_name.by_name;
      contents = c.in_ok-by_content.by_content;
      parts = c.in_ok-by_part.by_part;
      rests = c.in_ok-by_rest.by_rest;
    }) (a
    ∙ c.in_ok-by_name.ensures.len ∙ names) (b ∙ c.in_ok-by_content.ensures.len ∙ names) (e
    ∙ c.in_ok-by_part.ensures.len ∙ parts) (f ∙ c.in_ok-by_rest.ensures.len ∙ parts)
