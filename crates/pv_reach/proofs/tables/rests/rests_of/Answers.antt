use Rattle.std.proofs.Common.{ap, arith, length, suc, vec_len, ◌*◌, ◌+◌, ◌∙◌, ◌≡◌}
use Rattle.pv_dtd.specs.Plain.{PlainDtd, parts_in_models}
use Rattle.pv_productive.specs.PlainForms.{dtd_of}
use Rattle.pv_reach.proofs.MemberRows.{rests_none}
use Rattle.pv_reach.proofs.tables.rests.rests_of.Goals as goal

pub loop-number-init : goal.loop-number-init
loop-number-init c =
    let e = c.args.ends.now in
    let l : c.len.result + 1 ≡ suc (length e.word.items) = omega (arith, c.len.ensures, e.word.ok.0) in
    let z : length c.in_ok-rests.rests.items ≡ vec_len c.in_ok-rests.rests = omega (arith, c.in_ok-rests.rests.ok.0) in
    rests_none (dtd_of c.args.grammar.now) e c.in_ok-rests.rests.items c.parts-parts.result (c.parts-parts.ensures ∙ ap (λ (d : PlainDtd). parts_in_models d.models) c.dtd.ensures)
    (z ∙ c.in_ok-rests.ensures.len ∙ ap (λ n. c.parts-parts.result * n) l)
