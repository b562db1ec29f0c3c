use Rattle.std.proofs.Common.{ap, arith, ◌∙◌}
use Rattle.pv_dtd.specs.Plain.{PlainDtd, parts_in_models}
use Rattle.pv_productive.specs.PlainForms.{dtd_of}
use Rattle.pv_denial.proofs.PartSites.{part_within, rest_within}
use Rattle.pv_deny.proofs.sites.told_sites.Goals as goal

pub push_kind-requires-3-clause-all : goal.push_kind-requires-3-clause-all
push_kind-requires-3-clause-all c = λ s has e.
    let n = c.parts-parts.ensures ∙ ap (λ (d : PlainDtd). parts_in_models d.models) c.dtd-2.ensures in
    let l = part_within (dtd_of c.args.grammar.now) (c.parts_law.ensures (dtd_of c.args.grammar.now)) s has e in omega arith

pub push_kind-requires-4-clause-all : goal.push_kind-requires-4-clause-all
push_kind-requires-4-clause-all c = λ s has e.
    let n = c.parts-parts.ensures ∙ ap (λ (d : PlainDtd). parts_in_models d.models) c.dtd-2.ensures in
    let l = rest_within (dtd_of c.args.grammar.now) (c.parts_law.ensures (dtd_of c.args.grammar.now)) s has e in omega arith
