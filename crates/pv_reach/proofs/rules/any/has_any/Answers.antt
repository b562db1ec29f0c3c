use Rattle.std.proofs.Common.{arith, ap, ◌∙◌}
use Rattle.std.proofs.lemmas.Option.{slice_get_within}
use Rattle.pv_model.specs.Plain.{any}
use Rattle.pv_dtd.specs.Plain.{declared}
use Rattle.pv_productive.specs.PlainForms.{dtd_of}
use Rattle.pv_reach.proofs.rules.any.has_any.Goals as goal

pub returns-clause-none : goal.returns-clause-none
returns-clause-none c = λ _ x e.
    let l = slice_get_within (dtd_of c.args.grammar.now).models x any e in
    let n = c.count-name-end.ensures ∙ ap declared c.dtd.ensures in
    c.loop-name.invariant x (let t = c.loop-name-test.false in omega arith) e
