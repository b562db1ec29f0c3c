use Rattle.std.proofs.Common.{ap, arith, inl, inr, subst, ℕ, ◌+◌, ◌<◌, ◌∙◌, ◌≡◌}
use Rattle.std.proofs.lemmas.Bool.{cases_lt}
use Rattle.pv_dtd.specs.Plain.{declared}
use Rattle.pv_productive.specs.PlainForms.{dtd_of}
use Rattle.pv_reach.specs.AddedRules.{LaysOutNames}
use Rattle.pv_reach.proofs.NameRules.{names_more, names_none}
use Rattle.pv_reach.proofs.rules.layout.add_names.Goals as goal

pub loop-name-init : goal.loop-name-init
loop-name-init c = names_none (dtd_of c.args.grammar.now) c.args.rules.now.items (λ x. x < 0) (λ x t. absurd (omega arith))

pub loop-name-preserved : goal.loop-name-preserved
loop-name-preserved c =
    names_more (dtd_of c.args.grammar.now) c.args.rules.now.items c.loop-name.rules.items c.add_name.new.rules.items (λ x. x < c.loop-name.name) (λ x. x < c.loop-name.name + 1) c.loop-name.name
    (λ x lt. elim (cases_lt x c.loop-name.name) [ inl less ↦ inl less | inr ge ↦ inr (omega arith) ]) c.loop-name.invariant c.in_ok-add_name.ensures

pub returns : goal.returns
returns c =
    let n = c.count-name-end.ensures ∙ ap declared c.dtd.ensures in
    let z : c.loop-name.name ≡ declared (dtd_of c.args.grammar.now) = let t = c.loop-name-test.false in let a = c.loop-name.auto.name-end in omega arith in
    let P : ℕ → Type 0 = λ v. LaysOutNames (dtd_of c.args.grammar.now) c.args.rules.now.items c.loop-name.rules.items (λ x. x < v) in
    subst P z c.loop-name.invariant
