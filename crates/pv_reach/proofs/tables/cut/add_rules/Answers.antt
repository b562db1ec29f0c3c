use Rattle.std.proofs.Common.{arith, get_or, inl, inr, length, subst, ℕ, ◌<◌, ◌≡◌}
use Rattle.std.proofs.lemmas.Bool.{cases_lt}
use Rattle.pv_reach.proofs.RangesOfRules.{adds_none, adds_twice, numbered_still}
use Rattle.pv_reach.proofs.tables.cut.add_rules.Goals as goal

pub loop-number-init : goal.loop-number-init
loop-number-init c = record {
  adds = adds_none c.args.rules.now c.args.found.now.names.items c.args.few.now.items;
  has = λ k r a b. absurd (omega arith);
}

pub loop-number-preserved : goal.loop-number-preserved
loop-number-preserved c =
    let rules = c.args.rules.now in let names = c.args.found.now.names.items in let n = c.loop-number.number in let l = c.args.left in
    let old = c.loop-number.few.items in let new = c.add_numbered.new.few.items in let e = c.in_ok-add_numbered.ensures in
    record {
      adds = adds_twice rules names c.args.few.now.items old new c.loop-number.invariant.adds e.adds;
      has = λ k r a b lt is z. elim (cases_lt k n) [
        | inl h ↦ numbered_still names old new l r e.adds.grow (c.loop-number.invariant.has k r a h lt is z)
        | inr h ↦ (
            let y : k ≡ n = omega arith in
            let P : ℕ → Type 0 = λ v. v < length rules in let Q : ℕ → Type 0 = λ v. r ≡ get_or rules v r in
            e.has r (subst P y lt) (subst Q y is) z)
      ];
    }

pub returns-clause-has : goal.returns-clause-has
returns-clause-has c = λ k r a b lt is z. c.loop-number.invariant.has k r a (let t = c.loop-number-test.false in omega arith) lt is z
