use Rattle.std.proofs.Common.{Contains, arith, inl, inr, subst, ℕ, ◌-◌, ◌≡◌, ◌⊎◌}
use Rattle.std.proofs.lemmas.Bool.{cases_lt}
use Rattle.pv_reach.specs.Cuts.{HasAllNumbered}
use Rattle.pv_reach.proofs.RangesOfRules.{numbered_still}
use Rattle.pv_reach.proofs.tables.cut.add_columns.Goals as goal

pub loop-left-init : goal.loop-left-init
loop-left-init c = record {
  cut = λ s. s;
  has = λ k a b. absurd (let z = c.len-left.ensures in omega arith);
}

pub loop-left-preserved : goal.loop-left-preserved
loop-left-preserved c =
    let rules = c.args.plan.now.rules.items in let names = c.args.found.now.names.items in let n = c.loop-left.left - 1 in
    let old = c.loop-left.few.items in let new = c.add_column.new.few.items in let frees = c.add_column.new.frees.items in let e = c.in_ok-add_column.ensures in
    record {
      cut = λ s. e.adds.cut (c.loop-left.invariant.cut s);
      has = λ k a b. elim (cases_lt n k) [
        | inl h ↦ elim (c.loop-left.invariant.has k (omega arith) b) [
          | inl con ↦ inl (e.frees k con)
          | inr all ↦ inr (λ r con z. numbered_still names old new k r e.adds.grow (all r con z))
        ]
        | inr h ↦ (let z : n ≡ k = omega arith in let P : ℕ → Type 0 = λ v. Contains frees v ⊎ HasAllNumbered rules names new v in subst P z e.has)
      ];
    }

pub returns : goal.returns
returns c = λ s. record { cut = c.loop-left.invariant.cut s; has = λ k lt. c.loop-left.invariant.has k (let t = c.loop-left-test.false in omega arith) lt }
