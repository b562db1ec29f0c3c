use Rattle.std.proofs.Common.{arith, inl, inr, ℕ, ◌+◌, ◌<◌, ◌≡◌, ◌≤◌, ◌⊎◌}
use Rattle.std.proofs.lemmas.Bool.{cases_lt}
use Rattle.pv_dtd.specs.Plain.{PlainDtd}
use Rattle.pv_dtd.specs.PlainForms.{plain_dtd}
use Rattle.pv_rules.specs.Numbering.{IsMemberOf}
use Rattle.pv_rules.proofs.Members.{member_in, part_passed, passed_all, passed_further, passed_more, passed_none}
use Rattle.pv_productive.specs.PlainForms.{table_of}
use Rattle.pv_productive.specs.Tables.{no_size, size_at}
use Rattle.pv_productive.proofs.sums.least_member.Goals as goal

pub loop-member-init : goal.loop-member-init
loop-member-init c = record {
  passed = passed_none (plain_dtd c.args.layout.now.dtd) c.args.number c.args.end c.requires _ (c.args.number + 1) (omega arith);
  bounded = omega arith;
  attained = λ few. absurd (omega arith);
}

pub end_of-member-requires : goal.end_of-member-requires
end_of-member-requires c =
    let g = plain_dtd c.args.layout.now.dtd in
    let p = part_passed g c.args.number c.args.end c.requires _ c.loop-member.member c.loop-member.invariant.passed c.loop-member-test.true in (g, p.0, c.flat.ensures, p.1)

pub loop-member-smaller : goal.loop-member-smaller
loop-member-smaller c =
    let g = plain_dtd c.args.layout.now.dtd in
    let z = passed_further g c.args.number c.args.end c.requires _ c.loop-member.member
    c.loop-member.invariant.passed c.loop-member-test.true c.end_of-member.result
    (c.end_of-member.ensures g c.flat.ensures) in
    let lt = c.loop-member-test.true in omega arith

attained_more : (g : PlainDtd) (size : ℕ → ℕ) (q m k h : ℕ) → IsMemberOf g q m → (k < no_size → (r : ℕ) × IsMemberOf g q r × (k ≡ size r)) → (h ≡ k) ⊎ (h ≡ size m) → h < no_size →
    (r : ℕ) × IsMemberOf g q r × (h ≡ size r)
attained_more g size q m k h at found (inl e) few = let a = found (omega arith) in (a.0, a.1, let z = a.2 in omega arith)
attained_more g size q m k h at found (inr e) few = (m, at, e)

pub loop-member-preserved : goal.loop-member-preserved
loop-member-preserved c =
    let g = plain_dtd c.args.layout.now.dtd in let size = size_at (table_of c.args.sizes.now).parts in
    let i = c.loop-member.invariant in let v = c.of_part.ensures in let m = c.min-least.ensures in
    record {
      passed = passed_more g c.args.number c.args.end c.requires (λ r. c.loop-member.least ≤ size r)
          c.loop-member.member i.passed c.loop-member-test.true c.end_of-member.result
          (c.end_of-member.ensures g c.flat.ensures)
          (λ r. c.min-least.result ≤ size r) (λ r le. omega arith) (omega arith);
      bounded = let b = i.bounded in omega arith;
      attained = attained_more g size c.args.number c.loop-member.member c.loop-member.least c.min-least.result (i.passed.next c.loop-member-test.true) i.attained
          (elim (cases_lt c.loop-member.least c.of_part.result) [ inl lt ↦ inl (omega arith) | inr le ↦ inr (omega arith) ]);
    }

pub returns : goal.returns
returns c = λ ps e.
    let i = c.loop-member.invariant in
    record {
      bounded = i.bounded;
      below = λ p r a. passed_all (plain_dtd c.args.layout.now.dtd) c.args.number c.args.end c.requires _ c.loop-member.member i.passed c.loop-member-test.false r (ps, p, e, a);
      attained = λ few. let a = i.attained few in let m = member_in (plain_dtd c.args.layout.now.dtd) c.args.number a.0 ps e a.1 in (m.0, a.0, m.1, a.2);
    }
