use Rattle.std.proofs.Common.{arith, refl, subst, suc, sym, ℕ, ◌+◌, ◌∙◌, ◌≡◌}
use Rattle.std.proofs.lemmas.Bool.{eq-eqb, eqb-true}
use Rattle.pv_rules.specs.Rules.{over}
use Rattle.pv_rules.specs.Sites.{name_site}
use Rattle.pv_tables.specs.Values.{listed_value}
use Rattle.pv_table_check.proofs.texts.is_kept_at.Goals as goal

pub returns-in_default : goal.returns-in_default
returns-in_default c = (λ t x at. let e = (c.in_default.ensures x).0 at in absurd cc, λ h. refl)

pub returns : goal.returns
returns c =
    let es = c.args.entries.now in
    let place = c.args.place in
    let id : ℕ = c.in-Some.id.0 in
    let next : place + 1 ≡ suc place = omega arith in
    let v : c.value_at.result ≡ listed_value es (over (name_site id) place (suc place)) = subst (λ k. c.value_at.result ≡ listed_value es (over (name_site id) place k)) next c.value_at.ensures in (
      λ t x at.
          let e = (c.in-Some.ensures x).0 at in
          let same : id ≡ x = cc in
          subst (λ y. listed_value es (over (name_site y) place (suc place)) ≡ 0) same (sym v ∙ eqb-true c.value_at.result 0 t),
      λ h. eq-eqb c.value_at.result 0 (v ∙ h id ((c.in-Some.ensures id).1 refl)),
    )
