use Rattle.std.specs.Vec.{with_items}
use Rattle.std.proofs.Common.{arith, map, subst, sym, ◌≡◌}
use Rattle.std.proofs.lemmas.List.{length-map, with_items_is}
use Rattle.pv_model.specs.PlainForms.{plain_token}
use Rattle.pv_productive.specs.Tables.{IsLowered, capped}
use Rattle.pv_layout.specs.FormForms.{plain_all}
use Rattle.pv_span.specs.PlainForms.{plain_chart}
use Rattle.pv_span.proofs.LoweredRows.{one_attained}
use Rattle.pv_span.proofs.spreading.lower_one.Goals as goal

pub lower-requires : goal.lower-requires
lower-requires c = let l = c.requires.number in let e = c.requires.attained.is_row in let m = c.deref_mut.ensures.len in let n = simp length-map at e in omega arith

pub returns-clause-attained : goal.returns-clause-attained
returns-clause-attained c =
    let t = c.args.chart.now in
    let row = (with_items t.row c.lower.new.values).items in
    let e : (with_items t.row c.lower.new.values).items ≡ c.lower.new.values = with_items_is t.row _ (let l = c.lower.auto.values in let m = c.deref_mut.ensures.len in omega arith) in
    let d : IsLowered t.row.items c.lower.new.values c.args.number c.cut-least.result c.lower.result = rw c.deref_mut.ensures.value at c.lower.ensures in
    let q : IsLowered t.row.items c.lower.new.values c.args.number (capped c.least_of.result) c.lower.result =
    subst (λ x. IsLowered t.row.items c.lower.new.values c.args.number x c.lower.result) c.cut-least.ensures d in
    one_attained (plain_all c.args.forms.now) (map plain_token c.args.word.now) t.from t.to (plain_chart t) row c.args.number c.least_of.result c.lower.result
    c.requires.attained (let l = c.requires.number in let a = c.requires.attained.is_row in let n = simp length-map at a in omega arith) c.least_of.ensures.attained
    (subst (λ z. IsLowered t.row.items z c.args.number (capped c.least_of.result) c.lower.result) (sym e) q)

pub returns-clause-lowered : goal.returns-clause-lowered
returns-clause-lowered c =
    let t = c.args.chart.now in
    let e : (with_items t.row c.lower.new.values).items ≡ c.lower.new.values = with_items_is t.row _ (let l = c.lower.auto.values in let m = c.deref_mut.ensures.len in omega arith) in
    let d : IsLowered t.row.items c.lower.new.values c.args.number c.cut-least.result c.lower.result = rw c.deref_mut.ensures.value at c.lower.ensures in
    let q : IsLowered t.row.items c.lower.new.values c.args.number (capped c.least_of.result) c.lower.result =
    subst (λ x. IsLowered t.row.items c.lower.new.values c.args.number x c.lower.result) c.cut-least.ensures d in
    record {
      sum = c.least_of.result;
      is_sum = c.least_of.ensures;
      lowered = subst (λ z. IsLowered t.row.items z c.args.number (capped c.least_of.result) c.lower.result) (sym e) q;
    }
