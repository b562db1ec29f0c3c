use Rattle.std.proofs.Common.{Contains, List, ap, length, refl, subst, sym, ℕ, ◌<◌, ◌∙◌, ◌≡◌}
use Rattle.std.proofs.lemmas.List.{get_or_default}
use Rattle.pv_columns.specs.declared.rules.ColumnRule.{ColumnRule}
use Rattle.pv_reach.specs.Cuts.{AreColumnNumbers, HasNumbered, of_rule}
use Rattle.pv_reach.specs.Merging.{column_head, column_heads}
use Rattle.pv_reach.proofs.RangesOfRules.{adds_rule}
use Rattle.pv_reach.proofs.tables.cut.add_numbered.Goals as goal

pub returns-clause-adds : goal.returns-clause-adds
returns-clause-adds c =
    let rules = c.args.rules.now in let names = c.args.found.now.names.items in let n = c.args.number in let l = c.args.left in let r = c.index-rules-number.result in
    let lt : n < length rules = c.if-number-rules.false in
    let con : Contains rules r = (n, lt, sym c.index-rules-number.is) in
    let e : r.left ≡ column_head names l = c.if-rule-index.false ∙ c.index.ensures ∙ get_or_default names l c.index.result.now 0 c.requires in
    let f : column_heads names c.deref-2.result.now ≡ r.columns.items = ap (λ v. column_heads names v) c.deref-2.ensures.value ∙ c.in_ok-numbers.ensures.are ∙ c.deref.ensures.value in
    let A : List ℕ → Type 0 = λ v. AreColumnNumbers names v in
    adds_rule rules names c.args.few.now.items c.add.new.rules.items l r.token c.deref-2.result.now
    c.in_ok-add.ensures (of_rule r con (sym e) refl f) c.requires
    (subst A (sym c.deref-2.ensures.value) c.in_ok-numbers.ensures.within)

pub returns-clause-has : goal.returns-clause-has
returns-clause-has c = λ x lt is z.
    let rules = c.args.rules.now in let names = c.args.found.now.names.items in let n = c.args.number in let l = c.args.left in let r = c.index-rules-number.result in
    let f : column_heads names c.deref-2.result.now ≡ r.columns.items = ap (λ v. column_heads names v) c.deref-2.ensures.value ∙ c.in_ok-numbers.ensures.are ∙ c.deref.ensures.value in
    let A : List ℕ → Type 0 = λ v. AreColumnNumbers names v in
    let same : r ≡ x = c.index-rules-number.is ∙ get_or_default rules n r x lt ∙ sym is in
    let P : ColumnRule → Type 0 = λ v. HasNumbered names c.add.new.rules.items l v in
    subst P same record { numbers = c.deref-2.result.now; has = c.in_ok-add.ensures.has; are = f; within = subst A (sym c.deref-2.ensures.value) c.in_ok-numbers.ensures.within }
