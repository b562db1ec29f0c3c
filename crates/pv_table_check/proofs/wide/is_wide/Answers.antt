use Rattle.std.proofs.Common.{Bool, [], ap, false, map, refl, subst, sym, true, ◌∙◌, ◌≡◌}
use Rattle.std.specs.Prelude.{not}
use Rattle.pv_model.specs.PlainForms.{plain_token}
use Rattle.pv_dtd.specs.PlainForms.{plain_dtd}
use Rattle.pv_tree.specs.PlainDocs.{plain_doc}
use Rattle.pv_tree.specs.PlainForms.{forest, plain_all}
use Rattle.pv_tree.specs.Words.{word_of}
use Rattle.pv_missing.specs.Widths.{FitsWeights}
use Rattle.pv_table_check.proofs.ListPlaces.{kids_at, no_kids, some_list}
use Rattle.pv_table_check.proofs.TableParts.{long_as}
use Rattle.pv_table_check.proofs.wide.is_wide.Goals as goal

pub returns-in_default-clause-narrow : goal.returns-in_default-clause-narrow
returns-in_default-clause-narrow c = λ f list m e. absurd (no_kids c.list_at_law.ensures (plain_dtd c.args.dtd.now) [] (plain_doc c.args.doc.now) c.args.table.now.path c.in_default.ensures list m e)

not_true : (b : Bool) → not b ≡ true → b ≡ false
not_true true e = absurd cc
not_true false e = refl

not_false : (b : Bool) → not b ≡ false → b ≡ true
not_false true e = refl
not_false false e = absurd cc

pub returns-clause-wide : goal.returns-clause-wide
returns-clause-wide c = λ t.
    let l = some_list c.list_at_law.ensures (plain_dtd c.args.dtd.now) [] (plain_doc c.args.doc.now) c.args.table.now.path (plain_all c.in-Some.kids.now) c.in-Some.ensures in
    let e : map plain_token c.as_slice.result.now ≡ word_of (plain_dtd c.args.dtd.now) (forest c.in-Some.kids.now) = ap (λ x. map plain_token x) c.as_slice.ensures ∙ c.in_ok-tokens.ensures in
    let long = long_as (plain_dtd c.args.dtd.now) c.as_slice.result.now (forest c.in-Some.kids.now) l.0.kids e l.3 in
    let f = not_true c.is_narrow_for_weights.result t in
    (l.0, l.1, l.2, λ fits. let y = c.is_narrow_for_weights.ensures.1 (subst (FitsWeights (plain_dtd c.args.dtd.now)) (sym long) fits) in absurd cc)

pub returns-clause-narrow : goal.returns-clause-narrow
returns-clause-narrow c = λ f list m p.
    let e : map plain_token c.as_slice.result.now ≡ word_of (plain_dtd c.args.dtd.now) (forest c.in-Some.kids.now) = ap (λ x. map plain_token x) c.as_slice.ensures ∙ c.in_ok-tokens.ensures in
    let k = kids_at c.list_at_law.ensures (plain_dtd c.args.dtd.now) [] (plain_doc c.args.doc.now) c.args.table.now.path (plain_all c.in-Some.kids.now) c.in-Some.ensures list m p in
    let long = long_as (plain_dtd c.args.dtd.now) c.as_slice.result.now (forest c.in-Some.kids.now) list.kids e k in
    subst (FitsWeights (plain_dtd c.args.dtd.now)) long (c.is_narrow_for_weights.ensures.0 (not_false c.is_narrow_for_weights.result f))
