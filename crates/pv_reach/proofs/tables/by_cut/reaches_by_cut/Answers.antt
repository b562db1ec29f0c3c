use Rattle.std.proofs.Common.{List, [], arith, length, subst, sym, ℕ, ◌++◌, ◌∷◌, ◌≡◌}
use Rattle.pv_model.specs.declared.models.Token.{Token}
use Rattle.pv_columns.specs.ColumnRules.{InRange, ReadThrough, TokensMayBeMissing}
use Rattle.pv_columns.specs.declared.rules.ColumnRule.{ColumnRule}
use Rattle.pv_reach.specs.Cuts.{AreTokensOf}
use Rattle.pv_reach.proofs.FewColumns.{cut_reaches, few_in_range, few_missing}
use Rattle.pv_reach.proofs.FreeRules.{joined}
use Rattle.pv_reach.proofs.tables.by_cut.reaches_by_cut.Goals as goal

pub reaches_end-requires-clause-narrow : goal.reaches_end-requires-clause-narrow
reaches_end-requires-clause-narrow c =
    let n = c.len-width.ensures in let k = c.requires.cut.narrow in let w = c.requires.narrow in
    omega (arith, c.args.cut.now.names.ok.0)

pub reaches_end-requires-clause-column : goal.reaches_end-requires-clause-column
reaches_end-requires-clause-column c = let n = c.len-width.ensures in let k = c.requires.cut.number in omega (arith, c.args.cut.now.names.ok.0)

pub reaches_end-requires-clause-in_range : goal.reaches_end-requires-clause-in_range
reaches_end-requires-clause-in_range c =
    let rules = c.args.plan.now.rules.items in let word = c.args.word.now in let cut = c.args.cut.now in let names = cut.names.items in let front = c.in_ok-front.front.items in
    let T : List Token → Type 0 = λ v. AreTokensOf word v in
    let is = joined rules names cut.frees.items c.deref.result.now front cut.rules.items c.requires.cut.kept c.in_ok-front.ensures.cut c.in_ok-front.ensures.has in
    let range = few_in_range rules (front ++ cut.rules.items) names c.deref.result.now word is (subst T (sym c.deref.ensures.value) c.in_ok-tokens.ensures) c.requires.missing in
    let n : length names ≡ c.len-width.result = (let z = c.len-width.ensures in omega (arith, cut.names.ok.0)) in
    let F : List ColumnRule → Type 0 = λ v. InRange c.len-width.result (v ++ c.deref-3.result.now) in
    let P : List ColumnRule → Type 0 = λ v. InRange c.len-width.result (front ++ v) in let Q : ℕ → Type 0 = λ v. InRange v (front ++ cut.rules.items) in
    subst F (sym c.deref-2.ensures.value) (subst P (sym c.deref-3.ensures.value) (subst Q n range))

pub reaches_end-requires-clause-missing : goal.reaches_end-requires-clause-missing
reaches_end-requires-clause-missing c =
    let rules = c.args.plan.now.rules.items in let word = c.args.word.now in let cut = c.args.cut.now in let names = cut.names.items in let front = c.in_ok-front.front.items in
    let T : List Token → Type 0 = λ v. AreTokensOf word v in
    let is = joined rules names cut.frees.items c.deref.result.now front cut.rules.items c.requires.cut.kept c.in_ok-front.ensures.cut c.in_ok-front.ensures.has in
    let missing = few_missing rules (front ++ cut.rules.items) names c.deref.result.now word is (subst T (sym c.deref.ensures.value) c.in_ok-tokens.ensures) c.requires.missing in
    let F : List ColumnRule → Type 0 = λ v. TokensMayBeMissing (v ++ c.deref-3.result.now) word in
    let P : List ColumnRule → Type 0 = λ v. TokensMayBeMissing (front ++ v) word in
    subst F (sym c.deref-2.ensures.value) (subst P (sym c.deref-3.ensures.value) missing)

pub returns : goal.returns
returns c =
    let rules = c.args.plan.now.rules.items in let word = c.args.word.now in let cut = c.args.cut.now in let names = cut.names.items in let front = c.in_ok-front.front.items in
    let T : List Token → Type 0 = λ v. AreTokensOf word v in
    let is = joined rules names cut.frees.items c.deref.result.now front cut.rules.items c.requires.cut.kept c.in_ok-front.ensures.cut c.in_ok-front.ensures.has in
    let reaches = cut_reaches rules (front ++ cut.rules.items) names c.deref.result.now word is
    (subst T (sym c.deref.ensures.value) c.in_ok-tokens.ensures) c.requires.missing cut.number
    c.requires.cut.number 0 (length word) in
    let F : List ColumnRule → Type 0 = λ v. ReadThrough (v ++ c.deref-3.result.now) word (cut.number ∷ []) 0 (length word) in
    let P : List ColumnRule → Type 0 = λ v. ReadThrough (front ++ v) word (cut.number ∷ []) 0 (length word) in
    let there : ReadThrough (front ++ cut.rules.items) word (cut.number ∷ []) 0 (length word) → ReadThrough (c.deref-2.result.now ++ c.deref-3.result.now) word (cut.number ∷ []) 0 (length word) =
    λ d. subst F (sym c.deref-2.ensures.value) (subst P (sym c.deref-3.ensures.value) d) in
    let back : ReadThrough (c.deref-2.result.now ++ c.deref-3.result.now) word (cut.number ∷ []) 0 (length word) → ReadThrough (front ++ cut.rules.items) word (cut.number ∷ []) 0 (length word) =
    λ d. subst P c.deref-3.ensures.value (subst F c.deref-2.ensures.value d) in
    let iff = c.in_ok-reaches.ensures in
    ((λ t. reaches.0 (back (iff.0 t))), (λ d. iff.1 (there (reaches.1 d))))
