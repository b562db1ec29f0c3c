use Rattle.std.proofs.Common.{IsTrue, [], ap, arith, length, subst, sym, ℕ, ◌<◌, ◌∙◌, ◌∷◌, ◌↔◌, ◌≡◌}
use Rattle.pv_productive.specs.PlainForms.{dtd_of}
use Rattle.pv_columns.specs.ColumnRules.{ReadThrough}
use Rattle.pv_reach.specs.Merging.{column_head}
use Rattle.pv_reach.proofs.EmptyReaches.{tokens_may_be_missing}
use Rattle.pv_reach.proofs.FormedDtds.{formed_dtd}
use Rattle.pv_reach.proofs.ContentRules.{if_ok_as}
use Rattle.pv_reach.proofs.ColumnAnswers.{content_reaches}
use Rattle.pv_reach.proofs.words.derives_by.Goals as goal

pub column_reaches-requires-clause-cuts : goal.column_reaches-requires-clause-cuts
column_reaches-requires-clause-cuts c = c.requires.plan.cuts

pub column_reaches-requires-clause-sets : goal.column_reaches-requires-clause-sets
column_reaches-requires-clause-sets c = c.requires.plan.free

pub column_reaches-requires-clause-ranges : goal.column_reaches-requires-clause-ranges
column_reaches-requires-clause-ranges c = c.requires.plan.ranges

pub column_reaches-requires-clause-narrow : goal.column_reaches-requires-clause-narrow
column_reaches-requires-clause-narrow c = c.requires.plan.narrow

pub column_reaches-requires-clause-column : goal.column_reaches-requires-clause-column
column_reaches-requires-clause-column c =
    let lt = c.requires.known in
    let many = (formed_dtd c.args.judge.now).is_proper.named in
    let e = c.column_head-column.ensures ∙ ap (λ v. column_head v c.args.id.0) c.deref.ensures.value in
    let P : ℕ → Type 0 = λ v. v < c.args.plan.now.width in
    subst P (sym e) (c.requires.plan.replaces.columns c.args.id.0 (omega arith))

pub column_reaches-requires-clause-in_range : goal.column_reaches-requires-clause-in_range
column_reaches-requires-clause-in_range c = c.requires.plan.replaces.in_range

pub column_reaches-requires-clause-missing : goal.column_reaches-requires-clause-missing
column_reaches-requires-clause-missing c =
    c.requires.plan.replaces.missing c.args.word.now
    (tokens_may_be_missing (dtd_of c.args.judge.now) c.requires.plan.rules c.args.word.now c.requires.plan.are_rules (formed_dtd c.args.judge.now) c.requires.productive)

pub returns-in-Some : goal.returns-in-Some
returns-in-Some c =
    let g = dtd_of c.args.judge.now in let word = c.args.word.now in let plan = c.args.plan.now in let is = c.requires.plan in
    let lt = c.requires.known in
    let many = (formed_dtd c.args.judge.now).is_proper.named in
    let missing = is.replaces.missing word (tokens_may_be_missing g is.rules word is.are_rules (formed_dtd c.args.judge.now) c.requires.productive) in
    let s = is.replaces.same word c.args.id.0 0 (length word) (omega arith) in
    let e : c.column_head-column.result ≡ column_head plan.heads.items c.args.id.0 = c.column_head-column.ensures ∙ ap (λ v. column_head v c.args.id.0) c.deref.ensures.value in
    let W : ℕ → Type 0 = λ v. v < plan.width in
    let own = is.free.own c.column_head-column.result (subst W (sym e) (is.replaces.columns c.args.id.0 (omega arith))) in
    let P : ℕ → Type 0 = λ v. IsTrue c.in-Some.covers ↔ ReadThrough plan.rules.items word (v ∷ []) 0 (length word) in
    let r = subst P (own ∙ e) (c.in-Some.ensures plan.rules.items is.free.columns is.free.sets missing) in
    content_reaches g is.rules word c.args.id.0 c.in-Some.covers is.are_rules (formed_dtd c.args.judge.now) lt ((λ t. s.0 (r.0 t)), (λ d. r.1 (s.1 d)))

pub returns : goal.returns
returns c =
    let g = dtd_of c.args.judge.now in let word = c.args.word.now in
    let lt = c.requires.known in
    let many = (formed_dtd c.args.judge.now).is_proper.named in
    let s = c.requires.plan.replaces.same word c.args.id.0 0 (length word) (omega arith) in
    let e = c.column_head-column.ensures ∙ ap (λ v. column_head v c.args.id.0) c.deref.ensures.value in
    let Q : ℕ → Type 0 = λ v. ReadThrough c.args.plan.now.rules.items word (v ∷ []) 0 (length word) in
    if_ok_as c.column_reaches.result _ _
    (λ b iff. content_reaches g c.requires.plan.rules word c.args.id.0 b c.requires.plan.are_rules (formed_dtd c.args.judge.now) lt
    ((λ t. s.0 (subst Q e (iff.0 t))), (λ d. iff.1 (subst Q (sym e) (s.1 d))))) c.column_reaches.ensures
