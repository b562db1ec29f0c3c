use Rattle.std.proofs.Common.{Option, List, ℕ, Some, None, refl}
use Rattle.std.specs.Prelude.{IfSome, MatchOption}
use Rattle.std.proofs.lemmas.Result.{IfOk-weaker}
use Rattle.pv_dtd.specs.PlainForms.{plain_dtd}
use Rattle.pv_tree.specs.PlainDocs.{plain_doc}
use Rattle.pv_tree.proofs.FirstInvalid.{none_is_valid}
use Rattle.pv_tree.proofs.validity.first_invalid.Goals as goal

pub returns-clause-valid : goal.returns-clause-valid
returns-clause-valid c =
    IfOk-weaker c.first_list.result _ _ (λ found h. none_is_valid (plain_dtd c.args.dtd.now)
    c.args.root.now (plain_doc c.args.doc.now) found c.args.doc.now.units
    (h c.args.root.now refl)) c.first_list.ensures

found_one : (found : Option (List ℕ)) (A : Type 0) (P : List ℕ → Type 0) → MatchOption found A P → IfSome found P
found_one (Some path) A P h = h
found_one None A P h = tt

pub returns-clause-first : goal.returns-clause-first
returns-clause-first c =
    IfOk-weaker c.first_list.result _ _ (λ found h. found_one found _ _ (h c.args.root.now refl)) c.first_list.ensures
