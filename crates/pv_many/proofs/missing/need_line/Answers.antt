use Rattle.std.proofs.Common.{◌≡◌, ◌++◌, ◌∙◌, List, None, Some, ap, codes, sym, ℕ}
use Rattle.std.specs.Option.{option_copied}
use Rattle.std.specs.Prelude.{IsNone}
use Rattle.pv_dtd.specs.Plain.{PlainDtd}
use Rattle.pv_fresh.specs.Answers.{IsImpossibleAt}
use Rattle.pv_missing.specs.Verdicts.{PlainVerdicts}
use Rattle.pv_opening.specs.Possibility.{AreVerdictsOf}
use Rattle.pv_opening.specs.Response.{with_line}
use Rattle.pv_opening.specs.Returns.{RefusesWith}
use Rattle.pv_opening.specs.declared.status.Status.TheVariants.{Done}
use Rattle.pv_opening.proofs.Stages.{stops_as}
use Rattle.pv_productive.specs.PlainForms.{dtd_of}
use Rattle.pv_tree.specs.Plain.{PlainDoc}
use Rattle.pv_tree.specs.PlainDocs.{plain_doc}
use Rattle.pv_tree.specs.declared.nodes.Mark.{Mark}
use Rattle.pv_words.specs.Paths.{path_text}
use Rattle.pv_many.specs.MissingAnswers.{TellsMissing, is_impossible}
use Rattle.pv_many.proofs.missing.need_line.Goals as goal

impossible_at : (root : List ℕ) (g : PlainDtd) (doc : PlainDoc Mark) (vs : PlainVerdicts)
    (path : List ℕ) → AreVerdictsOf root g doc vs → vs.first ≡ Some path →
    IsImpossibleAt root g doc path
impossible_at root g doc vs path has is = record {
  narrow = has.narrow;
  impossible = λ possible.
      (let none : IsNone (Some path) = rw is at (has.possible.1 possible) in absurd cc);
  first = rw is at has.verdicts.is_first;
}

pub returns-in-Some-clause-tells : goal.returns-in-Some-clause-tells
returns-in-Some-clause-tells c = λ has.
    let root = c.args.root.now in
    let d = dtd_of c.args.judge.now in
    let doc = plain_doc c.args.doc.now in
    let path = c.in-Some.path.now in
    let stop = c.refuse_path.result in
    let first : c.args.verdicts.now.first ≡ Some path =
    sym c.first_impossible.ensures ∙ ap option_copied c.in-Some.is in
    let told : RefusesWith (λ r. r ≡ with_line Done (codes "no impossible " ++ path_text path))
    stop = rw c.places.ensures at c.refuse_path.ensures in
    stops_as (λ r. r ≡ with_line Done (codes "no impossible " ++ path_text path))
    (TellsMissing root d doc) stop
    (λ r e. is_impossible path (impossible_at root d doc c.args.verdicts.now path has first) e) told

pub returns-in-None-clause-tells : goal.returns-in-None-clause-tells
returns-in-None-clause-tells c = λ has.
    let none : c.args.verdicts.now.first ≡ None =
    sym c.first_impossible.ensures ∙ ap option_copied c.in-None.is in
    c.weighed_line.ensures.tells has none
