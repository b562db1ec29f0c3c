use Rattle.std.proofs.Common.{◌≡◌, ◌++◌, List, None, codes, decimal, ℕ, refl}
use Rattle.std.specs.List.{AllByRecursion}
use Rattle.pv_complete.specs.NeededElements.{AreLiveVerdicts}
use Rattle.pv_dtd.specs.Plain.{PlainDtd}
use Rattle.pv_missing.specs.Verdicts.{IsLive, PlainVerdicts}
use Rattle.pv_opening.specs.Possibility.{AreVerdictsOf}
use Rattle.pv_opening.specs.Response.{with_line}
use Rattle.pv_opening.specs.declared.status.Status.TheVariants.{Done}
use Rattle.pv_productive.specs.PlainForms.{dtd_of}
use Rattle.pv_tree.specs.Lists.{lists_of}
use Rattle.pv_tree.specs.Plain.{PlainDoc}
use Rattle.pv_tree.specs.PlainDocs.{plain_doc}
use Rattle.pv_tree.specs.declared.nodes.Mark.{Mark}
use Rattle.pv_many.specs.MissingAnswers.{TellsMissing, is_needed}
use Rattle.pv_many.proofs.CallResults.{tells_as}
use Rattle.pv_many.proofs.missing.weighed_line.Goals as goal

module _ (root : List ℕ) (g : PlainDtd) (doc : PlainDoc Mark) (vs : PlainVerdicts)
    (has : AreVerdictsOf root g doc vs) (none : vs.first ≡ None) where
  all_live : AllByRecursion (IsLive g root) (lists_of doc)
  all_live = rw none at has.verdicts.is_first

  live_verdicts : AreLiveVerdicts g root doc vs.verdicts
  live_verdicts = record {
    narrow = has.narrow;
    possible = has.possible.0 (rw none refl);
    verdicts = has.verdicts.are_verdicts;
  }

pub need_remembering-requires : goal.need_remembering-requires
need_remembering-requires c = rw c.grammar.ensures c.requires

pub returns-in-Ok-clause-tells : goal.returns-in-Ok-clause-tells
returns-in-Ok-clause-tells c = λ has none.
    let root = c.args.root.now in
    let g = dtd_of c.args.judge.now in
    let doc = plain_doc c.args.doc.now in
    let number = c.in-Ok.number in
    let needs = (rw c.grammar.ensures at c.in-Ok.ensures.needs)
    (live_verdicts root g doc c.args.verdicts.now has none) in
    tells_as (λ r. r ≡ with_line Done (codes "need " ++ decimal number)) (TellsMissing root g doc)
    c.number_line.result (λ r e. is_needed number needs e) c.number_line.ensures

pub returns-in-Err-clause-tells : goal.returns-in-Err-clause-tells
returns-in-Err-clause-tells c = λ has none.
    let root = c.args.root.now in
    let g = dtd_of c.args.judge.now in
    let doc = plain_doc c.args.doc.now in
    let cause = (rw c.grammar.ensures at c.in-Err.ensures.refused)
    (live_verdicts root g doc c.args.verdicts.now has none) in
    c.withhold.ensures root g doc has.narrow
    (all_live root g doc c.args.verdicts.now has none) cause

pub returns-in-Ok-clause-remembers : goal.returns-in-Ok-clause-remembers
returns-in-Ok-clause-remembers c = rw c.grammar.ensures at c.in-Ok.ensures.remembers

pub returns-in-Err-clause-remembers : goal.returns-in-Err-clause-remembers
returns-in-Err-clause-remembers c = rw c.grammar.ensures at c.in-Err.ensures.remembers
