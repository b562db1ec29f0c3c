use Rattle.std.proofs.Common.{◌≡◌, ◌++◌, ◌∙◌, ℕ, List, Some, None, Result, Ok, Err, IfOk, ap, codes, refl, sym}
use Rattle.std.specs.Prelude.{IsNone}
use Rattle.std.specs.Option.{option_copied}
use Rattle.pv_dtd.specs.Plain.{PlainDtd}
use Rattle.pv_missing.specs.Verdicts.{IsFirstImpossible, PlainVerdicts, possible_in}
use Rattle.pv_words.specs.Paths.{path_text}
use Rattle.pv_tree.specs.Lists.{lists_of}
use Rattle.pv_tree.specs.Plain.{PlainDoc}
use Rattle.pv_tree.specs.declared.nodes.Mark.{Mark}
use Rattle.pv_opening.specs.Possibility.{AreVerdictsOf, TellsPossibility, is_impossible, is_no_more}
use Rattle.pv_opening.specs.Possibility.{is_possible, possible_text}
use Rattle.pv_opening.specs.Response.{PlainResponse, plain_response, with_line}
use Rattle.pv_opening.specs.declared.response.Response.{Response}
use Rattle.pv_opening.specs.declared.status.Status.TheVariants.{Done, Negative}
use Rattle.pv_commands.proofs.check.check_line.Goals as goal

module _ (root : List ℕ) (g : PlainDtd) (doc : PlainDoc Mark) (vs : PlainVerdicts)
    (has : AreVerdictsOf root g doc vs) where
  impossible_told : (path : List ℕ) (r : PlainResponse) → vs.first ≡ Some path →
      r ≡ with_line Negative (codes "impossible " ++ path_text path) → TellsPossibility root g doc r
  impossible_told path r is told =
      let first : IsFirstImpossible g root (lists_of doc) path = rw is at has.verdicts.is_first in
      is_no_more (is_impossible path
      (λ possible.
      (let none : IsNone (Some path) = rw is at (has.possible.1 possible) in absurd cc)) first told)

  impossible_line : {E : Type 0} (path : List ℕ) (result : Result Response E) →
      vs.first ≡ Some path →
      IfOk result (λ r. plain_response r ≡ with_line Negative
      (codes "impossible " ++ path_text path)) →
      IfOk result (λ r. TellsPossibility root g doc (plain_response r))
  impossible_line path (Ok r) is told = impossible_told path (plain_response r) is told
  impossible_line path (Err e) is told = tt

  line_told : {E : Type 0} (left : ℕ) (result : Result Response E) → vs.first ≡ None →
      left ≡ possible_in vs.verdicts →
      IfOk result (λ r. plain_response r ≡ with_line Done (possible_text left)) →
      IfOk result (λ r. TellsPossibility root g doc (plain_response r))
  line_told left (Ok r) is counts told =
      is_possible left (has.possible.0 (rw is refl))
      (record { verdicts = vs.verdicts; are_verdicts = has.verdicts.are_verdicts; count = counts })
      told
  line_told left (Err e) is counts told = tt

pub returns-in-Some : goal.returns-in-Some
returns-in-Some c = λ root g doc has.
    let path = c.in-Some.path.now in
    let first : c.args.verdicts.now.first ≡ Some path =
    sym c.first_impossible.ensures ∙ ap option_copied c.in-Some.is in
    impossible_line root g doc c.args.verdicts.now has path c.with_path.result first
    (rw c.places.ensures at c.with_path.ensures)

pub returns-in-None : goal.returns-in-None
returns-in-None c = λ root g doc has.
    let none : c.args.verdicts.now.first ≡ None =
    sym c.first_impossible.ensures ∙ ap option_copied c.in-None.is in
    line_told root g doc c.args.verdicts.now has c.left.result c.possible_line.result none
    c.left.ensures c.possible_line.ensures
