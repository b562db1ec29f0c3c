-- What is answered of the text of a valid document, whose lists can all have verdicts.
use Rattle.std.proofs.Common.{◌≡◌, ◌∷◌, ◌++◌, ℕ, List, [], Result, codes, decimal, refl, sym, arith}
use Rattle.std.specs.List.{AllByRecursion}
use Rattle.pv_commands.specs.Check.{IsCheckCourse}
use Rattle.pv_commands.specs.Returns.{BehindDocument}
use Rattle.pv_complete.specs.NeededElements.{CanWeigh, Needs}
use Rattle.pv_dtd.specs.Hedge.{IsValid}
use Rattle.pv_dtd.specs.Plain.{PlainDtd}
use Rattle.pv_dtd.specs.Proper.{IsProperDtd}
use Rattle.pv_missing.specs.Completions.{IsPotentiallyValid}
use Rattle.pv_missing.specs.Proper.{IsProperDoc}
use Rattle.pv_missing.specs.Verdicts.{AreVerdicts, HavePossible, IsLive}
use Rattle.pv_missing.specs.Widths.{IsListForVerdict}
use Rattle.pv_missing.proofs.DocLists.{live_locality}
use Rattle.pv_missing.proofs.NoPossibleLists.{none_possible}
use Rattle.pv_missing.proofs.OneList.{extends_refl}
use Rattle.pv_opening.specs.Documents.{OpensDocument, PlainOpened, document_stage}
use Rattle.pv_opening.specs.Possibility.{AreAllNarrow, TellsPossibility, is_possible, possible_text}
use Rattle.pv_opening.specs.Possibility.{width_stage}
use Rattle.pv_opening.specs.Response.{with_line}
use Rattle.pv_opening.specs.Returns.{TakesCourse, TellsBy}
use Rattle.pv_opening.specs.Stage.{Responds}
use Rattle.pv_opening.specs.declared.response.Response.{Response}
use Rattle.pv_opening.specs.declared.status.Status.TheVariants.{Done}
use Rattle.pv_opening.specs.declared.stop.Stop.{Stop}
use Rattle.pv_opening.proofs.Stages.{found_behind, tells_found}
use Rattle.pv_read.proofs.DocumentFacts.{Keeps, keeps}
use Rattle.pv_tree.specs.Lists.{IsValidList, Listed, lists_of}
use Rattle.pv_tree.specs.View.{view}
use Rattle.pv_tree.specs.declared.nodes.Mark.{Mark}
use Rattle.pv_tree.specs.declared.nodes.Verdict.{Verdict}
use Rattle.pv_tree.specs.declared.nodes.Verdict.TheVariants as verdict
use Rattle.pv_tree.proofs.ValidLists.{valid_lists}
use Rattle.pv_many.specs.MissingAnswers.{IsNeedCourse, TellsMissing, is_needed}
use Rattle.pv_many.specs.ValidTexts.{IsValidNarrow, IsValidText}
use Rattle.pv_many.proofs.CallResults.{tells_as}

module _ (g : PlainDtd) (root : List ℕ) where
  all_valid : (lists : List (Listed Mark)) → AllByRecursion (IsValidNarrow g root) lists →
      AllByRecursion (IsValidList g root) lists
  all_valid [] all = tt
  all_valid (list ∷ lists) all = (all.0.0, all_valid lists all.1)

  all_narrow : (lists : List (Listed Mark)) → AllByRecursion (IsValidNarrow g root) lists →
      AllByRecursion (IsListForVerdict g) lists
  all_narrow [] all = tt
  all_narrow (list ∷ lists) all = (all.0.1, all_narrow lists all.1)

  -- lists that are valid by themselves aren't Possible
  can_weigh : (lists : List (Listed Mark)) → AllByRecursion (IsValidList g root) lists →
      AllByRecursion (CanWeigh g root) lists
  can_weigh [] all = tt
  can_weigh (list ∷ lists) all = (λ judged. absurd (judged.1 all.0), can_weigh lists all.1)

  -- and where they are live, all are Valid
  abbrev verdicts_of : List (Listed Mark) → List Verdict
  verdicts_of [] = []
  verdicts_of (list ∷ lists) = verdict.Valid ∷ verdicts_of lists

  are_verdicts : (lists : List (Listed Mark)) → AllByRecursion (IsLive g root) lists →
      AllByRecursion (IsValidList g root) lists → AreVerdicts g root lists (verdicts_of lists)
  are_verdicts [] live all = refl
  are_verdicts (list ∷ lists) live all =
      (verdict.Valid, verdicts_of lists, refl, (live.0, all.0), are_verdicts lists live.1 all.1)

module _ (g : PlainDtd) (proper : IsProperDtd g) (root bytes : List ℕ)
    (text : IsValidText g root bytes) where
  kept : Keeps root text.doc
  kept = keeps root bytes text.doc text.is_text

  proper_doc : IsProperDoc text.doc
  proper_doc = record { rooted = kept.rooted; units = kept.units }

  lists : AllByRecursion (IsValidList g root) (lists_of text.doc)
  lists = all_valid g root (lists_of text.doc) text.lists

  narrow : AreAllNarrow g text.doc
  narrow = all_narrow g root (lists_of text.doc) text.lists

  valid : IsValid g root (view text.doc.root)
  valid = (valid_lists g root text.doc kept.units).0 lists

  possible : IsPotentiallyValid g root (view text.doc.root)
  possible =
      record {
        hedge = view text.doc.root;
        extends = extends_refl (view text.doc.root);
        valid = valid;
      }

  judged : AreVerdicts g root (lists_of text.doc) (verdicts_of g root (lists_of text.doc))
  judged =
      are_verdicts g root (lists_of text.doc) ((live_locality Mark g root text.doc proper
      proper_doc).0 possible) lists

  none_left : HavePossible g root (lists_of text.doc) 0
  none_left = record {
    verdicts = verdicts_of g root (lists_of text.doc);
    are_verdicts = judged;
    count =
        sym ((none_possible Mark g root text.doc (verdicts_of g root (lists_of text.doc)) proper
        proper_doc judged).0 valid).1;
  }

  none_missing : Needs g root text.doc 0
  none_missing = record {
    can =
        record {
          narrow = narrow;
          possible = possible;
          weighed = can_weigh g root (lists_of text.doc) lists;
        };
    least =
        record {
          completes =
              record {
                hedge = view text.doc.root;
                extends = extends_refl (view text.doc.root);
                valid = valid;
                inserted = omega arith;
              };
          least = λ m c. omega arith;
        };
    light = omega arith;
  }

  abbrev opened : PlainOpened
  opened = record { dtd = g; bytes = bytes; doc = text.doc }

  opens : OpensDocument root g bytes opened
  opens = record { is_dtd = refl; are_bytes = refl; is_text = text.is_text }

  pub valid_checked : (result : Result Response Stop) →
      TellsBy (λ r. r ≡ with_line Done (possible_text 0)) result →
      TakesCourse (BehindDocument IsCheckCourse root (g, bytes)) result
  valid_checked result told =
      let tells = tells_as (λ r. r ≡ with_line Done (possible_text 0))
      (TellsPossibility root g text.doc) result (λ r e. is_possible 0 possible none_left e)
      told in
      found_behind (document_stage root g bytes) (IsCheckCourse root) opened result (opens, refl)
      (found_behind (width_stage g text.doc) (λ _. Responds (TellsPossibility root g text.doc)) tt
      result (narrow, refl)
      (tells_found (TellsPossibility root g text.doc) result tells))

  pub valid_needs_none : (result : Result Response Stop) →
      TellsBy (λ r. r ≡ with_line Done (codes "need " ++ decimal 0)) result →
      TakesCourse (BehindDocument IsNeedCourse root (g, bytes)) result
  valid_needs_none result told =
      let tells = tells_as (λ r. r ≡ with_line Done (codes "need " ++ decimal 0))
      (TellsMissing root g text.doc) result (λ r e. is_needed 0 none_missing e) told in
      found_behind (document_stage root g bytes) (IsNeedCourse root) opened result (opens, refl)
      (found_behind (width_stage g text.doc) (λ _. Responds (TellsMissing root g text.doc)) tt
      result (narrow, refl)
      (tells_found (TellsMissing root g text.doc) result tells))
