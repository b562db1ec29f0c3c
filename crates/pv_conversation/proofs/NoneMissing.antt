-- Nothing is missing in a session's document of which no list is Possible or Impossible.
use Rattle.std.proofs.Common.{List, [], arith, sym, ℕ, ◌∷◌}
use Rattle.std.proofs.Math.Logic.{∥∥₁_elim, ∥∥₁_map}
use Rattle.std.specs.List.{AllByRecursion}
use Rattle.pv_cache.specs.Moves.{HasBad, HasOpen}
use Rattle.pv_complete.specs.NeededElements.{CanWeigh, Needs}
use Rattle.pv_dtd.specs.Plain.{PlainDtd}
use Rattle.pv_dtd.specs.Proper.{IsProperDtd}
use Rattle.pv_missing.specs.Proper.{IsProperDoc}
use Rattle.pv_missing.specs.VerdictLaws.{NoneImpossible, NonePossible}
use Rattle.pv_missing.specs.Verdicts.{HaveImpossible, HavePossible}
use Rattle.pv_missing.proofs.OneList.{extends_refl}
use Rattle.pv_session.specs.SessionFacts.{IsSession}
use Rattle.pv_session.specs.Sessions.{PlainSession, stamped_document}
use Rattle.pv_tree.specs.Lists.{IsValidList, Listed, lists_of}
use Rattle.pv_tree.specs.View.{view}
use Rattle.pv_tree.proofs.ValidLists.{valid_lists}

-- lists that are valid by themselves aren't Possible
can_weigh : {M : Type 0} (g : PlainDtd) (root : List ℕ) (lists : List (Listed M)) →
    AllByRecursion (IsValidList g root) lists → AllByRecursion (CanWeigh g root) lists
can_weigh g root [] all = tt
can_weigh g root (list ∷ lists) all =
    (λ judged. absurd (judged.1 all.0), can_weigh g root lists all.1)

module _ (none_impossible : NoneImpossible ℕ) (none_possible : NonePossible ℕ) (s : PlainSession)
    (is : IsSession s) (proper : IsProperDtd s.dtd) where
  proper_doc : IsProperDoc s.doc
  proper_doc = record { rooted = is.kept.rooted; units = is.kept.units }

  needs_none : HavePossible s.dtd s.root (lists_of s.doc) 0 →
      HaveImpossible s.dtd s.root (lists_of s.doc) 0 → Needs s.dtd s.root s.doc 0
  needs_none left bad =
      let possible =
      (none_impossible s.dtd s.root s.doc bad.verdicts proper proper_doc bad.are_verdicts).1
      (sym bad.count) in
      let valid =
      (none_possible s.dtd s.root s.doc left.verdicts proper proper_doc left.are_verdicts).1
      (possible, sym left.count) in
      let lists = (valid_lists s.dtd s.root s.doc is.kept.units).1 valid in
      record {
        can =
            record {
              narrow = is.holdable.narrow;
              possible = possible;
              weighed = can_weigh s.dtd s.root (lists_of s.doc) lists;
            };
        least =
            record {
              completes =
                  record {
                    hedge = view s.doc.root;
                    extends = extends_refl (view s.doc.root);
                    valid = valid;
                    inserted = omega arith;
                  };
              least = λ m c. omega arith;
            };
        light = omega arith;
      }

  pub none_missing : HasOpen (stamped_document s) 0 → HasBad (stamped_document s) 0 →
      ∥ Needs s.dtd s.root s.doc 0 ∥₁
  none_missing left bad =
      ∥∥₁_elim left squash₁ (λ some. ∥∥₁_map bad (λ none. needs_none some none))
