-- What the lists of a whole root tell of the document.
use Rattle.std.proofs.Common.{◌≡◌, ℕ, List, ◌∷◌, Some, None, subst}
use Rattle.std.specs.List.{AllByRecursion}
use Rattle.pv_dtd.specs.Plain.{PlainDtd}
use Rattle.pv_dtd.specs.Proper.{IsProperDtd}
use Rattle.pv_tree.specs.Lists.{IsFirstNot, Listed, lists_of}
use Rattle.pv_tree.specs.Marks.{blank_mark}
use Rattle.pv_tree.specs.Plain.{PlainDoc}
use Rattle.pv_tree.specs.View.{view}
use Rattle.pv_tree.specs.declared.nodes.Mark.{Mark}
use Rattle.pv_tree.proofs.JoinedLists.{all_right}
use Rattle.pv_read.specs.Meaning.{is_document, DocumentMeans}
use Rattle.pv_read.proofs.Agreement.{spelled_where_meant}
use Rattle.pv_read.proofs.DocumentFacts.{element_is, has_units}
use Rattle.pv_missing.specs.Completions.{IsPotentiallyValid}
use Rattle.pv_missing.specs.DocumentLaws.{IsPotentiallyValidByLists}
use Rattle.pv_missing.specs.Proper.{IsProperDoc}
use Rattle.pv_missing.specs.Verdicts.{IsFirstImpossible, IsLive}
use Rattle.pv_check.specs.Answers.{Tells, TellsAtAnyWidth, TellsLists}
use Rattle.pv_check.specs.Findings.{HasFound}
use Rattle.pv_check.specs.ListJudgements.{IsListWithin, IsNarrowAndLive}
use Rattle.pv_check.specs.declared.checking.Told.{Told}
use Rattle.pv_check.specs.declared.checking.Told.TheVariants as told
use Rattle.pv_check.specs.declared.findings.Findings.{Findings}
use Rattle.pv_check.specs.declared.widths.Widths.{Widths}
use Rattle.pv_check.specs.declared.widths.Widths.TheVariants as widths
use Rattle.pv_check.proofs.InsertedLists.{live_all}

-- ---- what the findings of lists tell
first_dead : (s : Widths) (g : PlainDtd) (root : List ℕ) (lists : List (Listed Mark))
    (path : List ℕ) →
    AllByRecursion (IsListWithin s g) lists → IsFirstNot (IsNarrowAndLive s g root) lists path →
    IsFirstImpossible g root lists path
first_dead s g root lists path narrow f =
    let own = all_right (IsListWithin s g) f.before (f.list ∷ f.after)
    (subst (AllByRecursion (IsListWithin s g)) f.is_split narrow) in
    record {
      before = f.before;
      list = f.list;
      after = f.after;
      is_split = f.is_split;
      all_before = live_all s g root f.before f.all_before;
      is_not = λ live. f.is_not (own.0, live);
      is_path = f.is_path;
    }

module _ (s : Widths) (g : PlainDtd) (root : List ℕ) (lists : List (Listed Mark)) (found : Findings)
    (f : HasFound s g root lists found) where
  all_narrow : found.wide ≡ None → AllByRecursion (IsListWithin s g) lists
  all_narrow is = rw is at f.first_wide

  pub tells_impossible : (path : List ℕ) → found.wide ≡ None → found.first ≡ Some path →
      TellsLists s g root lists (told.Impossible path)
  tells_impossible path none is =
      record {
        narrow = all_narrow none;
        first = first_dead s g root lists path (all_narrow none)
            (rw is at f.first);
      }

  pub tells_possible : found.wide ≡ None → found.first ≡ None →
      TellsLists s g root lists (told.Possible found.possible)
  tells_possible none is =
      record {
        narrow = all_narrow none;
        live = live_all s g root lists (rw is at f.first);
        count = f.possible is;
      }

-- ---- and of a document
module _ (by_lists : IsPotentiallyValidByLists Mark) (g : PlainDtd) (root : List ℕ)
    (doc : PlainDoc Mark) (p : IsProperDtd g) (q : IsProperDoc doc) where
  impossible_by : (path : List ℕ) → IsFirstImpossible g root (lists_of doc) path →
      IsPotentiallyValid g root (view doc.root) → ⊥
  impossible_by path first v =
      first.is_not (all_right (IsLive g root) first.before (first.list ∷ first.after)
      (subst (AllByRecursion (IsLive g root)) first.is_split ((by_lists g root doc p q).0 v))).0

  pub tells_document : (t : Told) → TellsLists widths.Limited g root (lists_of doc) t →
      Tells g root doc t
  tells_document (told.Possible n) h =
      record { narrow = h.narrow; possible = (by_lists g root doc p q).1 h.live; count = h.count }
  tells_document (told.Impossible path) h = record {
    narrow = h.narrow;
    impossible = impossible_by path h.first;
    first = h.first;
  }
  tells_document (told.TooWide path) h = h

  pub tells_at_any_width : (t : Told) → TellsLists widths.Any g root (lists_of doc) t →
      TellsAtAnyWidth g root doc t
  tells_at_any_width (told.Possible n) h =
      record { possible = (by_lists g root doc p q).1 h.live; count = h.count }
  tells_at_any_width (told.Impossible path) h =
      record { impossible = impossible_by path h.first; first = h.first }
  tells_at_any_width (told.TooWide path) h = absurd (h.is_not tt)

pub proper_text : (root bytes : List ℕ) (doc : PlainDoc Mark) →
    DocumentMeans blank_mark root bytes (is_document doc) → IsProperDoc doc
proper_text root bytes doc means =
    let text = (spelled_where_meant blank_mark root bytes doc means).0 in
    record {
      rooted = element_is doc.root text.spelled.is_element;
      units = has_units doc.root text.spelled.element text.spelled.is_root;
    }
