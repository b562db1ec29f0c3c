-- A document has one test of width, and one of possibility, whatever its marks are.
use Rattle.std.proofs.Common.{◌≡◌, ℕ, List, ◌∷◌, ◌++◌, codes, length, refl, sym, ap, ◌∙◌, subst}
use Rattle.std.specs.List.{AllByRecursion}
use Rattle.pv_dtd.specs.Plain.{PlainDtd}
use Rattle.pv_tree.specs.Lists.{Listed, IsFirstNot, lists_of}
use Rattle.pv_tree.specs.Marks.{unmarked_doc}
use Rattle.pv_tree.specs.Plain.{PlainDoc}
use Rattle.pv_tree.specs.View.{view}
use Rattle.pv_tree.specs.declared.nodes.Mark.{Mark}
use Rattle.pv_tree.proofs.JoinedLists.{all_right}
use Rattle.pv_tree.proofs.FirstLists.{one_first}
use Rattle.pv_missing.proofs.VerdictHeads.{live_alike}
use Rattle.pv_missing.specs.Completions.{IsPotentiallyValid}
use Rattle.pv_missing.specs.Verdicts.{IsLive}
use Rattle.pv_missing.specs.Widths.{FitsVerdict, IsFirstTooWide, IsListForVerdict}
use Rattle.pv_opening.specs.Possibility.{AreAllNarrow, RefusesImpossible, RefusesWidth, is_impossible, is_too_wide, possibility_stage, verdict_stage, width_stage}
use Rattle.pv_words.specs.Paths.{path_text}
use Rattle.pv_opening.specs.Response.{PlainResponse, with_line}
use Rattle.pv_opening.specs.declared.status.Status.TheVariants.{Limit, Negative}
use Rattle.pv_tree.proofs.Marks.{view-without_marks, all_without_marks, all-without_marks, first-without_marks, heads-without_marks, unmarked_list, word_of-without_marks}
use Rattle.pv_opening.proofs.OneOpening.{AreSure, IsEqual, followed_sure, reading_sure}
use Rattle.pv_dtd.specs.Hedge.{done}

pub same_view : {M : Type 0} (doc same : PlainDoc M) → unmarked_doc doc ≡ unmarked_doc same → view doc.root ≡ view same.root
same_view doc same e =
    sym (view-without_marks doc.root done) ∙ ap (λ (d : PlainDoc Unit). view d.root) e ∙ view-without_marks same.root done

fits_to : {M : Type 0} (g : PlainDtd) (list : Listed M) → IsListForVerdict g list → IsListForVerdict g (unmarked_list list)
fits_to g list fits = subst (λ w. FitsVerdict g (length w)) (sym (word_of-without_marks g list.kids)) fits

fits_from : {M : Type 0} (g : PlainDtd) (list : Listed M) → IsListForVerdict g (unmarked_list list) → IsListForVerdict g list
fits_from g list fits = subst (λ w. FitsVerdict g (length w)) (word_of-without_marks g list.kids) fits

live_to : {M : Type 0} (g : PlainDtd) (root : List ℕ) (list : Listed M) → IsLive g root list → IsLive g root (unmarked_list list)
live_to g root list l = live_alike g root list.owner list.kids (all_without_marks list.kids) (sym (heads-without_marks list.kids)) l

live_from : {M : Type 0} (g : PlainDtd) (root : List ℕ) (list : Listed M) → IsLive g root (unmarked_list list) → IsLive g root list
live_from g root list l = live_alike g root list.owner (all_without_marks list.kids) list.kids (heads-without_marks list.kids) l

one_path : {M : Type 0} (P : Listed M → Type 0) (Q : Listed Unit → Type 0) → ((list : Listed M) → P list → Q (unmarked_list list)) → ((list : Listed M) → Q (unmarked_list list) → P list) →
    (doc same : PlainDoc M) (path other : List ℕ) → unmarked_doc doc ≡ unmarked_doc same → IsFirstNot P (lists_of doc) path → IsFirstNot P (lists_of same) other → path ≡ other
one_path P Q to from doc same path other e f h =
    let first = subst (λ (d : PlainDoc Unit). IsFirstNot Q (lists_of d) path) e (first-without_marks P Q to from path doc f) in
    one_first Q (lists_of (unmarked_doc same)) path other first (first-without_marks P Q to from other same h)

-- not all lists are so where there is a first that isn't
pub none_first : {M : Type 0} (P : Listed M → Type 0) (lists : List (Listed M)) (path : List ℕ) → AllByRecursion P lists → IsFirstNot P lists path → ⊥
none_first P lists path all f = f.is_not (all_right P f.before (f.list ∷ f.after) (subst (AllByRecursion P) f.is_split all)).0

not_wide : {M : Type 0} (g : PlainDtd) (doc same : PlainDoc M) (path : List ℕ) →
    unmarked_doc doc ≡ unmarked_doc same → AllByRecursion (IsListForVerdict g) (lists_of doc) →
    IsFirstTooWide g (lists_of same) path → ⊥
not_wide g doc same path e all f =
    none_first (IsListForVerdict g) (lists_of (unmarked_doc same)) path
    (subst (λ (d : PlainDoc Unit). AllByRecursion (IsListForVerdict g) (lists_of d)) e (all-without_marks (IsListForVerdict g) (IsListForVerdict g) (fits_to g) doc all))
    (first-without_marks (IsListForVerdict g) (IsListForVerdict g) (fits_to g) (fits_from g) path same f)

-- one test of width, whatever the marks are
pub width_sure : (g : PlainDtd) (doc same : PlainDoc Mark) → unmarked_doc doc ≡ unmarked_doc same → AreSure (width_stage g doc) (width_stage g same) IsEqual
width_sure g doc same e =
    reading_sure (λ _. AreAllNarrow g doc) (λ _. AreAllNarrow g same) (RefusesWidth g doc) (RefusesWidth g same) IsEqual
    (λ x r narrow wide. wide_or doc same r e narrow wide) (λ x r wide narrow. wide_or same doc r (sym e) narrow wide) one_width (λ x y narrow too. refl)
  where
    wide_or : (d s : PlainDoc Mark) (r : PlainResponse) → unmarked_doc d ≡ unmarked_doc s → AreAllNarrow g d → RefusesWidth g s r → ⊥
    wide_or d s r f narrow (is_too_wide path first is) = not_wide g d s path f narrow first

    one_width : (r also : PlainResponse) → RefusesWidth g doc r → RefusesWidth g same also → r ≡ also
    one_width r also (is_too_wide path first is) (is_too_wide other next are) =
        is ∙ ap (λ p. with_line Limit (codes "limit width " ++ path_text p)) (one_path (IsListForVerdict g) (IsListForVerdict g) (fits_to g) (fits_from g) doc same path other e first next) ∙ sym are

-- one refusal of what can't be made valid
pub one_impossible : (root : List ℕ) (g : PlainDtd) (doc same : PlainDoc Mark)
    (a b : PlainResponse) → unmarked_doc doc ≡ unmarked_doc same → RefusesImpossible root g doc a →
    RefusesImpossible root g same b → a ≡ b
one_impossible root g doc same a b e (is_impossible path v f is) (is_impossible other w h are) =
    is ∙ ap (λ p. with_line Negative (codes "impossible " ++ path_text p)) (one_path (IsLive g root) (IsLive g root) (live_to g root) (live_from g root) doc same path other e f h) ∙ sym are

pub possible_or : (root : List ℕ) (g : PlainDtd) (doc same : PlainDoc Mark) (r : PlainResponse) →
    unmarked_doc doc ≡ unmarked_doc same → IsPotentiallyValid g root (view doc.root) →
    RefusesImpossible root g same r → ⊥
possible_or root g doc same r e v (is_impossible path w f is) = w (subst (IsPotentiallyValid g root) (same_view doc same e) v)

pub verdict_sure : (root : List ℕ) (g : PlainDtd) (doc same : PlainDoc Mark) → unmarked_doc doc ≡ unmarked_doc same → AreSure (verdict_stage root g doc) (verdict_stage root g same) IsEqual
verdict_sure root g doc same e =
    reading_sure (λ _. IsPotentiallyValid g root (view doc.root)) (λ _. IsPotentiallyValid g root (view same.root)) (RefusesImpossible root g doc) (RefusesImpossible root g same) IsEqual
    (λ x r can denies. possible_or root g doc same r e can denies) (λ x r denies can. possible_or root g same doc r (sym e) can denies)
    (λ r also. one_impossible root g doc same r also e) (λ x y can too. refl)

pub possibility_sure : (root : List ℕ) (g : PlainDtd) (doc same : PlainDoc Mark) → unmarked_doc doc ≡ unmarked_doc same → AreSure (possibility_stage root g doc) (possibility_stage root g same) IsEqual
possibility_sure root g doc same e =
    followed_sure (width_stage g doc) (width_stage g same) IsEqual (λ _. verdict_stage root g doc) (λ _. verdict_stage root g same) IsEqual (width_sure g doc same e)
    (λ x z is. verdict_sure root g doc same e)
