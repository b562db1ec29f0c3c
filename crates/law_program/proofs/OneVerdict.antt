-- A document has one verdict.
use Rattle.std.proofs.Common.{◌≡◌, ℕ, List, ◌∷◌, ◌++◌, codes, sym, ap, ◌∙◌, subst}
use Rattle.std.specs.List.{AllByRecursion}
use Rattle.pv_dtd.specs.Plain.{PlainDtd}
use Rattle.pv_dtd.specs.Hedge.{IsValid}
use Rattle.pv_tree.specs.Laws.{IsValidByLists}
use Rattle.pv_tree.specs.Lists.{lists_of, IsValidList, IsFirstNot}
use Rattle.pv_tree.specs.Plain.{PlainDoc}
use Rattle.pv_tree.specs.Units.{HasUnits}
use Rattle.pv_tree.specs.View.{view}
use Rattle.pv_tree.specs.declared.nodes.Mark.{Mark}
use Rattle.pv_tree.proofs.JoinedLists.{all_right}
use Rattle.pv_tree.proofs.FirstLists.{one_first}
use Rattle.pv_tree.specs.Marks.{unmarked_doc}
use Rattle.pv_opening.specs.Response.{PlainResponse, with_line}
use Rattle.pv_words.specs.Paths.{path_text}
use Rattle.pv_commands.specs.Valid.{TellsValidity, is_valid, is_invalid}
use Rattle.pv_opening.specs.declared.status.Status.TheVariants.{Negative}
use Rattle.pv_tree.proofs.Marks.{first_invalid-without_marks}
use Rattle.pv_opening.proofs.OnePossibility.{same_view}

-- one of two documents without marks is the other
pub one_invalid_path : {M : Type 0} (g : PlainDtd) (root : List ℕ) (doc same : PlainDoc M)
    (path other : List ℕ) → unmarked_doc doc ≡ unmarked_doc same →
    IsFirstNot (IsValidList g root) (lists_of doc) path →
    IsFirstNot (IsValidList g root) (lists_of same) other → path ≡ other
one_invalid_path g root doc same path other e f h =
    let first = first_invalid-without_marks g root path doc f in
    let second = first_invalid-without_marks g root other same h in
    one_first (IsValidList g root) (lists_of (unmarked_doc same)) path other
    (subst (λ (d : PlainDoc Unit). IsFirstNot (IsValidList g root) (lists_of d) path) e first)
    second

not_both : (by_lists : IsValidByLists Mark) (g : PlainDtd) (root path : List ℕ)
    (doc : PlainDoc Mark) → HasUnits doc.root →
    IsValid g root (view doc.root) → IsFirstNot (IsValidList g root) (lists_of doc) path → ⊥
not_both by_lists g root path doc texts valid f =
    let all = subst (AllByRecursion (IsValidList g root)) f.is_split
    ((by_lists g root doc texts).1 valid) in
    f.is_not (all_right (IsValidList g root) f.before (f.list ∷ f.after) all).0

pub one_verdict : (by_lists : IsValidByLists Mark) (root : List ℕ) (g : PlainDtd)
    (doc same : PlainDoc Mark) (a b : PlainResponse) → HasUnits doc.root → HasUnits same.root →
    unmarked_doc doc ≡ unmarked_doc same → TellsValidity root g doc a →
    TellsValidity root g same b → a ≡ b
one_verdict by_lists root g doc same a b texts others e (is_valid v is) (is_valid w are) =
    is ∙ sym are
one_verdict by_lists root g doc same a b texts others e (is_valid v is) (is_invalid path f are) =
    absurd (not_both by_lists g root path same others
    (subst (IsValid g root) (same_view doc same e) v) f)
one_verdict by_lists root g doc same a b texts others e (is_invalid path f is) (is_valid w are) =
    absurd (not_both by_lists g root path doc texts
    (subst (IsValid g root) (sym (same_view doc same e)) w) f)
one_verdict by_lists root g doc same a b texts others e (is_invalid path f is)
    (is_invalid other h are) =
    is ∙ ap (λ p. with_line Negative (codes "invalid " ++ path_text p))
    (one_invalid_path g root doc same path other e f h) ∙ sym are
