-- A document is valid or has a first invalid list.
use Rattle.std.proofs.Common.{ℕ, List, [], ◌∷◌, Option, Some, None, refl, subst}
use Rattle.std.specs.Prelude.{IsNone, MatchOption, ◌↔◌}
use Rattle.std.specs.List.{AllByRecursion}
use Rattle.pv_dtd.specs.Plain.{PlainDtd}
use Rattle.pv_tree.specs.Plain.{PlainDoc, tree, no_trees}
use Rattle.pv_dtd.specs.Hedge.{IsValid}
use Rattle.pv_tree.specs.Units.{HasUnits}
use Rattle.pv_tree.specs.Lists.{the_document, IsValidList, IsFirstNot, IsRootElement, lists_at, lists_of}
use Rattle.pv_tree.specs.View.{view}
use Rattle.pv_tree.proofs.JoinedLists.{all_right}
use Rattle.pv_tree.proofs.ValidLists.{valid_lists}
use Rattle.pv_tree.proofs.FirstLists.{first_behind}

-- a document with an invalid list isn't valid
pub not_valid : {M : Type 0} (g : PlainDtd) (root path : List ℕ) (doc : PlainDoc M) → HasUnits doc.root → IsFirstNot (IsValidList g root) (lists_of doc) path → IsValid g root (view doc.root) → ⊥
not_valid g root path doc units f v =
    let all = subst (AllByRecursion (IsValidList g root)) f.is_split ((valid_lists g root doc units).1 v) in
    f.is_not (all_right (IsValidList g root) f.before (f.list ∷ f.after) all).0

-- the list of the document node is the first
pub root_invalid : {M : Type 0} (g : PlainDtd) (root : List ℕ) (doc : PlainDoc M) → (IsRootElement root doc.root → ⊥) → IsFirstNot (IsValidList g root) (lists_of doc) []
root_invalid g root doc bad = record {
  before = [];
  list = record { path = []; owner = the_document; kids = tree doc.root no_trees };
  after = lists_at (0 ∷ []) doc.root;
  is_split = refl;
  all_before = tt;
  is_not = λ v. bad v.0;
  is_path = refl;
}

-- the others come after it
pub below_invalid : {M : Type 0} (g : PlainDtd) (root path : List ℕ) (doc : PlainDoc M) →
    IsRootElement root doc.root → IsFirstNot (IsValidList g root) (lists_at (0 ∷ []) doc.root)
    path → IsFirstNot (IsValidList g root) (lists_of doc) path
below_invalid g root path doc is f =
    first_behind (IsValidList g root) (record { path = []; owner = the_document; kids = tree doc.root no_trees } ∷ []) (lists_at (0 ∷ []) doc.root) path ((is, refl), tt) f

pub all_valid : {M : Type 0} (g : PlainDtd) (root : List ℕ) (doc : PlainDoc M) → HasUnits doc.root →
    IsRootElement root doc.root → AllByRecursion (IsValidList g root) (lists_at (0 ∷ []) doc.root) →
    IsValid g root (view doc.root)
all_valid g root doc units is all = (valid_lists g root doc units).0 ((is, refl), all)

-- a document is valid exactly where no list was found
pub none_is_valid : {M : Type 0} (g : PlainDtd) (root : List ℕ) (doc : PlainDoc M) (found : Option (List ℕ)) → HasUnits doc.root →
    MatchOption found (AllByRecursion (IsValidList g root) (lists_of doc)) (IsFirstNot (IsValidList g root) (lists_of doc)) → IsNone found ↔ IsValid g root (view doc.root)
none_is_valid g root doc None units all = (λ e. (valid_lists g root doc units).0 all, λ v. refl)
none_is_valid g root doc (Some path) units f = (λ e. absurd cc, λ v. absurd (not_valid g root path doc units f v))
