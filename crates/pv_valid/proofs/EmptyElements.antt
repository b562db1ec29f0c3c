-- Whether there are kids, and whether kids fit an EMPTY element.
use Rattle.std.proofs.Common.{◌≡◌, ◌<◌, ◌↔◌, ℕ, List, [], ◌∷◌, length, Bool, true, false, not, Option, Some, IsTrue, refl, arith}
use Rattle.pv_model.specs.Plain.{empty}
use Rattle.pv_dtd.specs.Plain.{PlainDtd}
use Rattle.pv_tree.specs.Plain.{Forest, Tree, forest_of, no_trees, tree}
use Rattle.pv_tree.specs.Lists.{IsOwnValid}
use Rattle.pv_tree.specs.declared.nodes.Mark.{Mark}
use Rattle.pv_tree.proofs.Owners.{model_for, own_valid_to, own_valid_from}

pub some_kids : (kids : List (Tree Mark)) (n : ℕ) (b : Bool) → n ≡ length kids → (IsTrue b ↔ 0 < n) → IsTrue b ↔ (forest_of kids ≡ no_trees → ⊥)
some_kids [] n b is w = (λ t. absurd (let h = w.0 t in omega arith), λ none. absurd (none refl))
some_kids (k ∷ ks) n b is w = (λ t e. absurd cc, λ some. w.1 (omega arith))

pub fits_empty : (g : PlainDtd) (owner : Option ℕ) (kids : Forest Mark) (has_kids : Bool) →
    model_for g owner ≡ Some empty → IsTrue has_kids ↔ (kids ≡ no_trees → ⊥) →
    IsTrue (not has_kids) ↔ IsOwnValid g owner kids
fits_empty g owner no_trees true is w = absurd (w.0 refl refl)
fits_empty g owner no_trees false is w = (λ _. own_valid_to g owner empty no_trees is (λ _. refl) refl, λ _. refl)
fits_empty g owner (tree t rest) true is w = (λ h. absurd cc, λ v. absurd (w.0 refl ((own_valid_from g owner empty (tree t rest) is v).0 refl)))
fits_empty g owner (tree t rest) false is w = let h : false ≡ true = w.1 (λ e. cc) in absurd cc
