-- How many elements are missing in the lists of a document. Words are as good as live words here.
use Rattle.std.specs.Prelude.{List, Some, [], ℕ, ◌+◌, ◌∷◌, ◌≡◌}
use Rattle.pv_model.specs.Plain.{empty}
use Rattle.pv_dtd.specs.Plain.{PlainDtd, model_of, number_of}
use Rattle.pv_tree.specs.Lists.{Listed, Owner, an_element, the_document}
use Rattle.pv_tree.specs.Plain.{Forest, no_trees}
use Rattle.pv_tree.specs.Words.{word_of}
use Rattle.pv_missing.specs.Covers.{IsPossibleRootWith, IsPossibleWith}
use Rattle.pv_dtd.specs.Productive.{IsProductive}

-- the kids may stand in an element of this name, and n elements are missing among them
pub record MissesInContent {M : Type 0} (g : PlainDtd) (x : List ℕ) (kids : Forest M) (n : ℕ)
    : Type 0 where
  pub number : ℕ
  pub is_owner : number_of g x ≡ Some number
  pub productive : IsProductive g number
  pub no_kids : model_of g number ≡ Some empty → kids ≡ no_trees
  pub possible : IsPossibleWith g number n (word_of g kids)

-- they may stand in the document node, and n elements are missing above and beside the root
pub record MissesInRoot {M : Type 0} (g : PlainDtd) (root : List ℕ) (kids : Forest M) (n : ℕ)
    : Type 0 where
  pub number : ℕ
  pub is_owner : number_of g root ≡ Some number
  pub possible : IsPossibleRootWith g number n (word_of g kids)

abbrev pub MissesBy : {M : Type 0} → PlainDtd → List ℕ → Owner → Forest M → ℕ → Type 0
MissesBy g root the_document kids n = MissesInRoot g root kids n
MissesBy g root (an_element x) kids n = MissesInContent g x kids n

-- the list is live, and n elements are missing in it
abbrev pub Misses : {M : Type 0} → PlainDtd → List ℕ → Listed M → ℕ → Type 0
Misses g root list n = MissesBy g root list.owner list.kids n

-- each list is live, and n elements are missing in them in all
abbrev pub MissInAll : {M : Type 0} → PlainDtd → List ℕ → List (Listed M) → ℕ → Type 0
MissInAll g root [] n = n ≡ 0
MissInAll g root (list ∷ lists) n = (a : ℕ) × (b : ℕ) × (n ≡ a + b) × Misses g root list a ×
    MissInAll g root lists b
