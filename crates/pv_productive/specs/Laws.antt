-- Laws of productive names, each a statement.
use Rattle.std.specs.Prelude.{List, Some, [], suc, ℕ, ◌↔◌, ◌≡◌, ◌≤◌}
use Rattle.pv_dtd.specs.Hedge.{Hedge, IsValid, elements}
use Rattle.pv_dtd.specs.Plain.{PlainDtd, number_of}
use Rattle.pv_dtd.specs.Productive.{IsLeastSize, IsProductive}
use Rattle.pv_dtd.specs.Proper.{IsProperDtd}
use Rattle.pv_rules.specs.Derivations.{Derives}
use Rattle.pv_rules.specs.Rules.{Rule, over}
use Rattle.pv_rules.specs.Sites.{content_site}

-- the content of a name has a derivation of weight n over no tokens
abbrev pub DerivesNothing : PlainDtd → ℕ → ℕ → Type 0
DerivesNothing g y n = Derives (Rule g []) n (over (content_site y) 0 0)

-- n is the least weight of such a derivation
pub record IsLeastOverNothing (g : PlainDtd) (y n : ℕ) : Type 0 where
  pub derives : DerivesNothing g y n
  pub least : (m : ℕ) → DerivesNothing g y m → n ≤ m

-- n is the least number of elements of a hedge that is one good element of name x
pub record IsLeastInElement (g : PlainDtd) (x : List ℕ) (n : ℕ) : Type 0 where
  pub hedge : Hedge
  pub good : IsValid g x hedge
  pub is_number : n ≡ elements hedge
  pub least : (h : Hedge) → IsValid g x h → n ≤ elements h

-- a name is productive exactly where some hedge is one good element of it
abbrev pub ProductiveIsElement : Type 0
ProductiveIsElement = (g : PlainDtd) (x : List ℕ) (y : ℕ) → number_of g x ≡ Some y →
    IsProductive g y ↔ ((h : Hedge) × IsValid g x h)

-- the least size of a name is the least number of elements of such a hedge
abbrev pub SizeIsOfElement : Type 0
SizeIsOfElement = (g : PlainDtd) (x : List ℕ) (y n : ℕ) → number_of g x ≡ Some y →
    IsLeastSize g y n ↔ IsLeastInElement g x n

-- a name is productive exactly where its content has a derivation over no tokens
abbrev pub ProductiveDerives : Type 0
ProductiveDerives = (g : PlainDtd) (y : ℕ) → IsProperDtd g →
    IsProductive g y ↔ ((n : ℕ) × DerivesNothing g y n)

-- the least size of a name is one more than the least weight of its content over no tokens
abbrev pub SizeIsWeight : Type 0
SizeIsWeight = (g : PlainDtd) (y n : ℕ) → IsProperDtd g →
    IsLeastSize g y (suc n) ↔ IsLeastOverNothing g y n
