-- What rows hold under the rules of each form. A value is told by one more than it, and 0 tells
-- none, so that none is less than every number.
use Rattle.std.specs.Prelude.{List, None, Option, Some, length, slice_get, suc, zero, ℕ, ◌≡◌, ◌≤◌}
use Rattle.std.specs.Prelude.{◌⊎◌}
use Rattle.pv_model.specs.Plain.{PlainToken, named, text}
use Rattle.pv_dtd.specs.Plain.{IsDeclared, PlainDtd}
use Rattle.pv_rules.specs.Barriers.{AreAtRows, IsWithinRows}
use Rattle.pv_rules.specs.Rules.{Goal, Rule, over}
use Rattle.pv_rules.specs.Sites.{PlainSite, name_site}
use Rattle.pv_denial.specs.Rows.{row_value}
use Rattle.pv_denial.specs.declared.denials.Row.{Row}

abbrev pub one_past : Option ℕ → ℕ
one_past None = 0
one_past (Some k) = suc k

-- one past the value of a site at a place, or 0
abbrev pub past_at : List Row → PlainSite → ℕ → ℕ
past_at rows s i = one_past (row_value rows s i)

-- what stands after a value, where there is one
abbrev pub value_then : ℕ → (ℕ → ℕ) → ℕ
value_then zero f = 0
value_then (suc k) f = f k

-- the site has a value at each place of a word of n tokens
abbrev pub HoldsNoSide : List Row → PlainSite → ℕ → Type 0
HoldsNoSide rows s n = (i : ℕ) → i ≤ n → suc i ≤ past_at rows s i

-- it is at least another site
abbrev pub HoldsOneSide : List Row → PlainSite → PlainSite → ℕ → Type 0
HoldsOneSide rows s r n = (i : ℕ) → i ≤ n → past_at rows r i ≤ past_at rows s i

-- it is at least a second site at the values of a first
abbrev pub HoldsTwoSides : List Row → PlainSite → PlainSite → PlainSite → ℕ → Type 0
HoldsTwoSides rows s r q n = (i : ℕ) → i ≤ n →
    value_then (past_at rows r i) (past_at rows q) ≤ past_at rows s i

-- before each text it is at least itself after the text
abbrev pub HoldsOverTexts : List Row → PlainSite → List PlainToken → Type 0
HoldsOverTexts rows s w = (i : ℕ) → slice_get w i ≡ Some text →
    past_at rows s (suc i) ≤ past_at rows s i

-- an element of the name leads beyond each token of that name
abbrev pub HoldsKept : List Row → ℕ → List PlainToken → Type 0
HoldsKept rows x w = (i : ℕ) → slice_get w i ≡ Some (named x) →
    suc (suc i) ≤ past_at rows (name_site x) i

-- all rules of the site hold
abbrev pub HoldsAt : PlainDtd → List PlainToken → List Row → PlainSite → Type 0
HoldsAt g w rows s = (i j c : ℕ) (xs : List Goal) → Rule g w (over s i j) c xs →
    AreAtRows (row_value rows) xs → IsWithinRows (row_value rows) (over s i j)

-- One past the greatest value of the declared names at a place, or 0 where none has any.
pub record IsMost (g : PlainDtd) (rows : List Row) (i m : ℕ) : Type 0 where
  pub all : (y : ℕ) → IsDeclared g y → past_at rows (name_site y) i ≤ m
  pub attained : (m ≡ 0) ⊎ ((y : ℕ) × IsDeclared g y × (past_at rows (name_site y) i ≡ m))

-- At each place of a word of n tokens, one past the greatest value of the declared names, or 0
-- where none has any.
pub record AreMost (g : PlainDtd) (rows : List Row) (n : ℕ) (ms : List ℕ) : Type 0 where
  pub long : length ms ≡ suc n
  pub each : (i m : ℕ) → slice_get ms i ≡ Some m → IsMost g rows i m
