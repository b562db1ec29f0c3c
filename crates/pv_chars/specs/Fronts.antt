-- What stands at the front of some bytes, and what they hold.
use Rattle.std.specs.Prelude.{◌≡◌, ℕ, ◌≤◌, List, ◌++◌, length}

-- Such an item stands at the front, and this stands after it.
pub record Begins (IsItem : List ℕ → Type 0) (bytes rest : List ℕ) : Type 0 where
  pub item : List ℕ
  pub is_item : IsItem item
  pub whole : bytes ≡ item ++ rest

-- no such item stands at the front
abbrev pub BeginsNone : (List ℕ → Type 0) → List ℕ → Type 0
BeginsNone IsItem bytes = (rest : List ℕ) → Begins IsItem bytes rest → ⊥

-- These bytes stand somewhere in others.
pub record ContainsBytes (bytes part : List ℕ) : Type 0 where
  pub before : List ℕ
  pub after : List ℕ
  pub whole : bytes ≡ before ++ (part ++ after)

-- A delimiter stands in the bytes, for the first time after these, and this stands after it.
pub record EndsAt (delimiter bytes before after : List ℕ) : Type 0 where
  pub whole : bytes ≡ before ++ (delimiter ++ after)
  pub first : (other more : List ℕ) → bytes ≡ other ++ (delimiter ++ more) →
      length before ≤ length other
