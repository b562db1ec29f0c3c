-- What a reader of a form takes from the front of some bytes, and that nothing else can be taken
-- there.
use Rattle.std.specs.Prelude.{◌≡◌, ◌⊎◌, ℕ, Bool, true, false, ◌||◌, ◌==◌, List, [], ◌∷◌, ◌++◌}
use Rattle.pv_chars.specs.Spaces.{is_space, IsSpace, begins}
use Rattle.pv_chars.specs.Fronts.{BeginsNone, ContainsBytes}
use Rattle.pv_tree.specs.Attributes.{AreMadeOf, IsAttributes}
use Rattle.pv_tree.specs.Prolog.{IsDoctypeFront}

-- The bytes are cut in two before the first of this byte, or else at their end.
pub record IsCutBefore (byte : ℕ) (bytes before rest : List ℕ) : Type 0 where
  pub whole : bytes ≡ before ++ rest
  pub free : ContainsBytes before (byte ∷ []) → ⊥
  pub ends : (rest ≡ []) ⊎ ((more : List ℕ) × (rest ≡ byte ∷ more))

-- As many such pieces as stand at the front, and this stands after them.
pub record TakesPieces (IsPiece : List ℕ → Type 0) (bytes rest : List ℕ) : Type 0 where
  pub front : List ℕ
  pub are_made : AreMadeOf IsPiece front
  pub whole : bytes ≡ front ++ rest
  pub ends : BeginsNone IsPiece rest

-- nothing is left, or what may end a tag stands at the front
abbrev pub ends_tag : List ℕ → Bool
ends_tag [] = true
ends_tag (b ∷ bs) = (b == 62) || (b == 47)

-- These attributes stand at the front, and this after them. No others do up to the end of a tag.
pub record TakesAttributes (R : List ℕ → Type 0) (bytes attrs rest : List ℕ) : Type 0 where
  pub are_attributes : IsAttributes R attrs
  pub whole : bytes ≡ attrs ++ rest
  pub only : (other more : List ℕ) → IsAttributes R other → bytes ≡ other ++ more →
      ends_tag more ≡ true → (attrs ≡ other) × (rest ≡ more)

-- S, this word and S stand at the front, and this after them.
pub record TakesWord (word bytes rest : List ℕ) : Type 0 where
  pub space : List ℕ
  pub gap : List ℕ
  pub ends : begins is_space rest ≡ false
  pub is_space : IsSpace space
  pub is_gap : IsSpace gap
  pub whole : bytes ≡ space ++ (word ++ (gap ++ rest))

-- what may stand after the front of a document type declaration: its end, or an internal subset
abbrev pub ends_front : List ℕ → Bool
ends_front [] = false
ends_front (b ∷ bs) = (b == 62) || (b == 91)

-- no front of a document type declaration stands before its end or an internal subset
abbrev pub BeginsNoDoctypeFront : List ℕ → Type 0
BeginsNoDoctypeFront bytes = (name front more : List ℕ) → IsDoctypeFront name front →
    bytes ≡ front ++ more → ends_front more ≡ true → ⊥

-- The front of a document type declaration of this name, and this after it. No other stands before
-- an end or an internal subset.
pub record TakesDoctypeFront (bytes name rest : List ℕ) : Type 0 where
  pub front : List ℕ
  pub is_front : IsDoctypeFront name front
  pub whole : bytes ≡ front ++ rest
  pub only : (other another more : List ℕ) → IsDoctypeFront other another →
      bytes ≡ another ++ more → ends_front more ≡ true → (name ≡ other) × (rest ≡ more)
