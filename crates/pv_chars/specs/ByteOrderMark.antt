-- The byte order mark of a text in UTF-8 (XML 1.0, section 4.3.3).
use Rattle.std.specs.Prelude.{◌≡◌, ℕ, List, [], ◌∷◌, ◌++◌}

-- U+FEFF in UTF-8 (XML 1.0, 4.3.3)
abbrev pub BYTE_ORDER_MARK : List ℕ
BYTE_ORDER_MARK = 239 ∷ 187 ∷ 191 ∷ []

-- The byte order mark of a text, or nothing where it has none, and what stands after it.
pub data TakesByteOrderMark (bytes : List ℕ) : (mark rest : List ℕ) → Type 0 where
  marked : {rest : List ℕ} → bytes ≡ BYTE_ORDER_MARK ++ rest →
      TakesByteOrderMark bytes BYTE_ORDER_MARK rest
  unmarked : ((rest : List ℕ) → bytes ≡ BYTE_ORDER_MARK ++ rest → ⊥) →
      TakesByteOrderMark bytes [] bytes

-- what stands after the byte order mark of a text, where it has one
abbrev pub IsBehindByteOrderMark : List ℕ → List ℕ → Type 0
IsBehindByteOrderMark bytes rest = (mark : List ℕ) × TakesByteOrderMark bytes mark rest
