-- Tokens left out, and texts repeated.
use Rattle.std.proofs.Common.{List, [], ◌∷◌}
use Rattle.pv_model.specs.Plain.{PlainToken, text}

-- the second is the first, where each text may be left out or repeated
pub data Texts : List PlainToken → List PlainToken → Type 0 where
  texts_none : Texts [] []
  texts_keep : (t : PlainToken) (w w' : List PlainToken) → Texts w w' → Texts (t ∷ w) (t ∷ w')
  texts_drop : (w w' : List PlainToken) → Texts w w' → Texts (text ∷ w) w'
  texts_again : (w w' : List PlainToken) → Texts (text ∷ w) w' → Texts (text ∷ w) (text ∷ w')

-- the second is the first with some tokens left out
pub data Omits : List PlainToken → List PlainToken → Type 0 where
  omit_none : Omits [] []
  omit_keep : (t : PlainToken) (w w' : List PlainToken) → Omits w w' → Omits (t ∷ w) (t ∷ w')
  omit_drop : (t : PlainToken) (w w' : List PlainToken) → Omits w w' → Omits (t ∷ w) w'
