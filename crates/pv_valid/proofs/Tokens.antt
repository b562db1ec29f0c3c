-- What an element's token tells of its name.
use Rattle.std.proofs.Common.{◌≡◌, ◌<◌, ℕ, List, length, Option, Some, None, refl, ap, sym, ◌∙◌}
use Rattle.std.specs.Option.{option_and_then}
use Rattle.pv_model.specs.Plain.{PlainToken, PlainModel, named, text, other}
use Rattle.pv_dtd.specs.Plain.{PlainDtd, number_of, model_of}
use Rattle.pv_dtd.specs.Hedge.{token}
use Rattle.pv_tree.proofs.Owners.{place_of-below}

numbered : (o : Option ℕ) (y : ℕ) → named y ≡ token o → o ≡ Some y
numbered None y e = absurd cc
numbered (Some x) y e = cc

pub number_below : (g : PlainDtd) (name : List ℕ) (y : ℕ) → named y ≡ token (number_of g name) → y < length g.names
number_below g name y e = place_of-below g.names name y (numbered (number_of g name) y e)

pub model_by_number : (g : PlainDtd) (name : List ℕ) (y : ℕ) (m : Option PlainModel) → named y ≡ token (number_of g name) → m ≡ model_of g y → m ≡ option_and_then (model_of g) (number_of g name)
model_by_number g name y m e is = is ∙ ap (option_and_then (model_of g)) (sym (numbered (number_of g name) y e))

none_of : (g : PlainDtd) (o : Option ℕ) (t : PlainToken) → t ≡ token o → ((y : ℕ) → t ≡ named y → ⊥) → None ≡ option_and_then (model_of g) o
none_of g None t e never = refl
none_of g (Some x) t e never = absurd (never x e)

pub no_model_of_text : (g : PlainDtd) (name : List ℕ) → text ≡ token (number_of g name) → None ≡ option_and_then (model_of g) (number_of g name)
no_model_of_text g name e = none_of g (number_of g name) text e (λ y is. absurd cc)

pub no_model_of_other : (g : PlainDtd) (name : List ℕ) → other ≡ token (number_of g name) → None ≡ option_and_then (model_of g) (number_of g name)
no_model_of_other g name e = none_of g (number_of g name) other e (λ y is. absurd cc)
