-- Names that are listed.
use Rattle.std.proofs.Common.{◌≡◌, ℕ, zero, suc, ◌<◌, ◌↔◌, Bool, List, [], ◌∷◌, length, eqb, eqb-true, eq-eqb, IsTrue, Contains, slice_index_or, inl, inr, arith}
use Rattle.std.specs.List.{list_any}
use Rattle.pv_model.specs.PlainForms.{numbers_of}
use Rattle.pv_model.specs.declared.models.NameId.{NameId}
use Rattle.pv_model.proofs.Joins.{or-cases, or-left, or-right}

abbrev is_id : ℕ → NameId → Bool
is_id y id = eqb id.0 y

later : (x y : ℕ) (xs : List ℕ) → Contains xs y → Contains (x ∷ xs) y
later x y xs c = (suc c.0, let h = c.1 in omega arith, c.2)

listed-from : (ids : List NameId) (y : ℕ) → IsTrue (list_any (is_id y) ids) → Contains (numbers_of ids) y
listed-from [] y h = absurd cc
listed-from (id ∷ ids) y h =
    elim (or-cases (is_id y id) (list_any (is_id y) ids) h) [
      | inl a ↦ (0, omega arith, eqb-true id.0 y a)
      | inr b ↦ later id.0 y (numbers_of ids) (listed-from ids y b)
    ]

listed-at : (ids : List NameId) (y k : ℕ) → k < length (numbers_of ids) → slice_index_or (numbers_of ids) k y ≡ y → IsTrue (list_any (is_id y) ids)
listed-at [] y k h e = absurd (omega arith)
listed-at (id ∷ ids) y zero h e = or-left (is_id y id) (list_any (is_id y) ids) (eq-eqb id.0 y e)
listed-at (id ∷ ids) y (suc k) h e = or-right (is_id y id) (list_any (is_id y) ids) (listed-at ids y k (omega arith) e)

pub listed : (ids : List NameId) (y : ℕ) → IsTrue (list_any (λ (id : NameId). eqb id.0 y) ids) ↔ Contains (numbers_of ids) y
listed ids y = (listed-from ids y, λ c. listed-at ids y c.0 c.1 c.2)
