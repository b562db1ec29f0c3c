-- Words that differ only in how often data stands there are allowed alike.
use Rattle.std.proofs.Common.{◌≡◌, ℕ, List, [], ◌∷◌, map, Bool, true, false, refl, sym, ap, ◌∙◌}
use Rattle.std.specs.List.{AllByRecursion}
use Rattle.pv_model.specs.Plain.{PlainModel, empty, any, mixed, children, PlainToken, named, text, other}
use Rattle.pv_model.specs.Models.{Allows, IsOfAny, IsOfMixed}

-- the tokens that aren't data
abbrev pub without_text : List PlainToken → List PlainToken
without_text [] = []
without_text (named y ∷ u) = named y ∷ without_text u
without_text (text ∷ u) = without_text u
without_text (other ∷ u) = other ∷ without_text u

abbrev pub has_text : List PlainToken → Bool
has_text [] = false
has_text (named y ∷ u) = has_text u
has_text (text ∷ u) = true
has_text (other ∷ u) = has_text u

-- both words have the same tokens besides data, and data is in both or in neither
pub record IsAlike (u v : List PlainToken) : Type 0 where
  pub same_others : without_text u ≡ without_text v
  pub same_data : has_text u ≡ has_text v

pub alike_back : (u v : List PlainToken) → IsAlike u v → IsAlike v u
alike_back u v a = record { same_others = sym a.same_others; same_data = sym a.same_data }

without_text-none : (u : List PlainToken) → has_text u ≡ false → without_text u ≡ u
without_text-none [] h = refl
without_text-none (named y ∷ u) h = ap (λ v. named y ∷ v) (without_text-none u h)
without_text-none (text ∷ u) h = cc
without_text-none (other ∷ u) h = ap (λ v. other ∷ v) (without_text-none u h)

-- where there is no data they are equal
same_word : (u v : List PlainToken) → IsAlike u v → has_text u ≡ false → v ≡ u
same_word u v a h = sym (without_text-none v (sym a.same_data ∙ h)) ∙ sym a.same_others ∙ without_text-none u h

no_text_named : (w : List ℕ) → has_text (map named w) ≡ false
no_text_named [] = refl
no_text_named (y ∷ w) = no_text_named w

all_without_text : (P : PlainToken → Type 0) (u : List PlainToken) → AllByRecursion P u → AllByRecursion P (without_text u)
all_without_text P [] h = h
all_without_text P (named y ∷ u) h = (h.0, all_without_text P u h.1)
all_without_text P (text ∷ u) h = all_without_text P u h.1
all_without_text P (other ∷ u) h = (h.0, all_without_text P u h.1)

all_with_text : (P : PlainToken → Type 0) → P text → (u : List PlainToken) → AllByRecursion P (without_text u) → AllByRecursion P u
all_with_text P t [] h = h
all_with_text P t (named y ∷ u) h = (h.0, all_with_text P t u h.1)
all_with_text P t (text ∷ u) h = (t, all_with_text P t u h)
all_with_text P t (other ∷ u) h = (h.0, all_with_text P t u h.1)

all_alike : (P : PlainToken → Type 0) → P text → (u v : List PlainToken) → IsAlike u v → AllByRecursion P u → AllByRecursion P v
all_alike P t u v a h = all_with_text P t v (rw a.same_others at (all_without_text P u h))

pub allows_alike : (d : ℕ) (m : PlainModel) (u v : List PlainToken) → IsAlike u v → Allows d m u → Allows d m v
allows_alike d empty u v a h = same_word u v a (ap has_text h) ∙ h
allows_alike d any u v a h = all_alike (IsOfAny d) tt u v a h
allows_alike d (mixed ys) u v a h = all_alike (IsOfMixed ys) tt u v a h
allows_alike d (children p) u v a (w, e, m) = (w, same_word u v a (ap has_text e ∙ no_text_named w) ∙ e, m)
