-- Content particles laid out in pairs, their words, and how far a word has come in one.
-- Each name and each repetition has a place, from left to right; that of a repetition stands
-- after its member's.
use Rattle.std.specs.Prelude.{◌≡◌, ℕ, ◌+◌, ◌≤◌, ◌<◌, Bool, true, false, ◌&&◌, ◌||◌, ◌==◌, ◌⊎◌}
use Rattle.std.specs.Prelude.{List, [], ◌∷◌, ◌++◌, if◌then◌else◌}
use Rattle.pv_model.specs.Models.{Rounds}

-- no word; the empty word alone; a name y at a place; a pair in order, and whether the empty word
-- is one of its members'; a pair to choose from; an optional particle; one repeated at least once,
-- at a place. The places of a second member begin at the middle.
pub data PlainLayout : Type 0 where
  nothing : PlainLayout
  blank : PlainLayout
  one : (place y : ℕ) → PlainLayout
  in_order : (middle : ℕ) (first_may_be_empty second_may_be_empty : Bool)
      (first second : PlainLayout) → PlainLayout
  either : (middle : ℕ) (first second : PlainLayout) → PlainLayout
  optional : PlainLayout → PlainLayout
  repeated : (place : ℕ) → PlainLayout → PlainLayout

abbrev pub HasWord : PlainLayout → List ℕ → Type 0
HasWord nothing w = ⊥
HasWord blank w = w ≡ []
HasWord (one place y) w = w ≡ y ∷ []
HasWord (in_order middle f s g h) w =
    (u : List ℕ) × (v : List ℕ) × (w ≡ u ++ v) × HasWord g u × HasWord h v
HasWord (either middle g h) w = HasWord g w ⊎ HasWord h w
HasWord (optional g) w = (w ≡ []) ⊎ HasWord g w
HasWord (repeated place g) w =
    (u : List ℕ) × (v : List ℕ) × (w ≡ u ++ v) × HasWord g u × Rounds (HasWord g) v

-- the empty word is a word of the particle
abbrev pub has_empty_word : PlainLayout → Bool
has_empty_word nothing = false
has_empty_word blank = true
has_empty_word (one place y) = false
has_empty_word (in_order middle f s g h) = f && s
has_empty_word (either middle g h) = has_empty_word g || has_empty_word h
has_empty_word (optional g) = true
has_empty_word (repeated place g) = has_empty_word g

-- the places are those from a on and before b, and what is said of the empty word is so
abbrev pub IsNumbered : PlainLayout → ℕ → ℕ → Type 0
IsNumbered nothing a b = b ≡ a
IsNumbered blank a b = b ≡ a
IsNumbered (one place y) a b = (place ≡ a) × (b ≡ a + 1)
IsNumbered (in_order middle f s g h) a b =
    (f ≡ has_empty_word g) × (s ≡ has_empty_word h) × IsNumbered g a middle × IsNumbered h middle b
IsNumbered (either middle g h) a b = IsNumbered g a middle × IsNumbered h middle b
IsNumbered (optional g) a b = IsNumbered g a b
IsNumbered (repeated place g) a b = IsNumbered g a place × (b ≡ place + 1)

-- the places of the name y
abbrev pub places_of : PlainLayout → ℕ → List ℕ
places_of nothing y = []
places_of blank y = []
places_of (one place x) y = if x == y then place ∷ [] else []
places_of (in_order middle f s g h) y = places_of g y ++ places_of h y
places_of (either middle g h) y = places_of g y ++ places_of h y
places_of (optional g) y = places_of g y
places_of (repeated place g) y = places_of g y

-- for each name whether the word so far can end with it
abbrev pub Reach : PlainLayout → Type 0
Reach nothing = Unit {0}
Reach blank = Unit {0}
Reach (one place y) = Bool
Reach (in_order middle f s g h) = Reach g × Reach h
Reach (either middle g h) = Reach g × Reach h
Reach (optional g) = Reach g
Reach (repeated place g) = Reach g

-- the word so far can end the particle
abbrev pub ends : (g : PlainLayout) → Reach g → Bool
ends nothing m = false
ends blank m = false
ends (one place y) m = m
ends (in_order middle f s g h) m = ends h m.1 || ends g m.0 && s
ends (either middle g h) m = ends g m.0 || ends h m.1
ends (optional g) m = ends g m
ends (repeated place g) m = ends g m

-- after one more name y, with which the particle may begin if it is entered
abbrev pub after : (g : PlainLayout) → Bool → ℕ → Reach g → Reach g
after nothing entered y m = m
after blank entered y m = m
after (one place x) entered y m = entered && x == y
after (in_order middle f s g h) entered y m =
    (after g entered y m.0, after h (ends g m.0 || entered && f) y m.1)
after (either middle g h) entered y m = (after g entered y m.0, after h entered y m.1)
after (optional g) entered y m = after g entered y m
after (repeated place g) entered y m = after g (entered || ends g m) y m

-- the places of names with which the word so far can end, and of repetitions of which it can end a
-- round
abbrev pub reached : (g : PlainLayout) → Reach g → List ℕ
reached nothing m = []
reached blank m = []
reached (one place y) m = if m then place ∷ [] else []
reached (in_order middle f s g h) m = reached g m.0 ++ reached h m.1
reached (either middle g h) m = reached g m.0 ++ reached h m.1
reached (optional g) m = reached g m
reached (repeated place g) m = reached g m ++ (if ends g m then place ∷ [] else [])

-- from m on, y leads to these places after those before
pub record Advances (g : PlainLayout) (entered : Bool) (y : ℕ) (m : Reach g) (old new : List ℕ)
    (was_end is_end : Bool) : Type 0 where
  pub before : was_end ≡ ends g m
  pub now : is_end ≡ ends g (after g entered y m)
  pub next : new ≡ old ++ reached g (after g entered y m)

-- y, which has the places in `called`, leads to these after those before, from each state in which
-- the word so far has reached the places in `places`
pub record AdvancesFrom (g : PlainLayout) (entered : Bool) (y : ℕ) (places called old new : List ℕ)
    (was_end is_end : Bool) : Type 0 where
  pub from : (a b : ℕ) (m : Reach g) → IsNumbered g a b → places ≡ reached g m →
      called ≡ places_of g y → Advances g entered y m old new was_end is_end

-- two parts of a list of places, of which the first stand before the middle
abbrev pub AreBefore : ℕ → List ℕ → Type 0
AreBefore middle [] = Unit {0}
AreBefore middle (k ∷ ks) = (k < middle) × AreBefore middle ks

abbrev pub AreFrom : ℕ → List ℕ → Type 0
AreFrom middle [] = Unit {0}
AreFrom middle (k ∷ ks) = (middle ≤ k) × AreFrom middle ks

abbrev pub IsSplit : ℕ → List ℕ → List ℕ → List ℕ → Type 0
IsSplit middle all front back =
    (xs ys : List ℕ) → all ≡ xs ++ ys → AreBefore middle xs → AreFrom middle ys →
    (front ≡ xs) × (back ≡ ys)
