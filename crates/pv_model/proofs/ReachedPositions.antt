-- What the positions of a particle say of words.
use Rattle.std.proofs.Common.{◌≡◌, ℕ, Bool, false, ◌&&◌, ◌||◌, ◌==◌, ◌⊎◌, List, [], ◌++◌, IsTrue}
use Rattle.pv_model.specs.Plain.{PlainPart, name, seq, choice, opt, star, plus, PlainParts, no_parts, part}
use Rattle.pv_model.specs.Models.{Rounds, Matches, MatchesAll}
use Rattle.pv_model.specs.Positions.{may_be_empty}

-- for each name whether the word so far can end with it
abbrev mutual
  pub Positions : PlainPart → Type 0
  Positions (name y) = Bool
  Positions (seq ps) = AllPositions ps
  Positions (choice ps) = AllPositions ps
  Positions (opt p) = Positions p
  Positions (star p) = Positions p
  Positions (plus p) = Positions p

  pub AllPositions : PlainParts → Type 0
  AllPositions no_parts = Unit {0}
  AllPositions (part p ps) = Positions p × AllPositions ps

-- what is left of a word that is a word of the particle, after one of the positions reached
abbrev mutual
  pub Continues : (p : PlainPart) → Positions p → List ℕ → Type 0
  Continues (name y) m w = IsTrue m × (w ≡ [])
  Continues (seq ps) m w = ContinuesInOrder ps m w
  Continues (choice ps) m w = ContinuesSome ps m w
  Continues (opt p) m w = Continues p m w
  Continues (star p) m w = (u : List ℕ) × (v : List ℕ) × (w ≡ u ++ v) × Continues p m u × Rounds (Matches p) v
  Continues (plus p) m w = (u : List ℕ) × (v : List ℕ) × (w ≡ u ++ v) × Continues p m u × Rounds (Matches p) v

  pub ContinuesInOrder : (ps : PlainParts) → AllPositions ps → List ℕ → Type 0
  ContinuesInOrder no_parts m w = ⊥
  ContinuesInOrder (part p ps) m w =
      ((u : List ℕ) × (v : List ℕ) × (w ≡ u ++ v) × Continues p m.0 u × MatchesAll ps v) ⊎ ContinuesInOrder ps m.1 w

  pub ContinuesSome : (ps : PlainParts) → AllPositions ps → List ℕ → Type 0
  ContinuesSome no_parts m w = ⊥
  ContinuesSome (part p ps) m w = Continues p m.0 w ⊎ ContinuesSome ps m.1 w

-- the word so far ends a word of the particle
abbrev mutual
  pub ends : (p : PlainPart) → Positions p → Bool
  ends (name y) m = m
  ends (seq ps) m = ends_in_order false ps m
  ends (choice ps) m = ends_some false ps m
  ends (opt p) m = ends p m
  ends (star p) m = ends p m
  ends (plus p) m = ends p m

  pub ends_in_order : Bool → (ps : PlainParts) → AllPositions ps → Bool
  ends_in_order before no_parts m = before
  ends_in_order before (part p ps) m = ends_in_order (ends p m.0 || before && may_be_empty p) ps m.1

  pub ends_some : Bool → (ps : PlainParts) → AllPositions ps → Bool
  ends_some before no_parts m = before
  ends_some before (part p ps) m = ends_some (before || ends p m.0) ps m.1

-- the positions after one more name
abbrev mutual
  pub after : (p : PlainPart) → Bool → ℕ → Positions p → Positions p
  after (name x) e y m = e && x == y
  after (seq ps) e y m = after_in_order ps e y m
  after (choice ps) e y m = after_in_each ps e y m
  after (opt p) e y m = after p e y m
  after (star p) e y m = after p (e || ends p m) y m
  after (plus p) e y m = after p (e || ends p m) y m

  pub after_in_order : (ps : PlainParts) → Bool → ℕ → AllPositions ps → AllPositions ps
  after_in_order no_parts e y m = tt
  after_in_order (part p ps) e y m = (after p e y m.0, after_in_order ps (ends p m.0 || e && may_be_empty p) y m.1)

  pub after_in_each : (ps : PlainParts) → Bool → ℕ → AllPositions ps → AllPositions ps
  after_in_each no_parts e y m = tt
  after_in_each (part p ps) e y m = (after p e y m.0, after_in_each ps e y m.1)

-- the positions before the first name
abbrev mutual
  pub unreached : (p : PlainPart) → Positions p
  unreached (name y) = false
  unreached (seq ps) = all_unreached ps
  unreached (choice ps) = all_unreached ps
  unreached (opt p) = unreached p
  unreached (star p) = unreached p
  unreached (plus p) = unreached p

  pub all_unreached : (ps : PlainParts) → AllPositions ps
  all_unreached no_parts = tt
  all_unreached (part p ps) = (unreached p, all_unreached ps)
