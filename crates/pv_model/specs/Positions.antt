-- How far a word has come in a content particle: for each position whether it is reached, in the
-- order of the declaration. Each name has a position, and each repetition has one before its
-- member's. The first is reached if the names read so far can end with it, and the second if they
-- can end a round.
use Rattle.std.specs.Prelude.{ℕ, suc, ◌+◌, Bool, true, false, ◌&&◌, ◌||◌, ◌==◌, List, [], ◌∷◌}
use Rattle.std.specs.Prelude.{◌++◌, length, get_or, take, drop, if◌then◌else◌}
use Rattle.pv_model.specs.Plain.{PlainPart, name, seq, choice, opt, star, plus, PlainParts}
use Rattle.pv_model.specs.Plain.{no_parts, part, PlainToken, named, text, other}

abbrev mutual
  pub position_count : PlainPart → ℕ
  position_count (name y) = 1
  position_count (seq ps) = position_count_all ps
  position_count (choice ps) = position_count_all ps
  position_count (opt p) = position_count p
  position_count (star p) = suc (position_count p)
  position_count (plus p) = suc (position_count p)

  pub position_count_all : PlainParts → ℕ
  position_count_all no_parts = 0
  position_count_all (part p ps) = position_count p + position_count_all ps

-- the positions before the first name
abbrev mutual
  pub unreached_positions : PlainPart → List Bool
  unreached_positions (name y) = false ∷ []
  unreached_positions (seq ps) = unreached_positions_all ps
  unreached_positions (choice ps) = unreached_positions_all ps
  unreached_positions (opt p) = unreached_positions p
  unreached_positions (star p) = false ∷ unreached_positions p
  unreached_positions (plus p) = false ∷ unreached_positions p

  pub unreached_positions_all : PlainParts → List Bool
  unreached_positions_all no_parts = []
  unreached_positions_all (part p ps) = unreached_positions p ++ unreached_positions_all ps

-- the empty word is a word of the particle
abbrev mutual
  pub may_be_empty : PlainPart → Bool
  may_be_empty (name y) = false
  may_be_empty (seq ps) = all_may_be_empty true ps
  may_be_empty (choice ps) = some_may_be_empty false ps
  may_be_empty (opt p) = true
  may_be_empty (star p) = true
  may_be_empty (plus p) = may_be_empty p

  -- it is one of each member, and was one of those before
  pub all_may_be_empty : Bool → PlainParts → Bool
  all_may_be_empty before no_parts = before
  all_may_be_empty before (part p ps) = all_may_be_empty (before && may_be_empty p) ps

  -- it is one of some member, or was one of a member before
  pub some_may_be_empty : Bool → PlainParts → Bool
  some_may_be_empty before no_parts = before
  some_may_be_empty before (part p ps) = some_may_be_empty (before || may_be_empty p) ps

-- the names read so far are a word of the particle, by the positions from its first on
abbrev mutual
  pub is_end : PlainPart → List Bool → Bool
  is_end (name y) ms = get_or ms 0 false
  is_end (seq ps) ms = is_end_in_order false ps ms
  is_end (choice ps) ms = is_end_of_some false ps ms
  is_end (opt p) ms = is_end p ms
  is_end (star p) ms = get_or ms 0 false
  is_end (plus p) ms = get_or ms 0 false

  pub is_end_in_order : Bool → PlainParts → List Bool → Bool
  is_end_in_order before no_parts ms = before
  is_end_in_order before (part p ps) ms =
      is_end_in_order (is_end p ms || before && may_be_empty p) ps (drop (position_count p) ms)

  pub is_end_of_some : Bool → PlainParts → List Bool → Bool
  is_end_of_some before no_parts ms = before
  is_end_of_some before (part p ps) ms =
      is_end_of_some (before || is_end p ms) ps (drop (position_count p) ms)

-- with one more name y they are a word of the particle, which may begin with y if it is entered
abbrev mutual
  pub is_end_after : PlainPart → Bool → ℕ → List Bool → Bool
  is_end_after (name x) entered y ms = entered && x == y
  is_end_after (seq ps) entered y ms = is_end_after_in_order false ps entered y ms
  is_end_after (choice ps) entered y ms = is_end_after_of_some false ps entered y ms
  is_end_after (opt p) entered y ms = is_end_after p entered y ms
  is_end_after (star p) entered y ms = is_end_after p (entered || get_or ms 0 false) y (drop 1 ms)
  is_end_after (plus p) entered y ms = is_end_after p (entered || get_or ms 0 false) y (drop 1 ms)

  pub is_end_after_in_order : Bool → PlainParts → Bool → ℕ → List Bool → Bool
  is_end_after_in_order before no_parts entered y ms = before
  is_end_after_in_order before (part p ps) entered y ms =
      is_end_after_in_order (is_end_after p entered y ms || before && may_be_empty p) ps
      (is_end p ms || entered && may_be_empty p) y (drop (position_count p) ms)

  pub is_end_after_of_some : Bool → PlainParts → Bool → ℕ → List Bool → Bool
  is_end_after_of_some before no_parts entered y ms = before
  is_end_after_of_some before (part p ps) entered y ms =
      is_end_after_of_some (before || is_end_after p entered y ms) ps entered y
      (drop (position_count p) ms)

-- the positions after one more name y
abbrev mutual
  pub positions_after : PlainPart → Bool → ℕ → List Bool → List Bool
  positions_after (name x) entered y ms = (entered && x == y) ∷ []
  positions_after (seq ps) entered y ms = positions_after_in_order ps entered y ms
  positions_after (choice ps) entered y ms = positions_after_in_each ps entered y ms
  positions_after (opt p) entered y ms = positions_after p entered y ms
  positions_after (star p) entered y ms =
      is_end_after p (entered || get_or ms 0 false) y (drop 1 ms) ∷
      positions_after p (entered || get_or ms 0 false) y (drop 1 ms)
  positions_after (plus p) entered y ms =
      is_end_after p (entered || get_or ms 0 false) y (drop 1 ms) ∷
      positions_after p (entered || get_or ms 0 false) y (drop 1 ms)

  pub positions_after_in_order : PlainParts → Bool → ℕ → List Bool → List Bool
  positions_after_in_order no_parts entered y ms = []
  positions_after_in_order (part p ps) entered y ms =
      positions_after p entered y ms ++
      positions_after_in_order ps (is_end p ms || entered && may_be_empty p) y
      (drop (position_count p) ms)

  pub positions_after_in_each : PlainParts → Bool → ℕ → List Bool → List Bool
  positions_after_in_each no_parts entered y ms = []
  positions_after_in_each (part p ps) entered y ms =
      positions_after p entered y ms ++
      positions_after_in_each ps entered y (drop (position_count p) ms)

-- some position is reached
abbrev pub any_reached : List Bool → Bool
any_reached [] = false
any_reached (b ∷ ms) = any_reached ms || b

-- the old list with these in it from a place on
abbrev pub overwrite : ℕ → List Bool → List Bool → List Bool
overwrite at new old = take at old ++ new ++ drop (at + length new) old

-- the particle has a word that begins with the names read so far, which gave these positions and
-- are a word themselves or not, and goes on with these tokens; it is entered before the first name
abbrev pub reads : PlainPart → Bool → Bool → List Bool → List PlainToken → Bool
reads p entered ended ms [] = ended
reads p entered ended ms (named y ∷ u) =
    if any_reached (positions_after p entered y ms)
    then reads p false (is_end_after p entered y ms) (positions_after p entered y ms) u
    else false
reads p entered ended ms (text ∷ u) = false
reads p entered ended ms (other ∷ u) = false
