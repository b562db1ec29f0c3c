-- The positions of a particle as the list that the program keeps: a position for each name, and before the positions of a repetition whether a round can end.
use Rattle.std.proofs.Common.{◌≡◌, ℕ, suc, Bool, false, ◌&&◌, ◌||◌, List, [], ◌∷◌, ◌++◌, length, drop, refl, sym, ap, ◌∙◌, arith, append_assoc, length-append}
use Rattle.std.proofs.lemmas.List.{drop_at, append-nil}
use Rattle.pv_model.specs.Plain.{PlainPart, name, seq, choice, opt, star, plus, PlainParts, no_parts, part}
use Rattle.pv_model.specs.Positions.{position_count, position_count_all, may_be_empty, is_end, is_end_in_order, is_end_of_some, is_end_after}
use Rattle.pv_model.specs.Positions.{is_end_after_in_order, is_end_after_of_some, positions_after, positions_after_in_order, positions_after_in_each}
use Rattle.pv_model.proofs.ReachedPositions.{Positions, AllPositions, ends, ends_in_order, ends_some, after, after_in_order, after_in_each}

abbrev mutual
  pub list_of : (p : PlainPart) → Positions p → List Bool
  list_of (name y) m = m ∷ []
  list_of (seq ps) m = list_of_all ps m
  list_of (choice ps) m = list_of_all ps m
  list_of (opt p) m = list_of p m
  list_of (star p) m = ends p m ∷ list_of p m
  list_of (plus p) m = ends p m ∷ list_of p m

  pub list_of_all : (ps : PlainParts) → AllPositions ps → List Bool
  list_of_all no_parts m = []
  list_of_all (part p ps) m = list_of p m.0 ++ list_of_all ps m.1

mutual
  length-list_of : (p : PlainPart) (m : Positions p) → length (list_of p m) ≡ position_count p
  length-list_of (name y) m = refl
  length-list_of (seq ps) m = length-list_of_all ps m
  length-list_of (choice ps) m = length-list_of_all ps m
  length-list_of (opt p) m = length-list_of p m
  length-list_of (star p) m = ap suc (length-list_of p m)
  length-list_of (plus p) m = ap suc (length-list_of p m)

  length-list_of_all : (ps : PlainParts) (m : AllPositions ps) → length (list_of_all ps m) ≡ position_count_all ps
  length-list_of_all no_parts m = refl
  length-list_of_all (part p ps) m = length-append (list_of p m.0) (list_of_all ps m.1) ∙ omega (arith, length-list_of p m.0, length-list_of_all ps m.1)

-- the first of several members, and the others
module _ (p : PlainPart) (ps : PlainParts) (m : Positions p × AllPositions ps) (rest : List Bool) where
  apart : list_of_all (part p ps) m ++ rest ≡ list_of p m.0 ++ (list_of_all ps m.1 ++ rest)
  apart = append_assoc (list_of p m.0) (list_of_all ps m.1) rest

  behind : drop (position_count p) (list_of_all (part p ps) m ++ rest) ≡ list_of_all ps m.1 ++ rest
  behind = ap (drop (position_count p)) apart ∙ drop_at (list_of p m.0) (list_of_all ps m.1 ++ rest) (position_count p) (length-list_of p m.0)

mutual
  is_end-list_of : (p : PlainPart) (m : Positions p) (rest : List Bool) → is_end p (list_of p m ++ rest) ≡ ends p m
  is_end-list_of (name y) m rest = refl
  is_end-list_of (seq ps) m rest = is_end-in_order ps false m rest
  is_end-list_of (choice ps) m rest = is_end-of_some ps false m rest
  is_end-list_of (opt p) m rest = is_end-list_of p m rest
  is_end-list_of (star p) m rest = refl
  is_end-list_of (plus p) m rest = refl

  is_end-in_order : (ps : PlainParts) (before : Bool) (m : AllPositions ps) (rest : List Bool) → is_end_in_order before ps (list_of_all ps m ++ rest) ≡ ends_in_order before ps m
  is_end-in_order no_parts before m rest = refl
  is_end-in_order (part p ps) before m rest =
      let first : is_end p (list_of_all (part p ps) m ++ rest) ≡ ends p m.0 = ap (is_end p) (apart p ps m rest) ∙ is_end-list_of p m.0 (list_of_all ps m.1 ++ rest) in
      rw (behind p ps m rest, first) (is_end-in_order ps (ends p m.0 || before && may_be_empty p) m.1 rest)

  is_end-of_some : (ps : PlainParts) (before : Bool) (m : AllPositions ps) (rest : List Bool) → is_end_of_some before ps (list_of_all ps m ++ rest) ≡ ends_some before ps m
  is_end-of_some no_parts before m rest = refl
  is_end-of_some (part p ps) before m rest =
      let first : is_end p (list_of_all (part p ps) m ++ rest) ≡ ends p m.0 = ap (is_end p) (apart p ps m rest) ∙ is_end-list_of p m.0 (list_of_all ps m.1 ++ rest) in
      rw (behind p ps m rest, first) (is_end-of_some ps (before || ends p m.0) m.1 rest)

mutual
  is_end_after-list_of : (p : PlainPart) (e : Bool) (y : ℕ) (m : Positions p) (rest : List Bool) → is_end_after p e y (list_of p m ++ rest) ≡ ends p (after p e y m)
  is_end_after-list_of (name x) e y m rest = refl
  is_end_after-list_of (seq ps) e y m rest = is_end_after-in_order ps false e y m rest
  is_end_after-list_of (choice ps) e y m rest = is_end_after-of_some ps false e y m rest
  is_end_after-list_of (opt p) e y m rest = is_end_after-list_of p e y m rest
  is_end_after-list_of (star p) e y m rest = is_end_after-list_of p (e || ends p m) y m rest
  is_end_after-list_of (plus p) e y m rest = is_end_after-list_of p (e || ends p m) y m rest

  is_end_after-in_order : (ps : PlainParts) (before e : Bool) (y : ℕ) (m : AllPositions ps) (rest : List Bool) →
      is_end_after_in_order before ps e y (list_of_all ps m ++ rest) ≡ ends_in_order before ps (after_in_order ps e y m)
  is_end_after-in_order no_parts before e y m rest = refl
  is_end_after-in_order (part p ps) before e y m rest =
      let all = apart p ps m rest in
      let first : is_end p (list_of_all (part p ps) m ++ rest) ≡ ends p m.0 = ap (is_end p) all ∙ is_end-list_of p m.0 (list_of_all ps m.1 ++ rest) in
      let next : is_end_after p e y (list_of_all (part p ps) m ++ rest) ≡ ends p (after p e y m.0) =
      ap (is_end_after p e y) all ∙ is_end_after-list_of p e y m.0 (list_of_all ps m.1 ++ rest) in
      rw (behind p ps m rest, first, next)
      (is_end_after-in_order ps (ends p (after p e y m.0) || before && may_be_empty p) (ends p m.0 || e && may_be_empty p) y m.1 rest)

  is_end_after-of_some : (ps : PlainParts) (before e : Bool) (y : ℕ) (m : AllPositions ps) (rest : List Bool) →
      is_end_after_of_some before ps e y (list_of_all ps m ++ rest) ≡ ends_some before ps (after_in_each ps e y m)
  is_end_after-of_some no_parts before e y m rest = refl
  is_end_after-of_some (part p ps) before e y m rest =
      let next : is_end_after p e y (list_of_all (part p ps) m ++ rest) ≡ ends p (after p e y m.0) =
      ap (is_end_after p e y) (apart p ps m rest) ∙ is_end_after-list_of p e y m.0 (list_of_all ps m.1 ++ rest) in
      rw (behind p ps m rest, next) (is_end_after-of_some ps (before || ends p (after p e y m.0)) e y m.1 rest)

mutual
  positions_after-list_of : (p : PlainPart) (e : Bool) (y : ℕ) (m : Positions p) (rest : List Bool) → positions_after p e y (list_of p m ++ rest) ≡ list_of p (after p e y m)
  positions_after-list_of (name x) e y m rest = refl
  positions_after-list_of (seq ps) e y m rest = positions_after-in_order ps e y m rest
  positions_after-list_of (choice ps) e y m rest = positions_after-in_each ps e y m rest
  positions_after-list_of (opt p) e y m rest = positions_after-list_of p e y m rest
  positions_after-list_of (star p) e y m rest =
      rw (is_end_after-list_of p (e || ends p m) y m rest, positions_after-list_of p (e || ends p m) y m rest)
  positions_after-list_of (plus p) e y m rest =
      rw (is_end_after-list_of p (e || ends p m) y m rest, positions_after-list_of p (e || ends p m) y m rest)

  positions_after-in_order : (ps : PlainParts) (e : Bool) (y : ℕ) (m : AllPositions ps) (rest : List Bool) →
      positions_after_in_order ps e y (list_of_all ps m ++ rest) ≡ list_of_all ps (after_in_order ps e y m)
  positions_after-in_order no_parts e y m rest = refl
  positions_after-in_order (part p ps) e y m rest =
      let all = apart p ps m rest in
      let first : is_end p (list_of_all (part p ps) m ++ rest) ≡ ends p m.0 = ap (is_end p) all ∙ is_end-list_of p m.0 (list_of_all ps m.1 ++ rest) in
      let next : positions_after p e y (list_of_all (part p ps) m ++ rest) ≡ list_of p (after p e y m.0) =
      ap (positions_after p e y) all ∙ positions_after-list_of p e y m.0 (list_of_all ps m.1 ++ rest) in
      rw (behind p ps m rest, first, next, positions_after-in_order ps (ends p m.0 || e && may_be_empty p) y m.1 rest)

  positions_after-in_each : (ps : PlainParts) (e : Bool) (y : ℕ) (m : AllPositions ps) (rest : List Bool) →
      positions_after_in_each ps e y (list_of_all ps m ++ rest) ≡ list_of_all ps (after_in_each ps e y m)
  positions_after-in_each no_parts e y m rest = refl
  positions_after-in_each (part p ps) e y m rest =
      let next : positions_after p e y (list_of_all (part p ps) m ++ rest) ≡ list_of p (after p e y m.0) =
      ap (positions_after p e y) (apart p ps m rest) ∙ positions_after-list_of p e y m.0 (list_of_all ps m.1 ++ rest) in
      rw (behind p ps m rest, next, positions_after-in_each ps e y m.1 rest)

-- after one more name, where no positions follow those of the particle
pub is_end_after-is : (p : PlainPart) (e : Bool) (y : ℕ) (m : Positions p) → is_end_after p e y (list_of p m) ≡ ends p (after p e y m)
is_end_after-is p e y m = ap (is_end_after p e y) (sym (append-nil (list_of p m))) ∙ is_end_after-list_of p e y m []

pub positions_after-is : (p : PlainPart) (e : Bool) (y : ℕ) (m : Positions p) → positions_after p e y (list_of p m) ≡ list_of p (after p e y m)
positions_after-is p e y m = ap (positions_after p e y) (sym (append-nil (list_of p m))) ∙ positions_after-list_of p e y m []
