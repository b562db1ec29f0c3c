-- What a loop over the members of a particle keeps, as it moves their positions over one more name.
use Rattle.std.proofs.Common.{◌≡◌, ℕ, suc, ◌+◌, ◌≤◌, get_or, set, Bool, true, false, ◌&&◌, ◌||◌, List, [], ◌∷◌, ◌++◌, length, drop, refl, ap, sym, ◌∙◌, arith}
use Rattle.std.proofs.lemmas.List.{drop-drop}
use Rattle.std.proofs.Math.Bool.{or-false, or_assoc}
use Rattle.pv_model.specs.Plain.{PlainPart, PlainParts, part, plus}
use Rattle.pv_model.specs.Positions.{position_count, position_count_all, all_may_be_empty, some_may_be_empty, is_end_in_order, is_end_of_some}
use Rattle.pv_model.specs.Positions.{is_end_after_in_order, is_end_after_of_some, positions_after, positions_after_in_order, positions_after_in_each}
use Rattle.pv_model.specs.Positions.{any_reached, overwrite}
use Rattle.pv_model.specs.Moves.{Moves}
use Rattle.pv_model.specs.declared.positions.Moved.{Moved}
use Rattle.pv_model.proofs.WrittenPositions.{length-positions_after, drop-overwrite}
use Rattle.pv_model.proofs.WrittenPositions.{overwrite-overwrite, overwrite_first}

or-swap : (a b c : Bool) → (a || (b || c)) ≡ ((a || c) || b)
or-swap true b c = refl
or-swap false true true = refl
or-swap false true false = refl
or-swap false false c = sym (or-false c)

pub any_reached-append : (xs ys : List Bool) → any_reached (xs ++ ys) ≡ (any_reached ys || any_reached xs)
any_reached-append [] ys = sym (or-false (any_reached ys))
any_reached-append (x ∷ xs) ys = ap (λ b. b || x) (any_reached-append xs ys) ∙ or_assoc (any_reached ys) (any_reached xs) x

any_reached-more : (rest first : List Bool) (so_far : Bool) → (any_reached rest || (so_far || any_reached first)) ≡ (any_reached (first ++ rest) || so_far)
any_reached-more rest first so_far = or-swap (any_reached rest) so_far (any_reached first) ∙ ap (λ b. b || so_far) (sym (any_reached-append first rest))

-- of a sequence, of which the members rest are left
pub record InOrder (whole : PlainParts) (entered : Bool) (y at : ℕ) (old : List Bool) (rest : PlainParts) (entering : Bool) (so_far : Moved) (now : List Bool) : Type 0 where
  pub room : so_far.next + position_count_all rest ≤ length now
  pub next : so_far.next + position_count_all rest ≡ at + position_count_all whole
  pub was_end : is_end_in_order so_far.was_end rest (drop so_far.next now) ≡ is_end_in_order false whole (drop at old)
  pub is_end : is_end_after_in_order so_far.is_end rest entering y (drop so_far.next now) ≡ is_end_after_in_order false whole entered y (drop at old)
  pub is_reached : (any_reached (positions_after_in_order rest entering y (drop so_far.next now)) || so_far.is_reached) ≡ any_reached (positions_after_in_order whole entered y (drop at old))
  pub may_be_empty : all_may_be_empty so_far.may_be_empty rest ≡ all_may_be_empty true whole
  pub positions : overwrite so_far.next (positions_after_in_order rest entering y (drop so_far.next now)) now ≡ overwrite at (positions_after_in_order whole entered y (drop at old)) old

-- of a choice
pub record InEach (whole : PlainParts) (entered : Bool) (y at : ℕ) (old : List Bool) (rest : PlainParts) (so_far : Moved) (now : List Bool) : Type 0 where
  pub room : so_far.next + position_count_all rest ≤ length now
  pub next : so_far.next + position_count_all rest ≡ at + position_count_all whole
  pub was_end : is_end_of_some so_far.was_end rest (drop so_far.next now) ≡ is_end_of_some false whole (drop at old)
  pub is_end : is_end_after_of_some so_far.is_end rest entered y (drop so_far.next now) ≡ is_end_after_of_some false whole entered y (drop at old)
  pub is_reached : (any_reached (positions_after_in_each rest entered y (drop so_far.next now)) || so_far.is_reached) ≡ any_reached (positions_after_in_each whole entered y (drop at old))
  pub may_be_empty : some_may_be_empty so_far.may_be_empty rest ≡ some_may_be_empty false whole
  pub positions : overwrite so_far.next (positions_after_in_each rest entered y (drop so_far.next now)) now ≡ overwrite at (positions_after_in_each whole entered y (drop at old)) old

module _ (p : PlainPart) (entered : Bool) (y at : ℕ) (now after : List Bool) (one : Moved) (room : at + position_count p ≤ length now) (m : Moves p entered y at now after one) where
  -- the positions after the particle stay
  behind : drop one.next after ≡ drop (position_count p) (drop at now)
  behind =
      ap (λ k. drop k after) m.next
      ∙ drop-overwrite at (position_count p) (positions_after p entered y (drop at now)) now after (length-positions_after p entered y (drop at now)) room m.positions

  joined : (more : List Bool) → overwrite one.next more after ≡ overwrite at (positions_after p entered y (drop at now) ++ more) now
  joined more =
      ap (λ k. overwrite k more after) m.next
      ∙ overwrite-overwrite at (position_count p) (positions_after p entered y (drop at now)) now after (length-positions_after p entered y (drop at now)) room m.positions more

-- one more member
pub InOrder-more : (whole : PlainParts) (entered : Bool) (y at : ℕ) (old : List Bool) (p : PlainPart) (ps : PlainParts) (entering : Bool) (so_far : Moved) (now : List Bool) →
    InOrder whole entered y at old (part p ps) entering so_far now → (one all : Moved) (after : List Bool) → length after ≡ length now → Moves p entering y so_far.next now after one →
    all.next ≡ one.next → all.was_end ≡ (one.was_end || so_far.was_end && one.may_be_empty) → all.is_end ≡ (one.is_end || so_far.is_end && one.may_be_empty) →
    all.is_reached ≡ (so_far.is_reached || one.is_reached) →
    all.may_be_empty ≡ (so_far.may_be_empty && one.may_be_empty) → (entering2 : Bool) →
    entering2 ≡ (one.was_end || entering && one.may_be_empty) →
    InOrder whole entered y at old ps entering2 all after
InOrder-more whole entered y at old p ps entering so_far now inv one all after stays m next was is left may entering2 enters =
    let room : so_far.next + position_count p ≤ length now = omega (arith, inv.room) in
    let rest : drop all.next after ≡ drop (position_count p) (drop so_far.next now) = ap (λ k. drop k after) next ∙ behind p entering y so_far.next now after one room m in
    record {
      room = omega arith;
      next = omega arith;
      was_end = rw (rest, was, m.was_end, m.may_be_empty) inv.was_end;
      is_end = rw (rest, is, enters, m.is_end, m.was_end, m.may_be_empty) inv.is_end;
      is_reached = rw (rest, left, enters, m.is_reached, m.was_end, m.may_be_empty) (any_reached-more _ (positions_after p entering y (drop so_far.next now)) so_far.is_reached ∙ inv.is_reached);
      may_be_empty = rw (may, m.may_be_empty) inv.may_be_empty;
      positions = rw (rest, next, enters, m.was_end, m.may_be_empty) (joined p entering y so_far.next now after one room m _ ∙ inv.positions);
    }

pub InEach-more : (whole : PlainParts) (entered : Bool) (y at : ℕ) (old : List Bool) (p : PlainPart) (ps : PlainParts) (so_far : Moved) (now : List Bool) →
    InEach whole entered y at old (part p ps) so_far now → (one some : Moved) (after : List Bool) → length after ≡ length now → Moves p entered y so_far.next now after one →
    some.next ≡ one.next → some.was_end ≡ (so_far.was_end || one.was_end) → some.is_end ≡ (so_far.is_end || one.is_end) →
    some.is_reached ≡ (so_far.is_reached || one.is_reached) → some.may_be_empty ≡ (so_far.may_be_empty || one.may_be_empty) → InEach whole entered y at old ps some after
InEach-more whole entered y at old p ps so_far now inv one some after stays m next was is left may =
    let room : so_far.next + position_count p ≤ length now = omega (arith, inv.room) in
    let rest : drop some.next after ≡ drop (position_count p) (drop so_far.next now) = ap (λ k. drop k after) next ∙ behind p entered y so_far.next now after one room m in
    record {
      room = omega arith;
      next = omega arith;
      was_end = rw (rest, was, m.was_end) inv.was_end;
      is_end = rw (rest, is, m.is_end) inv.is_end;
      is_reached = rw (rest, left, m.is_reached) (any_reached-more _ (positions_after p entered y (drop so_far.next now)) so_far.is_reached ∙ inv.is_reached);
      may_be_empty = rw (may, m.may_be_empty) inv.may_be_empty;
      positions = rw (rest, next) (joined p entered y so_far.next now after one room m _ ∙ inv.positions);
    }

-- a repetition, whose own position stands before those of its member
pub Moves-rounds : (p : PlainPart) (entered : Bool) (y at : ℕ) (old inner : List Bool) (round found : Moved) (entering : Bool) → at + suc (position_count p) ≤ length old →
    entering ≡ (entered || get_or (drop at old) 0 false) → Moves p entering y (at + 1) old inner round → found.next ≡ round.next → found.was_end ≡ get_or (drop at old) 0 false →
    found.is_end ≡ round.is_end → found.is_reached ≡ (round.is_reached || round.is_end) → found.may_be_empty ≡ round.may_be_empty →
    Moves (plus p) entered y at old (set inner at round.is_end) found
Moves-rounds p entered y at old inner round found entering room e m next was is left may =
    let tail : drop (at + 1) old ≡ drop 1 (drop at old) = sym (drop-drop 1 at old) in
    let new = positions_after p entering y (drop (at + 1) old) in
    let long : length new ≡ position_count p = length-positions_after p entering y (drop (at + 1) old) in
    let first = overwrite_first at round.is_end new old inner (omega arith) m.positions in
    let ended = m.is_end in
    let marked2 = m.is_reached in
    record {
      next = omega arith;
      was_end = was;
      is_end = cc;
      is_reached = cc;
      may_be_empty = may ∙ m.may_be_empty;
      positions = cc;
    }
