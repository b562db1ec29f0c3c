-- Positions written into a list from a place on.
use Rattle.std.proofs.Common.{◌≡◌, ℕ, suc, ◌+◌, ◌≤◌, ◌<◌, Bool, false, ◌||◌, ◌&&◌, List, [], ◌∷◌, ◌++◌, length, take, drop, set, get_or, refl, sym}
use Rattle.std.proofs.Common.{ap, ◌∙◌, arith, append_assoc, length-append, add-one}
use Rattle.std.proofs.lemmas.List.{set_split, take_at, drop_at, drop-drop, length-take-le, take-append-le, take-take}
use Rattle.pv_model.specs.Plain.{PlainPart, name, seq, choice, opt, star, plus, PlainParts, no_parts, part}
use Rattle.pv_model.specs.Positions.{position_count, position_count_all, is_end, may_be_empty, positions_after, positions_after_in_order, positions_after_in_each, overwrite}

mutual
  pub length-positions_after : (p : PlainPart) (e : Bool) (y : ℕ) (ms : List Bool) → length (positions_after p e y ms) ≡ position_count p
  length-positions_after (name x) e y ms = refl
  length-positions_after (seq ps) e y ms = length-in_order ps e y ms
  length-positions_after (choice ps) e y ms = length-in_each ps e y ms
  length-positions_after (opt p) e y ms = length-positions_after p e y ms
  length-positions_after (star p) e y ms = ap suc (length-positions_after p (e || get_or ms 0 false) y (drop 1 ms))
  length-positions_after (plus p) e y ms = ap suc (length-positions_after p (e || get_or ms 0 false) y (drop 1 ms))

  length-in_order : (ps : PlainParts) (e : Bool) (y : ℕ) (ms : List Bool) → length (positions_after_in_order ps e y ms) ≡ position_count_all ps
  length-in_order no_parts e y ms = refl
  length-in_order (part p ps) e y ms =
      let rest = is_end p ms || e && may_be_empty p in
      length-append (positions_after p e y ms) (positions_after_in_order ps rest y (drop (position_count p) ms))
      ∙ omega (arith, length-positions_after p e y ms, length-in_order ps rest y (drop (position_count p) ms))

  length-in_each : (ps : PlainParts) (e : Bool) (y : ℕ) (ms : List Bool) → length (positions_after_in_each ps e y ms) ≡ position_count_all ps
  length-in_each no_parts e y ms = refl
  length-in_each (part p ps) e y ms =
      length-append (positions_after p e y ms) (positions_after_in_each ps e y (drop (position_count p) ms))
      ∙ omega (arith, length-positions_after p e y ms, length-in_each ps e y (drop (position_count p) ms))

pub overwrite_one : (at : ℕ) (b : Bool) (old : List Bool) → at + 1 ≤ length old → set old at b ≡ overwrite at (b ∷ []) old
overwrite_one at b old h = let h1 : at < length old = omega arith in set_split old at b h1 ∙ rw (append_assoc, add-one)

module _ (at n : ℕ) (new old now : List Bool) (e : length new ≡ n) (room : at + n ≤ length old) (w : now ≡ overwrite at new old) where
  length-front : length (take at old ++ new) ≡ at + n
  length-front = omega (arith, length-append (take at old) new, length-take-le at old (omega arith))

  pub drop-overwrite : drop (at + n) now ≡ drop n (drop at old)
  drop-overwrite =
      ap (drop (at + n)) w ∙ drop_at (take at old ++ new) (drop (at + length new) old) (at + n) length-front
      ∙ ap (λ k. drop (at + k) old) e ∙ sym (drop-drop n at old)

  pub take-overwrite : take (at + n) now ≡ take at old ++ new
  take-overwrite = ap (take (at + n)) w ∙ take_at (take at old ++ new) (drop (at + length new) old) (at + n) length-front

  pub overwrite-overwrite : (more : List Bool) → overwrite (at + n) more now ≡ overwrite at (new ++ more) old
  overwrite-overwrite more =
      let front : take (at + n) now ++ more ≡ take at old ++ (new ++ more) = ap (λ l. l ++ more) take-overwrite ∙ append_assoc (take at old) new more in
      let len : length (new ++ more) ≡ n + length more = length-append new more ∙ ap (λ k. k + length more) e in
      let back : drop (at + n + length more) now ≡ drop (at + length (new ++ more)) old =
      sym (drop-drop (length more) (at + n) now) ∙ ap (drop (length more)) drop-overwrite ∙ drop-drop (length more) n (drop at old)
      ∙ drop-drop (n + length more) at old ∙ ap (λ k. drop (at + k) old) (sym len) in
      cc

-- a position and those after it
pub overwrite_first : (at : ℕ) (b : Bool) (new old now : List Bool) → at + suc (length new) ≤ length old → now ≡ overwrite (at + 1) new old → set now at b ≡ overwrite at (b ∷ new) old
overwrite_first at b new old now h w =
    let rest = drop (at + 1 + length new) old in
    let w1 : now ≡ take (at + 1) old ++ (new ++ rest) = w ∙ append_assoc (take (at + 1) old) new rest in
    let len : length (take (at + 1) old) ≡ at + 1 = length-take-le (at + 1) old (omega arith) in
    let long : at < length now = omega (arith, ap length w1, length-append (take (at + 1) old) (new ++ rest)) in
    let before : take at now ≡ take at old = ap (take at) w1 ∙ take-append-le at (take (at + 1) old) (new ++ rest) (omega arith) ∙ take-take at (at + 1) old (omega arith) in
    let behind : drop (suc at) now ≡ new ++ rest = ap (drop (suc at)) w1 ∙ drop_at (take (at + 1) old) (new ++ rest) (suc at) (omega arith) in
    let same : drop (at + suc (length new)) old ≡ rest = ap (λ k. drop k old) (omega arith) in
    set_split now at b long ∙ rw (before, behind, same, append_assoc)
