-- Runs of units, as texts.
use Rattle.std.proofs.Common.{◌≡◌, ◌≢◌, ℕ, List, [], ◌∷◌, ◌++◌, true, false, not, append-nil, refl, subst}
use Rattle.std.proofs.lemmas.Bool.{and_parts, not-true}
use Rattle.pv_chars.specs.Texts.{joined, begins_close_mark, holds_close_mark}
use Rattle.pv_chars.specs.Units.{AllUnits}
use Rattle.pv_chars.proofs.MeansLemmas.{AllUnits-append, joined-append}
use Rattle.pv_tree.specs.Attributes.{IsCharacterData, IsKnownReference}
use Rattle.pv_tree.specs.Legal.{is_open}
use Rattle.pv_tree.proofs.CharacterData.{units_are_data}

close_mark_none : (units after : List (List ℕ)) → is_open units after ≡ true → holds_close_mark after ≡ false → holds_close_mark (units ++ after) ≡ false
close_mark_none [] after opens none = none
close_mark_none (unit ∷ units) after opens none =
    let parts = and_parts (not (begins_close_mark (unit ∷ units ++ after))) (is_open units after) opens in
    rw (not-true (begins_close_mark (unit ∷ units ++ after)) parts.0) (close_mark_none units after parts.1 none)

some_append : (units after : List (List ℕ)) → units ≢ [] → units ++ after ≢ []
some_append [] after some = absurd (some refl)
some_append (unit ∷ units) after some = λ e. absurd cc

-- The bytes are a text of these units.
abbrev pub IsRun : List (List ℕ) → List ℕ → Type 0
IsRun units bytes = IsCharacterData IsKnownReference bytes × AllUnits units × (bytes ≡ joined units)

run : (units : List (List ℕ)) → AllUnits units → units ≢ [] → holds_close_mark units ≡ false → IsRun units (joined units)
run units all some none = (units_are_data units all some none, all, refl)

-- these units alone
pub run_alone : (units : List (List ℕ)) → AllUnits units → units ≢ [] → is_open units [] ≡ true → IsRun units (joined units)
run_alone units all some opens = run units all some (rw append-nil at (close_mark_none units [] opens refl))

-- these units, and more after them
pub run_with : (units more : List (List ℕ)) → AllUnits units → units ≢ [] → AllUnits more →
    is_open units more ≡ true → holds_close_mark more ≡ false → IsRun (units ++ more) (joined units
    ++ joined more)
run_with units more all some all_more opens none =
    subst (IsRun (units ++ more)) (joined-append units more) (run (units ++ more) (AllUnits-append units more all all_more) (some_append units more some) (close_mark_none units more opens none))
