-- Command lines of two words, of four and of five.
use Rattle.std.proofs.Common.{◌≡◌, ℕ, ◌<◌, ◌≤◌, List, [], ◌∷◌, length, get_or, Option, Some, None}
use Rattle.std.proofs.Common.{option_map, true, false, codes, refl, arith}
use Rattle.std.specs.Str.{bytes_eq}
use Rattle.pv_chars.specs.Names.{is_name}
use Rattle.pv_cli.specs.CommandLine.{checker_of, command_line_of, drill, drill_size, on_certificate}
use Rattle.pv_cli.specs.CommandLine.{on_document, on_dtd, on_ranges, verb_of}
use Rattle.pv_cli.specs.declared.checker.Checker.{Checker}
use Rattle.pv_cli.specs.declared.verb.Verb.{Verb}

pub five : {A : Type 0} (xs : List A) (a b c d e : A) → 5 ≤ length xs → length xs < 6 →
    a ≡ get_or xs 0 a → b ≡ get_or xs 1 b → c ≡ get_or xs 2 c → d ≡ get_or xs 3 d →
    e ≡ get_or xs 4 e → xs ≡ a ∷ b ∷ c ∷ d ∷ e ∷ []
five [] a b c d e more less p q r s t = absurd (omega arith)
five (x ∷ []) a b c d e more less p q r s t = absurd (omega arith)
five (x ∷ y ∷ []) a b c d e more less p q r s t = absurd (omega arith)
five (x ∷ y ∷ z ∷ []) a b c d e more less p q r s t = absurd (omega arith)
five (x ∷ y ∷ z ∷ w ∷ []) a b c d e more less p q r s t = absurd (omega arith)
five (x ∷ y ∷ z ∷ w ∷ v ∷ []) a b c d e more less p q r s t = cc
five (x ∷ y ∷ z ∷ w ∷ v ∷ u ∷ us) a b c d e more less p q r s t = absurd (omega arith)

pub two : {A : Type 0} (xs : List A) (a b : A) → 2 ≤ length xs → length xs < 3 → a ≡ get_or xs 0 a →
    b ≡ get_or xs 1 b → xs ≡ a ∷ b ∷ []
two [] a b more less p q = absurd (omega arith)
two (x ∷ []) a b more less p q = absurd (omega arith)
two (x ∷ y ∷ []) a b more less p q = cc
two (x ∷ y ∷ z ∷ zs) a b more less p q = absurd (omega arith)

pub of_no_line : (words : List (List ℕ)) → (length words ≡ 2 → ⊥) → (length words ≡ 4 → ⊥) →
    (length words ≡ 5 → ⊥) → command_line_of words ≡ None
unfolding command_line_of
of_no_line [] two four five = refl
of_no_line (x ∷ []) two four five = refl
of_no_line (x ∷ y ∷ []) two four five = absurd (two refl)
of_no_line (x ∷ y ∷ z ∷ []) two four five = refl
of_no_line (x ∷ y ∷ z ∷ w ∷ []) two four five = absurd (four refl)
of_no_line (x ∷ y ∷ z ∷ w ∷ v ∷ []) two four five = absurd (five refl)
of_no_line (x ∷ y ∷ z ∷ w ∷ v ∷ u ∷ us) two four five = refl

pub dtd_words : (command dtd : List ℕ) → bytes_eq command (codes "dtd") ≡ true →
    command_line_of (command ∷ dtd ∷ []) ≡ Some (on_dtd dtd)
unfolding command_line_of
dtd_words command dtd is = rw is refl

pub drill_words : (command word : List ℕ) → bytes_eq command (codes "dtd") ≡ false →
    bytes_eq command (codes "drill") ≡ true →
    command_line_of (command ∷ word ∷ []) ≡ option_map drill (drill_size word)
unfolding command_line_of
drill_words command word other is = rw (other, is) refl

pub other_two : (command word : List ℕ) → bytes_eq command (codes "dtd") ≡ false →
    bytes_eq command (codes "drill") ≡ false → command_line_of (command ∷ word ∷ []) ≡ None
unfolding command_line_of
other_two command word other another = rw (other, another) refl

pub verb_words : (command dtd root doc : List ℕ) (verb : Option Verb) → is_name root ≡ true →
    verb ≡ verb_of command →
    command_line_of (command ∷ dtd ∷ root ∷ doc ∷ []) ≡ option_map (λ v. on_document v dtd root doc)
    verb
unfolding command_line_of
verb_words command dtd root doc verb named is = rw (named, is) refl

pub other_root : (command dtd root doc : List ℕ) → is_name root ≡ false →
    command_line_of (command ∷ dtd ∷ root ∷ doc ∷ []) ≡ None
unfolding command_line_of
other_root command dtd root doc named = rw named refl

pub standoff_words : (command dtd root text ranges : List ℕ) → is_name root ≡ true →
    bytes_eq command (codes "standoff") ≡ true →
    command_line_of (command ∷ dtd ∷ root ∷ text ∷ ranges ∷ []) ≡ Some
    (on_ranges dtd root text ranges)
unfolding command_line_of
standoff_words command dtd root text ranges named is = rw (named, is) refl

pub checker_words : (command dtd root doc file : List ℕ) (checker : Option Checker) →
    is_name root ≡ true → bytes_eq command (codes "standoff") ≡ false →
    checker ≡ checker_of command →
    command_line_of (command ∷ dtd ∷ root ∷ doc ∷ file ∷ []) ≡ option_map
    (λ c. on_certificate c dtd root doc file) checker
unfolding command_line_of
checker_words command dtd root doc file checker named other is = rw (named, other, is) refl

pub other_root_of_five : (command dtd root doc file : List ℕ) → is_name root ≡ false →
    command_line_of (command ∷ dtd ∷ root ∷ doc ∷ file ∷ []) ≡ None
unfolding command_line_of
other_root_of_five command dtd root doc file named = rw named refl
