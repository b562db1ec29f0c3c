-- White space as characters.
use Rattle.std.proofs.Common.{◌≡◌, ℕ, ◌<◌, List, [], ◌∷◌, ◌++◌, Bool, true, false, refl, ap, ◌∙◌, arith}
use Rattle.std.proofs.lemmas.Bool.{and_parts}
use Rattle.std.proofs.lemmas.Bool.Decides.{nat_tests}
use Rattle.std.proofs.lemmas.Str.{encode_same, encode_ascii}
use Rattle.std.specs.List.{list_all}
use Rattle.pv_chars.specs.Spaces.{is_space, IsSpace, IsOptionalSpace}
use Rattle.pv_chars.specs.Characters.{is_char, is_name_char, IsChars, BeginsNo}
use Rattle.pv_chars.proofs.CharacterLemmas.{AreAll-ascii}

pub space_is_ascii : (b : ℕ) → is_space b ≡ true → b < 128
space_is_ascii b e = grind (arith, nat_tests)

pub space_is_char : (b : ℕ) → is_space b ≡ true → is_char b ≡ true
space_is_char b e = grind (arith, nat_tests)

pub space_in_no_name : (b : ℕ) → is_space b ≡ true → is_name_char b ≡ false
space_in_no_name b e = grind (arith, nat_tests)

pub space_are_chars : (space : List ℕ) → IsOptionalSpace space → IsChars space
space_are_chars space e = AreAll-ascii is_space is_char (λ b white. (space_is_char b white, space_is_ascii b white)) space e

-- a byte of ASCII that doesn't pass begins no character that does
pub ascii_ends : (test : ℕ → Bool) (b : ℕ) (bs : List ℕ) → b < 128 → test b ≡ false → BeginsNo test (b ∷ bs)
ascii_ends test b bs low other c rest pass whole =
    let same = (encode_same b c bs rest (ap (λ l. l ++ bs) (encode_ascii b low) ∙ whole)).0 in
    let passes : test b ≡ true = rw same pass in cc

-- white space ends a name
pub space_ends_name : (space rest : List ℕ) → IsSpace space → BeginsNo is_name_char (space ++ rest)
space_ends_name [] rest s = absurd (s.some refl)
space_ends_name (b ∷ bs) rest s =
    let white = (and_parts (is_space b) (list_all is_space bs) s.space).0 in
    ascii_ends is_name_char b (bs ++ rest) (space_is_ascii b white) (space_in_no_name b white)
