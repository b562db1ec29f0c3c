-- Bytes cut in two before the first of a byte, and characters that stand for themselves.
use Rattle.std.proofs.Common.{◌≡◌, ◌<◌, ℕ, inl, inr, List, [], ◌∷◌, ◌++◌, Bool, true, false, ◌&&◌, ◌==◌, not, length, take, drop, refl, sym, ap, subst, ◌∙◌, arith}
use Rattle.std.proofs.lemmas.Bool.{and_parts, and_from, ne_eqb, ltb-true}
use Rattle.std.proofs.lemmas.List.{append-nil, take-append-drop}
use Rattle.std.proofs.Common.{take_all}
use Rattle.std.proofs.lemmas.Str.{encode_ascii}
use Rattle.std.specs.Prelude.{IsTrue, nat_lt}
use Rattle.std.specs.List.{list_all}
use lib.Utf8.{encode, encodes}
use Rattle.memchr.specs.Find.{is_byte, Passes, Nowhere, NoneBefore}
use Rattle.pv_chars.specs.Characters.{is_char, AreAll, IsChars}
use Rattle.pv_chars.specs.Fronts.{ContainsBytes}
use Rattle.pv_chars.specs.Units.{is_literal, is_simple}
use Rattle.pv_chars.proofs.CharacterLemmas.{AreAll-ascii}
use Rattle.pv_chars.proofs.MarkupLemmas.{behind, none_before_end}
use Rattle.pv_chars.proofs.DelimiterPlaces.{byte_ends, byte_nowhere}
use Rattle.pv_read.specs.Takes.{IsCutBefore}
use Rattle.pv_read.proofs.AbsentBytes.{has_no, by_holds, not_behind, holds_not, parts_have_no}
use Rattle.pv_read.proofs.AbsentBytes.{all_have_no}

pub cut_found : (byte : ℕ) (bytes before found : List ℕ) (k : ℕ) → Passes (is_byte byte) bytes k →
    NoneBefore (Passes (is_byte byte) bytes) 0 (length bytes) k → before ≡ take k bytes →
    found ≡ drop k bytes → IsCutBefore byte bytes before found
cut_found byte bytes before found k passes none front back =
    let ends = byte_ends byte bytes before found (drop 1 found) k passes none front back refl in
    let whole : bytes ≡ before ++ found = sym (take-append-drop k bytes) ∙ ap (λ l. l ++ drop k bytes) (sym front) ∙ ap (λ l. before ++ l) (sym back) in
    record {
      whole = whole;
      free = none_before_end (byte ∷ []) bytes before (drop 1 found)
          (omega arith) ends;
      ends =
          inr (drop 1 found, behind before found (byte ∷ drop 1 found) (sym whole ∙ ends.whole));
    }

pub cut_nowhere : (byte : ℕ) (bytes before rest : List ℕ) → Nowhere (Passes (is_byte byte) bytes) 0
    (length bytes) → before ≡ take (length bytes) bytes → rest ≡ drop (length bytes) bytes →
    IsCutBefore byte bytes before rest
cut_nowhere byte bytes before rest none front back =
    let all : before ≡ bytes = front ∙ take_all (length bytes) bytes (omega arith) in
    let whole : bytes ≡ before ++ rest = sym (take-append-drop (length bytes) bytes) ∙ ap (λ l. l ++ drop (length bytes) bytes) (sym front) ∙ ap (λ l. before ++ l) (sym back) in
    let nothing : rest ≡ [] = behind before rest [] (sym whole ∙ sym all ∙ sym (append-nil before)) in
    record { whole = whole; free = λ h. byte_nowhere byte bytes none (let Q : List ℕ → Type 0 = λ l. ContainsBytes l (byte ∷ []) in subst Q all h); ends = inl nothing }

-- ---- Chars other than `<` and `&`
literals_of : (cs : List ℕ) → list_all is_char cs ≡ true → has_no 60 (encodes cs) ≡ true → has_no 38 (encodes cs) ≡ true → list_all is_literal cs ≡ true
literals_of [] chars less ampersand = refl
literals_of (c ∷ cs) chars less ampersand =
    let parts = and_parts (is_char c) (list_all is_char cs) chars in
    let no_less = parts_have_no 60 (encode c) (encodes cs) less in
    let no_ampersand = parts_have_no 38 (encode c) (encodes cs) ampersand in
    and_from (is_literal c) (list_all is_literal cs)
    (rw (parts.0, ne_eqb c 60 (is_other 60 (encode_ascii 60 (omega arith)) no_less.0), ne_eqb c 38 (is_other 38 (encode_ascii 38 (omega arith)) no_ampersand.0)) refl)
    (literals_of cs parts.1 no_less.1 no_ampersand.1)
  where
    is_other : (b : ℕ) → encode b ≡ b ∷ [] → has_no b (encode c) ≡ true → c ≡ b → ⊥
    is_other b one free e = not_behind b [] [] (let Q : ℕ → Type 0 = λ y. has_no b (encode y) ≡ true in let R : List ℕ → Type 0 = λ l. has_no b l ≡ true in subst R one (subst Q e free))

chars_of : (cs : List ℕ) → list_all is_literal cs ≡ true → list_all is_char cs ≡ true
chars_of [] all = refl
chars_of (c ∷ cs) all =
    let parts = and_parts (is_literal c) (list_all is_literal cs) all in
    and_from (is_char c) (list_all is_char cs) (and_parts (is_char c) (not (c == 60)) (and_parts (is_char c && not (c == 60)) (not (c == 38)) parts.0).0).0 (chars_of cs parts.1)

pub literals_are_chars : (bytes : List ℕ) → AreAll is_literal bytes → IsChars bytes
literals_are_chars bytes all = record { codes = all.codes; pass = chars_of all.codes all.pass; spelled = all.spelled }

-- where neither `<` nor `&` is among them
pub literals_where : (bytes : List ℕ) (chars : Bool) → (ContainsBytes bytes (60 ∷ []) → ⊥) →
    (ContainsBytes bytes (38 ∷ []) → ⊥) → (IsTrue chars → IsChars bytes) × (IsChars bytes →
    IsTrue chars) → (IsTrue chars → AreAll is_literal bytes) × (AreAll is_literal bytes → IsTrue chars)
literals_where bytes chars less ampersand tells = (
  (λ t. let all = tells.0 t in
      let spelled = all.spelled in
      let Q : ℕ → List ℕ → Type 0 = λ b l. has_no b l ≡ true in
      record {
        codes = all.codes;
        pass = literals_of all.codes all.pass
            (subst (λ (l : List ℕ). Q 60 l) spelled (by_holds 60 bytes less))
            (subst (λ (l : List ℕ). Q 38 l) spelled (by_holds 38 bytes ampersand));
        spelled = spelled;
      }),
  (λ all. tells.1 (literals_are_chars bytes all)),
)

-- where `<` is
pub not_literals : (bytes : List ℕ) → ContainsBytes bytes (60 ∷ []) → (IsTrue false → AreAll is_literal bytes) × (AreAll is_literal bytes → IsTrue false)
not_literals bytes holds = ((λ t. let no : false ≡ true = t in cc), (λ all. absurd (holds_not 60 bytes (all_have_no is_literal 60 bytes (omega arith) refl all) holds)))

pub holds_found : (byte : ℕ) (bytes : List ℕ) (k : ℕ) → Passes (is_byte byte) bytes k → NoneBefore (Passes (is_byte byte) bytes) 0 (length bytes) k → ContainsBytes bytes (byte ∷ [])
holds_found byte bytes k passes none =
    let ends = byte_ends byte bytes (take k bytes) (drop k bytes) (drop 1 (drop k bytes)) k passes none refl refl refl in
    record { before = take k bytes; after = drop 1 (drop k bytes); whole = ends.whole }

-- ---- bytes of ASCII that stand for themselves
literal_and_low : (b : ℕ) → is_simple b ≡ true → (is_literal b ≡ true) × (b < 128)
literal_and_low b e =
    let both = and_parts (is_literal b) (nat_lt b 128) (and_parts (is_literal b && nat_lt b 128) (not (b == 62)) e).0 in
    (both.0, ltb-true b 128 both.1)

pub simple_literals : (bytes : List ℕ) → list_all is_simple bytes ≡ true → AreAll is_literal bytes
simple_literals bytes e = AreAll-ascii is_simple is_literal literal_and_low bytes e
