-- Names at the front of some bytes.
use Rattle.std.proofs.Common.{◌≡◌, ℕ, ◌-◌, List, [], ◌∷◌, ◌++◌, length, take, drop, Bool, true, false, ◌==◌, refl, sym, ap, ◌∙◌, append_assoc, arith}
use Rattle.std.proofs.lemmas.Str.{encode_same}
use Rattle.std.proofs.lemmas.List.{append-nil}
use Rattle.std.proofs.lemmas.Bool.{ne_eqb}
use Rattle.std.specs.Prelude.{IsTrue}
use Rattle.std.proofs.lemmas.Str.{is_utf8-from_IsUtf8, IsUtf8-from_is_utf8, encodes-chars, chars-encodes}
use Rattle.std.proofs.lemmas.Bool.{and_parts, and_from}
use Rattle.std.specs.List.{list_all}
use Rattle.std.specs.Str.{chars, is_utf8}
use lib.Utf8.{encode, encodes, scalar, scalars}
use Rattle.pv_chars.specs.Characters.{BeginsWith, BeginsWithNone, AreAll, TakesChars, is_name_start, is_name_char}
use Rattle.pv_chars.specs.Names.{IsName, TakesName, BeginsNoName, are_name_codes, is_name}
use Rattle.pv_chars.proofs.CharacterLemmas.{PassScalars, nothing_begins, same_all, cut_at}
use Rattle.pv_chars.proofs.Ranges.{char_is_scalar, name_char_is_char, name_start_is_name_char}

pub name_chars_are_scalars : PassScalars is_name_char
name_chars_are_scalars c e = char_is_scalar c (name_char_is_char c e)

-- a Name is its first character and the others, and it ends where they end
pub name_by : (bytes others rest : List ℕ) (c : ℕ) → BeginsWith bytes c others →
    is_name_start c ≡ true → TakesChars is_name_char others rest →
    TakesName bytes (take (length bytes - length rest) bytes) (drop (length bytes - length rest) bytes)
name_by bytes others rest c begins start taken =
    let name : IsName (encode c ++ taken.front) = record { first = c; others = taken.front; is_start = start; are_name_chars = taken.are_all; whole = refl } in
    let whole : bytes ≡ (encode c ++ taken.front) ++ rest = begins.whole ∙ ap (λ l. encode c ++ l) taken.whole ∙ sym (append_assoc (encode c) taken.front rest) in
    let cut_units = cut_at bytes (encode c ++ taken.front) rest whole in
    rw (cut_units.0, cut_units.1) record { is_name = name; whole = whole; ends = taken.ends }

pub no_name_by_start : (bytes others : List ℕ) (c : ℕ) → BeginsWith bytes c others → is_name_start c ≡ false → BeginsNoName bytes
no_name_by_start bytes others c begins other name rest is whole =
    let same = (encode_same c is.first others (is.others ++ rest) (sym begins.whole ∙ whole ∙ ap (λ l. l ++ rest) is.whole ∙ append_assoc (encode is.first) is.others rest)).0 in
    let starts : is_name_start c ≡ true = rw same is.is_start in cc

pub no_name_by_none : (bytes : List ℕ) → BeginsWithNone bytes → BeginsNoName bytes
no_name_by_none bytes none name rest is whole =
    none is.first (is.others
    ++ rest) record {
      scalar = name_chars_are_scalars is.first (name_start_is_name_char is.first
          is.is_start);
      whole = whole ∙ ap (λ l. l ++ rest) is.whole
          ∙ append_assoc (encode is.first) is.others rest;
    }

-- A Name as a run of NameChars.
pub name_is_run : (name : List ℕ) → IsName name → AreAll is_name_char name
name_is_run name is =
    let starts = name_start_is_name_char is.first is.is_start in
    let others = is.are_name_chars in
    record { codes = is.first ∷ others.codes; pass = rw starts others.pass; spelled = is.whole ∙ ap (λ l. encode is.first ++ l) others.spelled }

-- the longest Name is one only, and so is the rest
pub same_name : (bytes name rest other more : List ℕ) → TakesName bytes name rest → TakesName bytes other more → (name ≡ other) × (rest ≡ more)
same_name bytes name rest other more a b = same_all is_name_char name other rest more (name_is_run name a.is_name) (name_is_run other b.is_name) a.ends b.ends (sym a.whole ∙ b.whole)

-- bytes are a Name exactly where the longest Name leaves nothing
pub name_is_whole : (bytes name rest : List ℕ) → TakesName bytes name rest → IsName bytes → rest ≡ []
name_is_whole bytes name rest taken is = (same_name bytes name rest bytes [] taken record { is_name = is; whole = sym (append-nil bytes); ends = nothing_begins is_name_char }).1

pub whole_is_name : (bytes name : List ℕ) → TakesName bytes name [] → IsName bytes
whole_is_name bytes name taken = rw (taken.whole, append-nil name) taken.is_name

-- where the bytes are cut as a slice is
pub name_cut : (bytes others rest name more : List ℕ) (c : ℕ) → BeginsWith bytes c others →
    is_name_start c ≡ true → TakesChars is_name_char others rest →
    name ≡ take (length bytes - length rest) bytes →
    more ≡ drop (length bytes - length rest) bytes → TakesName bytes name more
name_cut bytes others rest name more c begins start taken front back = rw (front, back) (name_by bytes others rest c begins start taken)

-- a Name stands at the front and this after it: the bytes are a Name exactly where this is empty
pub name_where_empty : (bytes name rest : List ℕ) (empty : Bool) → TakesName bytes name rest → empty ≡ (length rest == 0) → (IsTrue empty → IsName bytes) × (IsName bytes → IsTrue empty)
name_where_empty bytes name [] empty taken e = ((λ t. whole_is_name bytes name taken), (λ is. e))
name_where_empty bytes name (b ∷ bs) empty taken e =
    let full : (length (b ∷ bs) == 0) ≡ false = ne_eqb (length (b ∷ bs)) 0 (λ none. omega arith) in
    ((λ t. let no : empty ≡ true = t in cc), (λ is. let none = name_is_whole bytes name (b ∷ bs) taken is in cc))

-- ---- the test
scalars_of : (cs : List ℕ) → list_all is_name_char cs ≡ true → scalars cs ≡ true
scalars_of [] all = refl
scalars_of (c ∷ cs) all = let parts = and_parts (is_name_char c) (list_all is_name_char cs) all in and_from (scalar c) (scalars cs) (name_chars_are_scalars c parts.0) (scalars_of cs parts.1)

pub is_name-IsName : (bytes : List ℕ) → IsName bytes → is_name bytes ≡ true
is_name-IsName bytes n =
    let codes = n.first ∷ n.are_name_chars.codes in
    let start = name_start_is_name_char n.first n.is_start in
    let all : scalars codes ≡ true = scalars_of codes (and_from (is_name_char n.first) (list_all is_name_char n.are_name_chars.codes) start n.are_name_chars.pass) in
    let spelled : bytes ≡ encodes codes = n.whole ∙ ap (λ l. encode n.first ++ l) n.are_name_chars.spelled in
    let utf8 : is_utf8 bytes ≡ true = is_utf8-from_IsUtf8 bytes (codes, (all, sym spelled)) in
    let read : chars bytes ≡ codes = ap chars spelled ∙ chars-encodes codes all in
    and_from (is_utf8 bytes) (are_name_codes (chars bytes)) utf8 (ap are_name_codes read
    ∙ and_from (is_name_start n.first) (list_all is_name_char n.are_name_chars.codes) n.is_start
    n.are_name_chars.pass)

name_of_codes : (bytes cs : List ℕ) → bytes ≡ encodes cs → are_name_codes cs ≡ true → IsName bytes
name_of_codes bytes [] e is = cc
name_of_codes bytes (c ∷ cs) e is =
    let parts = and_parts (is_name_start c) (list_all is_name_char cs) is in
    record { first = c; others = encodes cs; is_start = parts.0; are_name_chars = record { codes = cs; pass = parts.1; spelled = refl }; whole = e }

pub IsName-is_name : (bytes : List ℕ) → is_name bytes ≡ true → IsName bytes
IsName-is_name bytes is =
    let parts = and_parts (is_utf8 bytes) (are_name_codes (chars bytes)) is in
    name_of_codes bytes (chars bytes) (sym (encodes-chars bytes (IsUtf8-from_is_utf8 bytes parts.0))) parts.1

-- what is exactly a Name is the test
pub name_test : (bytes : List ℕ) (b : Bool) → (IsTrue b → IsName bytes) × (IsName bytes → IsTrue b) → b ≡ is_name bytes
name_test bytes true exact = sym (is_name-IsName bytes (exact.0 refl))
name_test bytes false exact = by (is_name bytes) refl
  where
    by : (t : Bool) → is_name bytes ≡ t → false ≡ is_name bytes
    by true e = let no_true : false ≡ true = exact.1 (IsName-is_name bytes e) in cc
    by false e = sym e

pub no_name_exact : (bytes : List ℕ) → BeginsNoName bytes → (IsTrue false → IsName bytes) × (IsName bytes → IsTrue false)
no_name_exact bytes none = ((λ t. let no_true : false ≡ true = t in cc), (λ is. absurd (none bytes [] is (sym (append-nil bytes)))))
