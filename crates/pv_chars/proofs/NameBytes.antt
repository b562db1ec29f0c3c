-- Names at the front of a text, and the bytes that may stand in a name.
use Rattle.std.proofs.Common.{◌≡◌, ◌≢◌, ◌≤◌, ◌<◌, ◌⊎◌, inl, inr, ℕ, zero, suc, ◌+◌, ◌/◌, List, [], ◌∷◌, ◌++◌, length, Bool, true, false, ◌==◌, ◌||◌}
use Rattle.std.proofs.Common.{◌&&◌, not, cond, subst, Option, Some, None, refl, sym, ap, ◌∙◌, append_assoc, length-append, arith}
use Rattle.std.specs.Prelude.{nat_le}
use Rattle.std.specs.List.{list_all, range_with_len}
use Rattle.std.proofs.lemmas.Bool.{and_parts, and_from, cases_lt, lt-ltb, le-ltb, le-leb, or_right}
use Rattle.std.proofs.lemmas.Bool.Decides.{Decides-eqb}
use Rattle.std.proofs.lemmas.List.Folds.{list_all-append}
use Rattle.std.proofs.lemmas.Str.{len_utf8_bounds, length-encode}
use lib.Utf8.{encode, encodes, next}
use Rattle.pv_chars.specs.Spaces.{is_space, IsOptionalSpace}
use Rattle.pv_chars.specs.Characters.{is_name_start, is_name_char, BeginsWith, BeginsNo, TakesChars}
use Rattle.pv_chars.specs.Names.{IsName, TakesName, BeginsNoName}
use Rattle.pv_chars.specs.Scan.{after_bytes}
use Rattle.pv_chars.specs.Utf8.{char_at}
use Rattle.pv_chars.proofs.TextScans.{begins, chosen}
use Rattle.pv_chars.proofs.Beginnings.{HasNoSpace, no_space}
use Rattle.pv_chars.proofs.Utf8Lemmas.{char_at_takes, char_at-encode, begins_shorter}
use Rattle.pv_chars.proofs.CharacterLemmas.{PassScalars, none_in_nothing, AreAll-append, AreAll-one, ends_at_other, ends_at_none, nothing_begins}
use Rattle.pv_chars.proofs.NameLemmas.{name_chars_are_scalars, name_is_run, same_name}
use Rattle.pv_chars.proofs.NameLemmas.{name_by as takes_by, no_name_by_start, no_name_by_none}
use Rattle.pv_chars.specs.CharReading.{behind_char, behind_all, name_by, name_at}
use Rattle.pv_chars.proofs.ReaderSteps.{same_some}

-- what may stand in a name in ASCII, and all bytes beyond
abbrev pub is_name_byte : ℕ → Bool
is_name_byte b = (nat_le 97 b && nat_le b 122) || (nat_le 65 b && nat_le b 90) || (nat_le 48 b && nat_le b 58) || (b == 95) || (b == 45) || (b == 46) || nat_le 128 b

-- what holds along a range
from_range : (p : ℕ → Bool) (n a : ℕ) → list_all p (range_with_len a n) ≡ true → (i : ℕ) → i < n → p (a + i) ≡ true
from_range p zero a all i less = absurd (omega arith)
from_range p (suc n) a all zero less = ap p (omega arith) ∙ (and_parts (p a) (list_all p (range_with_len (a + 1) n)) all).0
from_range p (suc n) a all (suc i) less = ap p (omega arith) ∙ from_range p n (a + 1) (and_parts (p a) (list_all p (range_with_len (a + 1) n)) all).1 i (omega arith)

either_way : (a b : Bool) → (not a || b) ≡ true → a ≡ true → b ≡ true
either_way true b e f = e
either_way false b e f = cc

in_ascii : (c : ℕ) → c < 128 → is_name_char c ≡ true → is_name_byte c ≡ true
in_ascii c less named =
    let table : list_all (λ d. not (is_name_char d) || is_name_byte d) (range_with_len 0 128) ≡ true = refl in
    let same : c ≡ 0 + c = omega arith in
    let at : (not (is_name_char c) || is_name_byte c) ≡ true = ap (λ d. not (is_name_char d) || is_name_byte d) same ∙ from_range (λ d. not (is_name_char d) || is_name_byte d) 128 0 table c less in
    either_way (is_name_char c) (is_name_byte c) at named

two_bytes : (c : ℕ) → 128 ≤ c → c < 2048 → encode c ≡ (192 + c / 64) ∷ next c ∷ []
unfolding encode
two_bytes c l h = rw (le-ltb c 128 l, lt-ltb c 2048 h) refl

three_bytes : (c : ℕ) → 128 ≤ c → 2048 ≤ c → c < 65536 → encode c ≡ (224 + c / 4096) ∷ next (c / 64) ∷ next c ∷ []
unfolding encode
three_bytes c k l h = rw (le-ltb c 128 k, le-ltb c 2048 l, lt-ltb c 65536 h) refl

four_bytes : (c : ℕ) → 128 ≤ c → 2048 ≤ c → 65536 ≤ c → encode c ≡ (240 + c / 262144) ∷ next (c / 4096) ∷ next (c / 64) ∷ next c ∷ []
unfolding encode
four_bytes c k l h = rw (le-ltb c 128 k, le-ltb c 2048 l, le-ltb c 65536 h) refl

pub one_byte : (c : ℕ) → c < 128 → encode c ≡ c ∷ []
unfolding encode
one_byte c h = rw (lt-ltb c 128 h) refl

-- the bytes of a character beyond ASCII are beyond ASCII
high : (b : ℕ) → 128 ≤ b → is_name_byte b ≡ true
high b l = or_right _ (nat_le 128 b) (le-leb 128 b l)

high_bytes : (c : ℕ) → 128 ≤ c → list_all is_name_byte (encode c) ≡ true
high_bytes c k = by (cases_lt c 2048) (cases_lt c 65536)
  where
    by : (c < 2048) ⊎ (2048 ≤ c) → (c < 65536) ⊎ (65536 ≤ c) → list_all is_name_byte (encode c) ≡ true
    by (inl h) _ = rw (two_bytes c k h, high (192 + c / 64) (omega arith), high (next c) (omega arith)) refl
    by (inr l) (inl h) = rw (three_bytes c k l h, high (224 + c / 4096) (omega arith), high (next (c / 64)) (omega arith), high (next c) (omega arith)) refl
    by (inr l) (inr m) = rw (four_bytes c k l m, high (240 + c / 262144) (omega arith), high (next (c / 4096)) (omega arith), high (next (c / 64)) (omega arith), high (next c) (omega arith)) refl

char_bytes : (c : ℕ) → is_name_char c ≡ true → list_all is_name_byte (encode c) ≡ true
char_bytes c named = by (cases_lt c 128)
  where
    by : (c < 128) ⊎ (128 ≤ c) → list_all is_name_byte (encode c) ≡ true
    by (inl h) = rw (one_byte c h, in_ascii c h named) refl
    by (inr l) = high_bytes c l

run_bytes : (cs : List ℕ) → list_all is_name_char cs ≡ true → list_all is_name_byte (encodes cs) ≡ true
run_bytes [] all = refl
run_bytes (c ∷ cs) all =
    let here = and_parts (is_name_char c) (list_all is_name_char cs) all in
    list_all-append is_name_byte (encode c) (encodes cs) ∙ and_from _ _ (char_bytes c here.0) (run_bytes cs here.1)

pub name_bytes : (name : List ℕ) → IsName name → list_all is_name_byte name ≡ true
name_bytes name is = let run = name_is_run name is in ap (list_all is_name_byte) run.spelled ∙ run_bytes run.codes run.pass

-- white space passes a test that its four bytes pass
not_not : (test : Bool) → not test ≡ false → test ≡ true
not_not true e = refl
not_not false e = sym e

pub space_passes : (p : ℕ → Bool) → HasNoSpace (λ b. not (p b)) → (space : List ℕ) → IsOptionalSpace space → list_all p space ≡ true
space_passes p four [] s = refl
space_passes p four (b ∷ bs) s =
    let here = and_parts (is_space b) (list_all is_space bs) s in
    rw (not_not (p b) (no_space (λ c. not (p c)) four b here.0)) (space_passes p four bs here.1)

-- and a name one that the bytes of names pass
bytes_pass : (p : ℕ → Bool) → ((b : ℕ) → is_name_byte b ≡ true → p b ≡ true) → (name : List ℕ) → list_all is_name_byte name ≡ true → list_all p name ≡ true
bytes_pass p each [] e = refl
bytes_pass p each (b ∷ bs) e =
    let here = and_parts (is_name_byte b) (list_all is_name_byte bs) e in
    rw (each b here.0) (bytes_pass p each bs here.1)

pub name_passes : (p : ℕ → Bool) → ((b : ℕ) → is_name_byte b ≡ true → p b ≡ true) → (name : List ℕ) → IsName name → list_all p name ≡ true
name_passes p each name is = bytes_pass p each name (name_bytes name is)

encode_some : (c : ℕ) (rest : List ℕ) → encode c ++ rest ≢ []
encode_some c rest e = let long = (len_utf8_bounds c).0 in omega (arith, ap length e, length-append (encode c) rest, length-encode c)

pub name_some : (name : List ℕ) → IsName name → name ≢ []
name_some name is e = encode_some is.first is.others (sym is.whole ∙ e)

-- no name goes on where no such byte stands in front
no_name_char : (rest : List ℕ) → begins is_name_byte rest ≡ false → BeginsNo is_name_char rest
no_name_char rest ends c more pass whole = by (encode c) refl (char_bytes c pass)
  where
    by : (bytes : List ℕ) → encode c ≡ bytes → list_all is_name_byte bytes ≡ true → ⊥
    by [] is all = encode_some c [] (rw is refl)
    by (b ∷ bs) is all =
        let here = and_parts (is_name_byte b) (list_all is_name_byte bs) all in
        let front : rest ≡ b ∷ (bs ++ more) = rw is at whole in
        let no : is_name_byte b ≡ false = rw front at ends in
        cc

-- what stands after all characters that pass
behind_by : (test : ℕ → Bool) → PassScalars test → (bytes : List ℕ) (more : List ℕ →
    List ℕ) (o : Option (ℕ × List ℕ)) → char_at bytes ≡ o → ((c : ℕ) (rest : List ℕ) →
    length rest < length bytes → TakesChars test rest (more rest)) →
    TakesChars test bytes (behind_char test more bytes o)
behind_by test scalars bytes more None is below =
    record {
      front = [];
      are_all = none_in_nothing test;
      whole = refl;
      ends = ends_at_none test bytes scalars
          (λ c rest b. let some = char_at-encode c rest b.scalar in let at = ap char_at b.whole in cc);
    }
behind_by test scalars bytes more (Some x) is below = passes (test x.0) refl
  where
    begun : BeginsWith bytes x.0 x.1
    begun = char_at_takes bytes x.0 x.1 is

    passes : (pass : Bool) → test x.0 ≡ pass → TakesChars test bytes (cond pass (more x.1) bytes)
    passes true p =
        let others = below x.0 x.1 (begins_shorter bytes x.0 x.1 begun) in
        record {
          front = encode x.0 ++ others.front;
          are_all = AreAll-append test (encode x.0) others.front (AreAll-one test x.0 p) others.are_all;
          whole = begun.whole ∙ ap (λ l. encode x.0 ++ l) others.whole ∙ sym (append_assoc (encode x.0) others.front (more x.1));
          ends = others.ends;
        }
    passes false p = record { front = []; are_all = none_in_nothing test; whole = refl; ends = ends_at_other test bytes x.1 x.0 begun p }

pub behind_all_takes : (test : ℕ → Bool) → PassScalars test → (steps : ℕ) (bytes : List ℕ) → length bytes ≤ steps → TakesChars test bytes (behind_all test steps bytes)
unfolding behind_all
behind_all_takes test scalars zero [] few = record { front = []; are_all = none_in_nothing test; whole = refl; ends = nothing_begins test }
behind_all_takes test scalars zero (b ∷ bs) few = absurd (omega arith)
behind_all_takes test scalars (suc steps) bytes few = behind_by test scalars bytes (behind_all test steps) (char_at bytes) refl (λ c rest less. behind_all_takes test scalars steps rest (omega arith))

-- what is read as a name is the longest one
found_by : (bytes : List ℕ) (o : Option (ℕ × List ℕ)) → char_at bytes ≡ o → (r : List ℕ × List ℕ) → name_by bytes o ≡ Some r → TakesName bytes r.0 r.1
found_by bytes None is r e = cc
found_by bytes (Some x) is r e =
    let start = chosen (is_name_start x.0) _ r e in
    let takes = takes_by bytes x.1 (behind_all is_name_char (length x.1) x.1) x.0
    (char_at_takes bytes x.0 x.1 is) start.0 (behind_all_takes is_name_char
    name_chars_are_scalars (length x.1) x.1 (omega arith)) in
    subst (λ (p : List ℕ × List ℕ). TakesName bytes p.0 p.1) (same_some _ _ start.1) takes

pub name_at_takes : (bytes name rest : List ℕ) → name_at bytes ≡ Some (name, rest) → TakesName bytes name rest
unfolding name_at
name_at_takes bytes name rest e = found_by bytes (char_at bytes) refl (name, rest) e

none_by : (bytes : List ℕ) (o : Option (ℕ × List ℕ)) → char_at bytes ≡ o → name_by bytes o ≡ None → BeginsNoName bytes
none_by bytes None is e = no_name_by_none bytes (λ c rest b. let some = char_at-encode c rest b.scalar in let at = ap char_at b.whole in cc)
none_by bytes (Some x) is e = no_name_by_start bytes x.1 x.0 (char_at_takes bytes x.0 x.1 is) (by (is_name_start x.0) _ e)
  where
    by : (start : Bool) (y : List ℕ × List ℕ) → cond start (Some y) None ≡ None → start ≡ false
    by true y e = cc
    by false y e = refl

pub no_name : (bytes : List ℕ) → name_at bytes ≡ None → BeginsNoName bytes
unfolding name_at
no_name bytes e = none_by bytes (char_at bytes) refl e

-- and the longest one is read
pub taken_is_read : (bytes name rest : List ℕ) → TakesName bytes name rest → name_at bytes ≡ Some (name, rest)
taken_is_read bytes name rest takes = by (name_at bytes) refl
  where
    by : (o : Option (List ℕ × List ℕ)) → name_at bytes ≡ o → o ≡ Some (name, rest)
    by None is = absurd (no_name bytes is name rest takes.is_name takes.whole)
    by (Some r) is = let same = same_name bytes r.0 r.1 name rest (name_at_takes bytes r.0 r.1 is) takes in ap Some (ap (λ n. (n, r.1)) same.0 ∙ ap (λ t. (name, t)) same.1)

pub none_is_read : (bytes : List ℕ) → BeginsNoName bytes → name_at bytes ≡ None
none_is_read bytes none = by (name_at bytes) refl
  where
    by : (o : Option (List ℕ × List ℕ)) → name_at bytes ≡ o → o ≡ None
    by None is = refl
    by (Some r) is = let takes = name_at_takes bytes r.0 r.1 is in absurd (none r.0 r.1 takes.is_name takes.whole)

pub name_at-append : (name rest : List ℕ) → IsName name → begins is_name_byte rest ≡ false → name_at (name ++ rest) ≡ Some (name, rest)
name_at-append name rest is ends = taken_is_read (name ++ rest) name rest record { is_name = is; whole = refl; ends = no_name_char rest ends }

pub names_have_no_space : HasNoSpace is_name_byte
names_have_no_space = record { space = refl; tab = refl; return = refl; feed = refl }

-- what is no byte of a name doesn't begin one
begins_by : (b : ℕ) (white : Bool) → is_space b ≡ white → is_name_byte b ≡ true → white ≡ false
begins_by b true is named = let no = no_space is_name_byte names_have_no_space b is in cc
begins_by b false is named = refl

first_byte : (b : ℕ) (bs : List ℕ) → IsName (b ∷ bs) → is_name_byte b ≡ true
first_byte b bs is = (and_parts (is_name_byte b) (list_all is_name_byte bs) (name_bytes (b ∷ bs) is)).0

pub name_begins : (name rest : List ℕ) → IsName name → begins is_space (name ++ rest) ≡ false
name_begins [] rest is = absurd (name_some [] is refl)
name_begins (b ∷ bs) rest is = begins_by b (is_space b) refl (first_byte b bs is)

not_after_by : (front b : ℕ) (more bs : List ℕ) (same : Bool) → (front == b) ≡ same → is_name_byte front ≡ false → is_name_byte b ≡ true → cond same (after_bytes more bs) None ≡ None
not_after_by front b more bs true is other named = let at = ap is_name_byte ((Decides-eqb front b).0 is) in cc
not_after_by front b more bs false is other named = refl

pub name_not_after : (front : ℕ) (more name rest : List ℕ) → is_name_byte front ≡ false → IsName name → after_bytes (front ∷ more) (name ++ rest) ≡ None
name_not_after front more [] rest other is = absurd (name_some [] is refl)
name_not_after front more (b ∷ bs) rest other is = not_after_by front b more (bs ++ rest) (front == b) refl other (first_byte b bs is)
