-- Units, read from the front: at most one stands there, and none where a fault does.
use Rattle.std.proofs.Common.{◌≡◌, ◌≢◌, ℕ, ◌<◌, ◌≤◌, ◌⊎◌, inl, inr, ⊎_elim, List, [], ◌∷◌, ◌++◌, true, false, ◌&&◌, ◌==◌, not, length, take, refl}
use Rattle.std.proofs.Common.{sym, ap, subst, ◌∙◌, arith, append_assoc, length-append}
use Rattle.std.proofs.lemmas.Bool.{and_parts}
use Rattle.std.proofs.lemmas.List.{take_at}
use Rattle.std.proofs.lemmas.Str.{encode_same, encode_ascii}
use Rattle.std.specs.Prelude.{codes}
use Rattle.std.specs.List.{list_all}
use Rattle.std.specs.Char.{is_digit}
use lib.Utf8.{encode}
use Rattle.pv_chars.specs.Characters.{is_char, is_name_start, BeginsNo}
use Rattle.pv_chars.specs.Fronts.{BeginsNone}
use Rattle.pv_chars.specs.References.{IsCharRefIn, IsCharRef, IsEntityRef, IsPredefined, IsReference, BeginsNoEntityRef}
use Rattle.pv_chars.specs.Units.{is_literal, IsLiteral, IsPredefinedRef, IsUnit, BeginsCloseMark, BeginsOtherEntity, BeginsBadReference, BeginsBadChar, HasTextFault, HasUnitFault, BeginsUnit}
use Rattle.pv_chars.specs.declared.errors.TextError.{TextError}
use Rattle.pv_chars.specs.declared.errors.TextError.TheVariants.{Empty, BadChar, BadReference, Entity, CloseMark, NoMemory}
use Rattle.pv_chars.proofs.CharacterLemmas.{nothing_begins}
use Rattle.pv_chars.proofs.MarkupLemmas.{behind}
use Rattle.pv_chars.proofs.ReferenceLemmas.{same_digits_by, semicolon_ends, same_entity_ref}

pub no_reference : (bytes : List ℕ) → BeginsNone IsCharRef bytes → BeginsNoEntityRef bytes → BeginsNone IsReference bytes
no_reference bytes none_char none_entity rest b =
    ⊎_elim (λ is. none_char rest record { item = b.item; is_item = is; whole = b.whole })
    (λ is. none_entity is.0 rest record { item = b.item; is_item = is.1; whole = b.whole }) b.is_item

-- what stands before one end is one only
pub before : (a b end : List ℕ) → a ++ end ≡ b ++ end → a ≡ b
before a b end e =
    let long : length a ≡ length b = omega (arith, ap length e, length-append a end, length-append b end) in
    sym (take_at a end (length a) refl) ∙ ap (take (length a)) e ∙ take_at b end (length a) (sym long)

-- ---- the first byte of a unit
abbrev pub StartsWith : ℕ → List ℕ → Type 0
StartsWith b bytes = (more : List ℕ) × (bytes ≡ b ∷ more)

one_start : (a b : ℕ) (bytes : List ℕ) → (a ≡ b → ⊥) → StartsWith a bytes → StartsWith b bytes → ⊥
one_start a b bytes other s t = let e = s.1 in let f = t.1 in other cc

-- a character of ASCII that begins bytes in UTF-8 is their first byte
code_at_start : (c b : ℕ) (more bytes rest : List ℕ) → b < 128 → bytes ≡ encode c ++ more → bytes ≡ b ∷ rest → c ≡ b
code_at_start c b more bytes rest low e f = (encode_same c b more rest (sym e ∙ f ∙ ap (λ l. l ++ rest) (sym (encode_ascii b low)))).0

literal_is_other : (c b : ℕ) → is_literal c ≡ true → is_literal b ≡ false → c ≡ b → ⊥
literal_is_other c b literal other same = let is : is_literal b ≡ true = let P : ℕ → Type 0 = λ k. is_literal k ≡ true in subst P same literal in cc

literal_start : (bytes u more : List ℕ) (b : ℕ) → b < 128 → is_literal b ≡ false → IsLiteral u → bytes ≡ u ++ more → StartsWith b bytes → ⊥
literal_start bytes u more b low other is e s = literal_is_other is.code b is.is_literal other (code_at_start is.code b more bytes s.0 low (e ∙ ap (λ l. l ++ more) is.whole) s.1)

ref_start : (base : ℕ) (front bytes u more : List ℕ) → IsCharRefIn base (38 ∷ front) u → bytes ≡ u ++ more → StartsWith 38 bytes
ref_start base front bytes u more is e = (_, e ∙ ap (λ l. l ++ more) is.whole)

pub char_ref_start : (bytes u more : List ℕ) → IsCharRef u → bytes ≡ u ++ more → StartsWith 38 bytes
char_ref_start bytes u more (inl is) e = ref_start 10 (35 ∷ []) bytes u more is e
char_ref_start bytes u more (inr is) e = ref_start 16 (35 ∷ 120 ∷ []) bytes u more is e

pub entity_start : (bytes u more name : List ℕ) → IsEntityRef name u → bytes ≡ u ++ more → StartsWith 38 bytes
entity_start bytes u more name is e = (_, e ∙ ap (λ l. l ++ more) is.whole)

-- a reference by a name isn't one by digits
pub name_not_hash : (bytes u more name rest : List ℕ) → IsEntityRef name u → bytes ≡ u ++ more → bytes ≡ 38 ∷ 35 ∷ rest → ⊥
name_not_hash bytes u more name rest is e f =
    let n = is.is_name in
    let within : (name ++ codes ";") ++ more ≡ 35 ∷ rest = behind (codes "&") ((name ++ codes ";")
    ++ more) (35 ∷ rest) (sym (append_assoc (codes "&") (name ++ codes ";") more)
    ∙ ap (λ l. l ++ more) (sym is.whole) ∙ sym e ∙ f) in
    let start : 35 ∷ rest ≡ encode n.first ++ ((n.others ++ codes ";") ++ more) = sym within ∙ ap (λ l. (l ++ codes ";") ++ more) n.whole ∙ simp append_assoc in
    let same : n.first ≡ 35 = code_at_start n.first 35 ((n.others ++ codes ";") ++ more) (35 ∷ rest) rest (omega arith) start refl in
    let is_start : is_name_start 35 ≡ true = let P : ℕ → Type 0 = λ k. is_name_start k ≡ true in subst P same n.is_start in cc

pub char_ref_hash : (bytes u more : List ℕ) → IsCharRef u → bytes ≡ u ++ more → (rest : List ℕ) × (bytes ≡ 38 ∷ 35 ∷ rest)
char_ref_hash bytes u more (inl is) e = (_, e ∙ ap (λ l. l ++ more) is.whole)
char_ref_hash bytes u more (inr is) e = (_, e ∙ ap (λ l. l ++ more) is.whole)

-- ---- at most one reference by digits
same_ref_in : (base : ℕ) (front bytes u v more rest : List ℕ) → base ≤ 36 → IsCharRefIn base front u → IsCharRefIn base front v → bytes ≡ u ++ more → bytes ≡ v ++ rest → more ≡ rest
same_ref_in base front bytes u v more rest known a b e f =
    let first : bytes ≡ front ++ (a.digits ++ (codes ";" ++ more)) = e ∙ ap (λ l. l ++ more) a.whole ∙ simp append_assoc in
    let second : bytes ≡ front ++ (b.digits ++ (codes ";" ++ rest)) = f ∙ ap (λ l. l ++ rest) b.whole ∙ simp append_assoc in
    let within = behind front (a.digits ++ (codes ";" ++ more)) (b.digits ++ (codes ";" ++ rest)) (sym first ∙ second) in
    let ends = (same_digits_by base a.digits b.digits (codes ";" ++ more) (codes ";" ++ rest) a.are_digits b.are_digits (semicolon_ends base more known) (semicolon_ends base rest known) within).1 in
    behind (codes ";") more rest ends

digit_first : (digits rest more : List ℕ) (x : ℕ) → digits ≢ [] → list_all (λ d. is_digit d 10) digits ≡ true → is_digit x 10 ≡ false → digits ++ rest ≡ x ∷ more → ⊥
digit_first [] rest more x some all other e = some refl
digit_first (d ∷ ds) rest more x some all other e =
    let same : d ≡ x = cc in
    let is : is_digit x 10 ≡ true = let P : ℕ → Type 0 = λ k. is_digit k 10 ≡ true in subst P same (and_parts (is_digit d 10) (list_all (λ k. is_digit k 10) ds) all).0 in cc

decimal_not_hex : (bytes u v more rest : List ℕ) → IsCharRefIn 10 (codes "&#") u → IsCharRefIn 16 (codes "&#x") v → bytes ≡ u ++ more → bytes ≡ v ++ rest → ⊥
decimal_not_hex bytes u v more rest a b e f =
    let first : bytes ≡ codes "&#" ++ (a.digits ++ (codes ";" ++ more)) = e ∙ ap (λ l. l ++ more) a.whole ∙ simp append_assoc in
    let second : bytes ≡ codes "&#" ++ (120 ∷ (b.digits ++ (codes ";" ++ rest))) = f ∙ ap (λ l. l ++ rest) b.whole ∙ simp append_assoc in
    digit_first a.digits (codes ";" ++ more) (b.digits ++ (codes ";" ++ rest)) 120 a.some
    a.are_digits refl (behind (codes "&#") (a.digits ++ (codes ";" ++ more)) (120 ∷ (b.digits
    ++ (codes ";" ++ rest))) (sym first ∙ second))

pub same_char_ref : (bytes u v more rest : List ℕ) → IsCharRef u → IsCharRef v → bytes ≡ u ++ more → bytes ≡ v ++ rest → more ≡ rest
same_char_ref bytes u v more rest (inl a) (inl b) e f = same_ref_in 10 (codes "&#") bytes u v more rest (omega arith) a b e f
same_char_ref bytes u v more rest (inl a) (inr b) e f = absurd (decimal_not_hex bytes u v more rest a b e f)
same_char_ref bytes u v more rest (inr a) (inl b) e f = absurd (decimal_not_hex bytes v u rest more b a f e)
same_char_ref bytes u v more rest (inr a) (inr b) e f = same_ref_in 16 (codes "&#x") bytes u v more rest (omega arith) a b e f

-- ---- at most one unit
abbrev Refers : List ℕ → Type 0
Refers u = IsCharRef u ⊎ IsPredefinedRef u

refers_start : (bytes u more : List ℕ) → Refers u → bytes ≡ u ++ more → StartsWith 38 bytes
refers_start bytes u more (inl is) e = char_ref_start bytes u more is e
refers_start bytes u more (inr is) e = entity_start bytes u more is.name is.is_reference e

same_refers : (bytes u v more rest : List ℕ) → Refers u → Refers v → bytes ≡ u ++ more → bytes ≡ v ++ rest → more ≡ rest
same_refers bytes u v more rest (inl a) (inl b) e f = same_char_ref bytes u v more rest a b e f
same_refers bytes u v more rest (inl a) (inr b) e f = let hash = char_ref_hash bytes u more a e in absurd (name_not_hash bytes v rest b.name hash.0 b.is_reference f hash.1)
same_refers bytes u v more rest (inr a) (inl b) e f = let hash = char_ref_hash bytes v rest b f in absurd (name_not_hash bytes u more a.name hash.0 a.is_reference e hash.1)
same_refers bytes u v more rest (inr a) (inr b) e f =
    (same_entity_ref bytes a.name more b.name rest
    record { item = u; is_item = a.is_reference; whole = e }
    record { item = v; is_item = b.is_reference; whole = f }).1

pub same_rest : (bytes u v more rest : List ℕ) → IsUnit u → IsUnit v → bytes ≡ u ++ more → bytes ≡ v ++ rest → more ≡ rest
same_rest bytes u v more rest (inl a) (inl b) e f = (encode_same a.code b.code more rest (ap (λ l. l ++ more) (sym a.whole) ∙ sym e ∙ f ∙ ap (λ l. l ++ rest) b.whole)).1
same_rest bytes u v more rest (inl a) (inr b) e f = absurd (literal_start bytes u more 38 (omega arith) refl a e (refers_start bytes v rest b f))
same_rest bytes u v more rest (inr a) (inl b) e f = absurd (literal_start bytes v rest 38 (omega arith) refl b f (refers_start bytes u more a e))
same_rest bytes u v more rest (inr a) (inr b) e f = same_refers bytes u v more rest a b e f

pub same_unit : (bytes u v more rest : List ℕ) → BeginsUnit bytes u more → BeginsUnit bytes v rest → (u ≡ v) × (more ≡ rest)
same_unit bytes u v more rest a b =
    let same = same_rest bytes u v more rest a.is_unit b.is_unit a.whole b.whole in
    (before u v more (sym a.whole ∙ b.whole ∙ ap (λ l. v ++ l) (sym same)), same)

-- ---- where a fault stands, no unit does
ascii_char_begins : (b : ℕ) (bytes : List ℕ) → b < 128 → is_char b ≡ true → StartsWith b bytes → BeginsNo is_char bytes → ⊥
ascii_char_begins b bytes low is s none = none b s.0 is (s.1 ∙ ap (λ l. l ++ s.0) (sym (encode_ascii b low)))

unit_not_bad_char : (bytes u rest : List ℕ) → IsUnit u → bytes ≡ u ++ rest → BeginsBadChar bytes → ⊥
unit_not_bad_char bytes u rest (inl is) e (inl less) = literal_start bytes u rest 60 (omega arith) refl is e less
unit_not_bad_char bytes u rest (inr is) e (inl less) = one_start 38 60 bytes (λ same. omega arith) (refers_start bytes u rest is e) less
unit_not_bad_char bytes u rest (inl is) e (inr bad) =
    bad.1 is.code rest (and_parts (is_char is.code) (not (is.code == 60))
    (and_parts (is_char is.code && not (is.code == 60)) (not (is.code == 38)) is.is_literal).0).0 (e
    ∙ ap (λ l. l ++ rest) is.whole)
unit_not_bad_char bytes u rest (inr is) e (inr bad) = ascii_char_begins 38 bytes (omega arith) refl (refers_start bytes u rest is e) bad.1

unit_not_bad_reference : (bytes u rest : List ℕ) → IsUnit u → bytes ≡ u ++ rest → BeginsBadReference bytes → ⊥
unit_not_bad_reference bytes u rest (inl is) e bad = literal_start bytes u rest 38 (omega arith) refl is e (bad.more, bad.whole)
unit_not_bad_reference bytes u rest (inr (inl is)) e bad = bad.none rest record { item = u; is_item = inl is; whole = e }
unit_not_bad_reference bytes u rest (inr (inr is)) e bad = bad.none rest record { item = u; is_item = inr (is.name, is.is_reference); whole = e }

unit_not_other_entity : (bytes u rest : List ℕ) → IsUnit u → bytes ≡ u ++ rest → BeginsOtherEntity bytes → ⊥
unit_not_other_entity bytes u rest (inl is) e other = literal_start bytes u rest 38 (omega arith)
    refl is e (entity_start bytes other.begins.item other.rest other.name other.begins.is_item
    other.begins.whole)
unit_not_other_entity bytes u rest (inr (inl is)) e other = let hash =
    char_ref_hash bytes u rest is e in name_not_hash bytes other.begins.item other.rest other.name
    hash.0 other.begins.is_item other.begins.whole hash.1
unit_not_other_entity bytes u rest (inr (inr is)) e other =
    let same = (same_entity_ref bytes is.name rest other.name other.rest record { item = u; is_item = is.is_reference; whole = e } other.begins).0 in
    other.other (subst IsPredefined same is.is_predefined)

pub unit_or_unit_fault : (bytes u rest : List ℕ) (at : ℕ) (e : TextError) → IsUnit u → bytes ≡ u ++ rest → HasUnitFault e at bytes → ⊥
unit_or_unit_fault bytes u rest at Empty is whole f = f
unit_or_unit_fault bytes u rest at (BadChar k) is whole f = unit_not_bad_char bytes u rest is whole f.1
unit_or_unit_fault bytes u rest at (BadReference k) is whole f = unit_not_bad_reference bytes u rest is whole f.1
unit_or_unit_fault bytes u rest at (Entity k) is whole f = unit_not_other_entity bytes u rest is whole f.1
unit_or_unit_fault bytes u rest at (CloseMark k) is whole f = f
unit_or_unit_fault bytes u rest at NoMemory is whole f = f

pub unit_or_fault : (bytes u rest : List ℕ) (at : ℕ) (e : TextError) → BeginsUnit bytes u rest → HasTextFault e at bytes → ⊥
unit_or_fault bytes u rest at Empty b f = f
unit_or_fault bytes u rest at (BadChar k) b f = unit_not_bad_char bytes u rest b.is_unit b.whole f.1
unit_or_fault bytes u rest at (BadReference k) b f = unit_not_bad_reference bytes u rest b.is_unit b.whole f.1
unit_or_fault bytes u rest at (Entity k) b f = unit_not_other_entity bytes u rest b.is_unit b.whole f.1
unit_or_fault bytes u rest at (CloseMark k) b f = b.no_close_mark f.1
unit_or_fault bytes u rest at NoMemory b f = f

-- ---- at most one fault
other_start : (bytes : List ℕ) → BeginsOtherEntity bytes → StartsWith 38 bytes
other_start bytes o = entity_start bytes o.begins.item o.rest o.name o.begins.is_item o.begins.whole

bad_char_not_start : (b : ℕ) (bytes : List ℕ) → b < 128 → is_char b ≡ true → (b ≡ 60 → ⊥) → StartsWith b bytes → BeginsBadChar bytes → ⊥
bad_char_not_start b bytes low is other s (inl less) = one_start b 60 bytes other s less
bad_char_not_start b bytes low is other s (inr bad) = ascii_char_begins b bytes low is s bad.1

bad_or_other : (bytes : List ℕ) → BeginsBadReference bytes → BeginsOtherEntity bytes → ⊥
bad_or_other bytes bad other = bad.none other.rest record { item = other.begins.item; is_item = inr (other.name, other.begins.is_item); whole = other.begins.whole }

close_start : (bytes : List ℕ) → BeginsCloseMark bytes → StartsWith 93 bytes
close_start bytes c = (_, c.1)

pub same_fault : (bytes : List ℕ) (at : ℕ) (e f : TextError) → HasTextFault e at bytes → HasTextFault f at bytes → e ≡ f
same_fault bytes at Empty f a b = absurd a
same_fault bytes at NoMemory f a b = absurd a
same_fault bytes at (BadChar k) Empty a b = absurd b
same_fault bytes at (BadChar k) (BadChar l) a b = ap BadChar (a.0 ∙ sym b.0)
same_fault bytes at (BadChar k) (BadReference l) a b = absurd (bad_char_not_start 38 bytes (omega arith) refl (λ same. omega arith) (b.1.more, b.1.whole) a.1)
same_fault bytes at (BadChar k) (Entity l) a b = absurd (bad_char_not_start 38 bytes (omega arith) refl (λ same. omega arith) (other_start bytes b.1) a.1)
same_fault bytes at (BadChar k) (CloseMark l) a b = absurd (bad_char_not_start 93 bytes (omega arith) refl (λ same. omega arith) (close_start bytes b.1) a.1)
same_fault bytes at (BadChar k) NoMemory a b = absurd b
same_fault bytes at (BadReference k) Empty a b = absurd b
same_fault bytes at (BadReference k) (BadChar l) a b = absurd (bad_char_not_start 38 bytes (omega arith) refl (λ same. omega arith) (a.1.more, a.1.whole) b.1)
same_fault bytes at (BadReference k) (BadReference l) a b = ap BadReference (a.0 ∙ sym b.0)
same_fault bytes at (BadReference k) (Entity l) a b = absurd (bad_or_other bytes a.1 b.1)
same_fault bytes at (BadReference k) (CloseMark l) a b = absurd (one_start 38 93 bytes (λ same. omega arith) (a.1.more, a.1.whole) (close_start bytes b.1))
same_fault bytes at (BadReference k) NoMemory a b = absurd b
same_fault bytes at (Entity k) Empty a b = absurd b
same_fault bytes at (Entity k) (BadChar l) a b = absurd (bad_char_not_start 38 bytes (omega arith) refl (λ same. omega arith) (other_start bytes a.1) b.1)
same_fault bytes at (Entity k) (BadReference l) a b = absurd (bad_or_other bytes b.1 a.1)
same_fault bytes at (Entity k) (Entity l) a b = ap Entity (a.0 ∙ sym b.0)
same_fault bytes at (Entity k) (CloseMark l) a b = absurd (one_start 38 93 bytes (λ same. omega arith) (other_start bytes a.1) (close_start bytes b.1))
same_fault bytes at (Entity k) NoMemory a b = absurd b
same_fault bytes at (CloseMark k) Empty a b = absurd b
same_fault bytes at (CloseMark k) (BadChar l) a b = absurd (bad_char_not_start 93 bytes (omega arith) refl (λ same. omega arith) (close_start bytes a.1) b.1)
same_fault bytes at (CloseMark k) (BadReference l) a b = absurd (one_start 38 93 bytes (λ same. omega arith) (b.1.more, b.1.whole) (close_start bytes a.1))
same_fault bytes at (CloseMark k) (Entity l) a b = absurd (one_start 38 93 bytes (λ same. omega arith) (other_start bytes b.1) (close_start bytes a.1))
same_fault bytes at (CloseMark k) (CloseMark l) a b = ap CloseMark (a.0 ∙ sym b.0)
same_fault bytes at (CloseMark k) NoMemory a b = absurd b

-- nothing has no fault
pub nothing_is_no_fault : (at : ℕ) (e : TextError) (bytes : List ℕ) → bytes ≡ [] → HasTextFault e at bytes → ⊥
nothing_is_no_fault at Empty bytes e f = f
nothing_is_no_fault at (BadChar k) bytes e (same, inl less) = let g = less.1 in cc
nothing_is_no_fault at (BadChar k) bytes e (same, inr bad) = bad.0 e
nothing_is_no_fault at (BadReference k) bytes e f = let g = f.1.whole in cc
nothing_is_no_fault at (Entity k) bytes e f = let s = other_start bytes f.1 in let g = s.1 in cc
nothing_is_no_fault at (CloseMark k) bytes e f = let g = f.1.1 in cc
nothing_is_no_fault at NoMemory bytes e f = f

-- and no unit
pub nothing_is_no_unit : (bytes u rest : List ℕ) → bytes ≡ [] → BeginsUnit bytes u rest → ⊥
nothing_is_no_unit bytes u rest e b = by b.is_unit
  where
    by : IsUnit u → ⊥
    by (inl is) = nothing_begins is_literal is.code rest is.is_literal (sym e ∙ b.whole ∙ ap (λ l. l ++ rest) is.whole)
    by (inr is) = let s = refers_start bytes u rest is b.whole in let g = s.1 in cc
