-- The texts that may be put into a document are those that mean units.
use Rattle.std.proofs.Common.{◌≡◌, ◌≢◌, ◌∙◌, ap, sym, refl, ℕ, ◌-◌, ◌<◌, ◌≤◌, Bool, true, false, not, ◌&&◌, ◌||◌, ◌⊎◌, inl, inr, List, [], ◌∷◌, ◌++◌}
use Rattle.std.proofs.Common.{length, Result, Ok, Err, arith, subst, append_assoc, length-append}
use Rattle.std.specs.Prelude.{codes, ◌↔◌, IsTrue}
use Rattle.std.proofs.lemmas.Bool.{and_parts, and_from, or_parts, not-true, not_from_false, false_from_ne_true}
use Rattle.std.proofs.lemmas.List.{append-nil}
use Rattle.std.proofs.Math.Seq.{take-append_seam, drop-append_seam}
use Rattle.std.proofs.lemmas.Slice.Eq.{bytes_eq-Decides}
use Rattle.std.proofs.lemmas.Str.{encode_same, encode_ascii, is_utf8-from_IsUtf8, IsUtf8-from_is_utf8, encodes-chars, chars-encodes}
use Rattle.std.specs.List.{list_all, list_any}
use Rattle.std.specs.Char.{is_digit}
use Rattle.std.specs.Str.{bytes_eq, chars, is_utf8}
use lib.Utf8.{encode, encodes, scalar, scalars}
use Rattle.pv_chars.specs.Characters.{is_char}
use Rattle.pv_chars.specs.References.{IsCharRefIn, IsEntityRef, IsPredefined, number}
use Rattle.pv_chars.specs.Names.{IsName}
use Rattle.pv_chars.specs.Texts.{joined, begins_close_mark, holds_close_mark}
use Rattle.pv_chars.specs.Units.{IsLiteral, IsUnit, BeginsCloseMark, TextRestMeans, ends, unit, fault, TextMeans, AllUnits, units_in}
use Rattle.pv_chars.specs.declared.errors.TextError.{TextError}
use Rattle.pv_chars.specs.declared.errors.TextError.TheVariants.{NoMemory}
use Rattle.pv_chars.proofs.MeansLemmas.{text_means_only}
use Rattle.pv_chars.proofs.CutLemmas.{units_in-joined}
use Rattle.pv_chars.proofs.NameLemmas.{IsName-is_name}
use Rattle.pv_chars.proofs.Ranges.{char_is_scalar}
use Rattle.pv_edit.specs.GivenNames.{is_line_end, is_new_text, new_units, is_some_bytes}
use Rattle.pv_edit.specs.GivenNames.{is_one_literal, inner_part, are_char_digits, is_char_ref_in}
use Rattle.pv_edit.specs.GivenNames.{is_unit, is_character_data}

-- ---- one unit
literal-tested : (u : List ℕ) → IsLiteral u → (is_utf8 u && is_one_literal (chars u)) ≡ true
literal-tested u is =
    let char = (and_parts _ _ (and_parts _ _ is.is_literal).0).0 in
    let all : scalars (is.code ∷ []) ≡ true = and_from (scalar is.code) true (char_is_scalar is.code char) refl in
    let spelled : u ≡ encodes (is.code ∷ []) = is.whole ∙ sym (append-nil (encode is.code)) in
    let utf8 : is_utf8 u ≡ true = is_utf8-from_IsUtf8 u (is.code ∷ [], (all, sym spelled)) in
    let read : chars u ≡ is.code ∷ [] = ap chars spelled ∙ chars-encodes (is.code ∷ []) all in
    and_from (is_utf8 u) (is_one_literal (chars u)) utf8 (ap is_one_literal read ∙ is.is_literal)

literal-of : (u cs : List ℕ) → u ≡ encodes cs → is_one_literal cs ≡ true → IsLiteral u
literal-of u [] e is = absurd cc
literal-of u (c ∷ []) e is = record { code = c; is_literal = is; whole = e ∙ append-nil (encode c) }
literal-of u (c ∷ d ∷ cs) e is = absurd cc

inner-is : (front digits bytes : List ℕ) → bytes ≡ front ++ (digits ++ codes ";") → inner_part front bytes ≡ digits
inner-is front digits bytes e =
    let n : length bytes - length front - 1 ≡ length digits = omega (arith, ap length e, length-append front (digits ++ codes ";"), length-append digits (codes ";")) in
    rw (n, e, drop-append_seam front (digits ++ codes ";")) (take-append_seam digits (codes ";"))

some-tested : (bytes : List ℕ) → bytes ≢ [] → is_some_bytes bytes ≡ true
some-tested [] h = absurd (h refl)
some-tested (b ∷ bs) h = refl

pub tested-some : (bytes : List ℕ) → is_some_bytes bytes ≡ true → bytes ≢ []
tested-some [] h e = cc
tested-some (b ∷ bs) h e = cc

ref-tested : (base : ℕ) (front u : List ℕ) → IsCharRefIn base front u → is_char_ref_in base front u ≡ true
ref-tested base front u is =
    let e = inner-is front is.digits u is.whole in
    let d : are_char_digits base is.digits ≡ true = and_from _ _ (and_from _ _ (some-tested is.digits is.some) is.are_digits) is.is_char in
    and_from (are_char_digits base (inner_part front u)) (bytes_eq u (front ++ (inner_part front u ++ codes ";")))
    (ap (are_char_digits base) e ∙ d) ((bytes_eq-Decides u (front ++ (inner_part front u ++ codes ";"))).1 (is.whole ∙ ap (λ (l : List ℕ). front ++ (l ++ codes ";")) (sym e)))

tested-ref : (base : ℕ) (front u : List ℕ) → is_char_ref_in base front u ≡ true → IsCharRefIn base front u
tested-ref base front u is =
    let p = and_parts (are_char_digits base (inner_part front u)) (bytes_eq u (front ++ (inner_part front u ++ codes ";"))) is in
    let d = and_parts (is_some_bytes (inner_part front u) && list_all (λ d. is_digit d base) (inner_part front u)) (is_char (number base (inner_part front u))) p.0 in
    let s = and_parts (is_some_bytes (inner_part front u)) (list_all (λ d. is_digit d base) (inner_part front u)) d.0 in
    record {
      digits = inner_part front u;
      some = tested-some (inner_part front u) s.0;
      are_digits = s.1;
      is_char = d.1;
      whole =
          (bytes_eq-Decides u (front ++ (inner_part front u ++ codes ";"))).0 p.1;
    }

abbrev predefined_refs : List (List ℕ)
predefined_refs = codes "&lt;" ∷ codes "&gt;" ∷ codes "&amp;" ∷ codes "&apos;" ∷ codes "&quot;" ∷ []

-- a predefined name's reference
same-ref : (u name : List ℕ) → IsEntityRef name u → (known : List ℕ) → name ≡ known → u ≡ codes "&" ++ (known ++ codes ";")
same-ref u name is known e = is.whole ∙ ap (λ (n : List ℕ). codes "&" ++ (n ++ codes ";")) e

predefined-tested : (u name : List ℕ) → IsPredefined name → IsEntityRef name u → list_any (bytes_eq u) predefined_refs ≡ true
predefined-tested u name (inl e) is = rw (same-ref u name is (codes "lt") e) refl
predefined-tested u name (inr (inl e)) is = rw (same-ref u name is (codes "gt") e) refl
predefined-tested u name (inr (inr (inl e))) is = rw (same-ref u name is (codes "amp") e) refl
predefined-tested u name (inr (inr (inr (inl e)))) is = rw (same-ref u name is (codes "apos") e) refl
predefined-tested u name (inr (inr (inr (inr e)))) is = rw (same-ref u name is (codes "quot") e) refl

known-ref : (u name : List ℕ) → IsPredefined name → IsName name → bytes_eq u (codes "&" ++ (name ++ codes ";")) ≡ true → IsUnit u
known-ref u name known named e =
    inr (inr (record {
      name = name;
      is_predefined = known;
      is_reference = record {
        is_name = named;
        whole = (bytes_eq-Decides u (codes "&"
            ++ (name ++ codes ";"))).0 e;
      };
    }))

tested-predefined : (u : List ℕ) (lt gt amp apos quot : Bool) → bytes_eq u (codes "&lt;") ≡ lt →
    bytes_eq u (codes "&gt;") ≡ gt → bytes_eq u (codes "&amp;") ≡ amp → bytes_eq u (codes "&apos;")
    ≡ apos → bytes_eq u (codes "&quot;") ≡ quot
    → (lt || (gt || (amp || (apos || (quot || false))))) ≡ true → IsUnit u
unfolding is_utf8 chars encode
tested-predefined u true gt amp apos quot a b c d e h = known-ref u (codes "lt") (inl refl) (IsName-is_name (codes "lt") refl) a
tested-predefined u false true amp apos quot a b c d e h = known-ref u (codes "gt") (inr (inl refl)) (IsName-is_name (codes "gt") refl) b
tested-predefined u false false true apos quot a b c d e h = known-ref u (codes "amp") (inr (inr (inl refl))) (IsName-is_name (codes "amp") refl) c
tested-predefined u false false false true quot a b c d e h = known-ref u (codes "apos") (inr (inr (inr (inl refl)))) (IsName-is_name (codes "apos") refl) d
tested-predefined u false false false false true a b c d e h = known-ref u (codes "quot") (inr (inr (inr (inr refl)))) (IsName-is_name (codes "quot") refl) e
tested-predefined u false false false false false a b c d e h = absurd cc

or_left : (a b : Bool) → a ≡ true → (a || b) ≡ true
or_left true b h = refl
or_left false b h = absurd cc

or_second : (a b : Bool) → b ≡ true → (a || b) ≡ true
or_second true b h = refl
or_second false b h = h

pub unit-tested : (u : List ℕ) → IsUnit u → is_unit u ≡ true
unit-tested u (inl is) = or_left _ _ (literal-tested u is)
unit-tested u (inr (inl (inl is))) = or_second (is_utf8 u && is_one_literal (chars u)) _ (or_left _ _ (ref-tested 10 (codes "&#") u is))
unit-tested u (inr (inl (inr is))) = or_second (is_utf8 u && is_one_literal (chars u)) _ (or_second (is_char_ref_in 10 (codes "&#") u) _ (or_left _ _ (ref-tested 16 (codes "&#x") u is)))
unit-tested u (inr (inr is)) =
    or_second (is_utf8 u && is_one_literal (chars u)) _
    (or_second (is_char_ref_in 10 (codes "&#") u) _
    (or_second (is_char_ref_in 16 (codes "&#x") u) _ (predefined-tested u is.name
    is.is_predefined is.is_reference)))

tested-by : (u : List ℕ) (a b c d : Bool) → (is_utf8 u && is_one_literal (chars u)) ≡ a →
    is_char_ref_in 10 (codes "&#") u ≡ b → is_char_ref_in 16 (codes "&#x") u ≡ c →
    list_any (bytes_eq u) predefined_refs ≡ d → (a || (b || (c || d))) ≡ true → IsUnit u
tested-by u true b c d e f g i h =
    let p = and_parts (is_utf8 u) (is_one_literal (chars u)) e in
    inl (literal-of u (chars u) (sym (encodes-chars u (IsUtf8-from_is_utf8 u p.0))) p.1)
tested-by u false true c d e f g i h = inr (inl (inl (tested-ref 10 (codes "&#") u f)))
tested-by u false false true d e f g i h = inr (inl (inr (tested-ref 16 (codes "&#x") u g)))
tested-by u false false false true e f g i h = tested-predefined u _ _ _ _ _ refl refl refl refl refl i
tested-by u false false false false e f g i h = absurd cc

pub tested-unit : (u : List ℕ) → is_unit u ≡ true → IsUnit u
tested-unit u h = tested-by u _ _ _ _ refl refl refl refl h

pub units-tested : (us : List (List ℕ)) → AllUnits us → list_all is_unit us ≡ true
units-tested [] h = refl
units-tested (u ∷ us) h = and_from (is_unit u) (list_all is_unit us) (unit-tested u h.0) (units-tested us h.1)

pub tested-units : (us : List (List ℕ)) → list_all is_unit us ≡ true → AllUnits us
tested-units [] h = tt
tested-units (u ∷ us) h = let p = and_parts (is_unit u) (list_all is_unit us) h in (tested-unit u p.0, tested-units us p.1)

-- ---- `]]>` in the bytes, and among the units
one-literal : (b : ℕ) → b < 128 → (38 ≡ b → ⊥) → (u more rest : List ℕ) → IsUnit u → u ++ more ≡ b ∷ rest → (u ≡ b ∷ []) × (more ≡ rest)
one-literal b low other u more rest (inl is) e =
    let s = encode_same is.code b more rest (ap (λ (l : List ℕ). l ++ more) (sym is.whole) ∙ e ∙ ap (λ (l : List ℕ). l ++ rest) (sym (encode_ascii b low))) in
    (is.whole ∙ ap encode s.0 ∙ encode_ascii b low, s.1)
one-literal b low other u more rest (inr (inl (inl is))) e = let h = ap (λ (l : List ℕ). l ++ more) (sym is.whole) ∙ e in absurd (other cc)
one-literal b low other u more rest (inr (inl (inr is))) e = let h = ap (λ (l : List ℕ). l ++ more) (sym is.whole) ∙ e in absurd (other cc)
one-literal b low other u more rest (inr (inr is)) e = let h = ap (λ (l : List ℕ). l ++ more) (sym is.is_reference.whole) ∙ e in absurd (other cc)

first-literal : (b : ℕ) → b < 128 → (38 ≡ b → ⊥) → (us : List (List ℕ)) (rest : List ℕ) →
    AllUnits us → joined us ≡ b ∷ rest → (vs : List (List ℕ)) × (us ≡ (b ∷ []) ∷ vs)
    × (joined vs ≡ rest) × AllUnits vs
first-literal b low other [] rest all e = absurd cc
first-literal b low other (u ∷ us) rest all e = let s = one-literal b low other u (joined us) rest all.0 e in (us, ap (λ (v : List ℕ). v ∷ us) s.0, s.1, all.1)

not-ampersand : (b : ℕ) → 39 ≤ b → 38 ≡ b → ⊥
not-ampersand b h e = omega arith

mark-begins : (us : List (List ℕ)) → AllUnits us → BeginsCloseMark (joined us) → begins_close_mark us ≡ true
mark-begins us all m =
    let a = first-literal 93 (omega arith) (not-ampersand 93 (omega arith)) us (93 ∷ 62 ∷ m.0) all m.1 in
    let b = first-literal 93 (omega arith) (not-ampersand 93 (omega arith)) a.0 (62 ∷ m.0) a.3 a.2 in
    let c = first-literal 62 (omega arith) (not-ampersand 62 (omega arith)) b.0 m.0 b.3 b.2 in
    ap begins_close_mark (a.1 ∙ ap (λ (l : List (List ℕ)). (93 ∷ []) ∷ l) (b.1 ∙ ap (λ (l : List (List ℕ)). (93 ∷ []) ∷ l) c.1))

begins-mark : (us : List (List ℕ)) → begins_close_mark us ≡ true → BeginsCloseMark (joined us)
begins-mark [] h = absurd cc
begins-mark (a ∷ []) h = absurd cc
begins-mark (a ∷ b ∷ []) h = absurd cc
begins-mark (a ∷ b ∷ c ∷ us) h =
    let p = and_parts (bytes_eq a (codes "]") && bytes_eq b (codes "]")) (bytes_eq c (codes ">")) h in
    let q = and_parts (bytes_eq a (codes "]")) (bytes_eq b (codes "]")) p.0 in
    let ea = (bytes_eq-Decides a (codes "]")).0 q.0 in
    let eb = (bytes_eq-Decides b (codes "]")).0 q.1 in
    let ec = (bytes_eq-Decides c (codes ">")).0 p.1 in
    (joined us, rw (ea, eb, ec) refl)

-- ---- what a text means
means-units : (before us : List (List ℕ)) → AllUnits us → holds_close_mark us ≡ false → TextRestMeans before (joined us) (Ok (before ++ us))
means-units before [] all h = subst (λ (l : List (List ℕ)). TextRestMeans before [] (Ok l)) (sym (append-nil before)) (ends refl)
means-units before (u ∷ us) all h =
    let p = or_parts (begins_close_mark (u ∷ us)) (holds_close_mark us) h in
    unit u (joined us) (record { is_unit = all.0; whole = refl; no_close_mark = λ m. let t = mark-begins (u ∷ us) all m in let f = p.0 in cc })
    (subst (λ (l : List (List ℕ)). TextRestMeans (before ++ u ∷ []) (joined us) (Ok l)) (append_assoc before (u ∷ []) us) (means-units (before ++ u ∷ []) us all.1 p.1))

-- units after some, without a `]]>`
pub record AreText (before : List (List ℕ)) (rest : List ℕ) (out : List (List ℕ)) : Type 0 where
  pub us : List (List ℕ)
  pub whole : out ≡ before ++ us
  pub all : AllUnits us
  pub bytes : rest ≡ joined us
  pub no_mark : holds_close_mark us ≡ false

units-meant : {before : List (List ℕ)} {rest : List ℕ} {o : Result (List (List ℕ)) TextError} → TextRestMeans before rest o → (out : List (List ℕ)) → o ≡ Ok out → AreText before rest out
units-meant {before} {rest} (ends e) out s = let k : out ≡ before = cc in record { us = []; whole = k ∙ sym (append-nil before); all = tt; bytes = e; no_mark = refl }
units-meant {before} {rest} (unit u more b r) out s =
    let t = units-meant r out s in
    let bytes : rest ≡ joined (u ∷ t.us) = b.whole ∙ ap (λ (l : List ℕ). u ++ l) t.bytes in
    let none : begins_close_mark (u ∷ t.us) ≡ false =
    false_from_ne_true (begins_close_mark (u ∷ t.us)) (λ m. b.no_close_mark
    (subst (λ (l : List ℕ). BeginsCloseMark l) (sym bytes) (begins-mark (u ∷ t.us) m))) in
    record {
      us = u ∷ t.us;
      whole = t.whole ∙ append_assoc before (u ∷ []) t.us;
      all = (b.is_unit, t.all);
      bytes = bytes;
      no_mark = ap (λ (h : Bool). h || holds_close_mark t.us) none ∙ t.no_mark;
    }
units-meant (fault k f) out s = absurd cc

-- a text that means units
pub record IsText (bytes : List ℕ) : Type 0 where
  pub some : bytes ≢ []
  pub all : AllUnits (units_in bytes)
  pub whole : bytes ≡ joined (units_in bytes)
  pub no_mark : holds_close_mark (units_in bytes) ≡ false

meant-text : (bytes : List ℕ) (out : List (List ℕ)) → TextMeans bytes (Ok out) → IsText bytes × (out ≡ units_in bytes)
meant-text bytes out (inl m) = let e = m.1 in absurd cc
meant-text bytes out (inr m) =
    let t = units-meant m.1 out refl in
    let k : units_in bytes ≡ t.us = ap units_in t.bytes ∙ units_in-joined t.us t.all in
    (record { some = m.0; all = subst (λ (l : List (List ℕ)). AllUnits l) (sym k) t.all; whole = t.bytes ∙ ap joined (sym k); no_mark = ap holds_close_mark k ∙ t.no_mark }, t.whole ∙ sym k)

pub text-means : (bytes : List ℕ) → IsText bytes → TextMeans bytes (Ok (units_in bytes))
text-means bytes t = inr (t.some, subst (λ (l : List ℕ). TextRestMeans [] l (Ok (units_in bytes))) (sym t.whole) (means-units [] (units_in bytes) t.all t.no_mark))

pub tested-text : (bytes : List ℕ) → is_character_data bytes ≡ true → IsText bytes
tested-text bytes h =
    let us = units_in bytes in
    let p = and_parts (is_some_bytes bytes && list_all is_unit us && bytes_eq (joined us) bytes) (not (holds_close_mark us)) h in
    let q = and_parts (is_some_bytes bytes && list_all is_unit us) (bytes_eq (joined us) bytes) p.0 in
    let r = and_parts (is_some_bytes bytes) (list_all is_unit us) q.0 in
    record { some = tested-some bytes r.0; all = tested-units us r.1; whole = sym ((bytes_eq-Decides (joined us) bytes).0 q.1); no_mark = not-true (holds_close_mark us) p.1 }

text-tested : (bytes : List ℕ) → IsText bytes → is_character_data bytes ≡ true
text-tested bytes t =
    let us = units_in bytes in
    and_from _ _ (and_from _ _ (and_from (is_some_bytes bytes) (list_all is_unit us)
    (some-tested bytes t.some) (units-tested us t.all)) ((bytes_eq-Decides (joined us) bytes).1
    (sym t.whole))) (not_from_false (holds_close_mark us) t.no_mark)

pub meant-tested : (bytes : List ℕ) (out : List (List ℕ)) → TextMeans bytes (Ok out) → (is_character_data bytes ≡ true) × (out ≡ units_in bytes)
meant-tested bytes out m = let t = meant-text bytes out m in (text-tested bytes t.0, t.1)

pub new-text : (bytes : List ℕ) → IsTrue (is_new_text bytes) ↔ (TextMeans bytes (Ok (new_units bytes)) × (list_any is_line_end bytes ≡ false))
new-text bytes = (
  λ h. let p = and_parts (is_character_data bytes) (not (list_any is_line_end bytes)) h in (text-means bytes (tested-text bytes p.0), not-true (list_any is_line_end bytes) p.1),
  λ m. and_from (is_character_data bytes) (not (list_any is_line_end bytes)) (meant-tested bytes (units_in bytes) m.0).0 (not_from_false (list_any is_line_end bytes) m.1),
)

pub new-tested : (bytes : List ℕ) (out : List (List ℕ)) (line_end : Bool) → TextMeans bytes (Ok out) → line_end ≡ list_any is_line_end bytes → line_end ≡ false → true ≡ is_new_text bytes
new-tested bytes out line_end m e f = sym (and_from (is_character_data bytes) (not (list_any is_line_end bytes)) (meant-tested bytes out m).0 (not_from_false (list_any is_line_end bytes) (sym e ∙ f)))

pub refused-text : (bytes : List ℕ) (e : TextError) → (e ≡ NoMemory) ⊎ TextMeans bytes (Err e) → (e ≡ NoMemory → ⊥) → false ≡ is_new_text bytes
refused-text bytes e (inl m) h = absurd (h m)
refused-text bytes e (inr m) h =
    sym (false_from_ne_true (is_new_text bytes) (λ t.
    let p = and_parts (is_character_data bytes) (not (list_any is_line_end bytes)) t in
    let same = text_means_only bytes (Err e) (Ok (units_in bytes)) m (text-means bytes (tested-text bytes p.0)) in cc))
