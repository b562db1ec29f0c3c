-- Items of the mode Value: what is read is spelled so, and what is spelled so is read.
use Rattle.std.proofs.Common.{◌≡◌, ◌≢◌, ◌≤◌, inl, inr, ℕ, List, [], ◌∷◌, ◌++◌, codes, Bool, true, false, ◌&&◌, not, cond, Some, None, refl, sym, ap, ◌∙◌, append_assoc, arith, subst}
use Rattle.std.specs.Prelude.{encode_utf8, IsTrue}
use Rattle.std.specs.List.{list_all}
use Rattle.std.specs.Char.{is_digit}
use Rattle.std.proofs.lemmas.Bool.{and_parts}
use Rattle.pv_chars.specs.Characters.{is_char}
use Rattle.pv_chars.specs.Fronts.{Begins}
use Rattle.pv_chars.specs.References.{number}
use Rattle.pv_chars.specs.Scan.{after_bytes}
use Rattle.pv_chars.specs.Utf8.{char_at}
use Rattle.pv_chars.proofs.TextScans.{after_bytes_takes, after_bytes-append, chosen}
use Rattle.pv_chars.proofs.ReferenceLemmas.{semicolon_ends, same_digits_by}
use Rattle.pv_params.specs.Items.{TextItem, puts, reference, parameter, declaration}
use Rattle.pv_params.specs.Spelling.{IsCharacterIn, IsCharacter, IsGeneral, SpellsValue}
use Rattle.pv_chars.proofs.ReaderSteps.{bound, same_some}
use Rattle.pv_chars.specs.CharReading.{name_at, is_nothing}
use Rattle.pv_params.specs.ItemReading.{byte_at, named_at, digits_at, ended_by, character_at, general_at, value_at}
use Rattle.pv_params.proofs.Runs.{Front, Reads}
use Rattle.pv_params.proofs.ItemsRead.{either, first_is, second_is, copied_is, copied_none, front_copied, front_byte, byte_is, no_byte, named_read, named_is, front_reference, reference_is}

-- ---- references by name
general_begins : (bytes rest : List ℕ) → general_at bytes ≡ Some rest → Begins IsGeneral bytes rest
unfolding general_at
general_begins bytes rest e =
    let b = bound (named_at 38 bytes) _ rest e in
    let n = named_read 38 bytes b.value.0 b.value.1 b.first in
    record {
      item = 38 ∷ (b.value.0 ++ codes ";");
      is_item = (b.value.0, record { is_name = n.is_name; whole = refl });
      whole = n.whole
          ∙ ap (λ l. (38 ∷ (b.value.0 ++ codes ";")) ++ l) (same_some _ _ b.others);
    }

general_is : (text rest : List ℕ) → IsGeneral text → general_at (text ++ rest) ≡ Some rest
unfolding general_at
general_is text rest is = rw (is.1.whole, named_is 38 is.0 rest is.1.is_name) refl

-- ---- characters
pub record TakesDigits (base : ℕ) (bytes digits rest : List ℕ) : Type 0 where
  pub are_digits : list_all (λ d. is_digit d base) digits ≡ true
  pub whole : bytes ≡ digits ++ rest
  pub ends : (d : ℕ) (more : List ℕ) → IsTrue (is_digit d base) → rest ≢ d ∷ more

digits_by : (base b : ℕ) (bs : List ℕ) (r : List ℕ × List ℕ) (digit : Bool) → is_digit b base ≡ digit → TakesDigits base bs r.0 r.1 →
    TakesDigits base (b ∷ bs) (cond {A = List ℕ × List ℕ} digit (b ∷ r.0, r.1) ([], b ∷ bs)).0 (cond {A = List ℕ × List ℕ} digit (b ∷ r.0, r.1) ([], b ∷ bs)).1
digits_by base b bs r true is t = record { are_digits = rw is t.are_digits; whole = ap (λ l. b ∷ l) t.whole; ends = t.ends }
digits_by base b bs r false is t = record { are_digits = refl; whole = refl; ends = λ d more yes e. let same : b ≡ d = cc in let no = rw same at is in cc }

pub digits_taken : (base : ℕ) (bytes : List ℕ) → TakesDigits base bytes (digits_at base bytes).0 (digits_at base bytes).1
unfolding digits_at
digits_taken base [] = record { are_digits = refl; whole = refl; ends = λ d more yes e. cc }
digits_taken base (b ∷ bs) = digits_by base b bs (digits_at base bs) (is_digit b base) refl (digits_taken base bs)

digits_are : (base : ℕ) (digits rest : List ℕ) → base ≤ 36 → list_all (λ d. is_digit d base) digits ≡ true → digits_at base (digits ++ (codes ";" ++ rest)) ≡ (digits, codes ";" ++ rest)
digits_are base digits rest known are =
    let t = digits_taken base (digits ++ (codes ";" ++ rest)) in
    let same = same_digits_by base _ digits _ (codes ";" ++ rest) t.are_digits are t.ends (semicolon_ends base rest known) (sym t.whole) in
    ap (λ l. (l, (digits_at base (digits ++ (codes ";" ++ rest))).1)) same.0 ∙ ap (λ l. (digits, l)) same.1

some_digits : (l : List ℕ) → is_nothing l ≡ false → l ≢ []
some_digits [] e f = cc
some_digits (b ∷ bs) e f = cc

not_true : (b : Bool) → not b ≡ true → b ≡ false
not_true true e = cc
not_true false e = refl

pub character_read : (base : ℕ) (front bytes : List ℕ) (x : TextItem × List ℕ) →
    character_at base front bytes ≡ Some x → (result : List ℕ) × (text : List ℕ)
    × (x.0 ≡ puts result) × IsCharacterIn base front result text × (bytes ≡ text ++ x.1)
unfolding character_at ended_by
character_read base front bytes x e =
    let start = bound (after_bytes front bytes) _ x e in
    let ds = digits_at base start.value in
    let t = digits_taken base start.value in
    let passes = chosen (not (is_nothing ds.0) && is_char (number base ds.0)) _ x start.others in
    let two = and_parts (not (is_nothing ds.0)) (is_char (number base ds.0)) passes.0 in
    let end = bound (after_bytes (codes ";") ds.1) _ x passes.1 in
    let pair = same_some _ _ end.others in
    let text = front ++ (ds.0 ++ codes ";") in
    let whole : bytes ≡ text ++ end.value =
    after_bytes_takes front bytes start.value start.first ∙ ap (λ l. front ++ l) (t.whole
    ∙ ap (λ l. ds.0 ++ l) (after_bytes_takes (codes ";") ds.1 end.value end.first)
    ∙ sym (append_assoc ds.0 (codes ";") end.value))
    ∙ sym (append_assoc front (ds.0 ++ codes ";") end.value) in (
      encode_utf8 (number base ds.0),
      text,
      sym (ap (λ (y : TextItem × List ℕ). y.0) pair),
      record { is_ref = record { digits = ds.0; some = some_digits ds.0 (not_true _ two.0); are_digits = t.are_digits; is_char = two.1; whole = refl }; gives = refl },
      whole ∙ ap (λ (y : TextItem × List ℕ). text ++ y.1) pair,
    )

nothing_is : (l : List ℕ) → l ≢ [] → is_nothing l ≡ false
nothing_is [] some = absurd (some refl)
nothing_is (b ∷ bs) some = refl

character_is : (base : ℕ) (front result text rest : List ℕ) → base ≤ 36 → IsCharacterIn base front result text → character_at base front (text ++ rest) ≡ Some (puts result, rest)
unfolding character_at ended_by
character_is base front result text rest known is =
    let r = is.is_ref in
    let cut : text ++ rest ≡ front ++ (r.digits ++ (codes ";" ++ rest)) =
    ap (λ l. l ++ rest) r.whole ∙ append_assoc front (r.digits ++ codes ";") rest
    ∙ ap (λ l. front ++ l) (append_assoc r.digits (codes ";") rest) in
    rw (cut, after_bytes-append front (r.digits ++ (codes ";" ++ rest)), digits_are base r.digits rest known r.are_digits, nothing_is r.digits r.some, r.is_char, is.gives) refl

front_character : (base : ℕ) (front bytes : List ℕ) (x : TextItem × List ℕ) →
    ((result text : List ℕ) → IsCharacterIn base front result text → IsCharacter result text) →
    character_at base front bytes ≡ Some x → Front SpellsValue bytes x.0 x.1
front_character base front bytes x is e =
    let r = character_read base front bytes x e in
    subst (λ i. Front SpellsValue bytes i x.1) (sym r.2) record { text = r.1; spelled = inr (is r.0 r.1 r.3); whole = r.4 }

-- ---- what begins otherwise
no_general_hash : (rest : List ℕ) → general_at (38 ∷ 35 ∷ rest) ≡ None
unfolding general_at named_at name_at char_at
no_general_hash rest = refl

no_decimal_x : (rest : List ℕ) → character_at 10 (codes "&#") (38 ∷ 35 ∷ 120 ∷ rest) ≡ None
unfolding character_at digits_at ended_by
no_decimal_x rest = refl

no_general_percent : (rest : List ℕ) → general_at (37 ∷ rest) ≡ None
unfolding general_at named_at
no_general_percent rest = refl

no_character_percent : (base : ℕ) (front rest : List ℕ) → character_at base (38 ∷ front) (37 ∷ rest) ≡ None
unfolding character_at
no_character_percent base front rest = refl

-- ---- mode Value
value_read : (bytes : List ℕ) (i : TextItem) (rest : List ℕ) → value_at bytes ≡ Some (i, rest) → Front SpellsValue bytes i rest
unfolding value_at
value_read bytes i rest e =
    let P : TextItem × List ℕ → Type 0 = λ x. Front SpellsValue bytes x.0 x.1 in
    either P _ _ (i, rest) e (front_byte SpellsValue (codes "%&") bytes (i, rest) (λ text is. inl (refl, inl is)))
    (λ f. either P _ _ (i, rest) f (front_copied SpellsValue bytes (general_at bytes) (i, rest) IsGeneral (general_begins bytes) (λ text is. inl (refl, inr is)))
    (λ g. either P _ _ (i, rest) g (front_character 10 (codes "&#") bytes (i, rest) (λ result text is. inl is))
    (λ h. either P _ _ (i, rest) h (front_character 16 (codes "&#x") bytes (i, rest) (λ result text is. inr is))
    (front_reference SpellsValue bytes (i, rest) (λ name text is. is)))))

value_is_read : (i : TextItem) (text rest : List ℕ) → SpellsValue i text → value_at (text ++ rest) ≡ Some (i, rest)
unfolding value_at
value_is_read (puts result) text rest (inl (same, inl is)) = subst (λ r. value_at (text ++ rest) ≡ Some (puts r, rest)) (sym same) (first_is _ _ (puts text, rest) (byte_is (codes "%&") text rest is))
value_is_read (puts result) text rest (inl (same, inr is)) =
    let byte : byte_at (codes "%&") (text ++ rest) ≡ None = rw is.1.whole (no_byte (codes "%&") ((is.0 ++ codes ";") ++ rest) 38 refl) in
    subst (λ r. value_at (text ++ rest) ≡ Some (puts r, rest)) (sym same) (second_is _ _ (puts text, rest) byte (first_is _ _ (puts text, rest) (copied_is text rest _ (general_is text rest is))))
value_is_read (puts result) text rest (inr (inl is)) =
    let w = is.is_ref.whole in
    let ds = is.is_ref.digits ++ codes ";" in
    let byte : byte_at (codes "%&") (text ++ rest) ≡ None = rw w (no_byte (codes "%&") ((35 ∷ ds) ++ rest) 38 refl) in
    let general : general_at (text ++ rest) ≡ None = rw w (no_general_hash (ds ++ rest)) in
    second_is _ _ (puts result, rest) byte (second_is _ _ (puts result, rest) (copied_none (text
    ++ rest) _ general) (first_is _ _ (puts result, rest) (character_is 10 (codes "&#") result
    text rest (omega arith) is)))
value_is_read (puts result) text rest (inr (inr is)) =
    let w = is.is_ref.whole in
    let ds = is.is_ref.digits ++ codes ";" in
    let byte : byte_at (codes "%&") (text ++ rest) ≡ None = rw w (no_byte (codes "%&") ((35 ∷ 120 ∷ ds) ++ rest) 38 refl) in
    let general : general_at (text ++ rest) ≡ None = rw w (no_general_hash ((120 ∷ ds) ++ rest)) in
    let decimal : character_at 10 (codes "&#") (text ++ rest) ≡ None = rw w (no_decimal_x (ds ++ rest)) in
    second_is _ _ (puts result, rest) byte (second_is _ _ (puts result, rest) (copied_none (text
    ++ rest) _ general) (second_is _ _ (puts result, rest) decimal
    (first_is _ _ (puts result, rest) (character_is 16 (codes "&#x") result text rest (omega arith) is))))
value_is_read (reference name) text rest s =
    let w = s.whole in
    let more = (name ++ codes ";") ++ rest in
    let byte : byte_at (codes "%&") (text ++ rest) ≡ None = rw w (no_byte (codes "%&") more 37 refl) in
    let general : general_at (text ++ rest) ≡ None = rw w (no_general_percent more) in
    let decimal : character_at 10 (codes "&#") (text ++ rest) ≡ None = rw w (no_character_percent 10 (codes "#") more) in
    let hexadecimal : character_at 16 (codes "&#x") (text ++ rest) ≡ None = rw w (no_character_percent 16 (codes "#x") more) in
    second_is _ _ (reference name, rest) byte (second_is _ _ (reference name, rest)
    (copied_none (text ++ rest) _ general) (second_is _ _ (reference name, rest) decimal
    (second_is _ _ (reference name, rest) hexadecimal (reference_is name text rest s))))
value_is_read (parameter name given) text rest s = absurd s
value_is_read (declaration word held) text rest s = absurd s

value_some : (i : TextItem) (text : List ℕ) → SpellsValue i text → text ≢ []
value_some (puts result) text (inl (same, inl is)) e = let w = is.whole in cc
value_some (puts result) text (inl (same, inr is)) e = let w = is.1.whole in cc
value_some (puts result) text (inr (inl is)) e = let w = is.is_ref.whole in cc
value_some (puts result) text (inr (inr is)) e = let w = is.is_ref.whole in cc
value_some (reference name) text s e = let w = s.whole in cc
value_some (parameter name given) text s e = s
value_some (declaration word held) text s e = s

pub value_reads : Reads SpellsValue value_at
value_reads = record { read = value_read; is_read = value_is_read; some = value_some }
