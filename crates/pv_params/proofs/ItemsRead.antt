-- Items of the modes Inside and Value: what is read is spelled so, and what is spelled so is read.
use Rattle.std.proofs.Common.{◌≡◌, ◌≢◌, inl, inr, ℕ, List, [], ◌∷◌, ◌++◌, codes, Bool, true, false, ◌==◌, ◌||◌, cond, Option, Some, None, refl, sym, ap, ◌∙◌, append_assoc, subst}
use Rattle.std.specs.Option.{MatchOption}
use Rattle.std.proofs.lemmas.Bool.Decides.{Decides-eqb}
use Rattle.pv_chars.specs.Names.{IsName}
use Rattle.pv_chars.specs.Fronts.{Begins}
use Rattle.pv_chars.specs.Declarations.{is_quote, IsQuoted, BeginsNoQuoted}
use Rattle.pv_chars.specs.Scan.{after_bytes}
use Rattle.pv_chars.proofs.TextScans.{after_bytes_takes, after_bytes-append}
use Rattle.pv_params.specs.Items.{TextItem, puts, reference, parameter, declaration}
use Rattle.pv_params.specs.Spelling.{IsPEReference, IsByteBut, IsQuotedLiteral, SpellsInside}
use Rattle.pv_chars.specs.Declarations.{is_one_of}
use Rattle.pv_chars.proofs.ReaderSteps.{bound, same_some}
use Rattle.pv_chars.specs.CharReading.{name_at, quoted_at}
use Rattle.pv_chars.proofs.NameBytes.{name_at_takes, name_at-append}
use Rattle.pv_chars.proofs.TextDeclarations.{tells_quoted, quoted_is}
use Rattle.pv_params.specs.ItemReading.{or_else, front_of, copy_up_to, byte_at, literal_at, named_at, reference_at, inside_at}
use Rattle.pv_params.proofs.Runs.{Front, Reads, front_is}

-- ---- the one or the other
pub either : {A : Type 0} (P : A → Type 0) (first second : Option A) (x : A) → or_else first second ≡ Some x → (first ≡ Some x → P x) → (second ≡ Some x → P x) → P x
unfolding or_else
either P None second x e f g = g e
either P (Some y) second x e f g = f e

pub first_is : {A : Type 0} (first second : Option A) (x : A) → first ≡ Some x → or_else first second ≡ Some x
unfolding or_else
first_is first second x e = rw e refl

pub second_is : {A : Type 0} (first second : Option A) (x : A) → first ≡ None → second ≡ Some x → or_else first second ≡ Some x
unfolding or_else
second_is first second x e f = rw e f

pub neither_is : {A : Type 0} (first second : Option A) → first ≡ None → second ≡ None → or_else first second ≡ None
unfolding or_else
neither_is first second e f = rw e f

-- ---- what is copied
pub record Copied (bytes : List ℕ) (o : Option (List ℕ)) (x : TextItem × List ℕ) : Type 0 where
  pub rest : List ℕ
  pub found : o ≡ Some rest
  pub is : x ≡ (puts (front_of bytes rest), rest)

pub copied_read : (bytes : List ℕ) (o : Option (List ℕ)) (x : TextItem × List ℕ) → copy_up_to bytes o ≡ Some x → Copied bytes o x
unfolding copy_up_to
copied_read bytes None x e = cc
copied_read bytes (Some rest) x e = record { rest = rest; found = refl; is = sym (same_some _ _ e) }

pub copied_is : (text rest : List ℕ) (o : Option (List ℕ)) → o ≡ Some rest → copy_up_to (text ++ rest) o ≡ Some (puts text, rest)
unfolding copy_up_to
copied_is text rest o e = rw e (ap (λ l. Some (puts l, rest)) (front_is text rest))

pub copied_none : (bytes : List ℕ) (o : Option (List ℕ)) → o ≡ None → copy_up_to bytes o ≡ None
unfolding copy_up_to
copied_none bytes o e = rw e refl

-- an item that is copied
pub front_copied : (Spells : TextItem → List ℕ → Type 0) (bytes : List ℕ) (o : Option (List ℕ)) (x : TextItem × List ℕ) (IsItem : List ℕ → Type 0) →
    ((rest : List ℕ) → o ≡ Some rest → Begins IsItem bytes rest) → ((text : List ℕ) → IsItem text → Spells (puts text) text) → copy_up_to bytes o ≡ Some x → Front Spells bytes x.0 x.1
front_copied Spells bytes o x IsItem reads spells e =
    let c = copied_read bytes o x e in
    let b = reads c.rest c.found in
    let text : front_of bytes c.rest ≡ b.item = ap (λ l. front_of l c.rest) b.whole ∙ front_is b.item c.rest in
    subst (λ (y : TextItem × List ℕ). Front Spells bytes y.0 y.1) (sym (c.is ∙ ap (λ l. (puts l, c.rest)) text)) record { text = b.item; spelled = spells b.item b.is_item; whole = b.whole }

-- ---- bytes
record TakesByte (others bytes : List ℕ) (x : TextItem × List ℕ) : Type 0 where
  byte : ℕ
  is_other : is_one_of others byte ≡ false
  whole : bytes ≡ byte ∷ x.1
  is : x.0 ≡ puts (byte ∷ [])

byte_read : (others bytes : List ℕ) (x : TextItem × List ℕ) → byte_at others bytes ≡ Some x → TakesByte others bytes x
unfolding byte_at
byte_read others [] x e = cc
byte_read others (b ∷ bs) x e = by (is_one_of others b) refl e
  where
    by : (one : Bool) → is_one_of others b ≡ one → cond one None (Some (puts (b ∷ []), bs)) ≡ Some x → TakesByte others (b ∷ bs) x
    by true is f = cc
    by false is f = let same = same_some _ _ f in
        record {
          byte = b;
          is_other = is;
          whole = ap (λ l. b ∷ l)
              (ap (λ (y : TextItem × List ℕ). y.1) same);
          is = sym (ap (λ (y : TextItem × List ℕ). y.0) same);
        }

pub front_byte : (Spells : TextItem → List ℕ → Type 0) (others bytes : List ℕ) (x : TextItem
    × List ℕ) → ((text : List ℕ) → IsByteBut others text → Spells (puts text) text) →
    byte_at others bytes ≡ Some x → Front Spells bytes x.0 x.1
front_byte Spells others bytes x spells e =
    let t = byte_read others bytes x e in
    subst (λ i. Front Spells bytes i x.1) (sym t.is) record { text = t.byte ∷ []; spelled = spells (t.byte ∷ []) record { byte = t.byte; is_other = t.is_other; whole = refl }; whole = t.whole }

pub byte_is : (others text rest : List ℕ) → IsByteBut others text → byte_at others (text ++ rest) ≡ Some (puts text, rest)
unfolding byte_at
byte_is others text rest is = rw (is.whole, is.is_other) refl

pub no_byte : (others rest : List ℕ) (b : ℕ) → is_one_of others b ≡ true → byte_at others (b ∷ rest) ≡ None
unfolding byte_at
no_byte others rest b is = rw is refl

-- ---- names between a byte and `;`
pub record Named (byte : ℕ) (bytes name rest : List ℕ) : Type 0 where
  pub is_name : IsName name
  pub whole : bytes ≡ (byte ∷ (name ++ codes ";")) ++ rest

pub named_read : (byte : ℕ) (bytes name rest : List ℕ) → named_at byte bytes ≡ Some (name, rest) → Named byte bytes name rest
unfolding named_at
named_read byte bytes name rest e =
    let start = bound (after_bytes (byte ∷ []) bytes) _ (name, rest) e in
    let word = bound (name_at start.value) _ (name, rest) start.others in
    let end = bound (after_bytes (codes ";") word.value.1) _ (name, rest) word.others in
    let named = name_at_takes start.value word.value.0 word.value.1 word.first in
    let pair = same_some _ _ end.others in
    let whole : bytes ≡ (byte ∷ (word.value.0 ++ codes ";")) ++ end.value =
    after_bytes_takes (byte ∷ []) bytes start.value start.first ∙ ap (λ l. byte ∷ l) (named.whole
    ∙ ap (λ l. word.value.0 ++ l) (after_bytes_takes (codes ";") word.value.1 end.value
    end.first) ∙ sym (append_assoc word.value.0 (codes ";") end.value)) in
    let P : List ℕ × List ℕ → Type 0 = λ p. Named byte bytes p.0 p.1 in
    subst P pair record { is_name = named.is_name; whole = whole }

pub named_is : (byte : ℕ) (name rest : List ℕ) → IsName name → named_at byte ((byte ∷ (name ++ codes ";")) ++ rest) ≡ Some (name, rest)
unfolding named_at
named_is byte name rest is =
    let named = name_at-append name (codes ";" ++ rest) is refl in
    let front : after_bytes (byte ∷ []) ((byte ∷ (name ++ codes ";")) ++ rest) ≡ Some (name
    ++ (codes ";" ++ rest)) = after_bytes-append (byte ∷ []) ((name ++ codes ";") ++ rest)
    ∙ ap Some (append_assoc name (codes ";") rest) in
    rw (front, named) refl

-- ---- references
pub reference_read : (bytes : List ℕ) (x : TextItem × List ℕ) → reference_at bytes ≡ Some x → (name : List ℕ) × (x.0 ≡ reference name) × Named 37 bytes name x.1
unfolding reference_at
reference_read bytes x e =
    let b = bound (named_at 37 bytes) _ x e in
    let pair = same_some _ _ b.others in
    (b.value.0, sym (ap (λ (y : TextItem × List ℕ). y.0) pair), subst (λ l. Named 37 bytes b.value.0 l) (ap (λ (y : TextItem × List ℕ). y.1) pair) (named_read 37 bytes b.value.0 b.value.1 b.first))

pub front_reference : (Spells : TextItem → List ℕ → Type 0) (bytes : List ℕ) (x : TextItem
    × List ℕ) → ((name text : List ℕ) → IsPEReference name text → Spells (reference name) text) →
    reference_at bytes ≡ Some x → Front Spells bytes x.0 x.1
front_reference Spells bytes x spells e =
    let r = reference_read bytes x e in
    subst (λ i. Front Spells bytes i x.1)
    (sym r.1) record {
      text = codes "%" ++ (r.0 ++ codes ";");
      spelled = spells r.0 (codes "%"
          ++ (r.0 ++ codes ";")) record { is_name = r.2.is_name; whole = refl };
      whole = r.2.whole;
    }

pub reference_is : (name text rest : List ℕ) → IsPEReference name text → reference_at (text ++ rest) ≡ Some (reference name, rest)
unfolding reference_at
reference_is name text rest is = rw (is.whole, named_is 37 name rest is.is_name) refl

-- ---- literals
literal_begins : (bytes rest : List ℕ) → literal_at bytes ≡ Some rest → Begins IsQuotedLiteral bytes rest
unfolding literal_at
literal_begins bytes rest e =
    let b = bound (quoted_at bytes) _ rest e in
    by b.value b.first (tells_quoted bytes) (same_some _ _ b.others)
  where
    by : (r : List ℕ × List ℕ) → quoted_at bytes ≡ Some r → MatchOption (quoted_at bytes) (BeginsNoQuoted bytes) (λ p. Begins (IsQuoted p.0) bytes p.1) → r.1 ≡ rest → Begins IsQuotedLiteral bytes rest
    by r is m same = let b = rw is at m in record { item = b.item; is_item = (r.0, b.is_item); whole = b.whole ∙ ap (λ l. b.item ++ l) same }

literal_is : (text rest : List ℕ) → IsQuotedLiteral text → literal_at (text ++ rest) ≡ Some rest
unfolding literal_at
literal_is text rest is = rw (quoted_is is.0 text rest is.1) refl

quotes_excluded : (quote : ℕ) (double single : Bool) → (quote == 34) ≡ double → (quote == 39) ≡ single → (double || single) ≡ true → is_one_of (codes "<>%'\"") quote ≡ true
quotes_excluded quote true single d s e = let is = (Decides-eqb quote 34).0 d in rw is refl
quotes_excluded quote false true d s e = let is = (Decides-eqb quote 39).0 s in rw is refl
quotes_excluded quote false false d s e = cc

no_byte_in_literal : (text rest : List ℕ) → IsQuotedLiteral text → byte_at (codes "<>%'\"") (text ++ rest) ≡ None
no_byte_in_literal text rest is = let q = is.1 in
    rw q.whole (no_byte (codes "<>%'\"") ((is.0 ++ q.quote ∷ []) ++ rest) q.quote
    (quotes_excluded q.quote (q.quote == 34) (q.quote == 39) refl refl q.is_quote))

-- ---- mode Inside
pub inside_read : (bytes : List ℕ) (i : TextItem) (rest : List ℕ) → inside_at bytes ≡ Some (i, rest) → Front SpellsInside bytes i rest
unfolding inside_at
inside_read bytes i rest e =
    let P : TextItem × List ℕ → Type 0 = λ x. Front SpellsInside bytes x.0 x.1 in
    either P _ _ (i, rest) e (front_byte SpellsInside (codes "<>%'\"") bytes (i, rest) (λ text is. (refl, inl is)))
    (λ f. either P _ _ (i, rest) f (front_copied SpellsInside bytes (literal_at bytes) (i, rest) IsQuotedLiteral (literal_begins bytes) (λ text is. (refl, inr is)))
    (front_reference SpellsInside bytes (i, rest) (λ name text is. is)))

no_literal : (byte : ℕ) (rest : List ℕ) → is_quote byte ≡ false → literal_at (byte ∷ rest) ≡ None
unfolding literal_at quoted_at
no_literal byte rest is = rw is refl

pub inside_is_read : (i : TextItem) (text rest : List ℕ) → SpellsInside i text → inside_at (text ++ rest) ≡ Some (i, rest)
unfolding inside_at
inside_is_read (puts result) text rest (same, inl is) = subst (λ r. inside_at (text ++ rest) ≡ Some (puts r, rest)) (sym same) (first_is _ _ (puts text, rest) (byte_is (codes "<>%'\"") text rest is))
inside_is_read (puts result) text rest (same, inr is) = subst (λ r. inside_at (text ++ rest)
    ≡ Some (puts r, rest)) (sym same) (second_is _ _ (puts text, rest) (no_byte_in_literal text rest
    is) (first_is _ _ (puts text, rest) (copied_is text rest _ (literal_is text rest is))))
inside_is_read (reference name) text rest s =
    let byte : byte_at (codes "<>%'\"") (text ++ rest) ≡ None = rw s.whole (no_byte (codes "<>%'\"") ((name ++ codes ";") ++ rest) 37 refl) in
    let quoted : literal_at (text ++ rest) ≡ None = rw s.whole (no_literal 37 ((name ++ codes ";") ++ rest) refl) in
    second_is _ _ (reference name, rest) byte (second_is _ _ (reference name, rest) (copied_none (text ++ rest) (literal_at (text ++ rest)) quoted) (reference_is name text rest s))
inside_is_read (parameter name given) text rest s = absurd s
inside_is_read (declaration word held) text rest s = absurd s

inside_some : (i : TextItem) (text : List ℕ) → SpellsInside i text → text ≢ []
inside_some (puts result) text (same, inl is) e = let w = is.whole in cc
inside_some (puts result) text (same, inr is) e = let w = is.1.whole in cc
inside_some (reference name) text s e = let w = s.whole in cc
inside_some (parameter name given) text s e = s
inside_some (declaration word held) text s e = s

pub inside_reads : Reads SpellsInside inside_at
inside_reads = record { read = inside_read; is_read = inside_is_read; some = inside_some }
