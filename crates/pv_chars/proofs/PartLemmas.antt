-- The parts of an XML declaration, read from the front.
use Rattle.std.proofs.Common.{◌≡◌, ◌≢◌, ℕ, List, [], ◌∷◌, ◌++◌, false, Some, None, refl, sym, ap}
use Rattle.std.proofs.Common.{subst, ◌∙◌, append_assoc}
use Rattle.std.specs.Prelude.{codes}
use Rattle.pv_chars.specs.Spaces.{is_space}
use Rattle.pv_chars.specs.Scan.{after_space, after_blank}
use Rattle.pv_chars.specs.Fronts.{Begins, BeginsNone}
use Rattle.pv_chars.specs.Declarations.{is_quote, IsQuoted, IsPart, BeginsNoQuoted, BeginsNoPart}
use Rattle.pv_chars.specs.Declarations.{IsPartOf}
use Rattle.pv_chars.proofs.TextScans.{begins, after_space_takes, after_space-append, after_blank_takes, after_blank-append}
use Rattle.pv_chars.proofs.Beginnings.{HasNoSpace, no_space, unlike}
use Rattle.pv_chars.proofs.MarkupLemmas.{behind}
use Rattle.pv_chars.proofs.QuoteLemmas.{same_quoted}

-- A part, and what stands in front of each piece of it.
pub record PartSteps (word bytes value rest : List ℕ) : Type 0 where
  pub start : List ℕ
  pub named : List ℕ
  pub valued : List ℕ
  pub blank : after_blank bytes ≡ Some start
  pub is_word : start ≡ word ++ named
  pub is_eq : after_space named ≡ codes "=" ++ valued
  pub is_quoted : Begins (IsQuoted value) (after_space valued) rest

quotes_have_no_space : HasNoSpace is_quote
quotes_have_no_space = record { space = refl; tab = refl; return = refl; feed = refl }

-- a value in quotes begins with no white space
pub quoted_begins : (bytes value rest : List ℕ) → Begins (IsQuoted value) bytes rest → begins is_space bytes ≡ false
quoted_begins bytes value rest b =
    let i = b.is_item in
    let whole : bytes ≡ i.quote ∷ ((value ++ i.quote ∷ []) ++ rest) = b.whole ∙ ap (λ l. l ++ rest) i.whole in
    rw whole (unlike is_quote i.quote (is_space i.quote) is_space i.is_quote (no_space is_quote quotes_have_no_space i.quote) refl)

pub word_begins : (word rest : List ℕ) → word ≢ [] → begins is_space word ≡ false → begins is_space (word ++ rest) ≡ false
word_begins [] rest some black = absurd (some refl)
word_begins (x ∷ xs) rest some black = black

pub part_steps : (word bytes value rest : List ℕ) → word ≢ [] → begins is_space word ≡ false → Begins (IsPart word value) bytes rest → PartSteps word bytes value rest
part_steps word bytes value rest some black b =
    let i = b.is_item in
    let q = i.is_eq in
    let end = i.quoted ++ rest in
    let valued = q.after ++ end in
    let named = q.before ++ (codes "=" ++ valued) in
    let equals : (i.equals ++ i.quoted) ++ rest ≡ named = append_assoc i.equals i.quoted rest
    ∙ ap (λ l. l ++ end) q.whole ∙ append_assoc q.before (codes "=" ++ q.after) end
    ∙ ap (λ l. q.before ++ l) (append_assoc (codes "=") q.after end) in
    let whole : bytes ≡ i.space ++ (word ++ named) = b.whole ∙ ap (λ l. l ++ rest) i.whole
    ∙ append_assoc i.space (word ++ (i.equals ++ i.quoted)) rest ∙ ap (λ l. i.space ++ l)
    (append_assoc word (i.equals ++ i.quoted) rest ∙ ap (λ l. word ++ l) equals) in
    let quoted : Begins (IsQuoted value) end rest = record { item = i.quoted; is_item = i.is_quoted; whole = refl } in
    record {
      start = word ++ named;
      named = named;
      valued = valued;
      blank = ap after_blank whole ∙ after_blank-append i.space (word ++ named) i.is_space (word_begins word named some black);
      is_word = refl;
      is_eq = after_space-append q.before (codes "=" ++ valued) q.space_before refl;
      is_quoted = rw (after_space-append q.after end q.space_after (quoted_begins end value rest quoted)) quoted;
    }

pub part_by : (word bytes value rest : List ℕ) → PartSteps word bytes value rest → Begins (IsPart word value) bytes rest
part_by word bytes value rest s =
    let b = s.is_quoted in
    let blank = after_blank_takes bytes s.start s.blank in
    let before = after_space_takes s.named in
    let after = after_space_takes s.valued in
    let equals = before.space ++ (codes "=" ++ after.space) in
    let valued : s.valued ≡ after.space ++ (b.item ++ rest) = after.whole ∙ ap (λ l. after.space ++ l) b.whole in
    let named : s.named ≡ equals ++ (b.item ++ rest) =
    before.whole ∙ ap (λ l. before.space ++ l) (s.is_eq ∙ ap (λ l. codes "=" ++ l) valued
    ∙ sym (append_assoc (codes "=") after.space (b.item ++ rest)))
    ∙ sym (append_assoc before.space (codes "=" ++ after.space) (b.item ++ rest)) in
    record {
      item = blank.space ++ (word ++ (equals ++ b.item));
      is_item = record {
        space = blank.space;
        equals = equals;
        quoted = b.item;
        is_space = blank.some;
        is_eq =
            record {
              before = before.space;
              after = after.space;
              space_before = before.optional;
              space_after = after.optional;
              whole = refl;
            };
        is_quoted = b.is_item;
        whole = refl;
      };
      whole = blank.whole ∙ ap (λ l. blank.space ++ l) (s.is_word ∙ ap (λ l. word ++ l) (named
          ∙ sym (append_assoc equals b.item rest))
          ∙ sym (append_assoc word (equals ++ b.item) rest)) ∙ sym (append_assoc blank.space (word
          ++ (equals ++ b.item)) rest);
    }

-- the steps are determined
pub same_start : (word bytes value rest start : List ℕ) → after_blank bytes ≡ Some start → (s : PartSteps word bytes value rest) → s.start ≡ start
same_start word bytes value rest start e s = let blank = s.blank in cc

pub same_named : (word bytes value rest start named : List ℕ) → after_blank bytes ≡ Some start → start ≡ word ++ named → (s : PartSteps word bytes value rest) → s.named ≡ named
same_named word bytes value rest start named e w s = behind word s.named named (sym s.is_word ∙ same_start word bytes value rest start e s ∙ w)

pub same_valued : (word bytes value rest start named valued : List ℕ) →
    after_blank bytes ≡ Some start → start ≡ word ++ named → after_space named ≡ codes "="
    ++ valued → (s : PartSteps word bytes value rest) → s.valued ≡ valued
same_valued word bytes value rest start named valued e w q s = behind (codes "=") s.valued valued (sym s.is_eq ∙ ap after_space (same_named word bytes value rest start named e w s) ∙ q)

-- where no part begins
module _ (word bytes : List ℕ) (some : word ≢ []) (black : begins is_space word ≡ false) where
  pub no_part_blank : after_blank bytes ≡ None → BeginsNoPart word bytes
  no_part_blank none value rest b = let blank = (part_steps word bytes value rest some black b).blank in cc

  pub no_part_word : (start : List ℕ) → after_blank bytes ≡ Some start → ((named : List ℕ) → start ≢ word ++ named) → BeginsNoPart word bytes
  no_part_word start e none value rest b = let s = part_steps word bytes value rest some black b in none s.named (sym (same_start word bytes value rest start e s) ∙ s.is_word)

  pub no_part_eq : (start named : List ℕ) → after_blank bytes ≡ Some start → start ≡ word ++ named → ((valued : List ℕ) → after_space named ≢ codes "=" ++ valued) → BeginsNoPart word bytes
  no_part_eq start named e w none value rest b = let s = part_steps word bytes value rest some black
      b in none s.valued (ap after_space (sym (same_named word bytes value rest start named e w s)) ∙ s.is_eq)

  pub no_part_quoted : (start named valued : List ℕ) → after_blank bytes ≡ Some start → start ≡ word
      ++ named → after_space named ≡ codes "=" ++ valued → BeginsNoQuoted (after_space valued) →
      BeginsNoPart word bytes
  no_part_quoted start named valued e w q none value rest b =
      let s = part_steps word bytes value rest some black b in
      let P : List ℕ → Type 0 = λ l. Begins (IsQuoted value) (after_space l) rest in
      none value rest (subst P (same_valued word bytes value rest start named valued e w q s) s.is_quoted)

  -- value and rest are determined
  pub same_part : (value rest other more : List ℕ) → Begins (IsPart word value) bytes rest → Begins (IsPart word other) bytes more → (value ≡ other) × (rest ≡ more)
  same_part value rest other more a b =
      let s = part_steps word bytes value rest some black a in
      let t = part_steps word bytes other more some black b in
      let P : List ℕ → Type 0 = λ l. Begins (IsQuoted other) (after_space l) more in
      same_quoted (after_space s.valued) value rest other more s.is_quoted (subst P (same_valued word bytes other more s.start s.named s.valued s.blank s.is_word s.is_eq t) t.is_quoted)

-- ---- parts by what their values may be
pub part_of_by : (word bytes value rest : List ℕ) (IsValue : List ℕ → Type 0) → IsValue value → Begins (IsPart word value) bytes rest → Begins (IsPartOf word IsValue) bytes rest
part_of_by word bytes value rest IsValue is b = record { item = b.item; is_item = (value, is, b.is_item); whole = b.whole }

pub part_in : (word bytes rest : List ℕ) (IsValue : List ℕ → Type 0) → (b : Begins (IsPartOf word IsValue) bytes rest) → Begins (IsPart word b.is_item.0) bytes rest
part_in word bytes rest IsValue b = record { item = b.item; is_item = b.is_item.2; whole = b.whole }

pub no_part_of : (word bytes : List ℕ) (IsValue : List ℕ → Type 0) → BeginsNoPart word bytes → BeginsNone (IsPartOf word IsValue) bytes
no_part_of word bytes IsValue none rest b = none b.is_item.0 rest (part_in word bytes rest IsValue b)

module _ (word bytes : List ℕ) (IsValue : List ℕ → Type 0) (some : word ≢ []) (black : begins is_space word ≡ false) where
  pub no_value_of : (value rest : List ℕ) → Begins (IsPart word value) bytes rest → (IsValue value → ⊥) → BeginsNone (IsPartOf word IsValue) bytes
  no_value_of value rest part none more b =
      let same = (same_part word bytes some black value rest b.is_item.0 more part (part_in word bytes more IsValue b)).0 in
      none (subst IsValue (sym same) b.is_item.1)

  pub same_part_of : (rest more : List ℕ) → Begins (IsPartOf word IsValue) bytes rest → Begins (IsPartOf word IsValue) bytes more → rest ≡ more
  same_part_of rest more a b = (same_part word bytes some black a.is_item.0 rest b.is_item.0 more (part_in word bytes rest IsValue a) (part_in word bytes more IsValue b)).1

  -- it begins with white space and the word
  pub part_of_starts : (rest : List ℕ) → Begins (IsPartOf word IsValue) bytes rest → (named : List ℕ) × (after_blank bytes ≡ Some (word ++ named))
  part_of_starts rest b = let s = part_steps word bytes b.is_item.0 rest some black (part_in word bytes rest IsValue b) in (s.named, s.blank ∙ ap Some s.is_word)

-- ---- values
