-- External identifiers, read from the front.
use Rattle.std.proofs.Common.{◌≡◌, ◌≢◌, ℕ, inl, inr, List, [], ◌∷◌, ◌++◌, false, Option, Some, None, refl, sym, ap, subst, ◌∙◌, arith, append_assoc}
use Rattle.std.specs.Prelude.{codes, IsTrue}
use Rattle.std.specs.List.{list_all}
use Rattle.pv_chars.specs.Spaces.{is_space, TakesBlank}
use Rattle.pv_chars.specs.Scan.{after_blank}
use Rattle.pv_chars.specs.Characters.{IsChars}
use Rattle.pv_chars.specs.Fronts.{Begins, BeginsNone}
use Rattle.pv_chars.specs.Declarations.{IsQuoted, BeginsNoQuoted}
use Rattle.pv_chars.proofs.MarkupLemmas.{behind}
use Rattle.pv_chars.proofs.TextScans.{begins, after_blank-append, after_blank_takes}
use Rattle.pv_chars.proofs.PartLemmas.{quoted_begins, word_begins}
use Rattle.pv_chars.proofs.QuoteLemmas.{same_quoted}
use Rattle.pv_chars.proofs.DeclarationLemmas.{IsOnly}
use Rattle.pv_tree.specs.Prolog.{is_pubid_char, IsSystemLiteral, IsPubidLiteral, IsSystemId, IsPublicId, IsExternalId}
use Rattle.pv_read.specs.Takes.{TakesWord}
use Rattle.pv_read.proofs.AttributeLemmas.{black_is_no_blank}

-- ---- literals
abbrev pub IsLiteralOf : (List ℕ → Type 0) → List ℕ → Type 0
IsLiteralOf IsValue bytes = (value : List ℕ) × IsValue value × IsQuoted value bytes

module _ (IsValue : List ℕ → Type 0) where
  in_quotes : (bytes rest : List ℕ) → (b : Begins (IsLiteralOf IsValue) bytes rest) → Begins (IsQuoted b.is_item.0) bytes rest
  in_quotes bytes rest b = record { item = b.item; is_item = b.is_item.2; whole = b.whole }

  pub no_literal : (bytes : List ℕ) → BeginsNoQuoted bytes → BeginsNone (IsLiteralOf IsValue) bytes
  no_literal bytes none rest b = none b.is_item.0 rest (in_quotes bytes rest b)

  pub no_value : (bytes value more : List ℕ) → Begins (IsQuoted value) bytes more → (IsValue value → ⊥) → BeginsNone (IsLiteralOf IsValue) bytes
  no_value bytes value more own never rest b =
      let same = (same_quoted bytes b.is_item.0 rest value more (in_quotes bytes rest b) own).0 in
      never (subst (λ (l : List ℕ). IsValue l) same b.is_item.1)

  pub one_literal : IsOnly (IsLiteralOf IsValue)
  one_literal bytes rest more a b = (same_quoted bytes a.is_item.0 rest b.is_item.0 more (in_quotes bytes rest a) (in_quotes bytes more b)).1

  -- a literal begins with no white space
  pub literal_black : (item rest : List ℕ) → IsLiteralOf IsValue item → begins is_space (item ++ rest) ≡ false
  literal_black item rest is = quoted_begins (item ++ rest) is.0 rest record { item = item; is_item = is.2; whole = refl }

-- ---- a word with white space round it
module _ (word : List ℕ) (some : word ≢ []) (black : begins is_space word ≡ false) where
  pub word_start : (bytes rest : List ℕ) → (t : TakesWord word bytes rest) → after_blank bytes ≡ Some (word ++ (t.gap ++ rest))
  word_start bytes rest t = ap after_blank t.whole ∙ after_blank-append t.space (word ++ (t.gap ++ rest)) t.is_space (word_begins word (t.gap ++ rest) some black)

  pub word_gap : (bytes rest start named : List ℕ) → after_blank bytes ≡ Some start → start ≡ word ++ named → TakesWord word bytes rest → after_blank named ≡ Some rest
  word_gap bytes rest start named e w t =
      let blank = word_start bytes rest t in
      let same : start ≡ word ++ (t.gap ++ rest) = cc in
      ap after_blank (behind word named (t.gap ++ rest) (sym w ∙ same)) ∙ after_blank-append t.gap rest t.is_gap t.ends

  pub no_word_blank : (bytes : List ℕ) → after_blank bytes ≡ None → (rest : List ℕ) → TakesWord word bytes rest → ⊥
  no_word_blank bytes e rest t = let blank = word_start bytes rest t in cc

  pub no_word_start : (bytes start : List ℕ) → after_blank bytes ≡ Some start → ((named : List ℕ) → start ≢ word ++ named) → (rest : List ℕ) → TakesWord word bytes rest → ⊥
  no_word_start bytes start e none rest t =
      let blank = word_start bytes rest t in
      let same : start ≡ word ++ (t.gap ++ rest) = cc in
      none (t.gap ++ rest) same

  pub no_word_gap : (bytes start named : List ℕ) → after_blank bytes ≡ Some start → start ≡ word ++ named → after_blank named ≡ None → (rest : List ℕ) → TakesWord word bytes rest → ⊥
  no_word_gap bytes start named e w none rest t = let gap = word_gap bytes rest start named e w t in cc

  pub no_word_black : (bytes start named : List ℕ) → after_blank bytes ≡ Some start → start ≡ word ++ named → begins is_space named ≡ false → (rest : List ℕ) → TakesWord word bytes rest → ⊥
  no_word_black bytes start named e w none = no_word_gap bytes start named e w (black_is_no_blank named none)

  pub word_by : (bytes start named rest : List ℕ) → after_blank bytes ≡ Some start → start ≡ word ++ named → TakesBlank named rest → TakesWord word bytes rest
  word_by bytes start named rest e w gap =
      let before = after_blank_takes bytes start e in
      record {
        space = before.space;
        gap = gap.space;
        is_space = before.some;
        is_gap = gap.some;
        whole = before.whole ∙ ap (λ l. before.space ++ l) (w ∙ ap (λ l. word ++ l) gap.whole);
        ends = gap.ends;
      }

  pub one_word : (bytes rest more : List ℕ) → TakesWord word bytes rest → TakesWord word bytes more → rest ≡ more
  one_word bytes rest more a b =
      let start = word_start bytes rest a in
      let first = word_gap bytes rest (word ++ (a.gap ++ rest)) (a.gap ++ rest) start refl a in
      let second = word_gap bytes more (word ++ (a.gap ++ rest)) (a.gap ++ rest) start refl b in cc

-- ---- SYSTEM
-- What it is, from the left.
pub record SystemSteps (bytes rest : List ℕ) : Type 0 where
  pub literal : List ℕ
  pub word : TakesWord (codes "SYSTEM") bytes literal
  pub is_literal : Begins IsSystemLiteral literal rest

pub system_steps : (bytes rest : List ℕ) → Begins IsSystemId bytes rest → SystemSteps bytes rest
system_steps bytes rest b =
    let i = b.is_item in
    record {
      literal = i.literal ++ rest;
      word = record {
        space = i.space;
        gap = i.gap;
        is_space = i.is_space;
        is_gap = i.is_gap;
        whole = b.whole ∙ ap (λ l. l ++ rest) i.whole ∙ append_assoc i.space (codes "SYSTEM"
            ++ (i.gap ++ i.literal)) rest ∙ ap (λ l. i.space ++ l) (append_assoc (codes "SYSTEM")
            (i.gap ++ i.literal) rest ∙ ap (λ l. codes "SYSTEM" ++ l) (append_assoc i.gap i.literal rest));
        ends = literal_black IsChars i.literal rest i.is_literal;
      };
      is_literal = record { item = i.literal; is_item = i.is_literal; whole = refl };
    }

pub system_by : (bytes literal rest : List ℕ) → TakesWord (codes "SYSTEM") bytes literal → Begins IsSystemLiteral literal rest → Begins IsSystemId bytes rest
system_by bytes literal rest w b = record {
  item = w.space ++ (codes "SYSTEM" ++ (w.gap ++ b.item));
  is_item = record { space = w.space; gap = w.gap; literal = b.item; is_space = w.is_space; is_gap = w.is_gap; is_literal = b.is_item; whole = refl };
  whole = w.whole ∙ ap (λ l. w.space ++ (codes "SYSTEM" ++ (w.gap ++ l))) b.whole
      ∙ sym (append_assoc w.space (codes "SYSTEM" ++ (w.gap ++ b.item)) rest ∙ ap (λ l. w.space
      ++ l) (append_assoc (codes "SYSTEM") (w.gap ++ b.item) rest ∙ ap (λ l. codes "SYSTEM" ++ l)
      (append_assoc w.gap b.item rest)));
}

system_some : codes "SYSTEM" ≢ []
system_some none = cc

public_some : codes "PUBLIC" ≢ []
public_some none = cc

pub no_system_word : (bytes : List ℕ) → ((rest : List ℕ) → TakesWord (codes "SYSTEM") bytes rest → ⊥) → BeginsNone IsSystemId bytes
no_system_word bytes none rest b = let s = system_steps bytes rest b in none s.literal s.word

pub no_system_literal : (bytes literal : List ℕ) → TakesWord (codes "SYSTEM") bytes literal → BeginsNone IsSystemLiteral literal → BeginsNone IsSystemId bytes
no_system_literal bytes literal w none rest b =
    let s = system_steps bytes rest b in
    let same = one_word (codes "SYSTEM") system_some refl bytes s.literal literal s.word w in
    none rest (subst (λ (l : List ℕ). Begins IsSystemLiteral l rest) same s.is_literal)

one_system : IsOnly IsSystemId
one_system bytes rest more a b =
    let s = system_steps bytes rest a in
    let t = system_steps bytes more b in
    let same = one_word (codes "SYSTEM") system_some refl bytes s.literal t.literal s.word t.word in
    one_literal IsChars t.literal rest more (subst (λ (l : List ℕ). Begins IsSystemLiteral l rest) same s.is_literal) t.is_literal

-- ---- PUBLIC
pub record PublicSteps (bytes rest : List ℕ) : Type 0 where
  pub public : List ℕ
  pub between : List ℕ
  pub system : List ℕ
  pub word : TakesWord (codes "PUBLIC") bytes public
  pub is_public : Begins IsPubidLiteral public between
  pub blank : after_blank between ≡ Some system
  pub is_system : Begins IsSystemLiteral system rest

abbrev IsPubidChars : List ℕ → Type 0
IsPubidChars value = IsTrue (list_all is_pubid_char value)

pub public_steps : (bytes rest : List ℕ) → Begins IsPublicId bytes rest → PublicSteps bytes rest
public_steps bytes rest b =
    let i = b.is_item in
    let system = i.system ++ rest in
    let between = i.between ++ system in
    let behind_word = append_assoc i.public (i.between ++ i.system) rest ∙ ap (λ l. i.public ++ l) (append_assoc i.between i.system rest) in
    record {
      public = i.public ++ between;
      between = between;
      system = system;
      word = record {
        space = i.space;
        gap = i.gap;
        is_space = i.is_space;
        is_gap = i.is_gap;
        whole = b.whole ∙ ap (λ l. l ++ rest) i.whole ∙ append_assoc i.space (codes "PUBLIC"
            ++ (i.gap ++ (i.public ++ (i.between ++ i.system)))) rest ∙ ap (λ l. i.space ++ l)
            (append_assoc (codes "PUBLIC") (i.gap ++ (i.public ++ (i.between ++ i.system))) rest
            ∙ ap (λ l. codes "PUBLIC" ++ l) (append_assoc i.gap (i.public
            ++ (i.between ++ i.system)) rest ∙ ap (λ l. i.gap ++ l) behind_word));
        ends = literal_black IsPubidChars i.public between i.is_public;
      };
      is_public = record { item = i.public; is_item = i.is_public; whole = refl };
      blank = after_blank-append i.between system i.is_between (literal_black IsChars i.system rest i.is_system);
      is_system = record { item = i.system; is_item = i.is_system; whole = refl };
    }

pub public_by : (bytes rest : List ℕ) → PublicSteps bytes rest → Begins IsPublicId bytes rest
public_by bytes rest s =
    let w = s.word in
    let p = s.is_public in
    let gap = after_blank_takes s.between s.system s.blank in
    let b = s.is_system in
    let inner : s.public ≡ (p.item ++ (gap.space ++ b.item)) ++ rest = p.whole ∙ ap (λ l. p.item
    ++ l) (gap.whole ∙ ap (λ l. gap.space ++ l) b.whole
    ∙ sym (append_assoc gap.space b.item rest)) ∙ sym (append_assoc p.item (gap.space ++ b.item) rest) in
    record {
      item = w.space ++ (codes "PUBLIC" ++ (w.gap ++ (p.item ++ (gap.space ++ b.item))));
      is_item = record {
        space = w.space;
        gap = w.gap;
        public = p.item;
        between = gap.space;
        system = b.item;
        is_space = w.is_space;
        is_gap = w.is_gap;
        is_public = p.is_item;
        is_between = gap.some;
        is_system = b.is_item;
        whole = refl;
      };
      whole = w.whole ∙ ap (λ l. w.space ++ (codes "PUBLIC" ++ (w.gap ++ l))) inner
          ∙ sym (append_assoc w.space (codes "PUBLIC"
          ++ (w.gap ++ (p.item ++ (gap.space ++ b.item)))) rest ∙ ap (λ l. w.space ++ l)
          (append_assoc (codes "PUBLIC") (w.gap ++ (p.item ++ (gap.space ++ b.item))) rest
          ∙ ap (λ l. codes "PUBLIC" ++ l) (append_assoc w.gap (p.item ++ (gap.space ++ b.item)) rest)));
    }

pub no_public_word : (bytes : List ℕ) → ((rest : List ℕ) → TakesWord (codes "PUBLIC") bytes rest → ⊥) → BeginsNone IsPublicId bytes
no_public_word bytes none rest b = let s = public_steps bytes rest b in none s.public s.word

same_between : (bytes public between rest : List ℕ) → TakesWord (codes "PUBLIC") bytes public → Begins IsPubidLiteral public between → (s : PublicSteps bytes rest) → s.between ≡ between
same_between bytes public between rest w b s =
    let same = one_word (codes "PUBLIC") public_some refl bytes s.public public s.word w in
    one_literal IsPubidChars public s.between between (subst (λ (l : List ℕ). Begins IsPubidLiteral l s.between) same s.is_public) b

pub no_public_literal : (bytes public : List ℕ) → TakesWord (codes "PUBLIC") bytes public → BeginsNone IsPubidLiteral public → BeginsNone IsPublicId bytes
no_public_literal bytes public w none rest b =
    let s = public_steps bytes rest b in
    let same = one_word (codes "PUBLIC") public_some refl bytes s.public public s.word w in
    none s.between (subst (λ (l : List ℕ). Begins IsPubidLiteral l s.between) same s.is_public)

pub no_public_blank : (bytes public between : List ℕ) → TakesWord (codes "PUBLIC") bytes public → Begins IsPubidLiteral public between → after_blank between ≡ None → BeginsNone IsPublicId bytes
no_public_blank bytes public between w p e rest b =
    let s = public_steps bytes rest b in
    let blank : after_blank between ≡ Some s.system = ap after_blank (sym (same_between bytes public between rest w p s)) ∙ s.blank in cc

pub no_public_system : (bytes public between system : List ℕ) →
    TakesWord (codes "PUBLIC") bytes public → Begins IsPubidLiteral public between →
    after_blank between ≡ Some system → BeginsNone IsSystemLiteral system → BeginsNone IsPublicId bytes
no_public_system bytes public between system w p e none rest b =
    let s = public_steps bytes rest b in
    let blank : after_blank between ≡ Some s.system = ap after_blank (sym (same_between bytes public between rest w p s)) ∙ s.blank in
    let same : s.system ≡ system = cc in
    none rest (subst (λ (l : List ℕ). Begins IsSystemLiteral l rest) same s.is_system)

one_public : IsOnly IsPublicId
one_public bytes rest more a b =
    let s = public_steps bytes rest a in
    let t = public_steps bytes more b in
    let blank : after_blank t.between ≡ Some s.system = ap after_blank (same_between bytes s.public s.between more s.word s.is_public t) ∙ s.blank in
    let other = t.blank in
    let same : s.system ≡ t.system = cc in
    one_literal IsChars t.system rest more (subst (λ (l : List ℕ). Begins IsSystemLiteral l rest) same s.is_system) t.is_system

-- ---- either
letters_differ : ◌≡◌ {A = ℕ} 83 80 → ⊥
letters_differ e = omega arith

first_byte : Option (List ℕ) → ℕ
first_byte None = 0
first_byte (Some []) = 0
first_byte (Some (b ∷ bs)) = b

system_or_public : (bytes rest more : List ℕ) → Begins IsSystemId bytes rest → Begins IsPublicId bytes more → ⊥
unfolding first_byte
system_or_public bytes rest more a b =
    let s = word_start (codes "SYSTEM") system_some refl bytes _ (system_steps bytes rest a).word in
    let p = word_start (codes "PUBLIC") public_some refl bytes _ (public_steps bytes more b).word in
    letters_differ (ap first_byte (sym s ∙ p))

pub external_by_public : (bytes rest : List ℕ) → Begins IsPublicId bytes rest → Begins IsExternalId bytes rest
external_by_public bytes rest b = record { item = b.item; is_item = inr b.is_item; whole = b.whole }

pub no_external : (bytes : List ℕ) → BeginsNone IsSystemId bytes → BeginsNone IsPublicId bytes → BeginsNone IsExternalId bytes
no_external bytes system public rest b = by b.is_item
  where
    by : IsExternalId b.item → ⊥
    by (inl is) = system rest record { item = b.item; is_item = is; whole = b.whole }
    by (inr is) = public rest record { item = b.item; is_item = is; whole = b.whole }

pub one_external : IsOnly IsExternalId
one_external bytes rest more a b = by a.is_item b.is_item
  where
    by : IsExternalId a.item → IsExternalId b.item → rest ≡ more
    by (inl i) (inl j) = one_system bytes rest more record { item = a.item; is_item = i; whole = a.whole } record { item = b.item; is_item = j; whole = b.whole }
    by (inl i) (inr j) = absurd (system_or_public bytes rest more record { item = a.item; is_item = i; whole = a.whole } record { item = b.item; is_item = j; whole = b.whole })
    by (inr i) (inl j) = absurd (system_or_public bytes more rest record { item = b.item; is_item = j; whole = b.whole } record { item = a.item; is_item = i; whole = a.whole })
    by (inr i) (inr j) = one_public bytes rest more record { item = a.item; is_item = i; whole = a.whole } record { item = b.item; is_item = j; whole = b.whole }
