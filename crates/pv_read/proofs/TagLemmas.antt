-- Tags, read from the front.
use Rattle.std.proofs.Common.{◌≡◌, ◌≢◌, ℕ, ◌⊎◌, inl, inr, List, [], ◌∷◌, ◌++◌, true, refl, sym, ap, ◌∙◌, arith, append_assoc}
use Rattle.std.specs.Prelude.{codes}
use Rattle.pv_chars.specs.Spaces.{IsOptionalSpace}
use Rattle.pv_chars.specs.Scan.{after_space}
use Rattle.pv_chars.specs.Characters.{is_name_char, BeginsNo}
use Rattle.pv_chars.specs.Names.{IsName, TakesName}
use Rattle.pv_chars.specs.References.{IsReference}
use Rattle.pv_chars.proofs.MarkupLemmas.{behind}
use Rattle.pv_chars.proofs.NameLemmas.{same_name}
use Rattle.pv_chars.proofs.TextScans.{after_space-append}
use Rattle.pv_chars.proofs.SpaceLemmas.{ascii_ends, space_ends_name}
use Rattle.pv_chars.proofs.UnitReading.{before}
use Rattle.pv_tree.specs.Attributes.{IsAttributes}
use Rattle.pv_read.specs.Items.{start_tag, empty_tag, end_tag, BeginsItem}
use Rattle.pv_read.specs.PlainItems.{BeginsNoneOf}
use Rattle.pv_read.specs.declared.forms.sorts.Sort.TheVariants as sort
use Rattle.pv_read.specs.Takes.{TakesAttributes, ends_tag}
use Rattle.pv_read.proofs.KnownReferences.{reference_is}
use Rattle.pv_read.proofs.AttributeLemmas.{same_attributes, attributes_end_name}

-- what closes a tag
abbrev pub IsClosing : List ℕ → Type 0
IsClosing closing = (closing ≡ codes ">") ⊎ (closing ≡ codes "/>")

-- A tag by its parts.
pub record HasTag (name attrs closing bytes rest : List ℕ) : Type 0 where
  pub is_name : IsName name
  pub are_attributes : IsAttributes IsReference attrs
  pub whole : bytes ≡ codes "<" ++ (name ++ (attrs ++ (closing ++ rest)))

spread : (name attrs closing rest : List ℕ) → (codes "<" ++ (name ++ (attrs ++ closing))) ++ rest ≡ codes "<" ++ (name ++ (attrs ++ (closing ++ rest)))
spread name attrs closing rest = append_assoc (codes "<") (name ++ (attrs ++ closing)) rest
    ∙ ap (λ l. codes "<" ++ l) (append_assoc name (attrs ++ closing) rest
    ∙ ap (λ l. name ++ l) (append_assoc attrs closing rest))

pub start_has : (name attrs bytes rest : List ℕ) → BeginsItem (start_tag name attrs) bytes rest → HasTag name attrs (codes ">") bytes rest
start_has name attrs bytes rest b = record { is_name = b.has_form.0; are_attributes = b.has_form.1; whole = b.whole ∙ spread name attrs (codes ">") rest }

pub empty_has : (name attrs bytes rest : List ℕ) → BeginsItem (empty_tag name attrs) bytes rest → HasTag name attrs (codes "/>") bytes rest
empty_has name attrs bytes rest b = record { is_name = b.has_form.0; are_attributes = b.has_form.1; whole = b.whole ∙ spread name attrs (codes "/>") rest }

-- what closes a tag may end it, and ends a name
closing_ends : (closing rest : List ℕ) → IsClosing closing → ends_tag (closing ++ rest) ≡ true
closing_ends closing rest (inl e) = rw e refl
closing_ends closing rest (inr e) = rw e refl

closing_ends_name : (closing rest : List ℕ) → IsClosing closing → BeginsNo is_name_char (closing ++ rest)
closing_ends_name closing rest (inl e) = rw e (ascii_ends is_name_char 62 rest (omega arith) refl)
closing_ends_name closing rest (inr e) = rw e (ascii_ends is_name_char 47 (62 ∷ rest) (omega arith) refl)

-- the name of a tag is the longest after its `<`
pub tag_name : (name attrs closing bytes rest start : List ℕ) → IsClosing closing →
    bytes ≡ codes "<" ++ start → HasTag name attrs closing bytes rest →
    TakesName start name (attrs ++ (closing ++ rest))
tag_name name attrs closing bytes rest start is e h = record {
  is_name = h.is_name;
  whole = behind (codes "<") start (name ++ (attrs ++ (closing ++ rest))) (sym e ∙ h.whole);
  ends = attributes_end_name IsReference reference_is attrs (closing ++ rest) h.are_attributes (closing_ends_name closing rest is);
}

-- name, attributes and end of a tag are determined
pub same_tag : (name attrs closing rest other others end more bytes : List ℕ) → IsClosing closing →
    IsClosing end → HasTag name attrs closing bytes rest → HasTag other others end bytes more →
    (name ≡ other) × (attrs ≡ others) × (closing ++ rest ≡ end ++ more)
same_tag name attrs closing rest other others end more bytes is ends h k =
    let start = name ++ (attrs ++ (closing ++ rest)) in
    let names = same_name start name (attrs ++ (closing ++ rest)) other (others ++ (end ++ more))
    (tag_name name attrs closing bytes rest start is h.whole h) (tag_name other others end bytes
    more start ends h.whole k) in
    let inside = same_attributes IsReference reference_is attrs others (closing ++ rest) (end
    ++ more) h.are_attributes k.are_attributes (closing_ends closing rest is)
    (closing_ends end more ends) names.1 in
    (names.0, inside.0, inside.1)

-- ---- a tag by what stands after its name
module _ (name bytes : List ℕ) (named : IsName name) (black : BeginsNo is_name_char bytes) where
  -- the attributes and the end that were read are the tag's
  own_end : (other attrs closing rest own end : List ℕ) → IsClosing closing →
      TakesAttributes IsReference bytes own end → HasTag other attrs closing (codes "<"
      ++ (name ++ bytes)) rest → end ≡ closing ++ rest
  own_end other attrs closing rest own end is taken h =
      let names = same_name (name ++ bytes) name bytes other (attrs ++ (closing ++ rest))
      record { is_name = named; whole = refl; ends = black } (tag_name other attrs closing
      (codes "<" ++ (name ++ bytes)) rest (name ++ bytes) is refl h) in
      (taken.only attrs (closing ++ rest) h.are_attributes names.1 (closing_ends closing rest is)).1

  pub no_tag_by_end : (own end : List ℕ) → TakesAttributes IsReference bytes own end →
      ((rest : List ℕ) → end ≢ 62 ∷ rest) → ((rest : List ℕ) → end ≢ 47 ∷ 62 ∷ rest) →
      BeginsNoneOf sort.Tag (codes "<" ++ (name ++ bytes))
  no_tag_by_end own end taken no_start no_empty (start_tag other attrs) rest is b = no_start rest (own_end other attrs (codes ">") rest own end (inl refl) taken (start_has other attrs _ rest b))
  no_tag_by_end own end taken no_start no_empty (empty_tag other attrs) rest is b = no_empty rest (own_end other attrs (codes "/>") rest own end (inr refl) taken (empty_has other attrs _ rest b))
  no_tag_by_end own end taken no_start no_empty i rest is b = cc

-- ---- end tags
end_spread : (name gap rest : List ℕ) → (codes "</" ++ (name ++ (gap ++ codes ">"))) ++ rest ≡ codes "</" ++ (name ++ (gap ++ (codes ">" ++ rest)))
end_spread name gap rest = append_assoc (codes "</") (name ++ (gap ++ codes ">")) rest
    ∙ ap (λ l. codes "</" ++ l) (append_assoc name (gap ++ codes ">") rest
    ∙ ap (λ l. name ++ l) (append_assoc gap (codes ">") rest))

space_then_end : (gap rest : List ℕ) → IsOptionalSpace gap → BeginsNo is_name_char (gap ++ (codes ">" ++ rest))
space_then_end [] rest white = ascii_ends is_name_char 62 rest (omega arith) refl
space_then_end (x ∷ xs) rest white = space_ends_name (x ∷ xs) (codes ">" ++ rest) record { some = λ none. cc; space = white }

pub end_tag_name : (name gap bytes rest start : List ℕ) → bytes ≡ codes "</" ++ start → BeginsItem (end_tag name gap) bytes rest → TakesName start name (gap ++ (codes ">" ++ rest))
end_tag_name name gap bytes rest start e b = record {
  is_name = b.has_form.0;
  whole = behind (codes "</") start (name ++ (gap ++ (codes ">" ++ rest))) (sym e ∙ b.whole ∙ end_spread name gap rest);
  ends = space_then_end gap rest b.has_form.1;
}

pub same_end_tag : (name gap rest other space more bytes : List ℕ) →
    BeginsItem (end_tag name gap) bytes rest → BeginsItem (end_tag other space) bytes more →
    (name ≡ other) × (gap ≡ space) × (rest ≡ more)
same_end_tag name gap rest other space more bytes b c =
    let start = name ++ (gap ++ (codes ">" ++ rest)) in
    let e = b.whole ∙ end_spread name gap rest in
    let names = same_name start name (gap ++ (codes ">" ++ rest)) other (space ++ (codes ">" ++ more)) (end_tag_name name gap bytes rest start e b) (end_tag_name other space bytes more start e c) in
    let ends = sym (after_space-append gap (codes ">" ++ rest) b.has_form.1 refl) ∙ ap after_space names.1 ∙ after_space-append space (codes ">" ++ more) c.has_form.1 refl in
    (names.0, before gap space (codes ">" ++ rest) (names.1 ∙ ap (λ l. space ++ l) (sym ends)), behind (codes ">") rest more ends)

module _ (name bytes : List ℕ) (named : IsName name) (black : BeginsNo is_name_char bytes) where
  pub no_end_tag_by_end : ((rest : List ℕ) → after_space bytes ≢ codes ">" ++ rest) → BeginsNoneOf sort.EndTag (codes "</" ++ (name ++ bytes))
  no_end_tag_by_end none (end_tag other gap) rest is b =
      let names = same_name (name ++ bytes) name bytes other (gap ++ (codes ">" ++ rest))
      record { is_name = named; whole = refl; ends = black } (end_tag_name other gap (codes "</"
      ++ (name ++ bytes)) rest (name ++ bytes) refl b) in
      none rest (ap after_space names.1 ∙ after_space-append gap (codes ">" ++ rest) b.has_form.1 refl)
  no_end_tag_by_end none i rest is b = cc
