-- No reference of a parameter entity stands where an item does.
use Rattle.std.proofs.Common.{◌≡◌, ◌⊎◌, inl, inr, ℕ, List, [], ◌∷◌, ◌++◌, codes, Bool, true, false, ◌&&◌, ◌||◌, ◌==◌, not, None, is_some, refl, sym, ap, ◌∙◌, append_assoc, append-nil}
use Rattle.std.specs.Prelude.{nat_eq}
use Rattle.std.specs.List.{list_all}
use Rattle.std.proofs.lemmas.Bool.Decides.{Decides-eqb}
use Rattle.pv_chars.specs.Spaces.{IsOptionalSpace}
use Rattle.pv_chars.specs.Names.{IsName}
use Rattle.pv_chars.specs.Declarations.{is_quote}
use Rattle.pv_dtd.specs.Items.{NamedModel, DtdItem, text_declaration, element, skipped, comment, instruction}
use Rattle.pv_dtd.specs.Spelling.{StandsAt, SpellsElement, SpellsSkipped, IsSkippedWord, IsQuotedText, nothing, ends_or_refers, may_not_be_skipped}
use Rattle.pv_dtd.specs.Kinds.{HasParameter}
use Rattle.pv_dtd.specs.ItemReading.{or_else, skipped_word, where_it_is, declaration_word, inner_parameter_at, parameter_at}
use Rattle.pv_dtd.proofs.AllBytes.{PassMarks, all_inside, inside_element, element_whole}
use Rattle.pv_chars.proofs.CharFacts.{comment_opens, instruction_opens}
use Rattle.pv_chars.proofs.NameBytes.{is_name_byte, space_passes, name_passes}
use Rattle.pv_dtd.proofs.Parameters.{parameter_is_read, declaration_is_taken, begins_otherwise}
use Rattle.pv_dtd.proofs.QuotedText.{stop_at-append, plain_before, fewer_stop}

-- a byte that is no quote, doesn't end a declaration and refers to nothing
abbrev is_plain : ℕ → Bool
is_plain b = not (is_quote b) && not (ends_or_refers b)

space_is_plain : (space : List ℕ) → IsOptionalSpace space → list_all is_plain space ≡ true
space_is_plain = space_passes is_plain record { space = refl; tab = refl; return = refl; feed = refl }

plain_by : (b : ℕ) (double single end refers : Bool) → (b == 34) ≡ double → (b == 39) ≡ single →
    nat_eq b 62 ≡ end → nat_eq b 37 ≡ refers → is_name_byte b ≡ true →
    (not (double || single) && not (end || (refers || false))) ≡ true
plain_by b true single end refers p q r t named = let at = ap is_name_byte ((Decides-eqb b 34).0 p) in cc
plain_by b false true end refers p q r t named = let at = ap is_name_byte ((Decides-eqb b 39).0 q) in cc
plain_by b false false true refers p q r t named = let at = ap is_name_byte ((Decides-eqb b 62).0 r) in cc
plain_by b false false false true p q r t named = let at = ap is_name_byte ((Decides-eqb b 37).0 t) in cc
plain_by b false false false false p q r t named = refl

name_is_plain : (n : List ℕ) → IsName n → list_all is_plain n ≡ true
name_is_plain = name_passes is_plain (λ b. plain_by b (b == 34) (b == 39) (nat_eq b 62) (nat_eq b 37) refl refl refl refl)

pass_plain : PassMarks is_plain
pass_plain = record {
  words = record { space = space_is_plain; name = name_is_plain };
  opened = refl;
  closed = refl;
  comma = refl;
  bar = refl;
  option = refl;
  star = refl;
  plus = refl;
  empty = refl;
  any = refl;
  data_word = refl;
}

-- a declaration's word, and a text that ends at the first '>' outside quotes
declaration_refers_not : (place word inside rest : List ℕ) → (word ≡ codes "<!ELEMENT")
    ⊎ IsSkippedWord word → IsQuotedText ends_or_refers inside → place ≡ word
    ++ (inside ++ 62 ∷ rest) → parameter_at place ≡ None
unfolding parameter_at inner_parameter_at where_it_is or_else
declaration_refers_not place word inside rest is_word is_inside whole =
    let other = begins_otherwise word (inside ++ 62 ∷ rest) is_word in
    rw (whole, other.0, other.1, declaration_is_taken word (inside ++ 62 ∷ rest) is_word, stop_at-append ends_or_refers 62 rest is_inside refl refl) refl

element_refers_not : (n : List ℕ) (m : NamedModel) (place text rest : List ℕ) → place ≡ text ++ rest → SpellsElement n m text → parameter_at place ≡ None
element_refers_not n m place text rest whole s =
    let inside = inside_element n m text s in
    let quoted : IsQuotedText ends_or_refers (inside ++ []) = plain_before ends_or_refers inside (all_inside is_plain pass_plain n m text s) (nothing refl) in
    declaration_refers_not place (codes "<!ELEMENT") (inside ++ []) rest (inl refl) quoted (whole
    ∙ element_whole n m text rest s ∙ ap (λ t. codes "<!ELEMENT" ++ (t ++ 62 ∷ rest))
    (sym (append-nil inside)))

fewer_by : (end refers opens : Bool) → (end || (refers || (opens || false))) ≡ false → (end || (refers || false)) ≡ false
fewer_by true refers opens e = e
fewer_by false true opens e = e
fewer_by false false opens e = refl

fewer : (b : ℕ) → may_not_be_skipped b ≡ false → ends_or_refers b ≡ false
fewer b e = fewer_by (nat_eq b 62) (nat_eq b 37) (nat_eq b 60) e

skipped_refers_not : (place text rest : List ℕ) → place ≡ text ++ rest → SpellsSkipped text → parameter_at place ≡ None
skipped_refers_not place text rest whole s =
    let quoted = plain_before ends_or_refers s.before (space_is_plain s.before s.space_before.space) (fewer_stop may_not_be_skipped ends_or_refers fewer s.is_inside) in
    declaration_refers_not place s.word (s.before ++ s.inside) rest (inr s.is_word) quoted (whole ∙ ap (λ t. t ++ rest) s.whole ∙ simp append_assoc)

none_refers : (place : List ℕ) → parameter_at place ≡ None → HasParameter place → ⊥
none_refers place none h = let some = parameter_is_read h in let at = ap is_some none in cc

pub begins_no_parameter : (front : Bool) (place : List ℕ) (i : DtdItem) (rest : List ℕ) → StandsAt front place i rest → HasParameter place → ⊥
unfolding parameter_at inner_parameter_at declaration_word skipped_word or_else
begins_no_parameter front place (element n m) rest b h = none_refers place (element_refers_not n m place b.text rest b.whole b.spelled) h
begins_no_parameter front place skipped rest b h = none_refers place (skipped_refers_not place b.text rest b.whole b.spelled) h
begins_no_parameter front place text_declaration rest b h = none_refers place (rw (b.whole, b.spelled.whole) refl) h
begins_no_parameter front place comment rest b h = none_refers place (rw (b.whole, (comment_opens b.text b.spelled).1) refl) h
begins_no_parameter front place instruction rest b h = none_refers place (rw (b.whole, (instruction_opens b.text b.spelled).1) refl) h
