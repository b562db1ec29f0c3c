-- What the names of items keep.
use Rattle.std.proofs.Common.{◌≡◌, ℕ, List, [], ◌∷◌, ◌++◌, Bool, true, false, not, cond, inl, inr, refl, sym, ap, ◌∙◌, append-nil}
use Rattle.std.proofs.lemmas.Bool.{or_parts}
use Rattle.std.proofs.lemmas.Grind.{flat_map-append}
use Rattle.std.proofs.lemmas.List.Folds.{list_all-append}
use Rattle.std.specs.List.{list_all, list_any}
use Rattle.std.specs.Str.{bytes_eq}
use Rattle.pv_chars.specs.Names.{IsName}
use Rattle.pv_dtd.specs.Facts.{AreLegalNames, is_short_name}
use Rattle.pv_dtd.specs.Items.{NamedPart, name, seq, choice, opt, star, plus, NamedParts, no_parts, part, NamedModel, empty, any, mixed, children}
use Rattle.pv_dtd.specs.Items.{DtdItem, text_declaration, element, skipped, comment, instruction, spelled_in, spelled_in_all, spelled_in_model}
use Rattle.pv_dtd.specs.Items.{mentioned_by, declared_by, declared_in, model_in, models_in, mentioned_in}
use Rattle.pv_dtd.specs.Spelling.{SpellsPart, SpellsGroup, SpellsOthers, SpellsListed, SpellsModel}
use Rattle.pv_dtd.specs.Numbering.{each_once}
use Rattle.pv_dtd.specs.Kinds.{is_too_long}
use Rattle.pv_dtd.specs.SoFar.{IsSoundItem, AreSoundItems}

-- names of items are Names, and short
pub legal-append : (xs ys : List (List ℕ)) → AreLegalNames xs → AreLegalNames ys → AreLegalNames (xs ++ ys)
legal-append [] ys a b = b
legal-append (x ∷ xs) ys a b = (a.0, legal-append xs ys a.1 b)

once_legal_by : (n : List ℕ) (ns seen : List (List ℕ)) (there : Bool) → IsName n →
    ((seen : List (List ℕ)) → AreLegalNames (each_once seen ns)) →
    AreLegalNames (cond there (each_once seen ns) (n ∷ each_once (n ∷ seen) ns))
once_legal_by n ns seen true is below = below seen
once_legal_by n ns seen false is below = (is, below (n ∷ seen))

pub once_legal : (ns seen : List (List ℕ)) → AreLegalNames ns → AreLegalNames (each_once seen ns)
once_legal [] seen a = tt
once_legal (n ∷ ns) seen a = once_legal_by n ns seen (list_any (bytes_eq n) seen) a.0 (λ s. once_legal ns s a.1)

mutual
  part_legal : (p : NamedPart) (text : List ℕ) → SpellsPart p text → AreLegalNames (spelled_in p)
  part_legal (name n) text s = (s.0, tt)
  part_legal (seq ps) text s = group_legal _ ps text s
  part_legal (choice ps) text s = group_legal _ ps text s.1
  part_legal (opt p) text s = part_legal p s.0 s.2
  part_legal (star p) text s = part_legal p s.0 s.2
  part_legal (plus p) text s = part_legal p s.0 s.2

  group_legal : (separator : List ℕ) (ps : NamedParts) (text : List ℕ) → SpellsGroup separator ps text → AreLegalNames (spelled_in_all ps)
  group_legal separator no_parts text s = absurd s
  group_legal separator (part p ps) text s = legal-append (spelled_in p) (spelled_in_all ps) (part_legal p s.1 s.5) (others_legal separator ps s.2 s.6)

  others_legal : (separator : List ℕ) (ps : NamedParts) (text : List ℕ) → SpellsOthers separator ps text → AreLegalNames (spelled_in_all ps)
  others_legal separator no_parts text s = tt
  others_legal separator (part p ps) text s = legal-append (spelled_in p) (spelled_in_all ps) (part_legal p s.2 s.6) (others_legal separator ps s.3 s.7)

listed_legal : (names : List (List ℕ)) (text : List ℕ) → SpellsListed names text → AreLegalNames names
listed_legal [] text s = tt
listed_legal (n ∷ ns) text s = (s.5, listed_legal ns s.2 s.6)

model_legal : (m : NamedModel) (text : List ℕ) → SpellsModel m text → AreLegalNames (spelled_in_model m)
model_legal empty text s = tt
model_legal any text s = tt
model_legal (mixed names) text (inl s) = listed_legal names s.listed s.names_listed
model_legal (mixed names) text (inr s) = listed_legal names s.1.listed s.1.names_listed
model_legal (children p) text s = part_legal p text s.1

-- what an item gives
item_legal : (i : DtdItem) → IsSoundItem i → AreLegalNames (declared_by i) × AreLegalNames (mentioned_by i)
item_legal text_declaration s = (tt, tt)
item_legal (element n model) s = ((s.spelled.is_name, tt), model_legal model s.spelled.spec s.spelled.is_spec)
item_legal skipped s = (tt, tt)
item_legal comment s = (tt, tt)
item_legal instruction s = (tt, tt)

mentioned_of_item : (i : DtdItem) → mentioned_in (model_in i) ≡ mentioned_by i
mentioned_of_item text_declaration = refl
mentioned_of_item (element n model) = append-nil (spelled_in_model model)
mentioned_of_item skipped = refl
mentioned_of_item comment = refl
mentioned_of_item instruction = refl

pub mentioned_more : (i : DtdItem) (items : List DtdItem) → mentioned_in (models_in (i ∷ items)) ≡ mentioned_by i ++ mentioned_in (models_in items)
mentioned_more i items = flat_map-append spelled_in_model (model_in i) (models_in items) ∙ ap (λ ns. ns ++ mentioned_in (models_in items)) (mentioned_of_item i)

pub declared_legal : (items : List DtdItem) → AreSoundItems items → AreLegalNames (declared_in items)
declared_legal [] s = tt
declared_legal (i ∷ items) s = legal-append (declared_by i) (declared_in items) (item_legal i s.0).0 (declared_legal items s.1)

pub mentioned_legal : (items : List DtdItem) → AreSoundItems items → AreLegalNames (mentioned_in (models_in items))
mentioned_legal [] s = tt
mentioned_legal (i ∷ items) s = rw (mentioned_more i items) (legal-append (mentioned_by i) (mentioned_in (models_in items)) (item_legal i s.0).1 (mentioned_legal items s.1))

short_all : (names : List (List ℕ)) → list_any is_too_long names ≡ false → list_all is_short_name names ≡ true
short_all [] e = refl
short_all (n ∷ ns) e = let two = or_parts (is_too_long n) (list_any is_too_long ns) e in rw (not_not (is_short_name n) two.0, short_all ns two.1) refl
  where
    not_not : (b : Bool) → not b ≡ false → b ≡ true
    not_not true e = refl
    not_not false e = sym e

pub both_short : (xs ys : List (List ℕ)) → list_all is_short_name xs ≡ true → list_all is_short_name ys ≡ true → list_all is_short_name (xs ++ ys) ≡ true
both_short xs ys a b = list_all-append is_short_name xs ys ∙ rw (a, b) refl

pub declared_short : (items : List DtdItem) → AreSoundItems items → list_all is_short_name (declared_in items) ≡ true
declared_short [] s = refl
declared_short (i ∷ items) s = both_short (declared_by i) (declared_in items) (short_all (declared_by i) s.0.short) (declared_short items s.1)

pub mentioned_short : (items : List DtdItem) → AreSoundItems items → list_all is_short_name (mentioned_in (models_in items)) ≡ true
mentioned_short [] s = refl
mentioned_short (i ∷ items) s = rw (mentioned_more i items) (both_short (mentioned_by i) (mentioned_in (models_in items)) (short_all (mentioned_by i) s.0.mentions_short) (mentioned_short items s.1))
