-- Items are ruled exactly where they are spelled, keep the rules of a DTD text, and their DTD keeps the limits.
use Rattle.std.proofs.Common.{◌≡◌, ◌≤◌, ℕ, List, [], ◌∷◌, ◌++◌, length, map, Bool, true, false, refl, sym, ap, ◌∙◌, subst, arith}
use Rattle.std.specs.List.{AllByRecursion, list_all, list_any}
use Rattle.std.proofs.lemmas.Bool.{and_parts}
use Rattle.std.proofs.lemmas.List.{length-map}
use Rattle.std.proofs.lemmas.List.Folds.{list_all-append}
use Rattle.pv_model.specs.Plain.{PlainModel}
use Rattle.pv_dtd.specs.Facts.{are_distinct, is_short_name, MAX_NESTING, MAX_DTD_BYTES}
use Rattle.pv_dtd.specs.Items.{NamedModel, empty, any, mixed, children, DtdItem, text_declaration, element, skipped, comment, instruction}
use Rattle.pv_dtd.specs.Items.{declared_by, declared_in, models_in, mentioned_by, mentioned_in}
use Rattle.pv_dtd.specs.Spelling.{Spells}
use Rattle.pv_dtd.specs.Kinds.{is_too_long}
use Rattle.pv_dtd.specs.Numbering.{dtd_of_items, names_of, number_among, model_with_numbers}
use Rattle.pv_dtd.specs.DtdTexts.{SpellsDeclarations, SpellsSubset, plain, behind_declaration, ListNoneTwice, nesting_in, KeepsLimits}
use Rattle.pv_dtd.specs.SoFar.{IsShallow, IsShallowItem, AreSoundItems, AreRuled}
use Rattle.pv_dtd.proofs.NumbersForNames.{nesting_numbered, parts_numbered}
use Rattle.pv_dtd.proofs.NamesKept.{mentioned_more}
use Rattle.pv_dtd.proofs.DtdFacts.{as_many, short_kept, types_kept}
use Rattle.pv_dtd.proofs.NamesOnce.{all_once}

-- each of the items is spelled somewhere
abbrev IsSpelled : DtdItem → Type 0
IsSpelled i = (text : List ℕ) × Spells i text

pub are_spelled : (items : List DtdItem) (text : List ℕ) → SpellsDeclarations items text → AllByRecursion IsSpelled items
are_spelled [] text s = tt
are_spelled (i ∷ items) text s = ((s.1, s.5), are_spelled items s.2 s.6)

subset_spelled : (items : List DtdItem) (text : List ℕ) → SpellsSubset items text → AllByRecursion IsSpelled items
subset_spelled items text (plain s) = are_spelled items text s
subset_spelled items text (behind_declaration first others more e is s whole) = subst (AllByRecursion IsSpelled) (sym e) ((first, is), are_spelled more others s)

-- the limit of nesting, by models with names or with numbers
is_shallow : (f : List ℕ → ℕ) (m : NamedModel) → nesting_in (model_with_numbers f m) ≤ MAX_NESTING → IsShallow m
is_shallow f empty l = tt
is_shallow f any l = tt
is_shallow f (mixed names) l = tt
is_shallow f (children p) l = omega (arith, l, nesting_numbered f p)

keeps_nesting : (f : List ℕ → ℕ) (m : NamedModel) → IsShallow m → nesting_in (model_with_numbers f m) ≤ MAX_NESTING
keeps_nesting f empty l = omega arith
keeps_nesting f any l = omega arith
keeps_nesting f (mixed names) l = omega arith
keeps_nesting f (children p) l = omega (arith, l, nesting_numbered f p)

abbrev AreShallow : List PlainModel → Type 0
AreShallow ms = AllByRecursion (λ m. nesting_in m ≤ MAX_NESTING) ms

none_long : (names : List (List ℕ)) → list_all is_short_name names ≡ true → list_any is_too_long names ≡ false
none_long [] e = refl
none_long (n ∷ ns) e = let two = and_parts (is_short_name n) (list_all is_short_name ns) e in rw two.0 (none_long ns two.1)

all_parts : (p : List ℕ → Bool) (a b : List (List ℕ)) → list_all p (a ++ b) ≡ true → (list_all p a ≡ true) × (list_all p b ≡ true)
all_parts p a b e = and_parts (list_all p a) (list_all p b) (sym (list_all-append p a b) ∙ e)

module _ (f : List ℕ → ℕ) where
  -- the first item's models, and the others
  first_shallow : (i : DtdItem) (items : List DtdItem) → AreShallow (map (model_with_numbers f) (models_in (i ∷ items))) → IsShallowItem i × AreShallow (map (model_with_numbers f) (models_in items))
  first_shallow text_declaration items s = (tt, s)
  first_shallow (element n m) items s = (is_shallow f m s.0, s.1)
  first_shallow skipped items s = (tt, s)
  first_shallow comment items s = (tt, s)
  first_shallow instruction items s = (tt, s)

  sound : (items : List DtdItem) → AllByRecursion IsSpelled items → ListNoneTwice items →
      list_all is_short_name (declared_in items) ≡ true →
      list_all is_short_name (mentioned_in (models_in items)) ≡ true →
      AreShallow (map (model_with_numbers f) (models_in items)) → AreSoundItems items
  sound [] a b c d e = tt
  sound (i ∷ items) a b c d e =
      let names = all_parts is_short_name (declared_by i) (declared_in items) c in
      let mentions = all_parts is_short_name (mentioned_by i) (mentioned_in (models_in items)) (sym (ap (list_all is_short_name) (mentioned_more i items)) ∙ d) in
      let shallow = first_shallow i items e in (
        record { text = a.0.0; spelled = a.0.1; shallow = shallow.0; differ = b.0; short = none_long (declared_by i) names.0; mentions_short = none_long (mentioned_by i) mentions.0 },
        sound items a.1 b.1 names.1 mentions.1 shallow.1,
      )

  none_twice : (items : List DtdItem) → AreSoundItems items → ListNoneTwice items
  none_twice [] s = tt
  none_twice (i ∷ items) s = (s.0.differ, none_twice items s.1)

  all_shallow : (items : List DtdItem) → AreSoundItems items → AreShallow (map (model_with_numbers f) (models_in items))
  all_shallow [] s = tt
  all_shallow (text_declaration ∷ items) s = all_shallow items s.1
  all_shallow (element n m ∷ items) s = (keeps_nesting f m s.0.shallow, all_shallow items s.1)
  all_shallow (skipped ∷ items) s = all_shallow items s.1
  all_shallow (comment ∷ items) s = all_shallow items s.1
  all_shallow (instruction ∷ items) s = all_shallow items s.1

pub listed_once : (items : List DtdItem) → AreRuled items → ListNoneTwice items
listed_once items r = none_twice (number_among (names_of items)) items r.sound

pub limits_kept : (bytes : List ℕ) (items : List DtdItem) → length bytes ≤ MAX_DTD_BYTES → AreRuled items → KeepsLimits bytes (dtd_of_items items)
limits_kept bytes items few r = record {
  few_bytes = few;
  few_types = types_kept items r;
  few_parts = omega (arith, parts_numbered (number_among (names_of items)) (models_in items), r.few_parts);
  short_names = short_kept items r;
  shallow = all_shallow (number_among (names_of items)) items r.sound;
}

pub ruled : (bytes text : List ℕ) (items : List DtdItem) → SpellsSubset items text →
    are_distinct (declared_in items) ≡ true → ListNoneTwice items →
    KeepsLimits bytes (dtd_of_items items) → AreRuled items
ruled bytes text items s once listed k =
    let f = number_among (names_of items) in
    let short = all_parts is_short_name (declared_in items) (mentioned_in (models_in items)) (all_once is_short_name (declared_in items ++ mentioned_in (models_in items)) [] refl k.short_names) in
    let count : length (dtd_of_items items).models ≡ length (declared_in items) = length-map (models_in items) (model_with_numbers f) ∙ as_many items in
    record {
      sound = sound f items (subset_spelled items text s) listed short.0 short.1 k.shallow;
      once = once;
      few_types = omega (arith, count, k.few_types);
      few_parts = omega (arith, parts_numbered f (models_in items), k.few_parts);
    }
