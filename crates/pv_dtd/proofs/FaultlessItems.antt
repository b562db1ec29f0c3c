-- No item of ruled items has a fault where it stands.
use Rattle.std.proofs.Common.{◌≡◌, ◌+◌, ℕ, List, [], ◌∷◌, ◌++◌, length, Bool, true, false, not, refl, sym, ap, ◌∙◌, length-append, arith}
use Rattle.std.specs.Prelude.{nat_le}
use Rattle.std.proofs.Math.Bool.{or-false}
use Rattle.std.proofs.lemmas.Bool.{and_parts, or_parts, not-true, le-leb}
use Rattle.std.proofs.lemmas.Grind.{flat_map-append}
use Rattle.std.proofs.lemmas.List.Folds.{list_any-append}
use Rattle.std.specs.List.{list_any}
use Rattle.std.specs.Str.{bytes_eq}
use Rattle.pv_dtd.specs.Facts.{are_distinct, MAX_TYPES, MAX_PARTS}
use Rattle.pv_dtd.specs.Items.{DtdItem, text_declaration, element, skipped, comment, instruction, declared_by, declared_in, model_in, models_in, mentioned_by, parts_by, parts_of_models}
use Rattle.pv_dtd.specs.Kinds.{Kind, parameter, nesting, syntax, twice, mixed_twice, limit, HasFault, Breaks, declares_again, lists_twice, is_too_long, passes_limit}
use Rattle.pv_dtd.specs.SoFar.{IsShallowItem, IsSoundItem, AreSoundItems, AreRuled}
use Rattle.pv_dtd.specs.Spelling.{StandsAt}
use Rattle.pv_dtd.proofs.OpenParentheses.{begins_not_deep}
use Rattle.pv_dtd.proofs.BrokenRules.{Keeps, kept_by}
use Rattle.pv_dtd.proofs.DistinctLists.{bytes_eq-swap}
use Rattle.pv_dtd.proofs.NoParameter.{begins_no_parameter}
use Rattle.pv_dtd.proofs.OneMeaning.{same_item}
use Rattle.pv_dtd.proofs.ItemsSoFar.{joined, parts-append, parts_of_item}

-- an item of which no kind of fault holds keeps the rules
module _ (before : List DtdItem) (front : Bool) (place : List ℕ) (i : DtdItem) (rest : List ℕ)
    (begins : StandsAt front place i rest) (none : (kind : Kind) → HasFault before front place kind → ⊥) where
  kept_rule : (rule : DtdItem → Bool) → (Breaks front place rule → ⊥) → rule i ≡ false
  kept_rule rule unbroken = by (rule i) refl
    where
      by : (broken : Bool) → rule i ≡ broken → broken ≡ false
      by true is = absurd (unbroken (i, rest, begins, is))
      by false is = refl

  pub keeps : Keeps (declared_in before) (parts_of_models (models_in before)) i
  keeps =
      kept_by (declared_in before) (parts_of_models (models_in before)) i false false false (kept_rule (declares_again (declared_in before)) (none twice)) (kept_rule lists_twice (none mixed_twice))
      (kept_rule (passes_limit (declared_in before) (parts_of_models (models_in before))) (none limit)) refl

-- the first of ruled items are ruled
distinct-left : (xs ys : List (List ℕ)) → are_distinct (xs ++ ys) ≡ true → are_distinct xs ≡ true
distinct-left [] ys d = refl
distinct-left (x ∷ xs) ys d =
    let two = and_parts (not (list_any (bytes_eq x) (xs ++ ys))) (are_distinct (xs ++ ys)) d in
    let none = or_parts (list_any (bytes_eq x) xs) (list_any (bytes_eq x) ys) (sym (list_any-append (bytes_eq x) xs ys) ∙ not-true (list_any (bytes_eq x) (xs ++ ys)) two.0) in
    rw (none.0, distinct-left xs ys two.1) refl

distinct_new : (xs : List (List ℕ)) (n : List ℕ) → are_distinct (xs ++ n ∷ []) ≡ true → list_any (bytes_eq n) xs ≡ false
distinct_new [] n d = refl
distinct_new (x ∷ xs) n d =
    let two = and_parts (not (list_any (bytes_eq x) (xs ++ n ∷ []))) (are_distinct (xs ++ n ∷ [])) d in
    let none = or_parts (list_any (bytes_eq x) xs) (list_any (bytes_eq x) (n ∷ [])) (sym (list_any-append (bytes_eq x) xs (n ∷ [])) ∙ not-true (list_any (bytes_eq x) (xs ++ n ∷ [])) two.0) in
    let apart = (or_parts (bytes_eq x n) false none.1).0 in
    rw (bytes_eq-swap n x, apart, distinct_new xs n two.1) refl

sound-left : (a b : List DtdItem) → AreSoundItems (a ++ b) → AreSoundItems a
sound-left [] b s = tt
sound-left (i ∷ is) b s = (s.0, sound-left is b s.1)

sound_last : (before : List DtdItem) (i : DtdItem) → AreSoundItems (before ++ i ∷ []) → IsSoundItem i
sound_last [] i s = s.0
sound_last (j ∷ js) i s = sound_last js i s.1

pub ruled-left : (a b : List DtdItem) → AreRuled (a ++ b) → AreRuled a
ruled-left a b r = record {
  sound = sound-left a b r.sound;
  once = distinct-left (declared_in a) (declared_in b) (ap are_distinct (sym (flat_map-append declared_by a b)) ∙ r.once);
  few_types = omega (arith, r.few_types, ap length (flat_map-append declared_by a b), length-append (declared_in a) (declared_in b));
  few_parts = omega (arith, r.few_parts, ap parts_of_models (flat_map-append model_in a b), parts-append (models_in a) (models_in b));
}

-- the last of ruled items breaks no rule
module _ (before : List DtdItem) (i : DtdItem) (r : AreRuled (before ++ i ∷ [])) where
  last : IsSoundItem i
  last = sound_last before i r.sound

  pub last_shallow : IsShallowItem i
  last_shallow = last.shallow

  once : are_distinct (declared_in before ++ declared_by i) ≡ true
  once = ap are_distinct (sym (joined declared_by before i)) ∙ r.once

  not_again : declares_again (declared_in before) i ≡ false
  not_again = by i once
    where
      by : (j : DtdItem) → are_distinct (declared_in before ++ declared_by j) ≡ true → declares_again (declared_in before) j ≡ false
      by (element n m) d = or-false (list_any (bytes_eq n) (declared_in before)) ∙ distinct_new (declared_in before) n d
      by text_declaration d = refl
      by skipped d = refl
      by comment d = refl
      by instruction d = refl

  not_listed_twice : lists_twice i ≡ false
  not_listed_twice = ap not last.differ

  within : passes_limit (declared_in before) (parts_of_models (models_in before)) i ≡ false
  within =
      let long : list_any is_too_long (declared_by i ++ mentioned_by i) ≡ false = list_any-append is_too_long (declared_by i) (mentioned_by i) ∙ rw (last.short, last.mentions_short) refl in
      let types : nat_le (length (declared_in before ++ declared_by i)) MAX_TYPES ≡ true = le-leb _ _ (omega (arith, r.few_types, ap length (joined declared_by before i))) in
      let parts : nat_le (parts_of_models (models_in before) + parts_by i) MAX_PARTS ≡ true =
      le-leb _ _ (omega (
        arith,
        r.few_parts,
        ap parts_of_models (joined model_in before i),
        parts-append (models_in before) (model_in i),
        parts_of_item i,
      )) in
      rw (long, types, parts) refl

  module _ (front : Bool) (place rest : List ℕ) (begins : StandsAt front place i rest) where
    unbroken : (rule : DtdItem → Bool) → rule i ≡ false → Breaks front place rule → ⊥
    unbroken rule e b =
        let same = (same_item (begins_not_deep front place i rest begins last_shallow) begins b.2).0 in
        let broken : rule i ≡ true = ap rule same ∙ b.3 in
        cc

    pub no_fault : (kind : Kind) → HasFault before front place kind → ⊥
    no_fault parameter h = begins_no_parameter front place i rest begins h
    no_fault nesting h = begins_not_deep front place i rest begins last_shallow h
    no_fault syntax h = h i rest begins
    no_fault twice h = unbroken (declares_again (declared_in before)) not_again h
    no_fault mixed_twice h = unbroken lists_twice not_listed_twice h
    no_fault limit h = unbroken (passes_limit (declared_in before) (parts_of_models (models_in before))) within h
