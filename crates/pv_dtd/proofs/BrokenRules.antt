-- The rules that an item breaks after earlier ones.
use Rattle.std.proofs.Common.{◌≡◌, ◌≤◌, ◌+◌, ℕ, List, [], ◌++◌, length, Bool, true, false, not, ◌||◌, cond, is_some, Some, None, refl, sym, ◌∙◌, length-append, arith}
use Rattle.std.proofs.Math.Bool.{or-false}
use Rattle.std.proofs.lemmas.Bool.{le-leb, leb-true}
use Rattle.std.specs.Prelude.{nat_le}
use Rattle.std.specs.List.{list_any}
use Rattle.std.specs.Str.{bytes_eq}
use Rattle.pv_dtd.specs.Plain.{place_of}
use Rattle.pv_dtd.specs.Facts.{are_distinct, MAX_TYPES, MAX_PARTS}
use Rattle.pv_dtd.specs.Items.{NamedModel, DtdItem, element, declared_by, mentioned_by, parts_by, listed_by, listed_in_model}
use Rattle.pv_dtd.specs.Kinds.{twice, mixed_twice, limit, declares_again, lists_twice, is_too_long, passes_limit}
use Rattle.pv_dtd.specs.ItemReading.{broken_rule}
use Rattle.pv_dtd.proofs.Places.{is_some-place}

again : (declared : List (List ℕ)) (name : List ℕ) (model : NamedModel) → is_some (place_of declared name) ≡ declares_again declared (element name model)
again declared name model = is_some-place name declared ∙ sym (or-false (list_any (bytes_eq name) declared))

-- what the tests of an element declaration say together
pub broken_by : (declared : List (List ℕ)) (parts : ℕ) (name : List ℕ) (model : NamedModel)
    (t d l : Bool) → t ≡ is_some (place_of declared name) →
    (t ≡ false → d ≡ are_distinct (listed_in_model model)) → (t ≡ false → d ≡ true →
    l ≡ passes_limit declared parts (element name model)) →
    cond t (Some twice) (cond (not d) (Some mixed_twice) (cond l (Some limit) None)) ≡ broken_rule declared parts (element name model)
unfolding broken_rule
broken_by declared parts name model true d l a b c = rw (sym (again declared name model) ∙ sym a) refl
broken_by declared parts name model false false l a b c = rw (sym (again declared name model) ∙ sym a, ← b refl) refl
broken_by declared parts name model false true l a b c = rw (sym (again declared name model) ∙ sym a, ← b refl, ← c refl refl) refl

few_hold : (declared : List (List ℕ)) → length declared ≤ MAX_TYPES → nat_le (length (declared ++ [])) MAX_TYPES ≡ true
few_hold declared few = le-leb (length (declared ++ [])) MAX_TYPES (omega (arith, few, length-append declared []))

-- an item that declares nothing breaks none
pub silent_keeps : (declared : List (List ℕ)) (parts : ℕ) → length declared ≤ MAX_TYPES →
    parts ≤ MAX_PARTS → (i : DtdItem) → declared_by i ≡ [] → mentioned_by i ≡ [] →
    listed_by i ≡ [] → parts_by i ≡ 0 → None ≡ broken_rule declared parts i
unfolding broken_rule
silent_keeps declared parts few few_parts i a b c d =
    let within : nat_le (parts + 0) MAX_PARTS ≡ true = le-leb (parts + 0) MAX_PARTS (omega arith) in
    rw (a, b, c, d, few_hold declared few, within) refl

-- where an item breaks no rule
pub record Keeps (declared : List (List ℕ)) (parts : ℕ) (i : DtdItem) : Type 0 where
  pub new : declares_again declared i ≡ false
  pub differ : are_distinct (listed_by i) ≡ true
  pub short : list_any is_too_long (declared_by i ++ mentioned_by i) ≡ false
  pub few_types : length (declared ++ declared_by i) ≤ MAX_TYPES
  pub few_parts : parts + parts_by i ≤ MAX_PARTS

not_false : (b : Bool) → not b ≡ false → b ≡ true
not_false true e = refl
not_false false e = sym e

parts_false : (a b c : Bool) → (a || b || c) ≡ false → (a ≡ false) × (b ≡ false) × (c ≡ false)
parts_false false false false e = (refl, refl, refl)
parts_false false false true e = cc
parts_false false true c e = cc
parts_false true b c e = cc

pub kept_by : (declared : List (List ℕ)) (parts : ℕ) (i : DtdItem) (t m l : Bool) →
    declares_again declared i ≡ t → lists_twice i ≡ m → passes_limit declared parts i ≡ l →
    None ≡ cond t (Some twice) (cond m (Some mixed_twice) (cond l (Some limit) None)) → Keeps declared parts i
kept_by declared parts i true m l a b c e = cc
kept_by declared parts i false true l a b c e = cc
kept_by declared parts i false false true a b c e = cc
kept_by declared parts i false false false a b c e =
    let three = parts_false (list_any is_too_long (declared_by i ++ mentioned_by i)) (not (nat_le (length (declared ++ declared_by i)) MAX_TYPES)) (not (nat_le (parts + parts_by i) MAX_PARTS)) c in
    record { new = a; differ = not_false (are_distinct (listed_by i)) b; short = three.0; few_types = leb-true _ _ (not_false _ three.1); few_parts = leb-true _ _ (not_false _ three.2) }

pub kept : (declared : List (List ℕ)) (parts : ℕ) (i : DtdItem) → None ≡ broken_rule declared parts i → Keeps declared parts i
unfolding broken_rule
kept declared parts i e = kept_by declared parts i (declares_again declared i) (lists_twice i) (passes_limit declared parts i) refl refl refl e
