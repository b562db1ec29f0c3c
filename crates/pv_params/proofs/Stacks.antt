-- Texts that are read one within another, and their names.
use Rattle.std.proofs.Common.{◌≡◌, ℕ, List, [], ◌∷◌, ◌++◌, Bool, true, false, cond, ◌||◌, ◌<◌, length, arith, Option, Some, None, Vec, Global, refl, sym, ap, ◌∙◌}
use Rattle.std.specs.Option.{option_to_list, IsSome}
use Rattle.std.specs.List.{list_any}
use Rattle.std.specs.Str.{bytes_eq}
use Rattle.pv_params.specs.Entries.{last_first_on}
use Rattle.pv_params.specs.Meaning.{is_being_read}
use Rattle.pv_params.specs.declared.open_texts.OpenText.{OpenText}
use Rattle.pv_params.specs.OpenTexts.{PlainOpenText, names_behind, plain_open_text, stacked_on}

-- the innermost text is the last
pub stacked-push : (ps : List OpenText) (p : OpenText) (others : List PlainOpenText) → stacked_on (ps ++ p ∷ []) others ≡ plain_open_text p ∷ stacked_on ps others
stacked-push [] p others = refl
stacked-push (q ∷ ps) p others = stacked-push ps p (plain_open_text q ∷ others)

-- and so is the innermost name
pub last_first-push : (names : List (Vec ℕ Global)) (name : Vec ℕ Global) (others : List (List ℕ)) → last_first_on (names ++ name ∷ []) others ≡ name.items ∷ last_first_on names others
last_first-push [] name others = refl
last_first-push (n ∷ names) name others = last_first-push names name (n.items ∷ others)

or_assoc : (a b c : Bool) → (a || b || c) ≡ (a || (b || c))
or_assoc true b c = refl
or_assoc false b c = refl

or_swap : (a b : Bool) → (a || b) ≡ (b || a)
or_swap true true = refl
or_swap true false = refl
or_swap false true = refl
or_swap false false = refl

or_none : (a : Bool) → (a || false) ≡ a
or_none true = refl
or_none false = refl

any_on : (name : List ℕ) (names : List (Vec ℕ Global)) (others : List (List ℕ)) →
    list_any (bytes_eq name) (last_first_on names others)
    ≡ (list_any (λ (v : Vec ℕ Global). bytes_eq name v.items) names || list_any (bytes_eq name) others)
any_on name [] others = refl
any_on name (k ∷ names) others =
    any_on name names (k.items ∷ others)
    ∙ sym (or_assoc (list_any (λ (v : Vec ℕ Global). bytes_eq name v.items) names) (bytes_eq name k.items) (list_any (bytes_eq name) others))
    ∙ ap (λ b. b || list_any (bytes_eq name) others) (or_swap (list_any (λ (v : Vec ℕ Global). bytes_eq name v.items) names) (bytes_eq name k.items))

-- whether a name is among them
any_keys : (name : List ℕ) (keys : List (Vec ℕ Global)) → list_any (λ (v : Vec ℕ Global). bytes_eq name v.items) keys ≡ is_being_read name (last_first_on keys [])
any_keys name keys = sym (any_on name keys [] ∙ or_none (list_any (λ (v : Vec ℕ Global). bytes_eq name v.items) keys))

module _ (keys : List (Vec ℕ Global)) (names : List (List ℕ)) (seen : last_first_on keys [] ≡ names) where
  pub holds_name : (name : List ℕ) → list_any (λ (v : Vec ℕ Global). bytes_eq name v.items) keys ≡ is_being_read name names
  holds_name name = any_keys name keys ∙ ap (is_being_read name) seen

  -- a name that isn't among them goes last
  pub name_entered : (after : List (Vec ℕ Global)) (name : Vec ℕ Global) → is_being_read name.items names ≡ false →
      after ≡ cond (list_any (λ (v : Vec ℕ Global). bytes_eq name.items v.items) keys) keys (keys ++ name ∷ []) → last_first_on after [] ≡ name.items ∷ names
  name_entered after name new is =
      let none : list_any (λ (v : Vec ℕ Global). bytes_eq name.items v.items) keys ≡ false = holds_name name.items ∙ new in
      ap (λ l. last_first_on l []) (is ∙ ap (λ b. cond b keys (keys ++ name ∷ [])) none) ∙ last_first-push keys name [] ∙ ap (λ l. name.items ∷ l) seen

  -- the last goes
  pub name_left : (after : List (Vec ℕ Global)) (o : Option (Vec ℕ Global)) → keys ≡ after ++ option_to_list o → (0 < length keys → IsSome o) → last_first_on after [] ≡ names_behind true names
  name_left after None is some =
      let empty = nothing_left keys (λ l. let never = some l in cc) in
      let both : after ++ [] ≡ [] = sym is ∙ empty in
      ap (λ l. last_first_on l []) (nothing_there after both) ∙ ap (λ l. names_behind true (last_first_on l [])) (sym empty) ∙ ap (names_behind true) seen
    where
      nothing_there : (xs : List (Vec ℕ Global)) → xs ++ [] ≡ [] → xs ≡ []
      nothing_there [] e = refl
      nothing_there (x ∷ xs) e = cc

      nothing_left : (xs : List (Vec ℕ Global)) → (0 < length xs → ⊥) → xs ≡ []
      nothing_left [] f = refl
      nothing_left (x ∷ xs) f = absurd (f (omega arith))
  name_left after (Some name) is some = sym (ap (λ l. names_behind true l) (sym seen ∙ ap (λ l. last_first_on l []) is ∙ last_first-push after name []))
