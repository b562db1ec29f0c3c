-- What the search for `]]>` finds.
use Rattle.std.proofs.Common.{◌≡◌, ℕ, Bool, true, false, not, ◌||◌, List, [], ◌∷◌, ◌++◌, codes, Option, Some, None, refl, sym, ap, ◌∙◌, append_assoc, subst}
use Rattle.std.specs.Prelude.{is_none, is_some, option_and_then}
use Rattle.std.proofs.lemmas.List.{append-nil}
use Rattle.std.specs.Str.{bytes_eq}
use Rattle.std.proofs.lemmas.Slice.Eq.{bytes_eq-Decides}
use Rattle.pv_chars.specs.Texts.{begins_close_mark, holds_close_mark}
use Rattle.pv_tree.specs.Plain.{Tree, element, text_node, cdata_node, misc_node, forest_of}
use Rattle.pv_tree.specs.Legal.{front_units}
use Rattle.pv_edit.specs.Reasons.{spells_close_mark}
use Rattle.pv_edit.specs.CloseMarks.{behind, after_unit, search_units, search_tree, search_trees, search_parts}
use Rattle.pv_edit.specs.declared.close_marks.Brackets.{Brackets}
use Rattle.pv_edit.specs.declared.close_marks.Brackets.TheVariants.{Zero, One, Two}

-- the `]` at the end
abbrev pub brackets : Brackets → List (List ℕ)
brackets Zero = []
brackets One = codes "]" ∷ []
brackets Two = codes "]" ∷ codes "]" ∷ []

-- the mark was found, or stands in what is there with what follows
abbrev pub found : Option Brackets → List (List ℕ) → Bool
found None after = true
found (Some b) after = holds_close_mark (brackets b ++ after)

begins_other : (unit : List ℕ) (us : List (List ℕ)) → bytes_eq unit (codes "]") ≡ false → begins_close_mark (unit ∷ us) ≡ false
begins_other unit [] h = refl
begins_other unit (a ∷ []) h = refl
begins_other unit (a ∷ b ∷ us) h = rw h refl

begins_second : (unit : List ℕ) (us : List (List ℕ)) → bytes_eq unit (codes "]") ≡ false → begins_close_mark (codes "]" ∷ unit ∷ us) ≡ false
begins_second unit [] h = refl
begins_second unit (a ∷ us) h = rw h refl

holds_other : (unit : List ℕ) (us : List (List ℕ)) → bytes_eq unit (codes "]") ≡ false → holds_close_mark (unit ∷ us) ≡ holds_close_mark us
holds_other unit us h = rw (begins_other unit us h) refl

holds_second : (unit : List ℕ) (us : List (List ℕ)) → bytes_eq unit (codes "]") ≡ false → holds_close_mark (codes "]" ∷ unit ∷ us) ≡ holds_close_mark us
holds_second unit us h = rw (begins_second unit us h, begins_other unit us h) refl

step : (b : Brackets) (unit : List ℕ) (us : List (List ℕ)) (is_bracket is_angle : Bool) → bytes_eq unit (codes "]") ≡ is_bracket → bytes_eq unit (codes ">") ≡ is_angle
    → holds_close_mark (brackets b ++ unit ∷ us) ≡ found (behind b is_bracket is_angle) us
step Zero unit us true angle h k = subst (λ (u : List ℕ). holds_close_mark (brackets Zero ++ u ∷ us) ≡ found (behind Zero true angle) us) (sym ((bytes_eq-Decides unit (codes "]")).0 h)) refl
step One unit us true angle h k = subst (λ (u : List ℕ). holds_close_mark (brackets One ++ u ∷ us) ≡ found (behind One true angle) us) (sym ((bytes_eq-Decides unit (codes "]")).0 h)) refl
step Two unit us true angle h k = subst (λ (u : List ℕ). holds_close_mark (brackets Two ++ u ∷ us) ≡ found (behind Two true angle) us) (sym ((bytes_eq-Decides unit (codes "]")).0 h)) refl
step Zero unit us false true h k = holds_other unit us h
step Zero unit us false false h k = holds_other unit us h
step One unit us false true h k = holds_second unit us h
step One unit us false false h k = holds_second unit us h
step Two unit us false true h k = rw k refl
step Two unit us false false h k = rw k (holds_second unit us h)

after-unit : (b : Brackets) (unit : List ℕ) (us : List (List ℕ)) → holds_close_mark (brackets b ++ unit ∷ us) ≡ found (after_unit b unit) us
after-unit b unit us = step b unit us (bytes_eq unit (codes "]")) (bytes_eq unit (codes ">")) refl refl

pub searched : (b : Brackets) (us after : List (List ℕ)) → holds_close_mark (brackets b ++ us ++ after) ≡ found (search_units b us) after
searched b [] after = ap (λ l. holds_close_mark (l ++ after)) (append-nil (brackets b))
searched b (unit ∷ us) after =
    ap holds_close_mark (append_assoc (brackets b) (unit ∷ us) after) ∙ after-unit b unit (us ++ after)
    ∙ elim (after_unit b unit) as (λ o. found o (us ++ after) ≡ found (option_and_then (λ c. search_units c us) o) after)
    [ None ↦ refl | Some c ↦ ap holds_close_mark (sym (append_assoc (brackets c) us after)) ∙ searched c us after ]

brackets_alone : (b : Brackets) → holds_close_mark (brackets b ++ []) ≡ false
brackets_alone Zero = refl
brackets_alone One = refl
brackets_alone Two = refl

found_alone : (o : Option Brackets) → found o [] ≡ is_none o
found_alone None = refl
found_alone (Some b) = brackets_alone b

or_part : (a b c : Bool) → (b ≡ true → a ≡ true) → (a || (b || c)) ≡ (a || c)
or_part true b c h = refl
or_part false true c h = absurd (let e = h refl in cc)
or_part false false c h = refl

or_absorb : (b c : Bool) → (b ≡ true → c ≡ true) → (b || c) ≡ c
or_absorb true c h = sym (h refl)
or_absorb false c h = refl

or_right : (a b : Bool) → b ≡ true → (a || b) ≡ true
or_right true b h = refl
or_right false b h = h

-- what stands in the end of some units stands in all
behind_holds : (front us : List (List ℕ)) → holds_close_mark us ≡ true → holds_close_mark (front ++ us) ≡ true
behind_holds [] us h = h
behind_holds (unit ∷ front) us h = or_right (begins_close_mark (unit ∷ front ++ us)) (holds_close_mark (front ++ us)) (behind_holds front us h)

front_spells : {M : Type 0} (ts : List (Tree M)) → holds_close_mark (front_units (forest_of ts)) ≡ true → spells_close_mark (forest_of ts) ≡ true
front_spells [] h = h
front_spells (t ∷ ts) h = ap (λ b. b || spells_close_mark (forest_of ts)) h

ends_run : {M : Type 0} (b : Brackets) (ts : List (Tree M)) → is_none (search_trees Zero ts) ≡ (holds_close_mark (front_units (forest_of ts)) || spells_close_mark (forest_of ts))
    → is_none (search_trees Zero ts) ≡ (holds_close_mark (brackets b ++ []) || spells_close_mark (forest_of ts))
ends_run b ts h = h ∙ or_absorb (holds_close_mark (front_units (forest_of ts))) (spells_close_mark
    (forest_of ts)) (front_spells ts) ∙ ap (λ h. h || spells_close_mark (forest_of ts))
    (sym (brackets_alone b))

-- in the texts of a list
pub list_searched : {M : Type 0} (b : Brackets) (ts : List (Tree M)) → is_none (search_trees b ts) ≡ (holds_close_mark (brackets b ++ front_units (forest_of ts)) || spells_close_mark (forest_of ts))
list_searched b [] = sym (ap (λ h. h || false) (brackets_alone b))
list_searched b (element x attrs e kids m ∷ ts) = ends_run b ts (list_searched Zero ts)
list_searched b (cdata_node bytes ∷ ts) = ends_run b ts (list_searched Zero ts)
list_searched b (misc_node bytes ∷ ts) = ends_run b ts (list_searched Zero ts)
list_searched b (text_node us ∷ ts) =
    let after = front_units (forest_of ts) in
    let spells = spells_close_mark (forest_of ts) in
    let more : is_none (option_and_then (λ c. search_trees c ts) (search_units b us)) ≡ (found (search_units b us) after || spells) =
    elim (search_units b us) as (λ o. is_none (option_and_then (λ c. search_trees c ts) o) ≡ (found o after || spells)) [ None ↦ refl | Some c ↦ list_searched c ts ] in
    more ∙ ap (λ h. h || spells) (sym (searched b us after) ∙ ap holds_close_mark (append_assoc (brackets b) us after))
    ∙ sym (or_part (holds_close_mark (brackets b ++ (us ++ after))) (holds_close_mark (us ++ after)) spells (λ h. behind_holds (brackets b) (us ++ after) h))

pub run_searched : {M : Type 0} (ts : List (Tree M)) → is_none (search_trees Zero ts) ≡ spells_close_mark (forest_of ts)
run_searched ts = list_searched Zero ts ∙ or_absorb (holds_close_mark (front_units (forest_of ts))) (spells_close_mark (forest_of ts)) (front_spells ts)

pub none_is : {A : Type 0} (o : Option A) (b : Bool) → is_some o ≡ not b → b ≡ is_none o
none_is None true h = refl
none_is None false h = absurd cc
none_is (Some x) true h = absurd cc
none_is (Some x) false h = refl

pub searched_on : {M : Type 0} (b : Brackets) (xs ys : List (Tree M)) → search_trees b (xs ++ ys) ≡ option_and_then (λ c. search_trees c ys) (search_trees b xs)
searched_on b [] ys = refl
searched_on b (x ∷ xs) ys =
    elim (search_tree b x) as (λ o. option_and_then (λ c. search_trees c (xs ++ ys)) o ≡ option_and_then (λ c. search_trees c ys) (option_and_then (λ c. search_trees c xs) o))
    [ None ↦ refl | Some c ↦ searched_on c xs ys ]

-- three parts, searched one after the other
pub searched_three : {M : Type 0} (xs ys zs : List (Tree M)) → spells_close_mark (forest_of (xs ++ (ys ++ zs))) ≡ is_none (search_parts xs ys zs)
searched_three xs ys zs =
    sym (run_searched (xs ++ (ys ++ zs))) ∙ ap is_none (searched_on Zero xs (ys ++ zs)
    ∙ elim (search_trees Zero xs) as (λ o. option_and_then (λ c. search_trees c (ys ++ zs)) o ≡ option_and_then (λ c. option_and_then (λ d. search_trees d zs) (search_trees c ys)) o)
    [ None ↦ refl | Some c ↦ searched_on c ys zs ])
