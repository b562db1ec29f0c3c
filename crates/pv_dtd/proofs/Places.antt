-- The place of a name is the first position at which it stands.
use Rattle.std.proofs.Common.{◌≡◌, ℕ, suc, ◌||◌, cond, is_some, List, [], ◌∷◌, map, Bool, true, false, position, ◌++◌, length, Option, Some, None, refl, sym, ap, ◌∙◌, Vec, Global, arith}
use Rattle.std.proofs.lemmas.Grind.{common_steps}
use Rattle.std.proofs.lemmas.List.{length-map}
use Rattle.std.proofs.lemmas.List.{map-append}
use Rattle.std.specs.List.{prefix_len, list_any}
use Rattle.std.specs.Option.{option_map}
use Rattle.std.specs.Str.{bytes_eq}
use Rattle.pv_dtd.specs.Plain.{place_of}
use Rattle.pv_dtd.specs.NameOrder.{names_with, number_in}

prefix-map : {A B : Type 0} (f : A → B) (p : B → Bool) (xs : List A) → prefix_len p (map f xs) ≡ prefix_len (λ x. p (f x)) xs
prefix-map f p [] = refl
prefix-map f p (x ∷ xs) = rw (prefix-map f p xs) refl

pub position-map : {A B : Type 0} (f : A → B) (p : B → Bool) (xs : List A) → position p (map f xs) ≡ position (λ x. p (f x)) xs
position-map f p xs = rw (prefix-map f, length-map) refl

at_first : (x n : List ℕ) (ns : List (List ℕ)) (b : Bool) → bytes_eq x n ≡ b → place_of ns x ≡ position (bytes_eq x) ns → place_of (n ∷ ns) x ≡ position (bytes_eq x) (n ∷ ns)
at_first x n ns true is e = grind (arith, common_steps)
at_first x n ns false is e = grind (arith, common_steps)

pub place-position : (x : List ℕ) (names : List (List ℕ)) → place_of names x ≡ position (bytes_eq x) names
place-position x [] = refl
place-position x (n ∷ ns) = at_first x n ns (bytes_eq x n) refl (place-position x ns)

-- where the names are seen in the keys of a set
pub place-keys : (x : List ℕ) (keys : List (Vec ℕ Global)) → place_of (map (λ v. v.items) keys) x ≡ position (λ v. bytes_eq x v.items) keys
place-keys x keys = place-position x _ ∙ position-map (λ v. v.items) (bytes_eq x) keys

pub place-seen : (x : List ℕ) (keys : List (Vec ℕ Global)) (names : List (List ℕ)) →
    map (λ v. v.items) keys ≡ names → (place : Option ℕ) →
    place ≡ position (λ v. bytes_eq x v.items) keys → place ≡ place_of names x
place-seen x keys names seen place is = is ∙ sym (place-keys x keys) ∙ ap (λ ns. place_of ns x) seen

-- a name that is there keeps its number, and a new one has the next
pub known_name : (names : List (List ℕ)) (x : List ℕ) (y : ℕ) → Some y ≡ place_of names x → (y ≡ number_in names x) × (names ≡ names_with names x)
known_name names x y is = rw (← is) (refl, refl)

pub new_name : (names : List (List ℕ)) (x : List ℕ) → None ≡ place_of names x → (length names ≡ number_in names x) × (names ++ x ∷ [] ≡ names_with names x)
new_name names x is = rw (← is) (refl, refl)

is_some-suc : (o : Option ℕ) → is_some (option_map suc o) ≡ is_some o
is_some-suc None = refl
is_some-suc (Some y) = refl

place_step : (o : Option ℕ) (b c : Bool) → is_some o ≡ c → is_some (cond b (Some 0) (option_map suc o)) ≡ (b || c)
place_step o true c e = refl
place_step o false c e = is_some-suc o ∙ e

-- a name has a place where it is one of the names
pub is_some-place : (x : List ℕ) (names : List (List ℕ)) → is_some (place_of names x) ≡ list_any (bytes_eq x) names
is_some-place x [] = refl
is_some-place x (n ∷ ns) = place_step (place_of ns x) (bytes_eq x n) _ (is_some-place x ns)

pub list_any-map : {A B : Type 0} (f : A → B) (p : B → Bool) (xs : List A) → list_any p (map f xs) ≡ list_any (λ x. p (f x)) xs
list_any-map f p [] = refl
list_any-map f p (x ∷ xs) = rw (list_any-map f p xs) refl

pub next_number : (n : ℕ) (keys : List (Vec ℕ Global)) (x : List ℕ) (names : List (List ℕ)) → n ≡ length keys → map (λ v. v.items) keys ≡ names → None ≡ place_of names x → n ≡ number_in names x
next_number n keys x names is seen new = is ∙ sym (length-map keys (λ (v : Vec ℕ Global). v.items)) ∙ ap length seen ∙ (new_name names x new).0

-- the keys of a set have a name where it has a place among the names
pub holds_name : (x : List ℕ) (keys : List (Vec ℕ Global)) (names : List (List ℕ)) → map (λ v. v.items) keys ≡ names → list_any (λ k. bytes_eq x k.items) keys ≡ is_some (place_of names x)
holds_name x keys names seen = sym (list_any-map (λ v. v.items) (bytes_eq x) keys) ∙ ap (list_any (bytes_eq x)) seen ∙ sym (is_some-place x names)

-- a new name goes at the end of the keys
pub name_inserted : (keys after : List (Vec ℕ Global)) (v : Vec ℕ Global) (x : List ℕ)
    (names : List (List ℕ)) → map (λ v. v.items) keys ≡ names → v.items ≡ x →
    None ≡ place_of names x → after ≡ cond (list_any (λ k. bytes_eq v.items k.items) keys) keys
    (keys ++ v ∷ []) → map (λ v. v.items) after ≡ names_with names x
name_inserted keys after v x names seen is new inserted =
    let any : list_any (λ k. bytes_eq v.items k.items) keys ≡ false = rw is (holds_name x keys names seen ∙ ap is_some (sym new)) in
    let put : after ≡ keys ++ v ∷ [] = inserted ∙ ap (λ b. cond b keys (keys ++ v ∷ [])) any in
    let both : map (λ v. v.items) after ≡ names ++ x ∷ [] = ap (map (λ v. v.items)) put ∙ map-append (λ v. v.items) keys (v ∷ []) ∙ ap (λ ns. ns ++ v.items ∷ []) seen ∙ ap (λ n. names ++ n ∷ []) is in
    both ∙ (new_name names x new).1
