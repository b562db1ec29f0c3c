-- When kids fit an element by themselves, by what is found of its name.
use Rattle.std.proofs.Common.{◌≡◌, ◌↔◌, ◌==◌, IsTrue, ℕ, ◌<◌, suc, List, [], ◌∷◌, length, Bool, true, false, Option, Some, None, refl, ◌∙◌, arith}
use Rattle.std.proofs.lemmas.Bool.{eqb-true}
use Rattle.std.specs.Option.{option_and_then, option_map}
use Rattle.std.specs.Str.{bytes_eq}
use Rattle.pv_model.specs.Plain.{PlainModel, empty}
use Rattle.pv_model.specs.Models.{Allows}
use Rattle.pv_dtd.specs.Plain.{PlainDtd, place_of, model_of, declared}
use Rattle.pv_tree.specs.Plain.{Forest, no_trees}
use Rattle.pv_tree.specs.Words.{word_of}
use Rattle.pv_tree.specs.Lists.{IsOwnValid}
use Rattle.pv_tree.specs.PlainForms.{forest}
use Rattle.pv_tree.specs.declared.nodes.Node.{Node}

below_rest : (n : ℕ) (o : Option ℕ) (y : ℕ) → ((z : ℕ) → o ≡ Some z → z < n) → option_map suc o ≡ Some y → y < suc n
below_rest n (Some z) y h e = let k : suc z ≡ y = cc in let b = h z refl in omega arith
below_rest n None y h e = cc

below_first : (b : Bool) (x n : List ℕ) (ns : List (List ℕ)) (y : ℕ) → bytes_eq x n ≡ b → ((z : ℕ) → place_of ns x ≡ Some z → z < length ns) → place_of (n ∷ ns) x ≡ Some y → y < suc (length ns)
below_first true x n ns y is h e = let k = rw is at e in let z : 0 ≡ y = cc in omega arith
below_first false x n ns y is h e = let k = rw is at e in below_rest (length ns) (place_of ns x) y h k

-- a name's number is one of the DTD
pub place_of-below : (names : List (List ℕ)) (x : List ℕ) (y : ℕ) → place_of names x ≡ Some y → y < length names
place_of-below [] x y e = cc
place_of-below (n ∷ ns) x y e = below_first (bytes_eq x n) x n ns y refl (place_of-below ns x) e

-- the model of an owner, where it has one
abbrev pub model_for : PlainDtd → Option ℕ → Option PlainModel
model_for g owner = option_and_then (model_of g) owner

pub own_valid_to : {M : Type 0} (g : PlainDtd) (owner : Option ℕ) (m : PlainModel)
    (kids : Forest M) → model_for g owner ≡ Some m → (m ≡ empty → kids ≡ no_trees) →
    Allows (declared g) m (word_of g kids) → IsOwnValid g owner kids
own_valid_to g (Some y) m kids is none allowed = record { number = y; is_owner = refl; model = m; is_model = is; no_kids = none; allowed = allowed }
own_valid_to g None m kids is none allowed = cc

same_model : {M : Type 0} (g : PlainDtd) (owner : Option ℕ) (m : PlainModel) (kids : Forest M) → model_for g owner ≡ Some m → (v : IsOwnValid g owner kids) → v.model ≡ m
same_model g (Some y) m kids is v = let e : y ≡ v.number = cc in let f : model_of g v.number ≡ Some v.model = v.is_model in let k : model_of g v.number ≡ Some m = rw (← e) is in cc
same_model g None m kids is v = cc

pub own_valid_from : {M : Type 0} (g : PlainDtd) (owner : Option ℕ) (m : PlainModel)
    (kids : Forest M) → model_for g owner ≡ Some m → IsOwnValid g owner kids →
    (m ≡ empty → kids ≡ no_trees) × Allows (declared g) m (word_of g kids)
own_valid_from g owner m kids is v =
    let e = same_model g owner m kids is v in
    (λ h. v.no_kids (e ∙ h), rw (← e) v.allowed)

none_left : (kids : List Node) → IsTrue (suc (length kids) == 0) → ⊥
none_left kids h = let e = eqb-true (suc (length kids)) 0 h in omega arith

-- nodes fit an EMPTY element where there are none
pub own_valid-empty : (g : PlainDtd) (owner : Option ℕ) (kids : List Node) → model_for g owner ≡ Some empty → IsTrue (length kids == 0) ↔ IsOwnValid g owner (forest kids)
own_valid-empty g owner [] is = (λ _. own_valid_to g owner empty no_trees is (λ _. refl) refl, λ _. refl)
own_valid-empty g owner (kid ∷ kids) is = (λ h. absurd (none_left kids h), λ v. let none = (own_valid_from g owner empty (forest (kid ∷ kids)) is v).0 refl in cc)
