use Rattle.std.proofs.Common.{◌≡◌, ◌<◌, ◌+◌, ℕ, List, [], ◌∷◌, ◌++◌, length, map, drop, get_or, cond, not, Bool, true, false, refl, sym, ap, ◌∙◌, add-one, drop-cons, arith}
use Rattle.std.proofs.lemmas.Grind.{common_steps}
use Rattle.std.proofs.lemmas.List.{map-append}
use Rattle.std.specs.List.{list_any}
use Rattle.std.specs.Str.{bytes_eq}
use Rattle.pv_dtd.proofs.Places.{list_any-map}
use Rattle.pv_dtd.proofs.DistinctLists.{are_new, new-distinct}
use Rattle.pv_dtd.proofs.rules.are_distinct.Goals as goal

module _ {A : Type 0} (f : A → List ℕ) where
  next : (xs : List A) (i : ℕ) (d : A) → i < length xs → drop i xs ≡ get_or xs i d ∷ drop (i + 1) xs
  next xs i d less = drop-cons xs i d less ∙ ap (λ k. get_or xs i d ∷ drop k xs) (sym (add-one i))

  seen_is : (keys : List A) (x : A) (there : Bool) → list_any (λ y. bytes_eq (f x) (f y)) keys ≡ there → list_any (bytes_eq (f x)) (map f keys) ≡ there
  seen_is keys x there e = list_any-map f (bytes_eq (f x)) keys ∙ e

  stops : (keys : List A) (x : A) (xs : List A) → list_any (λ y. bytes_eq (f x) (f y)) keys ≡ true → are_new bytes_eq (map f keys) (map f (x ∷ xs)) ≡ false
  stops keys x xs e = rw (seen_is keys x true e) refl

  goes_on : (keys after : List A) (x : A) (xs : List A) → list_any (λ y. bytes_eq (f x) (f y)) keys
      ≡ false → after ≡ cond (list_any (λ y. bytes_eq (f x) (f y)) keys) keys (keys ++ x ∷ []) →
      are_new bytes_eq (map f after) (map f xs) ≡ are_new bytes_eq (map f keys) (map f (x ∷ xs))
  goes_on keys after x xs e put =
      let behind : map f after ≡ map f keys ++ f x ∷ [] = ap (map f) (put ∙ ap (λ b. cond b keys (keys ++ x ∷ [])) e) ∙ map-append f keys (x ∷ []) in
      rw (behind, seen_is keys x false e) refl

not_false : (a b : Bool) → a ≡ not b → a ≡ false → b ≡ true
not_false a true e f = refl
not_false a false e f = cc

not_true : (a b : Bool) → a ≡ not b → a ≡ true → b ≡ false
not_true a true e f = cc
not_true a false e f = refl

pub returns-then-not-branch : goal.returns-then-not-branch
returns-then-not-branch c =
    let names = c.args.names.now in
    let there = not_false _ _ c.in_ok-insert.ensures.added c.if-not-branch.true in
    sym (sym (new-distinct (map (λ n. n.now) names)) ∙ sym c.loop-name.invariant
    ∙ ap (λ xs. are_new bytes_eq (map (λ n. n.now) c.loop-name.seen.keys) (map (λ n. n.now) xs))
    (next (λ n. n.now) names c.loop-name.name-index (record { ref_ptr = (0, 0); now = [] })
    (omega arith)) ∙ stops (λ n. n.now) c.loop-name.seen.keys
    (get_or names c.loop-name.name-index (record { ref_ptr = (0, 0); now = [] }))
    (drop (c.loop-name.name-index + 1) names) there)

pub loop-name-preserved : goal.loop-name-preserved
loop-name-preserved c =
    let names = c.args.names.now in
    let new = not_true _ _ c.in_ok-insert.ensures.added c.if-not-branch.false in
    goes_on (λ n. n.now) c.loop-name.seen.keys _ _ _ new c.in_ok-insert.ensures.keys
    ∙ ap (λ xs. are_new bytes_eq (map (λ n. n.now) c.loop-name.seen.keys) (map (λ n. n.now) xs))
    (sym (next (λ n. n.now) names c.loop-name.name-index _ (omega arith))) ∙ c.loop-name.invariant

pub returns : goal.returns
returns c = grind (arith, common_steps, c.loop-name.invariant, new-distinct (map (λ n. n.now) c.args.names.now))
