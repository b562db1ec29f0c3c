-- Numbers of a word's tokens, by those of the word before a change, and token by token.
use Rattle.std.proofs.Common.{List, [], arith, get_or, ◌<◌, length, subst, sym, map, take, drop, ap}
use Rattle.std.proofs.Common.{ℕ}
use Rattle.std.proofs.Common.{◌∷◌, ◌≡◌, ◌++◌, ◌+◌, ◌-◌, ◌≤◌, ◌∙◌}
use Rattle.std.specs.List.{between, splice}
use Rattle.std.proofs.lemmas.List.{map-append, map_more, length-map}
use Rattle.std.proofs.lemmas.List.Edits.{split_between}
use Rattle.pv_model.specs.Plain.{PlainToken}
use Rattle.pv_model.specs.PlainForms.{plain_token}
use Rattle.pv_model.specs.declared.models.Token.{Token}
use Rattle.pv_rematch.specs.Counts.{AreWithout}
use Rattle.pv_rematch.proofs.TokenNumbers.{at_most, by_difference, one_with, one_without}

-- the plain form of a word in three parts
in_three : (f m b : List Token) →
    map plain_token (f ++ (m ++ b)) ≡ map plain_token f ++ (map plain_token m ++ map plain_token b)
in_three f m b = simp map-append

-- the number of a word, where tokens came in place of others, by that of the word before
pub number_after : (P : PlainToken → Type 0) (word gone : List Token) (from to n i j : ℕ) →
    from ≤ to →
    AreWithout P (map plain_token (splice word from to gone)) n →
    AreWithout P (map plain_token gone) i →
    AreWithout P (map plain_token (between from to word)) j →
    (i ≤ n) × AreWithout P (map plain_token word) (n - i + j) × (n - i + j ≤ length word)
number_after P word gone from to n i j le a g c =
    let W : List PlainToken → Type 0 = λ v. AreWithout P v n in
    let V : List PlainToken → Type 0 = λ v. AreWithout P v (n - i + j) in
    let f = map plain_token (take from word) in
    let b = map plain_token (drop to word) in
    let d =
    by_difference P f (map plain_token gone) (map plain_token (between from to word)) b n i j
    (subst W (in_three (take from word) gone (drop to word)) a) g c in
    let e = in_three (take from word) (between from to word) (drop to word) in
    let s = ap (λ (v : List Token). map plain_token v) (split_between word from to le) in
    let all = subst V (sym (s ∙ e)) d.1 in
    let most = at_most P (map plain_token word) (n - i + j) all in
    let long : length (map plain_token word) ≡ length word = length-map word plain_token in
    (d.0, all, omega arith)

-- the number of a word up to a place, and up to the next
module _ (P : PlainToken → Type 0) (word : List Token) (k n : ℕ) (d : Token) (lt : k < length word)
    (a : AreWithout P (map plain_token (take k word)) n) where
  abbrev so_far : List PlainToken
  so_far = map plain_token (take k word)

  abbrev next : PlainToken
  next = plain_token (get_or word k d)

  one_more : (m : ℕ) → AreWithout P (so_far ++ next ∷ []) m →
      AreWithout P (map plain_token (take (k + 1) word)) m
  one_more m =
      let W : List PlainToken → Type 0 = λ v. AreWithout P v m in
      subst W (sym (map_more plain_token word k d lt))

  pub next_with : (m : ℕ) → m ≡ n → P next → AreWithout P (map plain_token (take (k + 1) word)) m
  next_with m e p =
      let F : ℕ → Type 0 = AreWithout P (so_far ++ next ∷ []) in
      one_more m (subst F (sym e) (one_with P so_far next n p a))

  pub next_without : (m : ℕ) → m ≡ n + 1 → (P next → ⊥) →
      AreWithout P (map plain_token (take (k + 1) word)) m
  next_without m e p =
      let F : ℕ → Type 0 = AreWithout P (so_far ++ next ∷ []) in
      one_more m (subst F (sym e) (one_without P so_far next n p a))
