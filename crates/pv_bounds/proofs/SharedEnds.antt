-- The reaches of fronts up to ends that they share.
use Rattle.std.specs.Prelude.{min}
use Rattle.std.proofs.Common.{List, [], ap, arith, drop, get_or, inl, inr, length, length-append}
use Rattle.std.proofs.Common.{length-drop, refl, suc, sym, take, zero, ℕ, ◌+◌, ◌++◌, ◌-◌, ◌<◌, ◌∙◌}
use Rattle.std.proofs.Common.{◌∷◌, ◌≡◌, ◌≤◌}
use Rattle.std.proofs.lemmas.Bool.{cases_lt}
use Rattle.std.proofs.lemmas.List.{drop-drop, drop_all, drop_at, get_or-append-add, get_or-drop}
use Rattle.std.proofs.lemmas.List.{get_or-take, get_or_append_left, length-take-le}
use Rattle.pv_rules.specs.Derivations.{heaviest}
use Rattle.pv_bounds.specs.Fronts.{cost_up_to, rising, front_list, least_to, shared_reach}
use Rattle.pv_bounds.specs.declared.front.Front.{Front}
use Rattle.pv_bounds.specs.declared.fronts.Reach.{Reach}
use Rattle.pv_bounds.proofs.LeastCosts.{least_light, past_end, up_to_end}

pub counted_length : (n : ℕ) (es : List ℕ) → length (rising n es) ≡ length es
counted_length n [] = refl
counted_length n (e ∷ es) = let t = counted_length (suc n) es in omega arith

pub counted_at : (n : ℕ) (es : List ℕ) (i : ℕ) (d : Reach) → i < length es →
    get_or (rising n es) i d ≡ shared_reach (n + i) (get_or es i 0)
counted_at n [] i d lt = absurd (omega arith)
counted_at n (e ∷ es) zero d lt =
    let s : n ≡ n + zero = omega arith in ap (λ (k : ℕ). shared_reach k e) s
counted_at n (e ∷ es) (suc i) d lt =
    let s : suc n + i ≡ n + suc i = omega arith in
    counted_at (suc n) es i d (omega arith) ∙ ap (λ (k : ℕ). shared_reach k (get_or es i 0)) s

counted_drop : (n k : ℕ) (es : List ℕ) → drop k (rising n es) ≡ rising (n + k) (drop k es)
counted_drop n zero es = let s : n ≡ n + zero = omega arith in ap (λ (m : ℕ). rising m es) s
counted_drop n (suc k) [] = refl
counted_drop n (suc k) (e ∷ es) =
    let s : suc n + k ≡ n + suc k = omega arith in
    counted_drop (suc n) k es ∙ ap (λ (m : ℕ). rising m (drop k es)) s

-- the least costs of reaches side by side, and of some of them
pub least_append : (j : ℕ) (xs ys : List Reach) →
    least_to j (xs ++ ys) ≡ min (least_to j xs) (least_to j ys)
least_append j [] ys = let l = least_light j ys in omega arith
least_append j (r ∷ rs) ys = let t = least_append j rs ys in omega arith

least_drop : (j k : ℕ) (xs : List Reach) → least_to j xs ≤ least_to j (drop k xs)
least_drop j zero xs = omega arith
least_drop j (suc k) [] = omega arith
least_drop j (suc k) (r ∷ rs) = let t = least_drop j k rs in omega arith

-- where the first of shared ends costs at most so much more, so do all; and where it costs at least
-- so much more
up_to_less : (j a b extra e : ℕ) → a ≤ extra + b →
    cost_up_to j (shared_reach a e) ≤ extra + cost_up_to j (shared_reach b e)
up_to_less j a b extra e l = elim (cases_lt e j) [
  | inl lt ↦
      (let p = past_end j (shared_reach a e) lt in let q = past_end j (shared_reach b e) lt in
      omega arith)
  | inr le ↦
      (let p = up_to_end j (shared_reach a e) le in let q = up_to_end j (shared_reach b e) le in
      omega arith)
]

counted_less : (j a b extra : ℕ) (es : List ℕ) → a ≤ extra + b →
    least_to j (rising a es) ≤ extra + least_to j (rising b es)
counted_less j a b extra [] l = omega arith
counted_less j a b extra (e ∷ es) l =
    let u = up_to_less j a b extra e l in
    let t = counted_less j (suc a) (suc b) extra es (omega arith) in omega arith

up_to_more : (j a b extra e : ℕ) → extra + a ≤ b →
    min heaviest (extra + cost_up_to j (shared_reach a e)) ≤ cost_up_to j (shared_reach b e)
up_to_more j a b extra e l = elim (cases_lt e j) [
  | inl lt ↦ (let p = past_end j (shared_reach b e) lt in omega arith)
  | inr le ↦
      (let p = up_to_end j (shared_reach a e) le in let q = up_to_end j (shared_reach b e) le in
      omega arith)
]

counted_more : (j a b extra : ℕ) (es : List ℕ) → extra + a ≤ b →
    min heaviest (extra + least_to j (rising a es)) ≤ least_to j (rising b es)
counted_more j a b extra [] l = omega arith
counted_more j a b extra (e ∷ es) l =
    let u = up_to_more j a b extra e l in
    let t = counted_more j (suc a) (suc b) extra es (omega arith) in omega arith

-- the first of the ends that is far enough tells the least cost
counted_above : (j n : ℕ) (es : List ℕ) → min heaviest n ≤ least_to j (rising n es)
counted_above j n [] = omega arith
counted_above j n (e ∷ es) = let t = counted_above j (suc n) es in elim (cases_lt e j) [
  | inl lt ↦ (let p = past_end j (shared_reach n e) lt in omega arith)
  | inr le ↦ (let p = up_to_end j (shared_reach n e) le in omega arith)
]

pub first_counted : (j n i : ℕ) (es : List ℕ) → i < length es →
    ((m : ℕ) → m < i → get_or es m 0 < j) → j ≤ get_or es i 0 →
    least_to j (rising n es) ≡ min heaviest (n + i)
first_counted j n i [] lt short far = absurd (omega arith)
first_counted j n zero (e ∷ es) lt short far =
    let p = up_to_end j (shared_reach n e) far in
    let t = counted_above j (suc n) es in omega arith
first_counted j n (suc i) (e ∷ es) lt short far =
    let p = past_end j (shared_reach n e) (short zero (omega arith)) in
    let t = first_counted j (suc n) i es (omega arith) (λ m l. short (suc m) (omega arith)) far in
    omega arith

pub none_counted : (j n : ℕ) (es : List ℕ) → ((m : ℕ) → m < length es → get_or es m 0 < j) →
    least_to j (rising n es) ≡ heaviest
none_counted j n [] short = refl
none_counted j n (e ∷ es) short =
    let p = past_end j (shared_reach n e) (short zero (omega arith)) in
    let t = none_counted j (suc n) es (λ m l. short (suc m) (omega arith)) in omega arith

-- fronts
module _ (f : Front) (within : f.to ≤ length f.ends.now) where
  abbrev pub shared : List ℕ
  shared = drop f.from (take f.to f.ends.now)

  pub shared_length : length shared ≡ f.to - f.from
  shared_length =
      let a : length shared ≡ length (take f.to f.ends.now) - f.from = length-drop f.from
      (take f.to f.ends.now) in
      let b = length-take-le f.to f.ends.now within in omega arith

  pub front_length : length (front_list f) ≡ length f.near.now + (f.to - f.from)
  front_length =
      let a = length-append f.near.now (rising f.cost shared) in
      let b = counted_length f.cost shared in
      let s = shared_length in omega arith

  pub shared_at : (i : ℕ) → i < f.to - f.from → get_or shared i 0 ≡ get_or f.ends.now (f.from + i) 0
  shared_at i lt =
      get_or-drop f.from (take f.to f.ends.now) i 0
      ∙ get_or-take f.to f.ends.now (f.from + i) 0 (omega arith)

  pub near_at : (i : ℕ) (d : Reach) → i < length f.near.now →
      get_or (front_list f) i d ≡ get_or f.near.now i d
  near_at i d lt = get_or_append_left f.near.now (rising f.cost shared) d i lt

  pub far_at : (i : ℕ) (d : Reach) → i < f.to - f.from →
      get_or (front_list f) (length f.near.now + i) d ≡
      shared_reach (f.cost + i) (get_or f.ends.now (f.from + i) 0)
  far_at i d lt =
      let l = shared_length in
      get_or-append-add f.near.now (rising f.cost shared) i d ∙
      (counted_at f.cost shared i d (omega arith)
      ∙ ap (λ (e : ℕ). shared_reach (f.cost + i) e) (shared_at i lt))

  pub front_least : (j : ℕ) → least_to j (front_list f) ≡
      min (least_to j f.near.now) (least_to j (rising f.cost shared))
  front_least j = least_append j f.near.now (rising f.cost shared)

  -- the near reaches are cheaper than all others
  pub near_least : (j : ℕ) → least_to j f.near.now ≤ f.cost →
      least_to j (front_list f) ≡ least_to j f.near.now
  near_least j l =
      let e = front_least j in
      let a = counted_above j f.cost shared in
      let b = least_light j f.near.now in omega arith

dropped : (a m : ℕ) (es : List ℕ) → a ≤ m → drop (m - a) (drop a es) ≡ drop m es
dropped a m es l =
    let s : a + (m - a) ≡ m = omega arith in drop-drop (m - a) a es ∙ ap (λ (k : ℕ). drop k es) s

-- What is left of two fronts that share these ends, from one of them on: a and b are where theirs
-- start.
module _ (near others : List Reach) (es : List ℕ) (a b m c d : ℕ) (la : a ≤ m) (lb : b ≤ m) where
  ones_rest : (j : ℕ) → least_to j (near ++ rising c (drop a es))
      ≤ least_to j (rising (c + (m - a)) (drop m es))
  ones_rest j =
      let e : drop (m - a) (rising c (drop a es)) ≡ rising (c + (m - a)) (drop m es) =
      counted_drop c (m - a) (drop a es) ∙ ap (λ (xs : List ℕ). rising (c + (m - a)) xs)
      (dropped a m es la) in
      let f = ap (λ (xs : List Reach). least_to j xs) e in
      let p = least_append j near (rising c (drop a es)) in
      let q = least_drop j (m - a) (rising c (drop a es)) in omega arith

  others_rest : drop (length others + (m - b)) (others ++ rising d (drop b es)) ≡
      rising (d + (m - b)) (drop m es)
  others_rest =
      let p : drop (length others + (m - b)) (others ++ rising d (drop b es)) ≡
      drop (m - b) (rising d (drop b es)) =
      sym (drop-drop (m - b) (length others) (others ++ rising d (drop b es))) ∙
      ap (λ (xs : List Reach). drop (m - b) xs)
      (drop_at others (rising d (drop b es)) (length others) refl) in
      let e : drop (m - b) (rising d (drop b es)) ≡ rising (d + (m - b)) (drop m es) =
      counted_drop d (m - b) (drop b es) ∙ ap (λ (xs : List ℕ). rising (d + (m - b)) xs)
      (dropped b m es lb) in p ∙ e

  rest_less : (extra : ℕ) → c + (m - a) ≤ extra + (d + (m - b)) → (j : ℕ) →
      least_to j (near ++ rising c (drop a es))
      ≤ extra + least_to j (drop (length others + (m - b)) (others ++ rising d (drop b es)))
  rest_less extra l j =
      let t = ones_rest j in
      let e = ap (λ (xs : List Reach). least_to j xs) others_rest in
      let s = counted_less j (c + (m - a)) (d + (m - b)) extra (drop m es) l in omega arith

  rest_more : (extra : ℕ) → extra + (c + (m - a)) ≤ d + (m - b) → (j : ℕ) →
      min heaviest (extra + least_to j (near ++ rising c (drop a es)))
      ≤ least_to j (drop (length others + (m - b)) (others ++ rising d (drop b es)))
  rest_more extra l j =
      let t = ones_rest j in
      let e = ap (λ (xs : List Reach). least_to j xs) others_rest in
      let s = counted_more j (c + (m - a)) (d + (m - b)) extra (drop m es) l in omega arith

module _ (ones others : Front) (m extra : ℕ) (ends : ones.ends.now ≡ others.ends.now)
    (to : ones.to ≡ others.to) (la : ones.from ≤ m) (lb : others.from ≤ m) where
  same : take ones.to ones.ends.now ≡ take others.to others.ends.now
  same = ap (λ (es : List ℕ). take ones.to es) ends ∙ ap (λ (n : ℕ). take n others.ends.now) to

  pub fronts_less : ones.cost + (m - ones.from) ≤ extra + (others.cost + (m - others.from)) →
      (j : ℕ) →
      least_to j (front_list ones) ≤ extra + least_to j
      (drop (length others.near.now + (m - others.from)) (front_list others))
  fronts_less l j =
      rw same (rest_less ones.near.now others.near.now (take others.to others.ends.now) ones.from
      others.from m ones.cost others.cost la lb extra l j)

  pub fronts_more : extra + (ones.cost + (m - ones.from)) ≤ others.cost + (m - others.from) →
      (j : ℕ) →
      min heaviest (extra + least_to j (front_list ones))
      ≤ least_to j (drop (length others.near.now + (m - others.from)) (front_list others))
  fronts_more l j =
      rw same (rest_more ones.near.now others.near.now (take others.to others.ends.now) ones.from
      others.from m ones.cost others.cost la lb extra l j)

-- none of the others are left
pub none_less : (ones others : List Reach) (extra n : ℕ) → n ≡ length others → (j : ℕ) →
    least_to j ones ≤ extra + least_to j (drop n others)
none_less ones others extra n all j =
    let e : drop n others ≡ [] = drop_all n others (omega arith) in
    rw e (let l = least_light j ones in omega arith)

pub none_more : (ones others : List Reach) (extra n : ℕ) → n ≡ length others → (j : ℕ) →
    min heaviest (extra + least_to j ones) ≤ least_to j (drop n others)
none_more ones others extra n all j =
    let e : drop n others ≡ [] = drop_all n others (omega arith) in rw e (omega arith)
