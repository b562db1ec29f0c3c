-- The records of one level: those that begin near enough, and one more of them.
use Rattle.std.proofs.Common.{List, [], ap, arith, get_or, inl, inr, length, length-append, take, ℕ, ◌++◌, ◌+◌, ◌-◌, ◌<◌, ◌∙◌, ◌∷◌, ◌≡◌, ◌≤◌, ◌⊎◌}
use Rattle.std.proofs.lemmas.Bool.{cases_lt}
use Rattle.std.proofs.lemmas.List.{get_or-take, get_or_append_left, get_or_at, get_or_default, length-take-le}
use Rattle.std.proofs.lemmas.List.Elements.{Contains-push}
use Rattle.pv_bounds.specs.Windows.{AreFalling, TellsEnd}
use Rattle.pv_bounds.specs.declared.windows.Stretch.{Stretch}

-- the first of the records begin after a place
abbrev pub BeginBehind : List Stretch → ℕ → ℕ → Type 0
BeginBehind rs place n = (m : ℕ) (d : Stretch) → m < n → place < (get_or rs m d).place

module _ (rs : List Stretch) (falls : AreFalling rs) (place : ℕ) where
  -- all up to one that begins after the place do
  pub behind_more : (middle : ℕ) (r : Stretch) → middle < length rs → place < (get_or rs middle r).place → BeginBehind rs place (middle + 1)
  behind_more middle r lt p m d l =
      let f = (falls m middle d (omega arith) lt).0 in
      let e : (get_or rs middle d).place ≡ (get_or rs middle r).place = ap (λ (x : Stretch). x.place) (get_or_default rs middle d r lt) in omega arith

  -- none is nearer than the last one
  pub last_nearest : (r : Stretch) (m : ℕ) (d : Stretch) → m < length rs → (get_or rs (length rs - 1) r).place ≤ (get_or rs m d).place
  last_nearest r m d lt =
      let f = (falls m (length rs - 1) d (omega arith) (omega arith)).0 in
      let e : (get_or rs (length rs - 1) d).place ≡ (get_or rs (length rs - 1) r).place = ap (λ (x : Stretch). x.place) (get_or_default rs (length rs - 1) d r (omega arith)) in omega arith

  -- what a record tells of ends no farther than the first one
  pub first_farthest : (r : Stretch) (k e : ℕ) → TellsEnd rs k e → e ≤ (get_or rs 0 r).end
  first_farthest r k e (x, (n, lt, is), from, to) =
      let f = (falls 0 n x (omega arith) lt).1 in
      let a : (get_or rs n x).end ≡ x.end = ap (λ (y : Stretch). y.end) is in
      let b : (get_or rs 0 x).end ≡ (get_or rs 0 r).end = ap (λ (y : Stretch). y.end) (get_or_default rs 0 x r (omega arith)) in omega arith

  -- none begins near enough where the nearest doesn't
  pub none_behind : (near : ℕ) → ((m : ℕ) (d : Stretch) → m < length rs → near ≤ (get_or rs m d).place) → place < near → (k e : ℕ) → k ≤ place → ¬ TellsEnd rs k e
  none_behind near all lt k e le (x, (n, l, is), from, to) =
      let a = all n x l in
      let f : (get_or rs n x).place ≡ x.place = ap (λ (y : Stretch). y.place) is in absurd (omega arith)

  module _ (first : ℕ) (behind : BeginBehind rs place first) where
    -- where a record that tells of an end stands
    at_or_past : (k e n : ℕ) (x : Stretch) → k ≤ place → n < length rs → get_or rs n x ≡ x → x.place ≤ k → first ≤ n
    at_or_past k e n x near lt is from = elim (cases_lt n first) [
      | inl l ↦ absurd (let b = behind n x l in let f = ap (λ (y : Stretch). y.place) is in omega arith)
      | inr ge ↦ ge
    ]

    pub none_near : length rs ≤ first → (k e : ℕ) → k ≤ place → ¬ TellsEnd rs k e
    none_near past k e near (x, (n, lt, is), from, to) = let l = at_or_past k e n x near lt is from in omega arith

    pub nearest_first : (r : Stretch) → first < length rs → (k e : ℕ) → k ≤ place → TellsEnd rs k e → e ≤ (get_or rs first r).end
    nearest_first r lt k e near (x, (n, ln, is), from, to) =
        let l = at_or_past k e n x near ln is from in
        let f = (falls first n x l ln).1 in
        let a : (get_or rs n x).end ≡ x.end = ap (λ (y : Stretch). y.end) is in
        let b : (get_or rs first x).end ≡ (get_or rs first r).end = ap (λ (y : Stretch). y.end) (get_or_default rs first x r lt) in omega arith

-- one record more, before which those that end no farther are left out
module _ (rs : List Stretch) (falls : AreFalling rs) (kept : ℕ) (within : kept ≤ length rs) (new : Stretch) (near : (m : ℕ) (d : Stretch) → m < length rs → new.place ≤ (get_or rs m d).place)
    (last : (d : Stretch) → 0 < kept → new.end < (get_or rs (kept - 1) d).end) (others : (m : ℕ) (d : Stretch) → kept ≤ m → m < length rs → (get_or rs m d).end ≤ new.end) where
  abbrev pub added : List Stretch
  added = take kept rs ++ new ∷ []

  long : length (take kept rs) ≡ kept
  long = length-take-le kept rs within

  longer : length added ≡ kept + 1
  longer = let a = length-append (take kept rs) (new ∷ []) in let l = long in omega arith

  -- what stands there
  at_kept : (m : ℕ) (d : Stretch) → m < kept → get_or added m d ≡ get_or rs m d
  at_kept m d lt = let l = long in get_or_append_left (take kept rs) (new ∷ []) d m (omega arith) ∙ get_or-take kept rs m d lt

  at_new : (d : Stretch) → get_or added kept d ≡ new
  at_new d = get_or_at (take kept rs) new [] d kept long

  pub added_falls : AreFalling added
  added_falls a b d le lt = by_place (cases_lt b kept) (cases_lt a kept)
    where
      by_place : (b < kept) ⊎ (kept ≤ b) → (a < kept) ⊎ (kept ≤ a) → ((get_or added b d).place ≤ (get_or added a d).place) × ((get_or added b d).end ≤ (get_or added a d).end)
      by_place (inl q) (inl p) = rw (at_kept b d q, at_kept a d p) (falls a b d le (omega arith))
      by_place (inl q) (inr p) = absurd (omega arith)
      by_place (inr q) (inl p) =
          let n = longer in
          let same : b ≡ kept = omega arith in
          let e : get_or added b d ≡ new = rw same (at_new d) in
          let f = (falls a (kept - 1) d (omega arith) (omega arith)).1 in
          let g = last d (omega arith) in
          let h = near a d (omega arith) in rw (e, at_kept a d p) (h, omega arith)
      by_place (inr q) (inr p) =
          let n = longer in
          let same : b ≡ a = omega arith in rw same (omega arith, omega arith)

  pub added_tells : (k e : ℕ) → new.place ≤ k → e ≤ new.end → TellsEnd added k e
  added_tells k e p q = (new, Contains-push (take kept rs) new, p, q)

  pub added_keeps : (k e : ℕ) → TellsEnd rs k e → TellsEnd added k e
  added_keeps k e (x, (n, lt, is), from, to) = by_place (cases_lt n kept)
    where
      by_place : (n < kept) ⊎ (kept ≤ n) → TellsEnd added k e
      by_place (inl l) = let g = longer in (x, (n, (omega arith), at_kept n x l ∙ is), from, to)
      by_place (inr l) =
          let a : (get_or rs n x).end ≡ x.end = ap (λ (y : Stretch). y.end) is in
          let b : (get_or rs n x).place ≡ x.place = ap (λ (y : Stretch). y.place) is in
          let o = others n x l lt in
          let p = near n x lt in added_tells k e (omega arith) (omega arith)
