-- A move brings a stack nearer to its end.
use Rattle.std.proofs.Common.{List, [], arith, inl, inr, length, suc, zero, ℕ, ◌*◌, ◌++◌, ◌+◌, ◌-◌, ◌<◌, ◌∷◌, ◌≡◌, ◌≤◌, ◌⊎◌}
use Rattle.std.proofs.Math.Nat.{mul-le-mul_left}
use Rattle.pv_model.specs.Plain.{PlainToken}
use Rattle.pv_model.specs.declared.models.NameId.{NameId}
use Rattle.pv_dtd.specs.Plain.{PlainDtd, parts_in_models}
use Rattle.pv_rules.specs.PlainForms.{plain_site}
use Rattle.pv_rules.specs.Rules.{Goal, over}
use Rattle.pv_rules.specs.Sites.{PlainSite, content_site, name_site, part_site, rest_site}
use Rattle.pv_rules.specs.declared.sites.Site.{Site}
use Rattle.pv_rules.specs.declared.sites.Site.TheVariants as site
use Rattle.pv_complete.specs.Moves.{IsMove, site_rank}
use Rattle.pv_complete.specs.Works.{CanSpellAll, IsNearer, CanSpell, distance, goal_work, moves_left, power}
use Rattle.pv_complete.specs.declared.words.pieces.Move.TheVariants as move
use Rattle.pv_complete.specs.declared.words.pieces.Work.{Work}
use Rattle.pv_complete.specs.declared.words.pieces.Work.TheVariants as work

some_power : (n : ℕ) → 1 ≤ power n
some_power zero = omega arith
some_power (suc n) = let p = some_power n in omega arith

more_power : (a b : ℕ) → a ≤ b → power a ≤ power b
more_power zero b le = some_power b
more_power (suc a) zero le = absurd (omega arith)
more_power (suc a) (suc b) le = let p = more_power a b (omega arith) in omega arith

one_power : (a n : ℕ) → a < n → power a < power n
one_power a zero l = absurd (omega arith)
one_power a (suc n) l = let p = more_power a n (omega arith) in let s = some_power n in omega arith

-- two lower powers are less than a power in all
two_powers : (a b n : ℕ) → a < n → b < n → power a + power b < power n
two_powers a b zero l m = absurd (omega arith)
two_powers a b (suc n) l m = let p = more_power a n (omega arith) in let q = more_power b n (omega arith) in let s = some_power n in omega arith

-- what counts first, counts
first_less : (step a b x y : ℕ) → a < b → x < step → step * a + x < step * b + y
first_less step a b x y lt le = let m = mul-le-mul_left step lt in omega arith

near_case : (step long low high s1 s r1 r : ℕ) → long * low ≤ long * high → s1 ≤ s → r1 < step → (s1 < s) ⊎ (r1 < r) → step * (long * low + s1) + r1 < step * (long * high + s) + r
near_case step long low high s1 s r1 r le l d (inl lt) = first_less step (long * low + s1) (long * high + s) r1 r (omega arith) d
near_case step long low high s1 s r1 r le l d (inr lt) = let b : long * low + s1 ≤ long * high + s = omega arith in let m = mul-le-mul_left step b in omega arith

-- no more weight, no longer, and shorter or of a lower rank
near : (step long low high s1 s r1 r : ℕ) → low ≤ high → s1 ≤ s → r1 < step → (s1 < s) ⊎ (r1 < r) → step * (long * low + s1) + r1 < step * (long * high + s) + r
near step long low high s1 s r1 r le l d o = near_case step long low high s1 s r1 r (mul-le-mul_left long le) l d o

-- less weight
lighter : (step long low high s1 s r1 r : ℕ) → low < high → s1 < long → r1 < step → step * (long * low + s1) + r1 < step * (long * high + s) + r
lighter step long low high s1 s r1 r lt l d = first_less step (long * low + s1) (long * high + s) r1 r (let m = mul-le-mul_left long lt in omega arith) d

module _ (g : PlainDtd) (w : List PlainToken) (t : Goal → ℕ) where
  left_join : (xs : List Work) (x : Work) → moves_left g w t (xs ++ x ∷ []) ≡ moves_left g w t xs + power (distance g w t x)
  left_join [] x = omega arith
  left_join (y ∷ xs) x = let e = left_join xs x in omega arith

  ready_left : (xs : List Work) (x : Work) → CanSpellAll g w t (xs ++ x ∷ []) → CanSpellAll g w t xs × CanSpell g w t x
  ready_left [] x a = (tt, a.0)
  ready_left (y ∷ xs) x a = let q = ready_left xs x a.1 in ((a.0, q.0), q.1)

  ready_join : (xs : List Work) (x : Work) → CanSpellAll g w t xs → CanSpell g w t x → CanSpellAll g w t (xs ++ x ∷ [])
  ready_join [] x a b = (b, tt)
  ready_join (y ∷ xs) x a b = (a.0, ready_join xs x a.1 b)

  low_rank : (s : PlainSite) → site_rank g s < 4 + 2 * parts_in_models g.models
  low_rank (name_site x) = omega arith
  low_rank (part_site q) = omega arith
  low_rank (rest_site q) = omega arith
  low_rank (content_site x) = omega arith

  -- the top of a stack
  pub top_ready : (works : List Work) (x : Work) → CanSpellAll g w t (works ++ x ∷ []) → CanSpell g w t x
  top_ready works x a = (ready_left works x a).1

  pub nearer_end : (works : List Work) (x : Work) → IsNearer g w t (works ++ x ∷ []) works
  nearer_end works x = record {
    ready = λ a. (ready_left works x a).0;
    less = λ a. let e = left_join works x in let p = some_power (distance g w t x) in omega arith;
  }

  module _ (works : List Work) (s : Site) (i j : ℕ) where
    one_nearer : (x : Work) → (CanSpell g w t (goal_work s i j) → CanSpell g w t x
        × (distance g w t x < distance g w t (goal_work s i j))) →
        IsNearer g w t (works ++ goal_work s i j ∷ []) (works ++ x ∷ [])
    one_nearer x f = record {
      ready = λ a. let q = ready_left works (goal_work s i j) a in ready_join works x q.0 (f q.1).0;
      less = λ a. let q = ready_left works (goal_work s i j) a in let p = one_power (distance g w t x) (distance g w t (goal_work s i j)) (f q.1).1 in
          let e = left_join works x in let h = left_join works (goal_work s i j) in omega arith;
    }

    two_nearer : (x y : Work) → (CanSpell g w t (goal_work s i j) → CanSpell g w t x
        × CanSpell g w t y × (distance g w t x < distance g w t (goal_work s i j))
        × (distance g w t y < distance g w t (goal_work s i j))) →
        IsNearer g w t (works ++ goal_work s i j ∷ []) ((works ++ x ∷ []) ++ y ∷ [])
    two_nearer x y f = record {
      ready = λ a. let q = ready_left works (goal_work s i j) a in let k = f q.1 in ready_join (works ++ x ∷ []) y (ready_join works x q.0 k.0) k.1;
      less = λ a. let q = ready_left works (goal_work s i j) a in let k = f q.1 in
          let p = two_powers (distance g w t x) (distance g w t y) (distance g w t (goal_work s i j)) k.2 k.3 in
          let e = left_join works x in let u = left_join (works ++ x ∷ []) y in let h = left_join works (goal_work s i j) in omega arith;
    }

    pub nearer_one : (r : Site) → IsMove g w t (plain_site s) i j (move.One r) → IsNearer g w t (works ++ goal_work s i j ∷ []) (works ++ goal_work r i j ∷ [])
    nearer_one r (m, has, lt, e) = one_nearer (goal_work r i j) (λ a. (
      (has, a.1, (let z = a.2 in omega arith)),
      (let d = near (4 + 2 * parts_in_models g.models) (suc (length w))
          (t (over (plain_site r) i j)) (t (over (plain_site s) i j)) (j - i) (j - i)
          (site_rank g (plain_site r)) (site_rank g (plain_site s))
          (omega arith) (omega arith) (low_rank (plain_site r)) (inr lt) in omega arith),
    ))

    pub nearer_text : (n : ℕ) → n ≡ suc i → IsMove g w t (plain_site s) i j move.Text → IsNearer g w t (works ++ goal_work s i j ∷ []) (works ++ goal_work s n j ∷ [])
    nearer_text n next (x, is, holds, lt, f, e) = rw next (one_nearer (goal_work s (suc i) j) (λ a. (
      (a.0, (let q = a.1 in (omega arith, q.1)), (let z = a.2 in omega arith)),
      (let d = near (4 + 2 * parts_in_models g.models) (suc (length w))
          (t (over (plain_site s) (suc i) j)) (t (over (plain_site s) i j)) (j - suc i) (j - i)
          (site_rank g (plain_site s)) (site_rank g (plain_site s))
          (omega arith) (omega arith) (low_rank (plain_site s)) (inl (omega arith)) in omega arith),
    )))

    pub nearer_new : (id : NameId) → IsMove g w t (plain_site s) i j (move.New id) →
        IsNearer g w t (works ++ goal_work s i j ∷ []) ((works ++ work.End id ∷ [])
        ++ goal_work (site.Content id) i j ∷ [])
    nearer_new id (is, has, e) = two_nearer (work.End id) (goal_work (site.Content id) i j) (λ a. (
      tt,
      (has, a.1, (let z = a.2 in omega arith)),
      omega arith,
      (let q = a.1 in let l = q.0 in let n = q.1 in
          let d = lighter (4 + 2 * parts_in_models g.models) (suc (length w))
          (t (over (content_site id.0) i j)) (t (over (plain_site s) i j)) (j - i) (j - i)
          (site_rank g (content_site id.0)) (site_rank g (plain_site s))
          (omega arith) (omega arith) (low_rank (content_site id.0)) in omega arith),
    ))

    pub nearer_two : (r q : Site) (k : ℕ) → IsMove g w t (plain_site s) i j (move.Two r k q) → IsNearer g w t (works ++ goal_work s i j ∷ []) ((works ++ goal_work q k j ∷ []) ++ goal_work r i k ∷ [])
    nearer_two r q k (m, hr, hq, le, lt, low, less, e) = two_nearer (goal_work q k j) (goal_work r i k) (λ a.
        let span = a.1 in let few = a.2 in let within = span.1 in (
          (hq, (lt, within), omega arith),
          (hr, (le, omega arith), omega arith),
          (let d = near (4 + 2 * parts_in_models g.models) (suc (length w))
              (t (over (plain_site q) k j)) (t (over (plain_site s) i j)) (j - k) (j - i)
              (site_rank g (plain_site q)) (site_rank g (plain_site s))
              (omega arith) (omega arith) (low_rank (plain_site q)) (shorter less) in omega arith),
          (let d = near (4 + 2 * parts_in_models g.models) (suc (length w))
              (t (over (plain_site r) i k)) (t (over (plain_site s) i j)) (k - i) (j - i)
              (site_rank g (plain_site r)) (site_rank g (plain_site s))
              (omega arith) (omega arith) (low_rank (plain_site r)) (inr low) in omega arith),
        ))
      where
        shorter : (i < k) ⊎ (site_rank g (plain_site q) < site_rank g (plain_site s)) → (j - k < j - i) ⊎ (site_rank g (plain_site q) < site_rank g (plain_site s))
        shorter (inl l) = inl (omega arith)
        shorter (inr l) = inr l
