-- The stack of ranges, and the first crossing.
use Rattle.std.proofs.Common.{◌≡◌, ℕ, ◌<◌, ◌≤◌, List, [], ◌∷◌, ◌++◌, reverse, refl, sym, ◌∙◌, ap, subst, arith, append_assoc}
use Rattle.std.specs.Borrow.{Bor}
use Rattle.std.specs.List.{AllByRecursion}
use Rattle.std.proofs.lemmas.List.{map-append, reverse-append}
use Rattle.pv_standoff.specs.Ranges.{IsRangeBefore, HaveSamePlace, NoneTwice, Cross, AreSorted, NoneCrossLater}
use Rattle.pv_standoff.specs.declared.ranges.Range.{Range}
use Rattle.pv_standoff.specs.PlainForms.{seen}
use Rattle.pv_standoff.specs.RefusedRanges.{IsFirstCrossing}
use Rattle.pv_standoff.specs.Stacks.{AreStillOpen}
use Rattle.pv_standoff.specs.PlainForms.{innermost_first}
use Rattle.pv_standoff.proofs.Lists.{all-append, all-map, all-left, all-right}
use Rattle.pv_standoff.proofs.OneSortedOrder.{all-among}
use Rattle.pv_standoff.proofs.OpenRanges.{among-middle}

pub stack_push : (ys : List (Bor Range)) (x : Bor Range) → innermost_first (ys ++ x ∷ []) ≡ x.now ∷ innermost_first ys
stack_push ys x = ap reverse (map-append (λ r. r.now) ys (x ∷ [])) ∙ reverse-append (seen ys) (x.now ∷ [])

covers_more : (b : ℕ) (done e st : List Range) → AreStillOpen b done st → AllByRecursion (λ q. q.to ≤ b) e → AreStillOpen b (done ++ e) st
covers_more b done e [] c h = all-append (λ q. q.to ≤ b) done e c h
covers_more b done e (t ∷ ts) (before, between, is, closed, round, c) h =
    (before, between ++ e, ap (λ z. z ++ e) is ∙ append_assoc before (t ∷ between) e, all-append (λ q. q.to ≤ b) between e closed h, round, c)

pub covers_pop : (b : ℕ) (done : List Range) (t : Range) (ts : List Range) → AreStillOpen b done (t ∷ ts) → t.to ≤ b → AreStillOpen b done ts
covers_pop b done t ts (before, between, is, closed, round, c) h =
    subst (λ z. AreStillOpen b z ts) (sym is) (covers_more b before (t ∷ between) ts c (h, closed))

pub covers_later : (b b' : ℕ) (done st : List Range) → b ≤ b' → AreStillOpen b done st → AreStillOpen b' done st
covers_later b b' done [] l c = all-map (λ q. q.to ≤ b) (λ q. q.to ≤ b') done (λ q h. omega (arith, h, l)) c
covers_later b b' done (t ∷ ts) l (before, between, is, closed, round, c) =
    (before, between, is, all-map (λ q. q.to ≤ b) (λ q. q.to ≤ b') between (λ q h. omega (arith, h, l)) closed, round, covers_later b b' before ts l c)

pub covers_push : (b : ℕ) (done st : List Range) (r : Range) → AreStillOpen b done st → AllByRecursion (λ g. r.to ≤ g.to) st → AreStillOpen b (done ++ r ∷ []) (r ∷ st)
covers_push b done st r c h = (done, [], refl, tt, h, c)

pub round_all : (b : ℕ) (done : List Range) (t : Range) (ts : List Range) (r : Range) → AreStillOpen b done (t ∷ ts) → r.to ≤ t.to → AllByRecursion (λ g. r.to ≤ g.to) (t ∷ ts)
round_all b done t ts r (before, between, is, closed, round, c) h = (h, all-map (λ g. t.to ≤ g.to) (λ g. r.to ≤ g.to) ts (λ g l. omega (arith, h, l)) round)

pub covers_none : (b : ℕ) (done st : List Range) (r : Range) → AreStillOpen b done st → b ≤ r.from → AllByRecursion (λ g. r.to ≤ g.to) st → AllByRecursion (λ q. Cross q r → ⊥) done
covers_none b done [] r c l h = all-map (λ q. q.to ≤ b) (λ q. Cross q r → ⊥) done (λ q m x. omega (arith, m, l, x.1)) c
covers_none b done (t ∷ ts) r (before, between, is, closed, round, c) l h =
    subst (λ z. AllByRecursion (λ q. Cross q r → ⊥) z) (sym is) (all-append (λ q. Cross q r → ⊥) before (t ∷ between) (covers_none b before ts r c l h.1)
    ((λ x. let k = h.0 in omega (arith, k, x.2)), all-map (λ q. q.to ≤ b) (λ q. Cross q r → ⊥) between (λ q m x. omega (arith, m, l, x.1)) closed))

pub none_cross_push : (done : List Range) (r : Range) → NoneCrossLater done → AllByRecursion (λ q. Cross q r → ⊥) done → NoneCrossLater (done ++ r ∷ [])
none_cross_push [] r n h = (tt, tt)
none_cross_push (q ∷ done) r n h = (all-append (λ x. Cross q x → ⊥) done (r ∷ []) n.0 (h.0, tt), none_cross_push done r n.1 h.1)

-- what the parts of a list in order say
pub order_two : (a : List Range) (t : Range) (b : List Range) (r : Range) (e : List Range) → AreSorted (a ++ t ∷ (b ++ r ∷ e)) → IsRangeBefore r t → ⊥
order_two [] t b r e o = all-among (λ q. IsRangeBefore q t → ⊥) (b ++ r ∷ e) o.0 r (among-middle r b e)
order_two (x ∷ a) t b r e o = order_two a t b r e o.1

-- the stack's innermost range crosses the next one
pub first_crossing : (all done after : List Range) (b : ℕ) (t : Range) (ts : List Range) (r : Range) → all ≡ done ++ r ∷ after → AreSorted all → NoneCrossLater done →
    AreStillOpen b done (t ∷ ts) → b ≤ r.from → r.from < t.to → t.to < r.to → IsFirstCrossing all t r
first_crossing all done after b t ts r is o n (before, between, is', closed, round, c) l h h' = record {
  before = before;
  between = between;
  after = after;
  is_split = whole;
  none_before = subst NoneCrossLater is' n;
  cross = let f = order_two before t between r after (subst AreSorted whole o) in cross t r f h h';
  none_between = all-map (λ q. q.to ≤ b) (λ q. Cross q r → ⊥) between (λ q m x. omega (arith, m, l, x.1)) closed;
}
  where
    whole : all ≡ before ++ t ∷ (between ++ r ∷ after)
    whole = is ∙ ap (λ z. z ++ r ∷ after) is' ∙ append_assoc before (t ∷ between) (r ∷ after)

    cross : (t r : Range) → (IsRangeBefore r t → ⊥) → r.from < t.to → t.to < r.to → Cross t r
    cross t r f h h' = grind arith

-- a range after others in order, which hasn't the place of the last of them
pub once_push : (a : List Range) (p r : Range) (e : List Range) → AreSorted (a ++ p ∷ r ∷ e) → NoneTwice (a ++ p ∷ []) → (HaveSamePlace p r → ⊥) → NoneTwice (a ++ p ∷ r ∷ [])
once_push [] p r e o n d = ((d, tt), (tt, tt))
once_push (q ∷ a) p r e o n d = (
  all-append (λ x. HaveSamePlace q x → ⊥) a (p ∷ r ∷ []) (all-left (λ x. HaveSamePlace q x → ⊥) a (p ∷ []) n.0)
      ((all-right (λ x. HaveSamePlace q x → ⊥) a (p ∷ []) n.0).0, ((λ s. (let u = all-right (λ x. IsRangeBefore x q → ⊥) a (p ∷ r ∷ e) o.0 in apart q p r u.0 (order_two a p [] r e o.1) d s)), tt)),
  once_push a p r e o.1 n.1 d,
)
  where
    apart : (q p r : Range) → (IsRangeBefore p q → ⊥) → (IsRangeBefore r p → ⊥) → (HaveSamePlace p r → ⊥) → HaveSamePlace q r → ⊥
    apart q p r u v d s = grind arith
