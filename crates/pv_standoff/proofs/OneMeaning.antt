-- A text and ranges mean one thing.
use Rattle.std.proofs.Common.{◌≡◌, inl, inr, ℕ, zero, suc, ◌<◌, ◌≤◌, List, [], ◌∷◌, ◌++◌, length, Ok, Err, refl, sym, ◌∙◌, ap, subst, arith, append_assoc}
use Rattle.std.specs.Prelude.{IsPermutation}
use Rattle.std.specs.List.{AllByRecursion, All, sum_by}
use Rattle.std.proofs.lemmas.List.Sums.{sum_by-cons}
use Rattle.std.proofs.lemmas.List.Sorted.{Contains-permutation, IsPermutation-sym, IsPermutation-trans, sum_by-IsPermutation}
use Rattle.pv_tree.specs.Legal.{MAX_DEPTH}
use Rattle.pv_tree.specs.Plain.{PlainDoc, depth_of}
use Rattle.pv_tree.specs.declared.nodes.Mark.{Mark}
use Rattle.pv_standoff.specs.Ranges.{IsRangeBefore, IsInsideText, HaveSamePlace, AreSorted, IsSortedFrom, NoneTwice, NoneCross, NoneCrossLater, Cross}
use Rattle.pv_standoff.specs.declared.ranges.Range.{Range}
use Rattle.pv_standoff.specs.declared.errors.NestError.{NestError}
use Rattle.pv_standoff.specs.declared.errors.NestError.TheVariants as error
use Rattle.pv_standoff.specs.Laws.{OneMeaning, SameForAnyOrder}
use Rattle.pv_standoff.specs.NestOutcomes.{Nests, HasTwice, HasCrossing, Refuses}
use Rattle.pv_standoff.specs.RefusedRanges.{IsFirstOutside, IsFirstTwice, IsFirstCrossing}
use Rattle.pv_standoff.specs.Spans.{StandsForRanges}
use Rattle.pv_standoff.proofs.Lists.{cuts}
use Rattle.pv_standoff.proofs.OneSortedOrder.{Among, all-among, all-permutation, among-contains, before_or_not, hits, hits_alike, no_hits_at, one_order, self_hits, none_twice-permutation, place_cases}
use Rattle.pv_standoff.proofs.OpenRanges.{among-middle}
use Rattle.pv_standoff.proofs.OneDocument.{one_document}

twice_again : (a b : List Range) (r q : Range) → NoneTwice (a ++ r ∷ q ∷ b) → HaveSamePlace r q → ⊥
twice_again [] b r q n s = n.0.0 s
twice_again (x ∷ a) b r q n s = twice_again a b r q n.1 s

behind : (x : Range) (a b : List Range) → Among x b → Among x (a ++ b)
behind x [] b m = m
behind x (y ∷ a) b m = inr (behind x a b m)

pub all_full : (n : ℕ) (rs : List Range) → AllByRecursion (IsInsideText n) rs → All (λ r. r.from < r.to) rs
all_full n [] i k d l = absurd (omega (arith, l))
all_full n (r ∷ rs) i zero d l = i.0.0
all_full n (r ∷ rs) i (suc k) d l = all_full n rs i.1 k d (omega (arith, l))

-- ---- a document, or a cause
outside_not_inside : (n k : ℕ) (ranges : List Range) → AllByRecursion (IsInsideText n) ranges → IsFirstOutside n ranges k → ⊥
outside_not_inside n k ranges all o = o.outside (all-among (IsInsideText n) ranges all o.range (subst (Among o.range) (sym o.is_split) (among-middle o.range o.before o.after)))

twice_not_once : (text : List (List ℕ)) (ranges : List Range) (a b c : ℕ) → NoneTwice ranges → HasTwice text ranges a b c → ⊥
twice_not_once text ranges a b c once t =
    let f = t.is_first in
    twice_again f.before f.after t.first f.second (subst NoneTwice f.is_split (none_twice-permutation ranges t.sorted (t.is_sorted).permutation once)) f.same

crossing_not_none : (text : List (List ℕ)) (ranges : List Range) (a b c d : ℕ) → NoneCross ranges → HasCrossing text ranges a b c d → ⊥
crossing_not_none text ranges a b c d none r =
    let f = r.is_first in
    let back = IsPermutation-sym ranges r.sorted (r.is_sorted).permutation in
    let i = subst (Among r.first) (sym f.is_split) (among-middle r.first f.before (f.between ++ r.next ∷ f.after)) in
    let j = subst (Among r.next) (sym f.is_split) (behind r.next f.before (r.first ∷ (f.between ++ r.next ∷ f.after)) (inr (among-middle r.next f.between f.after))) in
    none r.first r.next (Contains-permutation r.sorted ranges r.first back (among-contains r.first r.sorted i))
    (Contains-permutation r.sorted ranges r.next back (among-contains r.next r.sorted j)) f.cross

one_nested : (root : List ℕ) (text : List (List ℕ)) (ranges : List Range) (d e : PlainDoc Mark) → Nests root text ranges d → Nests root text ranges e → d ≡ e
one_nested root text ranges d e n m = one_document root text ranges d e (all_full (length text) ranges n.inside) n.once n.stands m.stands

nests_or_refuses : (root : List ℕ) (text : List (List ℕ)) (ranges : List Range) (d : PlainDoc Mark) → Nests root text ranges d → depth_of d.root ≤ MAX_DEPTH →
    (e : NestError) → Refuses root text ranges e → ⊥
nests_or_refuses root text ranges d n shallow (error.Outside k) r = outside_not_inside (length text) k ranges n.inside r
nests_or_refuses root text ranges d n shallow (error.Twice a b c) r = twice_not_once text ranges a b c n.once r
nests_or_refuses root text ranges d n shallow (error.Crossing a b c d') r = crossing_not_none text ranges a b c d' n.none_cross r
nests_or_refuses root text ranges d n shallow error.Deep r =
    let h = subst (λ z. depth_of z.root ≤ MAX_DEPTH) (one_nested root text ranges d r.deep n r.nests) shallow in
    let t = r.too_deep in
    omega (arith, h, t)
nests_or_refuses root text ranges d n shallow error.NoMemory r = r

-- ---- the first outside
one_outside : (n k k' : ℕ) (ranges : List Range) → IsFirstOutside n ranges k → IsFirstOutside n ranges k' → k ≡ k'
one_outside n k k' ranges o p = elim (cuts o.before o.range o.after p.before p.range p.after (sym o.is_split ∙ p.is_split)) [
  | inl s ↦ o.is_number ∙ ap length s.0 ∙ sym p.is_number
  | inr f ↦ elim f [
    | inl g ↦ absurd (o.outside (all-among (IsInsideText n) p.before p.inside o.range (subst (Among o.range) (sym g.1) (among-middle o.range o.before g.0))))
    | inr g ↦ absurd (p.outside (all-among (IsInsideText n) o.before o.inside p.range (subst (Among p.range) (sym g.1) (among-middle p.range p.before g.0))))
  ]
]

-- ---- the first two that cross
none_at : (a : List Range) (r : Range) (m : List Range) (q : Range) (e : List Range) → NoneCrossLater (a ++ r ∷ (m ++ q ∷ e)) → Cross r q → ⊥
none_at [] r m q e n c = all-among (λ z. Cross r z → ⊥) (m ++ q ∷ e) n.0 q (among-middle q m e) c
none_at (x ∷ a) r m q e n c = none_at a r m q e n.1 c

before_second : (s : List Range) (r q : Range) → (f : IsFirstCrossing s r q) → s ≡ (f.before ++ r ∷ f.between) ++ q ∷ f.after
before_second s r q f = f.is_split ∙ sym (append_assoc f.before (r ∷ f.between) (q ∷ f.after))

no_later : (s : List Range) (r q r' q' : Range) (f : IsFirstCrossing s r q) (g : IsFirstCrossing s r' q') (m : List Range) →
    g.before ++ r' ∷ g.between ≡ (f.before ++ r ∷ f.between) ++ q ∷ m → ⊥
no_later s r q r' q' f g m e = none_at f.before r f.between q m (subst NoneCrossLater (e ∙ append_assoc f.before (r ∷ f.between) (q ∷ m)) g.none_before) f.cross

same_second : (s : List Range) (r q r' q' : Range) (f : IsFirstCrossing s r q) (g : IsFirstCrossing s r' q') → (f.before ++ r ∷ f.between ≡ g.before ++ r' ∷ g.between) × (q ≡ q')
same_second s r q r' q' f g = elim (cuts (f.before ++ r ∷ f.between) q f.after (g.before ++ r' ∷ g.between) q' g.after (sym (before_second s r q f) ∙ before_second s r' q' g)) [
  | inl e ↦ e
  | inr h ↦ elim h [
    | inl e ↦ absurd (no_later s r q r' q' f g e.0 e.1)
    | inr e ↦ absurd (no_later s r' q' r q g f e.0 e.1)
  ]
]

one_crossing : (s : List Range) (r q r' q' : Range) → IsFirstCrossing s r q → IsFirstCrossing s r' q' → (r ≡ r') × (q ≡ q')
one_crossing s r q r' q' f g =
    let two = same_second s r q r' q' f g in (
      elim (cuts f.before r f.between g.before r' g.between two.0) [
        | inl e ↦ e.1
        | inr h ↦ elim h [
          | inl e ↦ absurd (all-among (λ x. Cross x q → ⊥) f.between f.none_between r' (subst (Among r') (sym e.2) (among-middle r' e.0 g.between)) (subst (Cross r') (sym two.1) g.cross))
          | inr e ↦ absurd (all-among (λ x. Cross x q' → ⊥) g.between g.none_between r (subst (Among r) (sym e.2) (among-middle r e.0 f.between)) (subst (Cross r) two.1 f.cross))
        ]
      ],
      two.1,
    )

-- ---- the first place that two have
-- the ranges have the same places, one after the other
abbrev SamePlaces : List Range → List Range → Type 0
SamePlaces [] [] = Unit {0}
SamePlaces [] (q ∷ qs) = ⊥
SamePlaces (r ∷ rs) [] = ⊥
SamePlaces (r ∷ rs) (q ∷ qs) = HaveSamePlace r q × SamePlaces rs qs

some_hit : (r : Range) (rs : List Range) → 1 ≤ sum_by (hits r) rs → (x : Range) × Among x rs × HaveSamePlace r x
some_hit r [] l = absurd (omega arith)
some_hit r (q ∷ rs) l = elim (place_cases r q) [
  | inl s ↦ (q, inl refl, s)
  | inr d ↦ (let c = sum_by-cons (hits r) q rs in let z = no_hits_at r q d in let h = some_hit r rs (omega (arith, l, c, z)) in (h.0, inr h.1, h.2))
]

not_before_same : (r x q : Range) → HaveSamePlace r x → (IsRangeBefore x q → ⊥) → IsRangeBefore r q → ⊥
not_before_same r x q s n b = grind arith

not_before_itself : (r q : Range) → HaveSamePlace r q → IsRangeBefore r q → ⊥
not_before_itself r q s b = grind arith

-- r isn't before what is first of the others, where it has a place of theirs
not_first : (r q : Range) (qs : List Range) → AreSorted (q ∷ qs) → 1 ≤ sum_by (hits r) (q ∷ qs) → IsRangeBefore r q → ⊥
not_first r q qs o l b =
    let h = some_hit r (q ∷ qs) l in
    elim h.1 [
      | inl e ↦ not_before_itself r q (subst (HaveSamePlace r) e h.2) b
      | inr m ↦ not_before_same r h.0 q h.2 (all-among (λ z. IsRangeBefore z q → ⊥) qs o.0 h.0 m) b
    ]

same_by : (r q : Range) → (IsRangeBefore r q → ⊥) → (IsRangeBefore q r → ⊥) → HaveSamePlace r q
same_by r q n m = elim (place_cases r q) [ inl s ↦ s | inr d ↦ absurd (n (before_or_not r q m d)) ]

same_places : (rs qs : List Range) → AreSorted rs → AreSorted qs → ((p : Range) → sum_by (hits p) rs ≡ sum_by (hits p) qs) → SamePlaces rs qs
same_places [] [] o o' e = tt
same_places [] (q ∷ qs) o o' e = let c = sum_by-cons (hits q) q qs in let s = self_hits q in let h = e q in absurd (omega (arith, c, s, h))
same_places (r ∷ rs) [] o o' e = let c = sum_by-cons (hits r) r rs in let s = self_hits r in let h = e r in absurd (omega (arith, c, s, h))
same_places (r ∷ rs) (q ∷ qs) o o' e =
    let one = not_first r q qs o' (let c = sum_by-cons (hits r) r rs in let s = self_hits r in let h = e r in omega (arith, c, s, h)) in
    let two = not_first q r rs o (let c = sum_by-cons (hits q) q qs in let s = self_hits q in let h = e q in omega (arith, c, s, h)) in
    let same = same_by r q one two in (
      same,
      same_places rs qs o.1 o'.1 (λ p.
          let c = sum_by-cons (hits p) r rs in let c' = sum_by-cons (hits p) q qs in let h = e p in let a = hits_alike p r q same in omega (arith, c, c', h, a)),
    )

turn : (r q : Range) → HaveSamePlace r q → HaveSamePlace q r
turn r q s = (sym s.0, sym s.1, sym s.2)

-- y has r's place, and z the place of x, which r has
meet : (r x y z : Range) → HaveSamePlace r y → HaveSamePlace r x → HaveSamePlace x z → HaveSamePlace y z
meet r x y z a b c = (sym a.0 ∙ b.0 ∙ c.0, sym a.1 ∙ b.1 ∙ c.1, sym a.2 ∙ b.2 ∙ c.2)

-- what has the same places as two of one place isn't once
not_once : (a : List Range) (y r x : Range) (c : List Range) (r' x' : Range) (c' : List Range) → SamePlaces (x ∷ c) (a ++ r' ∷ x' ∷ c') → HaveSamePlace r y → HaveSamePlace r x →
    AllByRecursion (λ z. HaveSamePlace y z → ⊥) (a ++ r' ∷ []) → ⊥
not_once [] y r x c r' x' c' p e s m = m.0 (meet r x y r' e s p.0)
not_once (z ∷ a) y r x c r' x' c' p e s m = m.0 (meet r x y z e s p.0)

not_once_turned : (a : List Range) (y r x : Range) (c : List Range) (r' x' : Range) (c' : List Range) → SamePlaces (a ++ r' ∷ x' ∷ c') (x ∷ c) → HaveSamePlace r y → HaveSamePlace r x →
    AllByRecursion (λ z. HaveSamePlace y z → ⊥) (a ++ r' ∷ []) → ⊥
not_once_turned [] y r x c r' x' c' p e s m = m.0 (meet r x y r' e s (turn r' x p.0))
not_once_turned (z ∷ a) y r x c r' x' c' p e s m = m.0 (meet r x y z e s (turn z x p.0))

one_twice : (a : List Range) (r x : Range) (c a' : List Range) (r' x' : Range) (c' : List Range) → SamePlaces (a ++ r ∷ x ∷ c) (a' ++ r' ∷ x' ∷ c') →
    NoneTwice (a ++ r ∷ []) → NoneTwice (a' ++ r' ∷ []) → HaveSamePlace r x → HaveSamePlace r' x' → HaveSamePlace r r'
one_twice [] r x c [] r' x' c' p n n' s s' = p.0
one_twice [] r x c (y ∷ a') r' x' c' p n n' s s' = absurd (not_once a' y r x c r' x' c' p.1 p.0 s n'.0)
one_twice (y ∷ a) r x c [] r' x' c' p n n' s s' = absurd (not_once_turned a y r' x' c' r x c p.1 (turn y r' p.0) s' n.0)
one_twice (y ∷ a) r x c (y' ∷ a') r' x' c' p n n' s s' = one_twice a r x c a' r' x' c' p.1 n.1 n'.1 s s'

same_place_twice : (ranges s s' : List Range) (r r' : Range) → IsSortedFrom ranges s → IsSortedFrom ranges s' → IsFirstTwice s r → IsFirstTwice s' r' → HaveSamePlace r r'
same_place_twice ranges s s' r r' i i' f f' =
    let same = same_places s s' i.in_order i'.in_order
    (λ p. let a = sum_by-IsPermutation (hits p) ranges s i.permutation in
    let b = sum_by-IsPermutation (hits p) ranges s' i'.permutation in omega (arith, a, b)) in
    one_twice f.before r f.second f.after f'.before r' f'.second f'.after (subst (λ z. SamePlaces z (f'.before ++ r' ∷ f'.second ∷ f'.after)) f.is_split (subst (SamePlaces s) f'.is_split same))
    f.once f'.once f.same f'.same

-- ---- one cause
twice_is : (a b c a' b' c' : ℕ) → (a ≡ a') × (b ≡ b') × (c ≡ c') → error.Twice a b c ≡ error.Twice a' b' c'
twice_is a b c a' b' c' (p, q, r) = λ i. error.Twice (p i) (q i) (r i)

crossing_is : (a b c d a' b' c' d' : ℕ) → (a ≡ a') × (b ≡ b') → (c ≡ c') × (d ≡ d') → error.Crossing a b c d ≡ error.Crossing a' b' c' d'
crossing_is a b c d a' b' c' d' (p, q) (r, s) = λ i. error.Crossing (p i) (q i) (r i) (s i)

module _ (root : List ℕ) (text : List (List ℕ)) (ranges : List Range) where
  one_cause : (e f : NestError) → Refuses root text ranges e → Refuses root text ranges f → e ≡ f
  one_cause (error.Outside k) (error.Outside j) r s = ap error.Outside (one_outside (length text) k j ranges r s)
  one_cause (error.Outside k) (error.Twice a b c) r s = absurd (outside_not_inside (length text) k ranges s.inside r)
  one_cause (error.Outside k) (error.Crossing a b c d) r s = absurd (outside_not_inside (length text) k ranges s.inside r)
  one_cause (error.Outside k) error.Deep r s = absurd (outside_not_inside (length text) k ranges (s.nests).inside r)
  one_cause (error.Outside k) error.NoMemory r s = absurd s
  one_cause (error.Twice a b c) (error.Outside k) r s = absurd (outside_not_inside (length text) k ranges r.inside s)
  one_cause (error.Twice a b c) (error.Twice a' b' c') r s =
      let p = same_place_twice ranges r.sorted s.sorted r.first s.first r.is_sorted s.is_sorted r.is_first s.is_first in
      let h = r.is_place in
      let h' = s.is_place in
      twice_is a b c a' b' c' (sym h.0 ∙ p.0 ∙ h'.0, sym h.1 ∙ p.1 ∙ h'.1, sym h.2 ∙ p.2 ∙ h'.2)
  one_cause (error.Twice a b c) (error.Crossing a' b' c' d') r s = absurd (twice_not_once text ranges a b c s.once r)
  one_cause (error.Twice a b c) error.Deep r s = absurd (twice_not_once text ranges a b c (s.nests).once r)
  one_cause (error.Twice a b c) error.NoMemory r s = absurd s
  one_cause (error.Crossing a b c d) (error.Outside k) r s = absurd (outside_not_inside (length text) k ranges r.inside s)
  one_cause (error.Crossing a b c d) (error.Twice a' b' c') r s = absurd (twice_not_once text ranges a' b' c' r.once s)
  one_cause (error.Crossing a b c d) (error.Crossing a' b' c' d') r s =
      let o = one_order ranges r.sorted s.sorted r.once r.is_sorted s.is_sorted in
      let f = subst (λ z. IsFirstCrossing z r.first r.next) o r.is_first in
      let p = one_crossing s.sorted r.first r.next s.first s.next f s.is_first in
      let x = r.is_range in
      let x' = s.is_range in
      let y = r.is_next in
      let y' = s.is_next in
      crossing_is a b c d a' b' c' d' (sym x.0 ∙ ap (λ z. z.from) p.0 ∙ x'.0, sym x.1 ∙ ap (λ z. z.to) p.0 ∙ x'.1)
      (sym y.0 ∙ ap (λ z. z.from) p.1 ∙ y'.0, sym y.1 ∙ ap (λ z. z.to) p.1 ∙ y'.1)
  one_cause (error.Crossing a b c d) error.Deep r s = absurd (crossing_not_none text ranges a b c d (s.nests).none_cross r)
  one_cause (error.Crossing a b c d) error.NoMemory r s = absurd s
  one_cause error.Deep (error.Outside k) r s = absurd (outside_not_inside (length text) k ranges (r.nests).inside s)
  one_cause error.Deep (error.Twice a b c) r s = absurd (twice_not_once text ranges a b c (r.nests).once s)
  one_cause error.Deep (error.Crossing a b c d) r s = absurd (crossing_not_none text ranges a b c d (r.nests).none_cross s)
  one_cause error.Deep error.Deep r s = refl
  one_cause error.Deep error.NoMemory r s = absurd s
  one_cause error.NoMemory f r s = absurd r

pub one_meaning : OneMeaning
one_meaning root text ranges (Ok d) (Ok e) n m = ap Ok (one_nested root text ranges d e n.0 m.0)
one_meaning root text ranges (Ok d) (Err e) n m = absurd (nests_or_refuses root text ranges d n.0 n.1 e m)
one_meaning root text ranges (Err e) (Ok d) n m = absurd (nests_or_refuses root text ranges d m.0 m.1 e n)
one_meaning root text ranges (Err e) (Err f) n m = ap Err (one_cause root text ranges e f n m)

-- ---- every order
module _ (root : List ℕ) (text : List (List ℕ)) (ranges others : List Range) (p : IsPermutation ranges others) where
  still_sorted : (s : List Range) → IsSortedFrom ranges s → IsSortedFrom others s
  still_sorted s i = record { permutation = IsPermutation-trans others ranges s (IsPermutation-sym ranges others p) i.permutation; in_order = i.in_order }

  still_inside : AllByRecursion (IsInsideText (length text)) ranges → AllByRecursion (IsInsideText (length text)) others
  still_inside a = all-permutation (IsInsideText (length text)) ranges others p a

  still_stands : (d : PlainDoc Mark) → StandsForRanges root text ranges d → StandsForRanges root text others d
  still_stands d s = record {
    kids = s.kids;
    is_document = s.is_document;
    bare = s.bare;
    apart = s.apart;
    units = s.units;
    sorted = s.sorted;
    is_sorted = still_sorted s.sorted s.is_sorted;
    spans = s.spans;
  }

  still_nests : (d : PlainDoc Mark) → Nests root text ranges d → Nests root text others d
  still_nests d n = record {
    inside = still_inside n.inside;
    once = none_twice-permutation ranges others p n.once;
    none_cross = λ r q i j. n.none_cross r q (Contains-permutation others ranges r (IsPermutation-sym ranges others p) i) (Contains-permutation others ranges q (IsPermutation-sym ranges others p) j);
    stands = still_stands d n.stands;
  }

pub same_for_any_order : SameForAnyOrder
same_for_any_order root text ranges others (Ok d) p n = inl (still_nests root text ranges others p d n.0, n.1)
same_for_any_order root text ranges others (Err (error.Outside k)) p n = inr (k, refl)
same_for_any_order root text ranges others (Err (error.Twice a b c)) p n = inl (record {
  inside = still_inside root text ranges others p n.inside;
  sorted = n.sorted;
  is_sorted = still_sorted root text ranges others p n.sorted n.is_sorted;
  first = n.first;
  is_first = n.is_first;
  is_place = n.is_place;
})
same_for_any_order root text ranges others (Err (error.Crossing a b c d)) p n = inl (record {
  inside = still_inside root text ranges others p n.inside;
  once = none_twice-permutation ranges others p n.once;
  sorted = n.sorted;
  is_sorted = still_sorted root text ranges others p n.sorted n.is_sorted;
  first = n.first;
  next = n.next;
  is_first = n.is_first;
  is_range = n.is_range;
  is_next = n.is_next;
})
same_for_any_order root text ranges others (Err error.Deep) p n = inl (record { deep = n.deep; nests = still_nests root text ranges others p n.deep n.nests; too_deep = n.too_deep })
same_for_any_order root text ranges others (Err error.NoMemory) p n = absurd n
