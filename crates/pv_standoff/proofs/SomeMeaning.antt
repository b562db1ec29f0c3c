-- A text and ranges mean something, and so do the bytes of ranges.
use Rattle.std.proofs.Common.{◌≡◌, ◌⊎◌, inl, inr, ℕ, zero, suc, ◌≤◌, List, [], ◌∷◌, ◌++◌, length, Option, Some, None, Result, Ok, Err, refl, sym, ◌∙◌, ap, subst, arith, append_assoc, length-append}
use Rattle.std.specs.List.{AllByRecursion, All}
use Rattle.std.proofs.lemmas.Bool.{cases_eq, cases_lt}
use Rattle.std.proofs.lemmas.List.{append-nil}
use Rattle.std.proofs.lemmas.List.Sorted.{Contains-permutation, IsPermutation-sym}
use Rattle.pv_words.specs.Lines.{lines_of}
use Rattle.pv_tree.specs.Legal.{MAX_DEPTH}
use Rattle.pv_tree.specs.Plain.{PlainDoc, depth_of}
use Rattle.pv_tree.specs.declared.nodes.Mark.{Mark}
use Rattle.pv_standoff.specs.Laws.{SomeMeaning, SomeReading}
use Rattle.pv_standoff.specs.Lines.{RangesMean, SpellRanges, range_of}
use Rattle.pv_standoff.specs.NestOutcomes.{Nests, NestMeans}
use Rattle.pv_standoff.specs.Ranges.{AreSorted, Cross, IsRangeBefore, IsInsideText, IsSortedFrom, MAX_RANGES, NoneCross, NoneCrossLater, NoneTwice}
use Rattle.pv_standoff.specs.RefusedRanges.{IsFirstCrossing, IsFirstOutside, IsFirstTwice}
use Rattle.pv_standoff.specs.declared.errors.NestError.{NestError}
use Rattle.pv_standoff.specs.declared.errors.NestError.TheVariants as error
use Rattle.pv_standoff.specs.declared.errors.RangesError.{RangesError}
use Rattle.pv_standoff.specs.declared.errors.RangesError.TheVariants.{Limit, Syntax}
use Rattle.pv_standoff.specs.declared.ranges.Range.{Range}
use Rattle.pv_standoff.proofs.FirstCrossing.{none_cross_push, once_push}
use Rattle.pv_standoff.proofs.OneMeaning.{all_full}
use Rattle.pv_standoff.proofs.SomeDocument.{has_one}
use Rattle.pv_standoff.proofs.Order.{sorted_from}
use Rattle.pv_standoff.proofs.ReadingLemmas.{no_range, spell-length, spell-push, spelled-range_of}
use Rattle.pv_standoff.proofs.OneSortedOrder.{Among, all-among, contains-among, none_twice-permutation, place_cases}

-- ---- outside
inside_cases : (n : ℕ) (r : Range) → IsInsideText n r ⊎ (IsInsideText n r → ⊥)
inside_cases n r = elim (cases_lt r.from r.to) [
  | inr l ↦ inr (λ i. omega (arith, l, i.0))
  | inl l ↦ elim (cases_lt n r.to) [ inl m ↦ inr (λ i. omega (arith, m, i.1)) | inr m ↦ inl (l, m) ]
]

outside_more : (n : ℕ) (r : Range) (rs : List Range) (k : ℕ) → IsInsideText n r → IsFirstOutside n rs k → IsFirstOutside n (r ∷ rs) (suc k)
outside_more n r rs k i o = record {
  before = r ∷ o.before;
  range = o.range;
  after = o.after;
  is_split = ap (λ l. r ∷ l) o.is_split;
  is_number = let e = o.is_number in omega (arith, e);
  inside = (i, o.inside);
  outside = o.outside;
}

find_outside : (n : ℕ) (rs : List Range) → AllByRecursion (IsInsideText n) rs ⊎ ((k : ℕ) × IsFirstOutside n rs k)
find_outside n [] = inl tt
find_outside n (r ∷ rs) = elim (inside_cases n r) [
  | inr o ↦ inr (0, record { before = []; range = r; after = rs; is_split = refl; is_number = refl; inside = tt; outside = o })
  | inl i ↦ elim (find_outside n rs) [ inl all ↦ inl (i, all) | inr f ↦ inr (suc f.0, outside_more n r rs f.0 i f.1) ]
]

-- ---- twice
twice_at : (s t : List Range) → s ≡ t → NoneTwice s ⊎ ((r : Range) × IsFirstTwice s r) → NoneTwice t ⊎ ((r : Range) × IsFirstTwice t r)
twice_at s t e f = subst (λ z. NoneTwice z ⊎ ((r : Range) × IsFirstTwice z r)) e f

find_twice : (a : List Range) (p : Range) (rest : List Range) → AreSorted (a ++ p ∷ rest) → NoneTwice (a ++ p ∷ []) →
    NoneTwice (a ++ p ∷ rest) ⊎ ((r : Range) × IsFirstTwice (a ++ p ∷ rest) r)
find_twice a p [] o n = inl n
find_twice a p (r ∷ e) o n = elim (place_cases p r) [
  | inl s ↦ inr (p, record { before = a; second = r; after = e; is_split = refl; once = n; same = s })
  | inr d ↦ (let g = append_assoc a (p ∷ []) (r ∷ e) in
      let g' = append_assoc a (p ∷ []) (r ∷ []) in
      twice_at ((a ++ p ∷ []) ++ r ∷ e) (a ++ p ∷ r ∷ e) g
      (find_twice (a ++ p ∷ []) r e (subst AreSorted (sym g) o) (subst NoneTwice (sym g') (once_push a p r e o n d))))
]

some_twice : (s : List Range) → AreSorted s → NoneTwice s ⊎ ((r : Range) × IsFirstTwice s r)
some_twice [] o = inl tt
some_twice (p ∷ rest) o = find_twice [] p rest o (tt, tt)

-- ---- crossing
cross_cases : (r q : Range) → Cross r q ⊎ (Cross r q → ⊥)
cross_cases r q = elim (cases_lt r.from q.from) [
  | inr l ↦ inr (λ c. omega (arith, l, c.0))
  | inl a ↦ elim (cases_lt q.from r.to) [
    | inr l ↦ inr (λ c. omega (arith, l, c.1))
    | inl b ↦ elim (cases_lt r.to q.to) [ inr l ↦ inr (λ c. omega (arith, l, c.2)) | inl d ↦ inl (a, b, d) ]
  ]
]

-- the last of some ranges that crosses q
record LastCrossing (front : List Range) (q : Range) : Type 0 where
  before : List Range
  range : Range
  between : List Range
  is_split : front ≡ before ++ range ∷ between
  cross : Cross range q
  none : AllByRecursion (λ x. Cross x q → ⊥) between

last_more : (x : Range) (front : List Range) (q : Range) → LastCrossing front q → LastCrossing (x ∷ front) q
last_more x front q l = record {
  before = x ∷ l.before;
  range = l.range;
  between = l.between;
  is_split = ap (λ z. x ∷ z) l.is_split;
  cross = l.cross;
  none = l.none;
}

last_crossing : (front : List Range) (q : Range) → AllByRecursion (λ x. Cross x q → ⊥) front ⊎ LastCrossing front q
last_crossing [] q = inl tt
last_crossing (x ∷ front) q = elim (last_crossing front q) [
  | inr l ↦ inr (last_more x front q l)
  | inl none ↦ elim (cross_cases x q) [
    | inl c ↦ inr (record { before = []; range = x; between = front; is_split = refl; cross = c; none = none })
    | inr n ↦ inl (n, none)
  ]
]

-- the first two that cross
record SomeCrossing (s : List Range) : Type 0 where
  first : Range
  next : Range
  is_first : IsFirstCrossing s first next

crossing_of : (front : List Range) (q : Range) (rest : List Range) → NoneCrossLater front → LastCrossing front q → SomeCrossing (front ++ q ∷ rest)
crossing_of front q rest n l = record {
  first = l.range;
  next = q;
  is_first = record {
    before = l.before;
    between = l.between;
    after = rest;
    is_split = ap (λ z. z ++ q ∷ rest) l.is_split ∙ append_assoc l.before (l.range ∷ l.between) (q ∷ rest);
    none_before = subst NoneCrossLater l.is_split n;
    cross = l.cross;
    none_between = l.none;
  };
}

find_crossing : (front rest : List Range) → NoneCrossLater front → NoneCrossLater (front ++ rest) ⊎ SomeCrossing (front ++ rest)
find_crossing front [] n = inl (subst NoneCrossLater (sym (append-nil front)) n)
find_crossing front (q ∷ rest) n = elim (last_crossing front q) [
  | inr l ↦ inr (crossing_of front q rest n l)
  | inl none ↦ (let g = append_assoc front (q ∷ []) rest in
      subst (λ z. NoneCrossLater z ⊎ SomeCrossing z) g (find_crossing (front ++ q ∷ []) rest (none_cross_push front q n none)))
]

-- ---- what a text and ranges mean
ends_within : (n : ℕ) (rs : List Range) → AllByRecursion (IsInsideText n) rs → All (λ r. r.to ≤ n) rs
ends_within n [] i k d l = absurd (omega (arith, l))
ends_within n (r ∷ rs) i zero d l = i.0.1
ends_within n (r ∷ rs) i (suc k) d l = ends_within n rs i.1 k d (omega (arith, l))

cross_later : (s : List Range) → AreSorted s → NoneCrossLater s → (r q : Range) → Among r s → Among q s → Cross r q → ⊥
cross_later [] o n r q a b c = a
cross_later (x ∷ xs) o n r q a b c = elim a [
  | inl e ↦ elim b [
    | inl e' ↦ (let f = ap (λ z. z.from) e in let f' = ap (λ z. z.from) e' in omega (arith, f, f', c.0))
    | inr b' ↦ all-among (λ z. Cross x z → ⊥) xs n.0 q b' (subst (λ z. Cross z q) e c)
  ]
  | inr a' ↦ elim b [
    | inl e' ↦ all-among (λ z. IsRangeBefore z x → ⊥) xs o.0 r a' (let f' = ap (λ z. z.from) e' in inl (omega (arith, f', c.0)))
    | inr b' ↦ cross_later xs o.1 n.1 r q a' b' c
  ]
]

none_cross_sorted : (ranges s : List Range) → IsSortedFrom ranges s → NoneCrossLater s → NoneCross ranges
none_cross_sorted ranges s i n r q a b c =
    cross_later s i.in_order n r q (contains-among r s (Contains-permutation ranges s r i.permutation a)) (contains-among q s (Contains-permutation ranges s q i.permutation b)) c

-- of ranges that are inside, none twice, in this sorted order
nested : (root : List ℕ) (text : List (List ℕ)) (ranges s : List Range) → IsSortedFrom ranges s → AllByRecursion (IsInsideText (length text)) ranges → NoneTwice ranges → NoneCross ranges →
    (o : Result (PlainDoc Mark) NestError) × NestMeans root text ranges o
nested root text ranges s i inside once none =
    let d = has_one root text ranges (all_full (length text) ranges inside) (ends_within (length text) ranges inside) none in
    let n : Nests root text ranges d.0 = record { inside = inside; once = once; none_cross = none; stands = d.1 } in
    elim (cases_lt MAX_DEPTH (depth_of (d.0).root)) [
      | inl deep ↦ (Err error.Deep, record { deep = d.0; nests = n; too_deep = deep })
      | inr shallow ↦ (Ok d.0, (n, shallow))
    ]

pub some_meaning : SomeMeaning
some_meaning root text ranges = elim (find_outside (length text) ranges) [
  | inr f ↦ (Err (error.Outside f.0), f.1)
  | inl inside ↦ (let s = sorted_from ranges in
      elim (some_twice s.0 (s.1).in_order) [
        | inr t ↦ (Err (error.Twice (t.0).from (t.0).to (t.0).level), record { inside = inside; sorted = s.0; is_sorted = s.1; first = t.0; is_first = t.1; is_place = (refl, refl, refl) })
        | inl once ↦ (let once' = none_twice-permutation s.0 ranges (IsPermutation-sym ranges s.0 (s.1).permutation) once in
            elim (find_crossing [] s.0 tt) [
              | inr x ↦ (
                Err (error.Crossing (x.first).from (x.first).to (x.next).from (x.next).to),
                record {
                  inside = inside;
                  once = once';
                  sorted = s.0;
                  is_sorted = s.1;
                  first = x.first;
                  next = x.next;
                  is_first = x.is_first;
                  is_range = (refl, refl);
                  is_next = (refl, refl);
                },
              )
              | inl none ↦ nested root text ranges s.0 s.1 inside once' (none_cross_sorted ranges s.0 s.1 none)
            ])
      ])
]

-- ---- what bytes mean
read_on : (bytes : List ℕ) (before lines : List (List ℕ)) (rs : List Range) → lines_of bytes ≡ before ++ lines → SpellRanges before rs → length rs ≤ MAX_RANGES →
    (o : Result (List Range) RangesError) × RangesMean bytes o
read_on bytes before [] rs e s few = (Ok rs, (subst (λ z. SpellRanges z rs) (sym (e ∙ append-nil before)) s, few))
read_on bytes before (line ∷ lines) rs e s few = elim (cases_eq (length rs) MAX_RANGES) [
  | inl full ↦ (Err Limit, record { before = before; line = line; after = lines; ranges = rs; is_split = e; are_ranges = s; full = spell-length before rs s ∙ full })
  | inr room ↦ by (range_of line) refl room (λ r. read_on bytes (before ++ line ∷ []) lines (rs ++ r ∷ []) (e ∙ sym (append_assoc before (line ∷ []) lines)))
]
  where
    by : (o : Option Range) → range_of line ≡ o → (length rs ≡ MAX_RANGES → ⊥) →
        ((r : Range) → SpellRanges (before ++ line ∷ []) (rs ++ r ∷ []) → length (rs ++ r ∷ []) ≤ MAX_RANGES → (o : Result (List Range) RangesError) × RangesMean bytes o) →
        (o : Result (List Range) RangesError) × RangesMean bytes o
    by None is room on = (
      Err (Syntax (length rs)),
      record {
        before = before;
        line = line;
        after = lines;
        ranges = rs;
        is_split = e;
        are_ranges = s;
        is_number = sym (spell-length before rs s);
        within = omega (arith, few, room);
        no_range = no_range line is;
      },
    )
    by (Some r) is room on = on r (spell-push before rs line r s (spelled-range_of line r is)) (let l = length-append rs (r ∷ []) in omega (arith, l, few, room))

pub some_reading : SomeReading
some_reading bytes = read_on bytes [] (lines_of bytes) [] refl tt (omega arith)
