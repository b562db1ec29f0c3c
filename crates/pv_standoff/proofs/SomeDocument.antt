-- There is a document exactly where each range ends within the text and none cross.
use Rattle.std.proofs.Common.{suc, ◌≡◌, inl, inr, ℕ, ◌-◌, ◌<◌, ◌≤◌, List, [], ◌∷◌, ◌++◌, length, take, drop, get_or, map, refl, sym, ap, arith, subst, append-nil, append_assoc}
use Rattle.std.specs.List.{AllByRecursion, All, Contains}
use Rattle.std.proofs.lemmas.List.Elements.{All-contains_itself}
use Rattle.std.proofs.lemmas.List.Sorted.{All-permutation, Contains-permutation, IsPermutation-sym}
use Rattle.pv_tree.specs.Plain.{depth_of_all, Forest, PlainDoc, forest_of}
use Rattle.pv_tree.specs.declared.nodes.Mark.{Mark}
use Rattle.pv_standoff.specs.Ranges.{IsRangeBefore, Cross, NoneCross, AreSorted, NoneCrossLater, IsInsideText}
use Rattle.pv_standoff.specs.declared.ranges.Range.{Range}
use Rattle.pv_standoff.specs.Spans.{document_of_root, root_of, spans_of_all, span_of, StandsForRanges}
use Rattle.pv_standoff.specs.Laws.{HasDocument}
use Rattle.pv_standoff.proofs.Lists.{all-map, all-right}
use Rattle.pv_standoff.proofs.OneSortedOrder.{Among, all-among, among-all, all-recursion, contains-among, among-contains}
use Rattle.pv_standoff.specs.Stacks.{stack_depth, PlainOpen, with_text, stack_units, add, tree_of, write, opened, HoldRanges}
use Rattle.pv_standoff.proofs.Stacks.{close_depth, open_depth, end_depth, IsBuilt, start, close_step, open_step, end_step}
use Rattle.pv_standoff.proofs.Order.{sorted_from}
use Rattle.pv_standoff.proofs.NoCrossing.{among-append, between_in, none_cross_in}
use Rattle.pv_standoff.proofs.OpenRanges.{within_text, cut_rest, close_until, fits}

later_from : {n : ℕ} (r x : Range) → n ≡ r.from → (IsRangeBefore x r → ⊥) → n ≤ x.from
later_from r x e b = grind arith

module _ (root : List ℕ) (text : List (List ℕ)) where
  close_all : (done : List Range) (f : PlainOpen) (fs : List PlainOpen) (rest : List (List ℕ)) →
      IsBuilt root text done f fs rest → (kids : Forest Mark) × HoldRanges text done kids
      × (stack_depth (f ∷ fs) ≤ suc (depth_of_all kids))
  close_all done f [] rest b = (forest_of (with_text f.kids rest), end_step root text done f rest b, (let e = end_depth f rest in omega (arith, e)))
  close_all done f (g ∷ fs) rest b =
      let n = f.to - length (stack_units (f ∷ g ∷ fs)) in
      let c = cut_rest root text done f (g ∷ fs) rest f.to b b.at_most (within_text root text f (g ∷ fs) b.are_open b.base) in
      let s = close_step root text done f g fs (take n rest) (drop n rest) c.0 c.1 in
      let w = close_all done (add g (tree_of (write f (take n rest)))) fs (drop n rest) s.0 in
      let d = close_depth f g fs (take n rest) in
      (w.0, w.1, (let l = w.2 in omega (arith, d, l)))

  open_all : (later done : List Range) (f : PlainOpen) (fs : List PlainOpen) (rest : List (List ℕ)) → IsBuilt root text done f fs rest →
      AllByRecursion (λ x. length (stack_units (f ∷ fs)) ≤ x.from) later → AllByRecursion (IsInsideText (length text)) later → AreSorted later → NoneCrossLater later →
      ((q r : Range) → Among q done → Among r later → IsRangeBefore r q → ⊥) → ((q r : Range) → Among q done → Among r later → Cross q r → ⊥) →
      (kids : Forest Mark) × HoldRanges text (done ++ later) kids × (stack_depth (f ∷ fs) ≤ suc (depth_of_all kids))
  open_all [] done f fs rest b at inside o n order cross = let w = close_all done f fs rest b in (w.0, subst (λ z. HoldRanges text z w.0) (sym (append-nil done)) w.1, w.2)
  open_all (r ∷ rs) done f fs rest b at inside o n order cross =
      let i = inside.0 in
      let e = close_until root text done f fs rest r b at.0 (omega (arith, i.0, i.1)) in
      let t = fits root text done e.top e.outer e.rest r e.built e.holds i.1 (λ q m. order q r m (inl refl)) (λ q m. cross q r m (inl refl)) in
      let h = e.holds in
      let c = cut_rest root text done e.top e.outer e.rest r.from e.built e.at (omega (arith, i.0, i.1)) in
      let k = r.from - length (stack_units (e.top ∷ e.outer)) in
      let s = open_step root text done e.top e.outer (take k e.rest) (drop k e.rest) r c.0 c.1 (omega (arith, i.0)) t in
      let now = s.1 in
      let w = open_all rs (done ++ r ∷ []) (opened r) (write e.top (take k e.rest) ∷ e.outer) (drop k e.rest) s.0
      (all-map (λ q. IsRangeBefore q r → ⊥) _ rs (λ x l. later_from r x now l) o.0) inside.1 o.1 n.1
      (λ q x m l. elim (among-append q done (r ∷ []) m) [
        | inl m' ↦ order q x m' (inr l)
        | inr m' ↦ elim m' [ inl g ↦ rw g (all-among (λ z. IsRangeBefore z r → ⊥) rs o.0 x l) | inr z ↦ absurd z ]
      ])
      (λ q x m l. elim (among-append q done (r ∷ []) m) [
        | inl m' ↦ cross q x m' (inr l)
        | inr m' ↦ elim m' [ inl g ↦ rw g (all-among (λ z. Cross r z → ⊥) rs n.0 x l) | inr z ↦ absurd z ]
      ]) in (
        w.0,
        subst (λ z. HoldRanges text z w.0) (append_assoc done (r ∷ []) rs) w.1,
        (let l = w.2 in let d = open_depth e.top e.outer (take k e.rest) r in let l' = e.depth in omega (arith, l, d, l')),
      )

order_apart : (a b : List Range) → AreSorted (a ++ b) → (q r : Range) → Among q a → Among r b → IsRangeBefore r q → ⊥
order_apart [] b o q r m l = absurd m
order_apart (x ∷ a) b o q r m l = elim m [
  | inl e ↦ rw e (all-among (λ z. IsRangeBefore z x → ⊥) b (all-right (λ z. IsRangeBefore z x → ⊥) a b o.0) r l)
  | inr n ↦ order_apart a b o.1 q r n l
]

cross_apart : (a b : List Range) → NoneCrossLater (a ++ b) → (q r : Range) → Among q a → Among r b → Cross q r → ⊥
cross_apart [] b o q r m l = absurd m
cross_apart (x ∷ a) b o q r m l = elim m [
  | inl e ↦ rw e (all-among (λ z. Cross x z → ⊥) b (all-right (λ z. Cross x z → ⊥) a b o.0) r l)
  | inr n ↦ cross_apart a b o.1 q r n l
]

order_rest : (a b : List Range) → AreSorted (a ++ b) → AreSorted b
order_rest [] b o = o
order_rest (x ∷ a) b o = order_rest a b o.1

cross_rest : (a b : List Range) → NoneCrossLater (a ++ b) → NoneCrossLater b
cross_rest [] b o = o
cross_rest (x ∷ a) b o = cross_rest a b o.1

-- what is in the making can be ended, and is no less deep then
pub finish : (root : List ℕ) (text : List (List ℕ)) (done later : List Range) (f : PlainOpen) (fs : List PlainOpen) (rest : List (List ℕ)) → IsBuilt root text done f fs rest →
    AllByRecursion (λ x. length (stack_units (f ∷ fs)) ≤ x.from) later → AllByRecursion (IsInsideText (length text)) (done ++ later) → AreSorted (done ++ later) →
    NoneCrossLater (done ++ later) → (kids : Forest Mark) × HoldRanges text (done ++ later) kids × (stack_depth (f ∷ fs) ≤ suc (depth_of_all kids))
finish root text done later f fs rest b at i o n =
    open_all root text later done f fs rest b at (all-right (IsInsideText (length text)) done later i) (order_rest done later o) (cross_rest done later n)
    (order_apart done later o) (cross_apart done later n)

-- what holds of each two of the list
none_cross_later : (rs : List Range) → ((q r : Range) → Among q rs → Among r rs → Cross q r → ⊥) → NoneCrossLater rs
none_cross_later [] f = tt
none_cross_later (r ∷ rs) f = (among-all _ rs (λ q m. f r q (inl refl) (inr m)), none_cross_later rs (λ q x m l. f q x (inr m) (inr l)))

both_inside : (n : ℕ) (rs : List Range) → AllByRecursion (λ r. r.from < r.to) rs → AllByRecursion (λ r. r.to ≤ n) rs → AllByRecursion (IsInsideText n) rs
both_inside n [] p q = tt
both_inside n (r ∷ rs) p q = ((p.0, q.0), both_inside n rs p.1 q.1)

pub has_one : (root : List ℕ) (text : List (List ℕ)) (ranges : List Range) → All (λ r. r.from < r.to) ranges → All (λ r. r.to ≤ length text) ranges → NoneCross ranges →
    (d : PlainDoc Mark) × StandsForRanges root text ranges d
has_one root text ranges full within none =
    let s = sorted_from ranges in
    let p = (s.1).permutation in
    let back = λ (q : Range) (m : Among q s.0). Contains-permutation s.0 ranges q (IsPermutation-sym ranges s.0 p) (among-contains q s.0 m) in
    let w = open_all root text s.0 [] (record { from = 0; to = length text; name = root; kids = [] }) [] text (start root text)
    (among-all _ s.0 (λ x m. omega arith))
    (both_inside (length text) s.0 (all-recursion _ s.0 (All-permutation (λ r. r.from < r.to) ranges s.0 p full)) (all-recursion _ s.0 (All-permutation (λ r. r.to ≤ length text) ranges s.0 p within)))
    (s.1).in_order
    (none_cross_later s.0 (λ q r m l. none q r (back q m) (back r l)))
    (λ q r m l. absurd m)
    (λ q r m l. absurd m) in (
      document_of_root (root_of root w.0),
      record {
        kids = w.0;
        is_document = refl;
        bare = (w.1).bare;
        apart = (w.1).apart;
        units = (w.1).units;
        sorted = s.0;
        is_sorted = s.1;
        spans = (w.1).spans;
      },
    )

among-map : (r : Range) (rs : List Range) → Among r rs → Among (span_of r) (map span_of rs)
among-map r [] m = m
among-map r (q ∷ rs) m = elim m [ inl e ↦ inl (ap span_of e) | inr n ↦ inr (among-map r rs n) ]

pub one_nests : (root : List ℕ) (text : List (List ℕ)) (ranges : List Range) (d : PlainDoc Mark) → StandsForRanges root text ranges d →
    All (λ r. r.to ≤ length text) ranges × NoneCross ranges
one_nests root text ranges d s = (
  (λ k x l. let b = between_in 0 s.kids (span_of (get_or ranges k x)) (in_tree (get_or ranges k x) (All-contains_itself ranges k x l)) in
      let e = ap length s.units in omega (arith, b.1, e)),
  (λ q r i j c. none_cross_in 0 s.kids (span_of q) (span_of r) (in_tree q i) (in_tree r j) c),
)
  where
    in_tree : (q : Range) → Contains ranges q → Among (span_of q) (spans_of_all 0 s.kids)
    in_tree q i = subst (λ z. Among (span_of q) z) (sym s.spans) (among-map q s.sorted (contains-among q s.sorted (Contains-permutation ranges s.sorted q s.is_sorted.permutation i)))

pub has_document : HasDocument
has_document root text ranges full = ((λ h. one_nests root text ranges h.0 h.1), (λ h. has_one root text ranges full h.0 h.1))
