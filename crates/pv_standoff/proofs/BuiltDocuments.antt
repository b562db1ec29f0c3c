-- What a document in the making is, by the number of units that have been taken.
use Rattle.std.proofs.Common.{suc, max, ◌≡◌, inl, inr, ℕ, ◌+◌, ◌-◌, ◌<◌, ◌≤◌, List, [], ◌∷◌, ◌++◌, length, length-drop, take, drop, get_or, map}
use Rattle.std.proofs.Common.{reverse, refl, sym, ◌∙◌, ap, subst, arith, append_assoc}
use Rattle.std.specs.List.{AllByRecursion}
use Rattle.std.proofs.lemmas.List.{drop-drop, take_rest, map-append, reverse-append, get_or-map, drop_more, take_more, length-map, length-reverse, take-append-drop}
use Rattle.std.specs.Borrow.{Bor}
use Rattle.pv_standoff.specs.declared.building.Open.{Open}
use Rattle.pv_standoff.specs.PlainForms.{plain_open, plain_outer, seen}
use Rattle.pv_tree.specs.Plain.{forest_of}
use Rattle.pv_standoff.specs.Ranges.{IsRangeBefore, Cross, IsInsideText, AreSorted, NoneCrossLater}
use Rattle.pv_standoff.specs.declared.ranges.Range.{Range}
use Rattle.pv_standoff.specs.Stacks.{HasDeep}
use Rattle.pv_tree.specs.Legal.{MAX_DEPTH}
use Rattle.pv_standoff.proofs.SomeDocument.{finish}
use Rattle.pv_standoff.specs.Stacks.{stack_depth, PlainOpen, with_text, stack_units, write, add, tree_of, opened, HoldRanges}
use Rattle.pv_chars.specs.Texts.{joined}
use Rattle.pv_chars.specs.Units.{units_in}
use Rattle.pv_standoff.specs.Texts.{SpellsUnits}
use Rattle.pv_standoff.proofs.TextLemmas.{spelled-units, spells-drop}
use Rattle.pv_standoff.proofs.Lists.{all-map}
use Rattle.pv_standoff.proofs.OneSortedOrder.{Among, all-among}
use Rattle.pv_standoff.proofs.Stacks.{open_depth, IsBuilt, close_step, open_step, end_step}
use Rattle.pv_standoff.proofs.OpenRanges.{within_text, cut_rest, fits}

module _ (root : List ℕ) (text : List (List ℕ)) where
  -- `at` units have been taken, and these ranges opened
  pub record IsAt (done : List Range) (f : PlainOpen) (fs : List PlainOpen) (at : ℕ) : Type 0 where
    pub built : IsBuilt root text done f fs (drop at text)
    pub is_at : length (stack_units (f ∷ fs)) ≡ at

  pub at_most : (done : List Range) (f : PlainOpen) (fs : List PlainOpen) (at : ℕ) → IsAt done f fs at → (at ≤ f.to) × (f.to ≤ length text)
  at_most done f fs at a = ((let b = (a.built).at_most in let e = a.is_at in omega (arith, b, e)), within_text root text f fs (a.built).are_open (a.built).base)

  cut_at : (done : List Range) (f : PlainOpen) (fs : List PlainOpen) (at m : ℕ) → IsAt done f fs at → at ≤ m → m ≤ length text →
      IsBuilt root text done f fs (take (m - at) (drop at text) ++ drop m text) × (length (stack_units (f ∷ fs)) + length (take (m - at) (drop at text)) ≡ m)
  cut_at done f fs at m a l w =
      let e = a.is_at in
      let c = cut_rest root text done f fs (drop at text) m a.built (omega (arith, e, l)) w in
      let c' = subst (λ z. IsBuilt root text done f fs (take (m - z) (drop at text) ++ drop (m - z) (drop at text)) × (length (stack_units (f ∷ fs)) + length (take (m - z) (drop at text)) ≡ m)) e c in
      let g : at + (m - at) ≡ m = omega (arith, l) in
      let d : drop (m - at) (drop at text) ≡ drop m text = drop-drop (m - at) at text ∙ ap (λ z. drop z text) g in
      (subst (λ z. IsBuilt root text done f fs (take (m - at) (drop at text) ++ z)) d c'.0, c'.1)

  pub close_at : (done : List Range) (f g : PlainOpen) (fs : List PlainOpen) (at : ℕ) → IsAt done f (g ∷ fs) at →
      IsAt done (add g (tree_of (write f (take (f.to - at) (drop at text))))) fs f.to
  close_at done f g fs at a =
      let m = at_most done f (g ∷ fs) at a in
      let c = cut_at done f (g ∷ fs) at f.to a m.0 m.1 in
      let s = close_step root text done f g fs (take (f.to - at) (drop at text)) (drop f.to text) c.0 c.1 in
      record { built = s.0; is_at = s.1 }

  pub open_at : (done : List Range) (f : PlainOpen) (fs : List PlainOpen) (at : ℕ) (r : Range) → IsAt done f fs at → at ≤ r.from → IsInsideText (length text) r → r.to ≤ f.to →
      IsAt (done ++ r ∷ []) (opened r) (write f (take (r.from - at) (drop at text)) ∷ fs) r.from
  open_at done f fs at r a l i t =
      let c = cut_at done f fs at r.from a l (omega (arith, i.0, i.1)) in
      let s = open_step root text done f fs (take (r.from - at) (drop at text)) (drop r.from text) r c.0 c.1 (omega (arith, i.0)) t in
      record { built = s.0; is_at = s.1 }

  pub end_at : (done : List Range) (f : PlainOpen) (at : ℕ) → IsAt done f [] at → HoldRanges text done (forest_of (with_text f.kids (take (length text - at) (drop at text))))
  end_at done f at a = rw (take_rest text at) (end_step root text done f (drop at text) a.built)

  -- the root alone is open only where the range ends within it
  pub root_holds : (done : List Range) (f : PlainOpen) (at : ℕ) (r : Range) → IsAt done f [] at → IsInsideText (length text) r → r.from < f.to
  root_holds done f at r a i = let b = (a.built).base in omega (arith, b.0, i.0, i.1)

-- what the parts of a list in order say of one another
order_front : (a b : List Range) (r : Range) → AreSorted (a ++ r ∷ b) → (q : Range) → Among q a → IsRangeBefore r q → ⊥
order_front [] b r o q m = absurd m
order_front (x ∷ a) b r o q m = elim m [
  | inl e ↦ rw e (all-among (λ z. IsRangeBefore z x → ⊥) (a ++ r ∷ b) o.0 r (among_mid r a b))
  | inr n ↦ order_front a b r o.1 q n
]
  where
    among_mid : (r : Range) (a b : List Range) → Among r (a ++ r ∷ b)
    among_mid r [] b = inl refl
    among_mid r (y ∷ a) b = inr (among_mid r a b)

cross_front : (a b : List Range) (r : Range) → NoneCrossLater (a ++ r ∷ b) → (q : Range) → Among q a → Cross q r → ⊥
cross_front [] b r o q m = absurd m
cross_front (x ∷ a) b r o q m = elim m [
  | inl e ↦ rw e (all-among (λ z. Cross x z → ⊥) (a ++ r ∷ b) o.0 r (among_mid r a b))
  | inr n ↦ cross_front a b r o.1 q n
]
  where
    among_mid : (r : Range) (a b : List Range) → Among r (a ++ r ∷ b)
    among_mid r [] b = inl refl
    among_mid r (y ∷ a) b = inr (among_mid r a b)

pub order_back : (a b : List Range) (r : Range) → AreSorted (a ++ r ∷ b) → AllByRecursion (λ x. r.from ≤ x.from) b
order_back [] b r o = all-map (λ x. IsRangeBefore x r → ⊥) (λ x. r.from ≤ x.from) b (λ x n. grind arith) o.0
order_back (x ∷ a) b r o = order_back a b r o.1

pub inside_mid : (n : ℕ) (a b : List Range) (r : Range) → AllByRecursion (IsInsideText n) (a ++ r ∷ b) → IsInsideText n r
inside_mid n [] b r i = i.0
inside_mid n (x ∷ a) b r i = inside_mid n a b r i.1

module _ (root : List ℕ) (text : List (List ℕ)) where
  -- the next range is opened
  pub next_at : (a b : List Range) (f : PlainOpen) (fs : List PlainOpen) (at : ℕ) (r : Range) → IsAt root text a f fs at → at ≤ r.from → r.from < f.to →
      AllByRecursion (IsInsideText (length text)) (a ++ r ∷ b) → AreSorted (a ++ r ∷ b) → NoneCrossLater (a ++ r ∷ b) →
      IsAt root text (a ++ r ∷ []) (opened r) (write f (take (r.from - at) (drop at text)) ∷ fs) r.from × AllByRecursion (λ x. r.from ≤ x.from) b
  next_at a b f fs at r s l h i o n =
      let j = inside_mid (length text) a b r i in
      let t = fits root text a f fs (drop at text) r s.built h j.1 (order_front a b r o) (cross_front a b r n) in
      (open_at root text a f fs at r s l j t, order_back a b r o)

-- one step along the references
pub drop_next : (refs : List (Bor Range)) (i : ℕ) (b : Bor Range) → i < length refs → b ≡ get_or refs i b → drop i (seen refs) ≡ b.now ∷ drop (i + 1) (seen refs)
drop_next refs i b l e =
    let m = get_or-map (λ r. r.now) refs i b b.now l in
    let g : get_or (seen refs) i b.now ≡ b.now = m ∙ ap (λ r. r.now) (sym e) in
    drop_more (seen refs) i b.now (let h = length-map refs (λ r. r.now) in omega (arith, h, l)) ∙ ap (λ z. z ∷ drop (i + 1) (seen refs)) g

pub take_next : (refs : List (Bor Range)) (i : ℕ) (b : Bor Range) → i < length refs → b ≡ get_or refs i b → take (i + 1) (seen refs) ≡ take i (seen refs) ++ b.now ∷ []
take_next refs i b l e =
    let m = get_or-map (λ r. r.now) refs i b b.now l in
    let g : get_or (seen refs) i b.now ≡ b.now = m ∙ ap (λ r. r.now) (sym e) in
    take_more (seen refs) i b.now (let h = length-map refs (λ r. r.now) in omega (arith, h, l)) ∙ ap (λ z. take i (seen refs) ++ z ∷ []) g

pub split_next : (refs : List (Bor Range)) (i : ℕ) (b : Bor Range) → i < length refs → b ≡ get_or refs i b → seen refs ≡ take i (seen refs) ++ b.now ∷ drop (i + 1) (seen refs)
split_next refs i b l e = sym (take-append-drop i (seen refs)) ∙ ap (◌++◌ (take i (seen refs))) (drop_next refs i b l e)

-- the stack after a push
pub outer_push : (ys : List Open) (x : Open) → plain_outer (ys ++ x ∷ []) ≡ plain_open x ∷ plain_outer ys
outer_push ys x = ap reverse (map-append plain_open ys (x ∷ [])) ∙ reverse-append (map plain_open ys) (plain_open x ∷ [])

-- the range before the next, and the next
pub prev_next : (refs : List (Bor Range)) (i : ℕ) (p r : Bor Range) → 1 ≤ i → i < length refs → p ≡ get_or refs (i - 1) p → r ≡ get_or refs i r →
    (seen refs ≡ take (i - 1) (seen refs) ++ p.now ∷ r.now ∷ drop (i + 1) (seen refs)) × (take i (seen refs) ≡ take (i - 1) (seen refs) ++ p.now ∷ []) ×
    (take (i + 1) (seen refs) ≡ take (i - 1) (seen refs) ++ p.now ∷ r.now ∷ [])
prev_next refs i p r l m e e' =
    let back : (i - 1) + 1 ≡ i = omega (arith, l) in
    let s = split_next refs (i - 1) p (omega (arith, l, m)) e in
    let d = drop_next refs i r m e' in
    let t = take_next refs (i - 1) p (omega (arith, l, m)) e in
    let t' : take i (seen refs) ≡ take (i - 1) (seen refs) ++ p.now ∷ [] = ap (λ z. take z (seen refs)) (sym back) ∙ t in (
      s ∙ ap (λ z. take (i - 1) (seen refs) ++ p.now ∷ z) (ap (λ z. drop z (seen refs)) back ∙ d),
      t',
      take_next refs i r m e' ∙ ap (λ z. z ++ r.now ∷ []) t' ∙ append_assoc (take (i - 1) (seen refs)) (p.now ∷ []) (r.now ∷ []),
    )

pub split_index : {X : Type 0} (xs : List X) (i : ℕ) (x : X) → i < length xs → x ≡ get_or xs i x → xs ≡ take i xs ++ x ∷ drop (i + 1) xs
split_index xs i x l e = sym (take-append-drop i xs) ∙ ap (◌++◌ (take i xs)) (drop_more xs i x l ∙ ap (λ z. z ∷ drop (i + 1) xs) (sym e))

pub outer_length : (xs : List Open) → length (plain_outer xs) ≡ length xs
outer_length xs = length-reverse (map plain_open xs) ∙ length-map xs plain_open

pub shallow_at : (d l : ℕ) → d ≤ max MAX_DEPTH (suc l) → l < MAX_DEPTH → d ≤ MAX_DEPTH
shallow_at d l h m = omega (arith, h, m)

pub open_shallow : (f : PlainOpen) (fs : List PlainOpen) (u : List (List ℕ)) (r : Range) → stack_depth (f ∷ fs) ≤ MAX_DEPTH →
    stack_depth (opened r ∷ write f u ∷ fs) ≤ max MAX_DEPTH (suc (length (write f u ∷ fs)))
open_shallow f fs u r h = let d = open_depth f fs u r in omega (arith, d, h)

deep_stack : (f : PlainOpen) (fs : List PlainOpen) → suc (length fs) ≤ stack_depth (f ∷ fs)
deep_stack f fs = omega arith

-- where too many elements are open, the document is too deep
pub too_deep : (root : List ℕ) (text : List (List ℕ)) (all : List Range) (i : ℕ) (f : PlainOpen) (fs : List PlainOpen) (at : ℕ) → IsAt root text (take i all) f fs at →
    AllByRecursion (λ x. at ≤ x.from) (drop i all) → AllByRecursion (IsInsideText (length text)) all → AreSorted all → NoneCrossLater all → MAX_DEPTH ≤ length fs → HasDeep text all
too_deep root text all i f fs at a l inside o n deep =
    let s = sym (take-append-drop i all) in
    let w = finish root text (take i all) (drop i all) f fs (drop at text) a.built (subst (λ z. AllByRecursion (λ x. z ≤ x.from) (drop i all)) (sym a.is_at) l)
    (subst (AllByRecursion (IsInsideText (length text))) s inside) (subst AreSorted s o) (subst NoneCrossLater s n) in
    let h = w.2 in
    let h' = deep_stack f fs in
    record { kids = w.0; whole = subst (λ z. HoldRanges text z w.0) (sym s) w.1; deep = omega (arith, h, h', deep) }

-- ---- the bytes that are left of a text
module _ (text : List (List ℕ)) (s : SpellsUnits (joined text) text) where
  pub rest_units : (at : ℕ) (rest : List ℕ) → rest ≡ joined (drop at text) → units_in rest ≡ drop at text
  rest_units at rest e = ap units_in e ∙ spelled-units (joined (drop at text)) (drop at text) (spells-drop at text (joined text) s)

  pub rest_spells : (at : ℕ) (rest : List ℕ) → rest ≡ joined (drop at text) → SpellsUnits rest (units_in rest)
  rest_spells at rest e =
      subst (SpellsUnits rest) (sym (rest_units at rest e)) (subst (λ z. SpellsUnits z (drop at text)) (sym e) (spells-drop at text (joined text) s))

  pub rest_within : (at to : ℕ) (rest : List ℕ) → rest ≡ joined (drop at text) → to ≤ length text → to - at ≤ length (units_in rest)
  rest_within at to rest e l = let h = ap length (rest_units at rest e) in let d = length-drop at text in omega (arith, h, d, l)

  pub rest_taken : (at to : ℕ) (rest : List ℕ) → rest ≡ joined (drop at text) → take (to - at) (units_in rest) ≡ take (to - at) (drop at text)
  rest_taken at to rest e = ap (take (to - at)) (rest_units at rest e)

  pub rest_more : (at to : ℕ) (rest more : List ℕ) → at ≤ to → rest ≡ joined (drop at text) → more ≡ joined (drop (to - at) (units_in rest)) → more ≡ joined (drop to text)
  rest_more at to rest more l e m =
      let g : at + (to - at) ≡ to = omega (arith, l) in
      m ∙ ap (λ z. joined (drop (to - at) z)) (rest_units at rest e) ∙ ap joined (drop-drop (to - at) at text ∙ ap (λ z. drop z text) g)
