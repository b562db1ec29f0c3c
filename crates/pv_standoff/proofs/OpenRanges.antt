-- Which ranges are open, and that the next one fits.
use Rattle.std.proofs.Common.{◌≡◌, ◌≢◌, inl, inr, ℕ, ◌+◌, ◌-◌, ◌<◌, ◌≤◌, List, [], ◌∷◌, ◌++◌, length, take, drop, map, refl, sym, ◌∙◌, ap, arith, subst, length-append}
use Rattle.std.proofs.lemmas.List.{take-append-drop, length-take-le}
use Rattle.std.proofs.lemmas.Bool.{cases_lt}
use Rattle.pv_tree.specs.Plain.{forest_of}
use Rattle.pv_standoff.specs.Ranges.{IsRangeBefore, Cross}
use Rattle.pv_standoff.specs.declared.ranges.Range.{Range}
use Rattle.pv_standoff.specs.Spans.{Span, spans_of_all, span_of}
use Rattle.pv_standoff.proofs.OneSortedOrder.{Among}
use Rattle.pv_standoff.specs.Stacks.{stack_depth, PlainOpen, open_span, stack_units, stack_spans, add, tree_of, write}
use Rattle.pv_standoff.proofs.Stacks.{close_depth, AreOpen, IsBase, IsBuilt, root_span, close_step}

pub among-middle : {X : Type 0} (x : X) (a b : List X) → Among x (a ++ x ∷ b)
among-middle x [] b = inl refl
among-middle x (y ∷ a) b = inr (among-middle x a b)

tail_split : (a b : List Span) (x h : Span) (t : List Span) → a ≢ [] → a ++ x ∷ b ≡ h ∷ t → (c : List Span) × (t ≡ c ++ x ∷ b)
tail_split [] b x h t n e = absurd (n refl)
tail_split (y ∷ a) b x h t n e = (a, cc)

-- the list has this range with that span, and these spans after it
pub record HasSpan (done : List Range) (x : Span) (b : List Span) : Type 0 where
  pub before : List Range
  pub range : Range
  pub between : List Range
  pub is_split : done ≡ before ++ range ∷ between
  pub is_span : span_of range ≡ x
  pub inner : map span_of between ≡ b

pub same_first_span : (s s' : Span) (a a' : List Span) → s ∷ a ≡ s' ∷ a' → s ≡ s'
same_first_span s s' a a' e = cc

later_span : (r : Range) (done : List Range) (x : Span) (b : List Span) → HasSpan done x b → HasSpan (r ∷ done) x b
later_span r done x b h = record { before = r ∷ h.before; range = h.range; between = h.between; is_split = ap (◌∷◌ r) h.is_split; is_span = h.is_span; inner = h.inner }

map_split : (done : List Range) (a b : List Span) (x : Span) → map span_of done ≡ a ++ x ∷ b → HasSpan done x b
map_split [] [] b x e = absurd cc
map_split [] (y ∷ a) b x e = absurd cc
map_split (r ∷ done) [] b x e = record { before = []; range = r; between = done; is_split = refl; is_span = same_first_span _ _ _ _ e; inner = cc }
map_split (r ∷ done) (y ∷ a) b x e = later_span r done x b (map_split done a b x cc)

some_front : (a b : List Span) (x : Span) → a ++ x ∷ b ≢ []
some_front [] b x e = absurd cc
some_front (y ∷ a) b x e = absurd cc

module _ (root : List ℕ) (text : List (List ℕ)) where
  -- what is innermost, but for the root, is a range that was opened, and those opened after it are within it
  pub top_range : (done : List Range) (f g : PlainOpen) (fs : List PlainOpen) (rest : List (List ℕ)) → IsBuilt root text done f (g ∷ fs) rest →
      HasSpan done (open_span f) (spans_of_all f.from (forest_of f.kids))
  top_range done f g fs rest b =
      let s = tail_split (stack_spans (g ∷ fs)) (spans_of_all f.from (forest_of f.kids)) (open_span f) (root_span root text) (map span_of done)
      (some_front (stack_spans fs) _ (open_span g)) b.spans in
      map_split done s.0 (spans_of_all f.from (forest_of f.kids)) (open_span f) s.1

  pub within_text : (f : PlainOpen) (fs : List PlainOpen) → AreOpen (f ∷ fs) → IsBase root (length text) f fs → f.to ≤ length text
  within_text f [] o b = omega (arith, b.0)
  within_text f (g ∷ fs) o b = let h = within_text g fs o.4 b in let h' = o.3.0 in omega (arith, h, h')

  -- the text up to m, and the rest
  pub cut_rest : (done : List Range) (f : PlainOpen) (fs : List PlainOpen) (rest : List (List ℕ)) (m : ℕ) → IsBuilt root text done f fs rest →
      length (stack_units (f ∷ fs)) ≤ m → m ≤ length text →
      IsBuilt root text done f fs (take (m - length (stack_units (f ∷ fs))) rest ++ drop (m - length (stack_units (f ∷ fs))) rest) ×
      (length (stack_units (f ∷ fs)) + length (take (m - length (stack_units (f ∷ fs))) rest) ≡ m)
  cut_rest done f fs rest m b l w = (
    subst (λ z. IsBuilt root text done f fs z) (sym (take-append-drop (m - length (stack_units (f ∷ fs))) rest)) b,
    (let e = ap length b.units ∙ length-append (stack_units (f ∷ fs)) rest in
        let t = length-take-le (m - length (stack_units (f ∷ fs))) rest (omega (arith, e, w)) in omega (arith, t, l)),
  )

  -- the innermost holds where the range begins
  pub record IsReady (done : List Range) (r : Range) (depth_before : ℕ) : Type 0 where
    pub top : PlainOpen
    pub outer : List PlainOpen
    pub rest : List (List ℕ)
    pub built : IsBuilt root text done top outer rest
    pub at : length (stack_units (top ∷ outer)) ≤ r.from
    pub holds : r.from < top.to
    pub depth : depth_before ≤ stack_depth (top ∷ outer)

  pub close_until : (done : List Range) (f : PlainOpen) (fs : List PlainOpen) (rest : List (List ℕ)) (r : Range) → IsBuilt root text done f fs rest →
      length (stack_units (f ∷ fs)) ≤ r.from → r.from < length text → IsReady done r (stack_depth (f ∷ fs))
  close_until done f [] rest r b a w = record { top = f; outer = []; rest = rest; built = b; at = a; holds = let h = b.base in omega (arith, h.0, w); depth = omega arith }
  close_until done f (g ∷ fs) rest r b a w = elim (cases_lt r.from f.to) [
    | inl h ↦ record { top = f; outer = g ∷ fs; rest = rest; built = b; at = a; holds = h; depth = omega arith }
    | inr h ↦ (let m = b.at_most in
        let n = f.to - length (stack_units (f ∷ g ∷ fs)) in
        let c = cut_rest done f (g ∷ fs) rest f.to b m (within_text f (g ∷ fs) b.are_open b.base) in
        let s = close_step root text done f g fs (take n rest) (drop n rest) c.0 c.1 in
        let e = s.1 in
        let d = close_depth f g fs (take n rest) in
        let y = close_until done (add g (tree_of (write f (take n rest)))) fs (drop n rest) r s.0 (omega (arith, e, h)) w in
        record { top = y.top; outer = y.outer; rest = y.rest; built = y.built; at = y.at; holds = y.holds; depth = let l = y.depth in omega (arith, l, d) })
  ]

  -- a range that isn't before the opened ones, and that none of these crosses, fits in the innermost
  pub fits : (done : List Range) (f : PlainOpen) (fs : List PlainOpen) (rest : List (List ℕ)) (r : Range) → IsBuilt root text done f fs rest → r.from < f.to → r.to ≤ length text →
      ((q : Range) → Among q done → IsRangeBefore r q → ⊥) → ((q : Range) → Among q done → Cross q r → ⊥) → r.to ≤ f.to
  fits done f [] rest r b h w o c = let e = b.base in omega (arith, e.0, w)
  fits done f (g ∷ fs) rest r b h w o c = elim (cases_lt f.to r.to) [
    | inr l ↦ l
    | inl l ↦ (let t = top_range done f g fs rest b in
        let i = subst (λ z. Among t.range z) (sym t.is_split) (among-middle t.range t.before t.between) in
        let e = ap (λ z. z.from) t.is_span in
        let e' = ap (λ z. z.to) t.is_span in
        let n = o t.range i in
        let n' = c t.range i in
        absurd (grind arith))
  ]
