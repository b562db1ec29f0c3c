-- A document in the making: the elements that are open, the innermost first, and the units that are left.
use Rattle.std.proofs.Common.{max, suc, ◌≡◌, ℕ, ◌+◌, ◌≤◌, List, [], ◌∷◌, ◌++◌, length, map, refl, sym, ◌∙◌, ap, arith, length-append, append-nil, append_assoc}
use Rattle.std.specs.List.{AllByRecursion}
use Rattle.std.proofs.lemmas.List.{map-append}
use Rattle.pv_tree.specs.Plain.{depth_of_all, forest_of}
use Rattle.pv_standoff.specs.declared.ranges.Range.{Range}
use Rattle.pv_standoff.specs.Spans.{Span, spans_of, spans_of_all, AreBare, AreApart, span_of}
use Rattle.pv_standoff.specs.Stacks.{stack_depth, PlainOpen, with_text, open_units, open_span, open_spans, stack_units, stack_spans, write, tree_of, add, opened, HoldRanges}
use Rattle.pv_standoff.proofs.Lists.{all-map}
use Rattle.pv_standoff.proofs.Pushes.{depth-push, depth-with_text, EndsWithText, units-push, spans-push, bare-push, apart-push, end-push}
use Rattle.pv_standoff.proofs.Pushes.{units-with_text, spans-with_text, bare-with_text, apart-with_text}

-- each begins where those round it are so far, ends within them, and has fine kids
abbrev pub AreOpen : List PlainOpen → Type 0
AreOpen [] = Unit {0}
AreOpen (f ∷ fs) = (f.from ≡ length (stack_units fs)) × AreBare (forest_of f.kids) × AreApart (forest_of f.kids) × AllByRecursion (λ g. f.to ≤ g.to) fs × AreOpen fs

-- the outermost is the root
abbrev pub IsBase : List ℕ → ℕ → PlainOpen → List PlainOpen → Type 0
IsBase root n f [] = (f.to ≡ n) × (f.name ≡ root)
IsBase root n f (g ∷ fs) = IsBase root n g fs

write_units : (f : PlainOpen) (u : List (List ℕ)) → open_units (write f u) ≡ open_units f ++ u
write_units f u = units-with_text f.kids u

write_spans : (f : PlainOpen) (u : List (List ℕ)) → open_spans (write f u) ≡ open_spans f
write_spans f u = ap (◌∷◌ (open_span f)) (spans-with_text f.from f.kids u)

tree_spans : (f : PlainOpen) (m : ℕ) → m ≡ f.from → f.from + length (open_units f) ≡ f.to → spans_of m (tree_of f) ≡ open_spans f
tree_spans f m e g =
    ap (λ z. spans_of z (tree_of f)) e ∙ ap (λ z. record { from = f.from; to = z; name = f.name } ∷ spans_of_all f.from (forest_of f.kids)) g

module _ (root : List ℕ) (text : List (List ℕ)) where
  abbrev pub root_span : Span
  root_span = record { from = 0; to = length text; name = root }

  -- f is the innermost open element, fs are those round it; `rest` is what is left of the text, and these ranges have been opened
  pub record IsBuilt (done : List Range) (f : PlainOpen) (fs : List PlainOpen) (rest : List (List ℕ)) : Type 0 where
    pub are_open : AreOpen (f ∷ fs)
    pub base : IsBase root (length text) f fs
    pub no_text : EndsWithText f.kids → ⊥
    pub units : text ≡ stack_units (f ∷ fs) ++ rest
    pub spans : stack_spans (f ∷ fs) ≡ root_span ∷ map span_of done
    pub at_most : length (stack_units (f ∷ fs)) ≤ f.to

  base_same : (f g : PlainOpen) (fs : List PlainOpen) → f.to ≡ g.to → f.name ≡ g.name → IsBase root (length text) f fs → IsBase root (length text) g fs
  base_same f g [] e n b = (sym e ∙ b.0, sym n ∙ b.1)
  base_same f g (h ∷ fs) e n b = b

  pub start : IsBuilt [] (record { from = 0; to = length text; name = root; kids = [] }) [] text
  start = record {
    are_open = (refl, tt, tt, tt, tt);
    base = (refl, refl);
    no_text = λ e. e;
    units = refl;
    spans = refl;
    at_most = omega arith;
  }

  -- the innermost gets the text up to its end, and is closed
  pub close_step : (done : List Range) (f g : PlainOpen) (fs : List PlainOpen) (u rest : List (List ℕ)) → IsBuilt done f (g ∷ fs) (u ++ rest) →
      length (stack_units (f ∷ g ∷ fs)) + length u ≡ f.to →
      IsBuilt done (add g (tree_of (write f u))) fs rest × (length (stack_units (add g (tree_of (write f u)) ∷ fs)) ≡ f.to)
  close_step done f g fs u rest b e = (
    record {
      are_open = (
        o.4.0,
        bare-push g.kids (tree_of (write f u)) o.4.1 (refl, refl, refl, bare-with_text f.kids u o.1),
        apart-push g.kids (tree_of (write f u)) o.4.2 (apart-with_text f.kids u o.2 b.no_text) (λ x y. y),
        o.4.3,
        o.4.4,
      );
      base = base_same g (add g (tree_of (write f u))) fs refl refl b.base;
      no_text = λ x. end-push g.kids (tree_of (write f u)) x;
      units = b.units ∙ sym (append_assoc (stack_units (f ∷ g ∷ fs)) u rest) ∙ ap (λ z. z ++ rest) (sym grown);
      spans = ap (λ z. stack_spans fs ++ (open_span g ∷ z)) inner ∙ sym (append_assoc (stack_spans fs) (open_spans g) (open_spans f)) ∙ b.spans;
      at_most = let h = o.3.0 in omega (arith, at_end, h);
    },
    at_end,
  )
    where
      o : AreOpen (f ∷ g ∷ fs)
      o = b.are_open

      grown : stack_units (add g (tree_of (write f u)) ∷ fs) ≡ stack_units (f ∷ g ∷ fs) ++ u
      grown = ap (◌++◌ (stack_units fs)) (units-push g.kids (tree_of (write f u)) ∙ ap (◌++◌ (open_units g)) (write_units f u))
          ∙ sym (append_assoc (stack_units fs) (open_units g) (open_units f ++ u)) ∙ sym (append_assoc (stack_units fs ++ open_units g) (open_units f) u)

      at_end : length (stack_units (add g (tree_of (write f u)) ∷ fs)) ≡ f.to
      at_end = ap length grown ∙ length-append (stack_units (f ∷ g ∷ fs)) u ∙ e

      inner : spans_of_all g.from (forest_of (g.kids ++ tree_of (write f u) ∷ [])) ≡ spans_of_all g.from (forest_of g.kids) ++ open_spans f
      inner =
          let l = length-append (stack_units fs) (open_units g) in
          let l' = length-append (stack_units fs ++ open_units g) (open_units f) in
          let w = ap length (write_units f u) ∙ length-append (open_units f) u in
          let h = o.0 in
          let h' = o.4.0 in
          spans-push g.from g.kids (tree_of (write f u)) ∙ ap (λ z. spans_of_all g.from (forest_of g.kids) ++ z)
          (tree_spans (write f u) (g.from + length (open_units g)) (omega (arith, l, h, h')) (omega (arith, l, l', w, h, h', e)) ∙ write_spans f u)

  -- the innermost gets the text up to where the range begins, and the range is opened in it
  pub open_step : (done : List Range) (f : PlainOpen) (fs : List PlainOpen) (u rest : List (List ℕ)) (r : Range) → IsBuilt done f fs (u ++ rest) →
      length (stack_units (f ∷ fs)) + length u ≡ r.from → r.from ≤ r.to → r.to ≤ f.to →
      IsBuilt (done ++ r ∷ []) (opened r) (write f u ∷ fs) rest × (length (stack_units (opened r ∷ write f u ∷ fs)) ≡ r.from)
  open_step done f fs u rest r b e full inside = (
    record {
      are_open = (sym at_from, tt, tt, (inside, all-map _ _ fs (λ g h. omega (arith, h, inside)) o.3), (o.0, bare-with_text f.kids u o.1, apart-with_text f.kids u o.2 b.no_text, o.3, o.4));
      base = base_same f (write f u) fs refl refl b.base;
      no_text = λ x. x;
      units = b.units ∙ sym (append_assoc (stack_units (f ∷ fs)) u rest) ∙ ap (λ z. z ++ rest) (sym grown);
      spans = ap (λ z. (stack_spans fs ++ z) ++ span_of r ∷ []) (write_spans f u) ∙ ap (λ z. z ++ span_of r ∷ []) b.spans ∙ ap (◌∷◌ root_span) (sym (map-append span_of done (r ∷ [])));
      at_most = let h = at_from' in omega (arith, h, full);
    },
    at_from',
  )
    where
      o : AreOpen (f ∷ fs)
      o = b.are_open

      grown' : stack_units (write f u ∷ fs) ≡ stack_units (f ∷ fs) ++ u
      grown' = ap (◌++◌ (stack_units fs)) (write_units f u) ∙ sym (append_assoc (stack_units fs) (open_units f) u)

      grown : stack_units (opened r ∷ write f u ∷ fs) ≡ stack_units (f ∷ fs) ++ u
      grown = append-nil (stack_units (write f u ∷ fs)) ∙ grown'

      at_from : length (stack_units (write f u ∷ fs)) ≡ r.from
      at_from = ap length grown' ∙ length-append (stack_units (f ∷ fs)) u ∙ e

      at_from' : length (stack_units (opened r ∷ write f u ∷ fs)) ≡ r.from
      at_from' = ap length grown ∙ length-append (stack_units (f ∷ fs)) u ∙ e

  -- the root alone is open, and gets what is left of the text
  pub end_step : (done : List Range) (f : PlainOpen) (rest : List (List ℕ)) → IsBuilt done f [] rest → HoldRanges text done (forest_of (with_text f.kids rest))
  end_step done f rest b = record {
    bare = bare-with_text f.kids rest o.1;
    apart = apart-with_text f.kids rest o.2 b.no_text;
    units = units-with_text f.kids rest ∙ sym b.units;
    spans = ap (λ n. spans_of_all n (forest_of (with_text f.kids rest))) (sym o.0) ∙ spans-with_text f.from f.kids rest ∙ later b.spans;
  }
    where
      o : AreOpen (f ∷ [])
      o = b.are_open

      later : open_spans f ≡ root_span ∷ map span_of done → spans_of_all f.from (forest_of f.kids) ≡ map span_of done
      later e = cc

-- closing keeps the depth
pub close_depth : (f g : PlainOpen) (fs : List PlainOpen) (u : List (List ℕ)) → stack_depth (add g (tree_of (write f u)) ∷ fs) ≡ stack_depth (f ∷ g ∷ fs)
close_depth f g fs u = let p = depth-push g.kids (tree_of (write f u)) in let w = depth-with_text f.kids u in omega (arith, p, w)

-- and opening makes it the number of open elements, where that is more
pub open_depth : (f : PlainOpen) (fs : List PlainOpen) (u : List (List ℕ)) (r : Range) →
    stack_depth (opened r ∷ write f u ∷ fs) ≡ max (stack_depth (f ∷ fs)) (length (opened r ∷ f ∷ fs))
open_depth f fs u r = let w = depth-with_text f.kids u in omega (arith, w)

pub end_depth : (f : PlainOpen) (u : List (List ℕ)) → suc (depth_of_all (forest_of (with_text f.kids u))) ≡ stack_depth (f ∷ [])
end_depth f u = let w = depth-with_text f.kids u in omega (arith, w)
