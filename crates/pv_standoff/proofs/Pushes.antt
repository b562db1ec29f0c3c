-- A tree put after others.
use Rattle.std.proofs.Common.{max, ◌≡◌, ℕ, ◌+◌, List, [], ◌∷◌, ◌++◌, length, refl, sym, ◌∙◌, ap, arith, length-append, append-nil, append_assoc}
use Rattle.pv_tree.specs.Plain.{depth_of, depth_of_all, Tree, text_node, forest_of}
use Rattle.pv_tree.specs.declared.nodes.Mark.{Mark}
use Rattle.pv_standoff.specs.Stacks.{with_text}
use Rattle.pv_standoff.specs.Spans.{units_of, units_of_all, spans_of, spans_of_all, IsBare, AreBare, IsTextNode, HasApart, AreApart}

abbrev pub EndsWithText : List (Tree Mark) → Type 0
EndsWithText [] = ⊥
EndsWithText (k ∷ []) = IsTextNode k
EndsWithText (k ∷ l ∷ ks) = EndsWithText (l ∷ ks)

pub units-push : (ks : List (Tree Mark)) (t : Tree Mark) → units_of_all (forest_of (ks ++ t ∷ [])) ≡ units_of_all (forest_of ks) ++ units_of t
units-push [] t = append-nil (units_of t)
units-push (k ∷ ks) t = ap (◌++◌ (units_of k)) (units-push ks t) ∙ sym (append_assoc (units_of k) (units_of_all (forest_of ks)) (units_of t))

pub spans-push : (n : ℕ) (ks : List (Tree Mark)) (t : Tree Mark) →
    spans_of_all n (forest_of (ks ++ t ∷ [])) ≡ spans_of_all n (forest_of ks) ++ spans_of (n + length (units_of_all (forest_of ks))) t
spans-push n [] t = let e : n + 0 ≡ n = omega arith in append-nil (spans_of n t) ∙ ap (λ m. spans_of m t) (sym e)
spans-push n (k ∷ ks) t =
    let l = length-append (units_of k) (units_of_all (forest_of ks)) in
    let e : n + length (units_of k) + length (units_of_all (forest_of ks)) ≡ n + length (units_of k ++ units_of_all (forest_of ks)) = omega (arith, l) in
    ap (◌++◌ (spans_of n k)) (spans-push (n + length (units_of k)) ks t ∙ ap (λ m. spans_of_all (n + length (units_of k)) (forest_of ks) ++ spans_of m t) e)
    ∙ sym (append_assoc (spans_of n k) (spans_of_all (n + length (units_of k)) (forest_of ks)) _)

pub bare-push : (ks : List (Tree Mark)) (t : Tree Mark) → AreBare (forest_of ks) → IsBare t → AreBare (forest_of (ks ++ t ∷ []))
bare-push [] t b h = (h, tt)
bare-push (k ∷ ks) t b h = (b.0, bare-push ks t b.1 h)

pub apart-push : (ks : List (Tree Mark)) (t : Tree Mark) → AreApart (forest_of ks) → HasApart t → (EndsWithText ks → IsTextNode t → ⊥) → AreApart (forest_of (ks ++ t ∷ []))
apart-push [] t a h n = (h, (λ i b. b), tt)
apart-push (k ∷ []) t a h n = (a.0, n, (h, (λ i b. b), tt))
apart-push (k ∷ l ∷ ks) t a h n = (a.0, a.1, apart-push (l ∷ ks) t a.2 h n)

pub end-push : (ks : List (Tree Mark)) (t : Tree Mark) → EndsWithText (ks ++ t ∷ []) → IsTextNode t
end-push [] t e = e
end-push (k ∷ []) t e = e
end-push (k ∷ l ∷ ks) t e = end-push (l ∷ ks) t e

pub units-with_text : (ks : List (Tree Mark)) (us : List (List ℕ)) → units_of_all (forest_of (with_text ks us)) ≡ units_of_all (forest_of ks) ++ us
units-with_text ks [] = sym (append-nil (units_of_all (forest_of ks)))
units-with_text ks (u ∷ us) = units-push ks (text_node (u ∷ us))

pub spans-with_text : (n : ℕ) (ks : List (Tree Mark)) (us : List (List ℕ)) → spans_of_all n (forest_of (with_text ks us)) ≡ spans_of_all n (forest_of ks)
spans-with_text n ks [] = refl
spans-with_text n ks (u ∷ us) = spans-push n ks (text_node (u ∷ us)) ∙ append-nil (spans_of_all n (forest_of ks))

pub bare-with_text : (ks : List (Tree Mark)) (us : List (List ℕ)) → AreBare (forest_of ks) → AreBare (forest_of (with_text ks us))
bare-with_text ks [] b = b
bare-with_text ks (u ∷ us) b = bare-push ks (text_node (u ∷ us)) b (λ e. absurd cc)

pub apart-with_text : (ks : List (Tree Mark)) (us : List (List ℕ)) → AreApart (forest_of ks) → (EndsWithText ks → ⊥) → AreApart (forest_of (with_text ks us))
apart-with_text ks [] a n = a
apart-with_text ks (u ∷ us) a n = apart-push ks (text_node (u ∷ us)) a tt (λ e i. n e)

pub depth-push : (ks : List (Tree Mark)) (t : Tree Mark) → depth_of_all (forest_of (ks ++ t ∷ [])) ≡ max (depth_of_all (forest_of ks)) (depth_of t)
depth-push [] t = omega arith
depth-push (k ∷ ks) t = let h = depth-push ks t in omega (arith, h)

pub depth-with_text : (ks : List (Tree Mark)) (us : List (List ℕ)) → depth_of_all (forest_of (with_text ks us)) ≡ depth_of_all (forest_of ks)
depth-with_text ks [] = refl
depth-with_text ks (u ∷ us) = let h = depth-push ks (text_node (u ∷ us)) in omega (arith, h)
