-- The rows on the other small DTDs.
use Rattle.std.specs.Prelude.{codes}
use Rattle.std.proofs.Common.{List, Some, [], ap, arith, inl, inr, map, refl, subst, suc, sym, zero, ℕ, ◌++◌, ◌+◌, ◌∙◌, ◌∷◌, ◌≡◌, ◌≤◌, ◌⊎◌}
use Rattle.pv_model.specs.Plain.{PlainModel, PlainToken, children, empty, name, named, no_parts, opt, part, seq}
use Rattle.pv_model.specs.Models.{Allows, Matches}
use Rattle.pv_dtd.specs.Plain.{model_of, number_of}
use Rattle.pv_dtd.specs.Hedge.{elements}
use Rattle.pv_tree.specs.Lists.{IsOwnValid, an_element, lists_at, the_document}
use Rattle.pv_tree.specs.Plain.{Forest, Tree, forest_of, no_trees, tree}
use Rattle.pv_missing.specs.Covers.{Covers, IsPossibleWith, cover_kept, cover_new, cover_none}
use Rattle.pv_missing.specs.Covers.{cover_text}
use Rattle.pv_dtd.specs.Proper.{IsProperDtd}
use Rattle.pv_dtd.specs.Productive.{IsProductive, IsProductiveName}
use Rattle.law_missing.specs.Documents.{tag, three_ys}
use Rattle.law_missing.specs.Dtds.{endless_dtd, nested_dtd}
use Rattle.law_missing.specs.Rows.{EndlessRow, NestedRow}
use Rattle.law_missing.proofs.Bounds.{gained, opened, worth}
use Rattle.pv_missing.proofs.DocLists.{live_misses_by}
use Rattle.pv_missing.proofs.CoversToInsertions.{empty_join}
use Rattle.pv_missing.proofs.OneList.{covered_by_productive}
use Rattle.pv_dtd.proofs.ProperDtds.{proper_dtd}
use Rattle.law_missing.proofs.RowTools.{ListRow, alone_productive, impossible_at, needs, new_before, possible_row, possible_with, valid_row}
use Rattle.pv_missing.proofs.Sizes.{fits_possible}
use Rattle.pv_tree.specs.declared.nodes.Verdict.TheVariants as verdict

-- <!ELEMENT x ((x, y)?)> <!ELEMENT y EMPTY>
abbrev x_model : PlainModel
x_model = children (seq (part (opt (seq (part (name 0) (part (name 1) no_parts)))) no_parts))

proper_nested : IsProperDtd nested_dtd
proper_nested = proper_dtd nested_dtd refl (omega arith) refl

x_none : Allows 2 x_model []
x_none = ([], refl, ([], [], refl, inl refl, refl))

x_both : Allows 2 x_model (named 0 ∷ named 1 ∷ [])
x_both = (0 ∷ 1 ∷ [], refl, (0 ∷ 1 ∷ [], [], refl, inr (0 ∷ [], 1 ∷ [], refl, refl, (1 ∷ [], [], refl, refl, refl)), refl))

x_good : IsProductive nested_dtd 0
x_good = alone_productive nested_dtd 0 x_model refl x_none

y_good : IsProductive nested_dtd 1
y_good = alone_productive nested_dtd 1 empty refl refl

no_y : IsPossibleWith nested_dtd 0 0 []
no_y = possible_with nested_dtd 0 0 x_model [] [] refl x_none (cover_none 0 refl)

-- one y more, and one missing element more
one_more : (n : ℕ) (w : List PlainToken) → IsPossibleWith nested_dtd 0 n w → IsPossibleWith nested_dtd 0 (suc n) (w ++ named 1 ∷ [])
one_more n w p = possible_with nested_dtd 0 (suc n) x_model (named 0 ∷ named 1 ∷ []) (w ++ named 1 ∷ []) refl x_both
    (let e : suc (n + 0) ≡ suc n = omega arith in rw e at (new_before nested_dtd 0 n 0 (named 1 ∷ []) w (named 1 ∷ []) p (cover_kept 0 1 [] [] y_good (cover_none 0 refl))))

pub three_word : IsPossibleWith nested_dtd 0 3 (named 1 ∷ named 1 ∷ named 1 ∷ [])
three_word = one_more 2 (named 1 ∷ named 1 ∷ []) (one_more 1 (named 1 ∷ []) (one_more 0 [] no_y))

-- an x for each y that is there
abbrev xs : ℕ → ℕ
xs zero = 1
xs (suc y) = 0

abbrev ys : ℕ → ℕ
ys zero = 0
ys (suc zero) = 1
ys (suc (suc y)) = 0

-- nothing, or an x and a y
x_words : (ws : List ℕ) → Matches (seq (part (opt (seq (part (name 0) (part (name 1) no_parts)))) no_parts)) ws → (ws ≡ []) ⊎ (ws ≡ 0 ∷ 1 ∷ [])
x_words ws (u, v, e, inl f, z) = inl (rw (f, z) at e)
x_words ws (u, v, e, inr (a, b, i, f, (c, d, j, h, k)), z) = inr (rw (i, f, j, h, k, z) at e)

x_even : (v : List PlainToken) (ws : List ℕ) → v ≡ map named ws → (ws ≡ []) ⊎ (ws ≡ 0 ∷ 1 ∷ []) → worth ys v ≡ worth xs v
x_even v ws e (inl f) = let i : v ≡ [] = e ∙ ap (map named) f in rw i refl
x_even v ws e (inr f) = let i : v ≡ named 0 ∷ named 1 ∷ [] = e ∙ ap (map named) f in rw i refl

nested_gains : (y : ℕ) (m : PlainModel) (v : List PlainToken) → model_of nested_dtd y ≡ Some m → Allows 2 m v → xs y + worth ys v ≤ suc (ys y + worth xs v)
nested_gains zero m v e ok = let i : m ≡ x_model = cc in let a : Allows 2 x_model v = subst (λ k. Allows 2 k v) i ok in
    let f = x_even v a.0 a.1 (x_words a.0 a.2) in omega (arith, f)
nested_gains (suc zero) m v e ok = let i : m ≡ empty = cc in let a : v ≡ [] = subst (λ k. Allows 2 k v) i ok in
    let f = ap (worth ys) a in omega (arith, f)
nested_gains (suc (suc y)) m v e ok = absurd cc

three_bound : (n : ℕ) → IsPossibleWith nested_dtd 0 n (named 1 ∷ named 1 ∷ named 1 ∷ []) → 3 ≤ n
three_bound n p = let o = opened nested_dtd 0 n x_model (named 1 ∷ named 1 ∷ named 1 ∷ []) refl p in
    let q = gained nested_dtd xs ys nested_gains n o.whole (named 1 ∷ named 1 ∷ named 1 ∷ []) o.covers in
    let f = x_even o.whole o.allowed.0 o.allowed.1 (x_words o.allowed.0 o.allowed.2) in omega (arith, q, f)

x_name : IsProductiveName nested_dtd (codes "x")
x_name = record { number = 0; is_number = refl; productive = x_good }

y_name : IsProductiveName nested_dtd (codes "y")
y_name = record { number = 1; is_number = refl; productive = y_good }

y_row : (path : List ℕ) → ListRow nested_dtd (codes "x") (record { path = path; owner = an_element (codes "y"); kids = no_trees }) verdict.Valid 0
y_row path = valid_row nested_dtd (codes "x") (record { path = path; owner = an_element (codes "y"); kids = no_trees })
    (record { number = 1; is_owner = refl; model = empty; is_model = refl; no_kids = λ z. refl; allowed = refl }) y_name tt

abbrev ys_kids : Forest Unit
ys_kids = forest_of (tag (codes "y") [] ∷ tag (codes "y") [] ∷ tag (codes "y") [] ∷ [])

x_not_own : IsOwnValid nested_dtd (number_of nested_dtd (codes "x")) ys_kids → ⊥
x_not_own o = let f : o.number ≡ 0 = let i = o.is_owner in cc in
    let m : model_of nested_dtd 0 ≡ Some o.model = rw f at o.is_model in let i : o.model ≡ x_model = cc in
    let a : Allows 2 x_model (named 1 ∷ named 1 ∷ named 1 ∷ []) = subst (λ x. Allows 2 x (named 1 ∷ named 1 ∷ named 1 ∷ [])) i o.allowed in
    let z = x_even (named 1 ∷ named 1 ∷ named 1 ∷ []) a.0 a.1 (x_words a.0 a.2) in omega (arith, z)

pub missing_inside_missing_law : NestedRow
missing_inside_missing_law = needs nested_dtd (codes "x") proper_nested three_ys (verdict.Valid ∷ verdict.Possible ∷ verdict.Valid ∷ verdict.Valid ∷ verdict.Valid ∷ []) 3
    (record { rooted = refl; units = (tt, (tt, (tt, tt))) }) (
      0,
      3,
      refl,
      valid_row nested_dtd (codes "x") _ (refl, refl) tt (x_name, tt),
      (
        3,
        0,
        refl,
        possible_row nested_dtd (codes "x") (record { path = 0 ∷ []; owner = an_element (codes "x"); kids = ys_kids }) 3
            (record { number = 0; is_owner = refl; productive = x_good; no_kids = λ e. absurd cc; possible = three_word })
            (λ m p. let e : p.number ≡ 0 = let i = p.is_owner in cc in three_bound m (rw e at p.possible)) x_not_own,
        (0, 0, refl, y_row _, (0, 0, refl, y_row _, (0, 0, refl, y_row _, refl))),
      ),
    )

-- <!ELEMENT a (a)>
proper_endless : IsProperDtd endless_dtd
proper_endless = proper_dtd endless_dtd refl (omega arith) refl

a_words : (ws : List ℕ) → Matches (seq (part (name 0) no_parts)) ws → ws ≡ 0 ∷ []
a_words ws (u, v, e, f, z) = rw (f, z) at e

endless_gains : (y : ℕ) (m : PlainModel) (v : List PlainToken) → model_of endless_dtd y ≡ Some m → Allows 1 m v → v ≡ named 0 ∷ []
endless_gains zero m v e ok = let i : m ≡ children (seq (part (name 0) no_parts)) = cc in
    let a : Allows 1 (children (seq (part (name 0) no_parts))) v = subst (λ k. Allows 1 k v) i ok in a.1 ∙ ap (map named) (a_words a.0 a.2)
endless_gains (suc y) m v e ok = absurd cc

-- nothing is missing where there is nothing
never_none : (n : ℕ) (u w : List PlainToken) → Covers endless_dtd n u w → w ≡ [] → u ≡ []
never_none n u w (cover_none _ z) e = refl
never_none n u w (cover_text _ u' w' c) e = absurd cc
never_none n u w (cover_kept _ y u' w' p c) e = absurd cc
never_none n u w (cover_new _ a b y m v u' w1 w2 _ f j is ok c d) e =
    let i = never_none a v w1 c (empty_join w1 w2 (sym e ∙ j)).0 in let k = endless_gains y m v is ok in absurd cc

pub endless_word : (n : ℕ) → Covers endless_dtd n (named 0 ∷ []) [] → ⊥
endless_word n c = let e = never_none n (named 0 ∷ []) [] c refl in cc

a_unproductive : IsProductive endless_dtd 0 → ⊥
a_unproductive p = let q = fits_possible endless_dtd 0 p.kids p.fits p.good in let i = never_none (elements p.kids) q.whole [] q.covers refl in
    let k = endless_gains 0 q.model q.whole q.is_model q.allowed in cc

abbrev a_in_a : Tree Unit
a_in_a = tag (codes "a") (tag (codes "a") [] ∷ [])

pub unproductive_name_law : EndlessRow
unproductive_name_law = impossible_at endless_dtd (codes "a") proper_endless a_in_a [] (record { rooted = refl; units = (tt, tt) }) (record {
  before = [];
  list = record { path = []; owner = the_document; kids = tree a_in_a no_trees };
  after = lists_at (0 ∷ []) a_in_a;
  is_split = refl;
  all_before = tt;
  is_not = λ l. let p = live_misses_by endless_dtd (codes "a") the_document (tree a_in_a no_trees) l in
      let q = covered_by_productive endless_dtd p.0 (named p.1.number ∷ []) (named 0 ∷ []) p.1.possible in a_unproductive q.0;
  is_path = refl;
})
