-- A document with new elements is at most twice as long as before, and as long as the tags of the new elements may be.
use Rattle.std.proofs.Common.{IsTrue, List, Some, [], arith, codes, inl, inr, length, refl, subst, suc, true, ℕ, ◌&&◌, ◌*◌, ◌++◌, ◌+◌, ◌∷◌, ◌≡◌, ◌≤◌}
use Rattle.std.specs.List.{list_all}
use Rattle.std.specs.Prelude.{slice_get, zero}
use Rattle.std.proofs.lemmas.Bool.{and_from, and_parts, leb-true}
use Rattle.std.proofs.lemmas.List.{length-append}
use Rattle.pv_dtd.specs.Facts.{MAX_NAME_BYTES, is_short_name}
use Rattle.pv_dtd.specs.Hedge.{AreGood, Hedge, done, elements}
use Rattle.pv_dtd.specs.Plain.{PlainDtd, number_of}
use Rattle.pv_dtd.proofs.NameSequences.{get-place}
use Rattle.pv_tree.specs.Legal.{are_formed, fits_kids, is_formed}
use Rattle.pv_tree.specs.Plain.{Ending, Forest, Tree, cdata_node, element, misc_node, no_trees, short, tagged, text_node, tree}
use Rattle.pv_tree.specs.View.{spread, view_all, view_before}
use Rattle.pv_write.specs.Text.{forest_text, tree_text}
use Rattle.pv_complete.specs.GrownTrees.{Grows, KeepsEnding, trees_and, grows_kept, grows_leaf}
use Rattle.pv_complete.specs.GrownTrees.{grows_new, grows_none}
use Rattle.pv_complete.specs.GrownTrees.{HasShortNames, most_tag_bytes}
use Rattle.pv_complete.proofs.FewMarks.{elements_spread}

-- ---- names
short_at : (names : List (List ℕ)) (x : List ℕ) (y : ℕ) → IsTrue (list_all is_short_name names) → slice_get names y ≡ Some x → length x ≤ MAX_NAME_BYTES
short_at [] x y s e = absurd cc
short_at (n ∷ ns) x zero s e = let p = (and_parts (is_short_name n) (list_all is_short_name ns) s).0
    in let f : n ≡ x = cc in let q : length n ≤ MAX_NAME_BYTES = leb-true (length n) MAX_NAME_BYTES
    p in subst (λ z. length z ≤ MAX_NAME_BYTES) f q
short_at (n ∷ ns) x (suc y) s e = short_at ns x y (and_parts (is_short_name n) (list_all is_short_name ns) s).1 e

short_name : (g : PlainDtd) (x : List ℕ) (y : ℕ) → HasShortNames g → number_of g x ≡ Some y → length x ≤ MAX_NAME_BYTES
short_name g x y s e = short_at g.names x y s (get-place g.names x y e)

-- ---- the bytes of an element
tagged_size : {M : Type 0} (x attrs gap : List ℕ) (k : Forest M) (m : M) →
    length (tree_text (element x attrs (tagged gap) k m)) ≡ length x + length x + length attrs
    + length gap + length (forest_text k) + 5
tagged_size x attrs gap k m =
    omega (
      arith,
      length-append (x ++ attrs ++ codes ">" ++ forest_text k ++ codes "</" ++ x ++ gap) (codes ">"),
      length-append (x ++ attrs ++ codes ">" ++ forest_text k ++ codes "</" ++ x) gap,
      length-append (x ++ attrs ++ codes ">" ++ forest_text k ++ codes "</") x,
      length-append (x ++ attrs ++ codes ">" ++ forest_text k) (codes "</"),
      length-append (x ++ attrs ++ codes ">") (forest_text k),
      length-append (x ++ attrs) (codes ">"),
      length-append x attrs,
    )

short_size : {M : Type 0} (x attrs : List ℕ) (k : Forest M) (m : M) → length (tree_text (element x attrs short k m)) ≡ length x + length attrs + 3
short_size x attrs k m = omega (arith, length-append (x ++ attrs) (codes "/>"), length-append x attrs)

-- ---- elements, and good ones
elements_before : {M : Type 0} (t : Tree M) (h : Hedge) → elements (view_before t h) ≡ elements (view_before t done) + elements h
elements_before (element x a e k m) h = omega arith
elements_before (text_node us) h = omega (arith, elements_spread us h, elements_spread us done)
elements_before (cdata_node b) h = omega arith
elements_before (misc_node b) h = omega arith

good_units : (g : PlainDtd) (us : List (List ℕ)) (h : Hedge) → AreGood g (spread us h) → AreGood g h
good_units g [] h a = a
good_units g (u ∷ us) h a = good_units g us h a

good_behind : {M : Type 0} (g : PlainDtd) (t : Tree M) (h : Hedge) → AreGood g (view_before t h) → AreGood g h
good_behind g (element x a e k m) h (y, n, fits, inside, behind) = behind
good_behind g (text_node us) h a = good_units g us h a
good_behind g (cdata_node b) h a = a
good_behind g (misc_node b) h a = a

-- ---- trees side by side
beside_formed : {M : Type 0} (k a : Forest M) → IsTrue (are_formed (trees_and k a)) → IsTrue (are_formed k) × IsTrue (are_formed a)
beside_formed no_trees a f = (refl, f)
beside_formed (tree t k) a f =
    let p = and_parts (is_formed t) (are_formed (trees_and k a)) f in
    let q = beside_formed k a p.1 in (and_from (is_formed t) (are_formed k) p.0 q.0, q.1)

beside_text : {M : Type 0} (k a : Forest M) → length (forest_text (trees_and k a)) ≡ length (forest_text k) + length (forest_text a)
beside_text no_trees a = omega arith
beside_text (tree t k) a = omega (arith, beside_text k a, length-append (tree_text t) (forest_text (trees_and k a)), length-append (tree_text t) (forest_text k))

beside_elements : {M : Type 0} (k a : Forest M) → elements (view_all (trees_and k a)) ≡ elements (view_all k) + elements (view_all a)
beside_elements no_trees a = omega arith
beside_elements (tree t k) a = omega (arith, beside_elements k a, elements_before t (view_all (trees_and k a)), elements_before t (view_all k))

-- an element that keeps its tags, or gets an end tag
kept_size : {M : Type 0} (x attrs : List ℕ) (e f : Ending) (k l : Forest M) (m n : M) → KeepsEnding e l f → IsTrue (fits_kids e k) →
    length (forest_text l) + most_tag_bytes * elements (view_all k) ≤ 2 * length (forest_text k) + most_tag_bytes * elements (view_all l) →
    length (tree_text (element x attrs f l n)) + most_tag_bytes * elements (view_all k) ≤ 2 * length (tree_text (element x attrs e k m)) + most_tag_bytes * elements (view_all l)
kept_size x attrs (tagged gap) f k l m n (inl same) fit i = rw same (omega (arith, tagged_size x attrs gap l n, tagged_size x attrs gap k m, i))
kept_size x attrs (tagged gap) f k l m n (inr (is, some, to)) fit i = absurd cc
kept_size x attrs short f no_trees l m n (inl same) fit i = rw same (omega (arith, short_size x attrs l n, short_size x attrs no_trees m, i))
kept_size x attrs short f no_trees l m n (inr (is, some, to)) fit i = rw to (omega (arith, tagged_size x attrs [] l n, short_size x attrs no_trees m, i))
kept_size x attrs short f (tree t k) l m n ends fit i = absurd cc

module _ {M : Type 0} (g : PlainDtd) (names : HasShortNames g) where
  sizes : (a b : Forest M) → Grows a b → IsTrue (are_formed a) → AreGood g (view_all b) →
      length (forest_text b) + most_tag_bytes * elements (view_all a) ≤ 2 * length (forest_text a) + most_tag_bytes * elements (view_all b)
  sizes _ _ grows_none formed good = omega arith
  sizes _ _ (grows_leaf t a b is more) formed good =
      let i = sizes a b more (and_parts (is_formed t) (are_formed a) formed).1 (good_behind g t (view_all b) good) in
      omega (arith, length-append (tree_text t) (forest_text a), length-append (tree_text t) (forest_text b), elements_before t (view_all a), elements_before t (view_all b), i)
  sizes _ _ (grows_kept x attrs e f k l a b m n ends within behind) formed (y, number, fits, inside, after) =
      let p = and_parts (fits_kids e k && are_formed k) (are_formed a) formed in
      let q = and_parts (fits_kids e k) (are_formed k) p.0 in
      let own = kept_size x attrs e f k l m n ends q.0 (sizes k l within q.1 inside) in
      let next = sizes a b behind p.1 after in
      omega (arith, length-append (tree_text (element x attrs e k m)) (forest_text a), length-append (tree_text (element x attrs f l n)) (forest_text b), own, next)
  sizes _ _ (grows_new x all k l a b m is within behind) formed (y, number, fits, inside, after) =
      let p = beside_formed k a (subst (λ z. IsTrue (are_formed z)) is formed) in
      let own = sizes k l within p.0 inside in
      let next = sizes a b behind p.1 after in
      rw is (omega (
        arith,
        beside_text k a,
        beside_elements k a,
        length-append (tree_text (element x [] (tagged []) l m)) (forest_text b),
        tagged_size x [] [] l m,
        short_name g x y names number,
        own,
        next,
      ))

-- of one tree that becomes one
pub tree_sizes : {M : Type 0} (g : PlainDtd) → HasShortNames g → (t u : Tree M) → Grows (tree t no_trees) (tree u no_trees) → IsTrue (is_formed t) → AreGood g (view_all (tree u no_trees)) →
    length (tree_text u) + most_tag_bytes * elements (view_all (tree t no_trees)) ≤ 2 * length (tree_text t) + most_tag_bytes * elements (view_all (tree u no_trees))
tree_sizes g names t u grows formed good =
    let s = sizes g names (tree t no_trees) (tree u no_trees) grows (and_from (is_formed t) true formed refl) good in
    omega (arith, length-append (tree_text t) [], length-append (tree_text u) [], s)
