-- Completing trees keeps that they can be written.
use Rattle.std.proofs.Common.{IsTrue, List, Some, [], ap, append_assoc, arith, length, not, refl, subst, suc, sym, true, zero, ℕ, ◌&&◌, ◌++◌, ◌<◌, ◌∙◌, ◌∷◌, ◌≡◌, inl}
use Rattle.std.proofs.lemmas.Bool.{and_from, and_parts}
use Rattle.std.proofs.lemmas.Option.{slice_get_within}
use Rattle.std.specs.List.{list_all}
use Rattle.std.specs.Prelude.{slice_index_or}
use Rattle.pv_chars.specs.Names.{is_name}
use Rattle.pv_chars.specs.Spaces.{IsOptionalSpace}
use Rattle.pv_chars.specs.Texts.{begins_close_mark}
use Rattle.pv_model.specs.Plain.{PlainModel}
use Rattle.pv_dtd.specs.Plain.{PlainDtd, model_of, spelling_of}
use Rattle.pv_dtd.specs.Proper.{IsProperDtd}
use Rattle.pv_tree.specs.Attributes.{IsAttributes, IsKnownReference}
use Rattle.pv_tree.specs.Legal.{IsLegal, IsLegalEnding, are_formed, fits_kids, front_units, has_names, has_no_close_mark, have_names, have_no_close_mark, is_formed, is_open, starts_no_close_mark}
use Rattle.pv_tree.specs.Plain.{Ending, Forest, Tree, cdata_node, element, misc_node, no_trees, tagged, text_node, tree}
use Rattle.pv_tree.specs.Units.{HasUnits}
use Rattle.pv_complete.specs.GrownTrees.{Grows, KeepsEnding, trees_and, grows_kept, grows_leaf}
use Rattle.pv_complete.specs.GrownTrees.{grows_new, grows_none}
use Rattle.pv_complete.specs.Writable.{AreElements, AreInFront, AreWritable, HasNames, KeepsWritable}

-- what doesn't begin `]]>` with more units after it, doesn't without them
begins_less : (us vs : List (List ℕ)) → not (begins_close_mark (us ++ vs)) ≡ true → not (begins_close_mark us) ≡ true
begins_less [] vs e = refl
begins_less (a ∷ []) vs e = refl
begins_less (a ∷ b ∷ []) vs e = refl
begins_less (a ∷ b ∷ c ∷ us) vs e = e

open_less : (us vs rest : List (List ℕ)) → is_open us (vs ++ rest) ≡ true → is_open us vs ≡ true
open_less [] vs rest e = refl
open_less (u ∷ us) vs rest e =
    let p = and_parts (not (begins_close_mark (u ∷ us ++ (vs ++ rest)))) (is_open us (vs ++ rest)) e in
    let q : u ∷ us ++ (vs ++ rest) ≡ (u ∷ us ++ vs) ++ rest = ap (λ x. u ∷ x) (sym (append_assoc us vs rest)) in
    and_from (not (begins_close_mark (u ∷ us ++ vs))) (is_open us vs) (begins_less (u ∷ us ++ vs) rest (subst (λ x. not (begins_close_mark x) ≡ true) q p.0)) (open_less us vs rest p.1)

front_more : (us vs ws : List (List ℕ)) → AreInFront vs ws → AreInFront (us ++ vs) (us ++ ws)
front_more us vs ws i = (i.0, ap (λ x. us ++ x) i.1 ∙ sym (append_assoc us vs i.0))

module _ {M : Type 0} where
  record IsWritable (t : Tree M) : Type 0 where
    pub named : IsTrue (has_names t)
    pub formed : IsTrue (is_formed t)
    pub units : HasUnits t
    pub legal : IsLegal t
    pub no_close_mark : IsTrue (has_no_close_mark t)

  record IsCut (t : Tree M) (f : Forest M) : Type 0 where
    pub first : IsWritable t
    pub starts : IsTrue (starts_no_close_mark t f)
    pub rest : AreWritable f

  cut : (t : Tree M) (f : Forest M) → AreWritable (tree t f) → IsCut t f
  cut t f w =
      let n = and_parts (has_names t) (have_names f) w.named in
      let o = and_parts (is_formed t) (are_formed f) w.formed in
      let c = and_parts (has_no_close_mark t && starts_no_close_mark t f) (have_no_close_mark f) w.no_close_mark in
      let d = and_parts (has_no_close_mark t) (starts_no_close_mark t f) c.0 in
      let u = w.units in
      let l = w.legal in
      record {
        first = record { named = n.0; formed = o.0; units = u.0; legal = l.0; no_close_mark = d.0 };
        starts = d.1;
        rest = record { named = n.1; formed = o.1; units = u.1; legal = l.1; no_close_mark = c.1 };
      }

  uncut : (t : Tree M) (f : Forest M) → IsWritable t → IsTrue (starts_no_close_mark t f) → AreWritable f → AreWritable (tree t f)
  uncut t f i s w = record {
    named = let a = i.named in let b = w.named in and_from (has_names t) (have_names f) a b;
    formed = let a = i.formed in let b = w.formed in and_from (is_formed t) (are_formed f) a b;
    units = (i.units, w.units);
    legal = (i.legal, w.legal);
    no_close_mark = let a = i.no_close_mark in let b = w.no_close_mark in
        and_from (has_no_close_mark t && starts_no_close_mark t f) (have_no_close_mark f) (and_from (has_no_close_mark t) (starts_no_close_mark t f) a s) b;
  }

  starts_less : (t : Tree M) (f f' : Forest M) → AreInFront (front_units f') (front_units f) → IsTrue (starts_no_close_mark t f) → IsTrue (starts_no_close_mark t f')
  starts_less (element x a e k m) f f' i s = refl
  starts_less (text_node us) f f' i s = open_less us (front_units f') i.0 (let e = i.1 in rw e at s)
  starts_less (cdata_node b) f f' i s = refl
  starts_less (misc_node b) f f' i s = refl

  front_alike : (t : Tree M) (f f' : Forest M) → AreInFront (front_units f') (front_units f) → AreInFront (front_units (tree t f')) (front_units (tree t f))
  front_alike (element x a e k m) f f' i = ([], refl)
  front_alike (text_node us) f f' i = front_more us (front_units f') (front_units f) i
  front_alike (cdata_node b) f f' i = ([], refl)
  front_alike (misc_node b) f f' i = ([], refl)

  pub keeps_none : KeepsWritable {M = M} no_trees no_trees
  keeps_none = record { writable = λ w. w; front = ([], refl); elements = λ e. e; grows = grows_none }

  mutual
    grows_tree : (t : Tree M) (a b : Forest M) → Grows a b → Grows (tree t a) (tree t b)
    grows_tree (element x attrs e k m) a b h = grows_kept x attrs e e k k a b m m (inl refl) (grows_same k) h
    grows_tree (text_node us) a b h = grows_leaf (text_node us) a b refl h
    grows_tree (cdata_node c) a b h = grows_leaf (cdata_node c) a b refl h
    grows_tree (misc_node c) a b h = grows_leaf (misc_node c) a b refl h

    grows_same : (f : Forest M) → Grows f f
    grows_same no_trees = grows_none
    grows_same (tree t f) = grows_tree t f f (grows_same f)

  pub none_grown : (a b : Forest M) → Grows a b → b ≡ no_trees → a ≡ no_trees
  none_grown a b grows_none e = refl
  none_grown a b (grows_leaf t c d i h) e = absurd cc
  none_grown a b (grows_kept x attrs y f k l c d m n i h j) e = absurd cc
  none_grown a b (grows_new x all k l c d m i h j) e = absurd cc

  -- a tree as it is
  pub keeps_tree : (t : Tree M) (f f' : Forest M) → KeepsWritable f f' → KeepsWritable (tree t f) (tree t f')
  keeps_tree t f f' k = record {
    writable = λ w. let c = cut t f w in uncut t f' c.first (starts_less t f f' k.front c.starts) (k.writable c.rest);
    front = front_alike t f f' k.front;
    elements = λ e. (e.0, k.elements e.1);
    grows = grows_tree t f f' k.grows;
  }

  -- an element in place of one
  element_kept : (x attrs gap : List ℕ) (e : Ending) (kids new : Forest M) (m n : M) → (IsLegalEnding e → IsOptionalSpace gap) → (AreWritable kids → AreWritable new) →
      IsWritable (element x attrs e kids m) → IsWritable (element x attrs (tagged gap) new n)
  element_kept x attrs gap e kids new m n end k w =
      let a = w.named in
      let p = and_parts (is_name x) (have_names kids) a in
      let b = w.formed in
      let q = and_parts (fits_kids e kids) (are_formed kids) b in
      let l = w.legal in
      let r = k (record { named = p.1; formed = q.1; units = w.units; legal = l.2; no_close_mark = w.no_close_mark }) in
      record {
        named = let s = r.named in and_from (is_name x) (have_names new) p.0 s;
        formed = r.formed;
        units = r.units;
        legal = (l.0, end l.1, r.legal);
        no_close_mark = r.no_close_mark;
      }

  pub keeps_element : (x attrs gap : List ℕ) (e : Ending) (kids new f f' : Forest M) (m n : M) →
      (IsLegalEnding e → IsOptionalSpace gap) → KeepsEnding e new (tagged gap) →
      KeepsWritable kids new → KeepsWritable f f' →
      KeepsWritable (tree (element x attrs e kids m) f) (tree (element x attrs (tagged gap) new n) f')
  keeps_element x attrs gap e kids new f f' m n end same k h = record {
    writable = λ w. let c = cut (element x attrs e kids m) f w in
        uncut (element x attrs (tagged gap) new n) f' (element_kept x attrs gap e kids new m n end k.writable c.first) refl (h.writable c.rest);
    front = ([], refl);
    elements = λ i. (refl, h.elements i.1);
    grows = grows_kept x attrs e (tagged gap) kids new f f' m n same k.grows h.grows;
  }

  front_beside : (a b : Forest M) → AreInFront (front_units a) (front_units (trees_and a b))
  front_beside no_trees b = (front_units b, refl)
  front_beside (tree t a) b = front_alike t (trees_and a b) a (front_beside a b)

  writable_parts : (a b : Forest M) → AreWritable (trees_and a b) → AreWritable a × AreWritable b
  writable_parts no_trees b w = (record { named = refl; formed = refl; units = tt; legal = tt; no_close_mark = refl }, w)
  writable_parts (tree t a) b w =
      let c = cut t (trees_and a b) w in
      let p = writable_parts a b c.rest in
      (uncut t a c.first (starts_less t (trees_and a b) a (front_beside a b) c.starts) p.0, p.1)

  element_parts : (a b : Forest M) → AreElements (trees_and a b) → AreElements a × AreElements b
  element_parts no_trees b e = (tt, e)
  element_parts (tree t a) b e = let p = element_parts a b e.1 in ((e.0, p.0), p.1)

  -- a new element round some trees
  pub keeps_new : (x : List ℕ) (kids new f f' : Forest M) (m : M) → IsTrue (is_name x) → IsAttributes IsKnownReference [] → KeepsWritable kids new → KeepsWritable f f' →
      KeepsWritable (trees_and kids f) (tree (element x [] (tagged []) new m) f')
  keeps_new x kids new f f' m name none k h = record {
    writable = λ w.
        let p = writable_parts kids f w in
        let r = k.writable p.0 in
        uncut (element x [] (tagged []) new m) f' (record {
          named = let s = r.named in and_from (is_name x) (have_names new) name s;
          formed = r.formed;
          units = r.units;
          legal = (none, refl, r.legal);
          no_close_mark = r.no_close_mark;
        }) refl (h.writable p.1);
    front = (front_units (trees_and kids f), refl);
    elements = λ i. (refl, h.elements (element_parts kids f i).1);
    grows = grows_new x (trees_and kids f) kids new f f' m refl k.grows h.grows;
  }

pub no-attributes : IsAttributes IsKnownReference []
no-attributes = record { attributes = []; space = []; are_attributes = record { pieces = []; are_pieces = tt; whole = refl }; is_space = refl; whole = refl }

-- the name of a declared number
pub name_of_number : (g : PlainDtd) → IsProperDtd g → HasNames g → (y : ℕ) (m : PlainModel) → model_of g y ≡ Some m → IsTrue (is_name (spelling_of g y))
name_of_number g proper names y m is =
    let d = slice_get_within g.models y m is in
    let n = proper.named in
    at_place g.names y names (omega arith)
  where
    at_place : (xs : List (List ℕ)) (i : ℕ) → IsTrue (list_all is_name xs) → i < length xs → IsTrue (is_name (slice_index_or xs i []))
    at_place [] i a l = absurd (omega arith)
    at_place (x ∷ xs) zero a l = (and_parts (is_name x) (list_all is_name xs) a).0
    at_place (x ∷ xs) (suc i) a l = at_place xs i (and_parts (is_name x) (list_all is_name xs) a).1 (omega arith)
