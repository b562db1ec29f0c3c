-- How the values that contracts see of a document with stamps are told apart: each plain type is
-- coded one to one. Nothing else is meant by a code.
use Rattle.std.specs.Prelude.{List, ℕ, ◌≡◌, refl}
use Rattle.std.proofs.Common.{ap}
use Rattle.std.specs.Coded.{Coded, code_by, coded_list, coded_ℕ, coded×}
use base.Stored.{Gv, gcons, gnil, gnum}
use Rattle.pv_model.specs.Plain.{PlainModel, PlainPart, PlainParts, any, children, choice, empty}
use Rattle.pv_model.specs.Plain.{mixed, name, no_parts, opt, part, plus, seq, star}
use Rattle.pv_dtd.specs.Plain.{PlainDtd}
use Rattle.pv_cache.specs.Stamps.{StampedDoc}
use Rattle.pv_tree.specs.Plain.{Ending, Forest, PlainDoc, Tree, cdata_node, element, misc_node}
use Rattle.pv_tree.specs.Plain.{no_trees, short, tagged, text_node, tree}

abbrev pub bytes_code : Coded (List ℕ)
bytes_code = coded_list coded_ℕ

abbrev lists_code : Coded (List (List ℕ))
lists_code = coded_list bytes_code

-- ---- documents
abbrev ending_code : Ending → Gv
ending_code short = gnil
ending_code (tagged gap) = gcons gnil (bytes_code.code gap)

pub same_ending : (e f : Ending) → ending_code e ≡ ending_code f → e ≡ f
same_ending short short p = refl
same_ending (tagged a) (tagged b) p = ap tagged (bytes_code.inj a b cc)
same_ending e f p = absurd cc

abbrev mutual
  tree_code : {M : Type 0} → Coded M → Tree M → Gv
  tree_code c (element x attrs ending kids mark) =
      gcons (gnum 0) (gcons (bytes_code.code x)
      (gcons (bytes_code.code attrs) (gcons (ending_code ending)
      (gcons (c.code mark) (forest_code c kids)))))
  tree_code c (text_node units) = gcons (gnum 1) (lists_code.code units)
  tree_code c (cdata_node bytes) = gcons (gnum 2) (bytes_code.code bytes)
  tree_code c (misc_node bytes) = gcons (gnum 3) (bytes_code.code bytes)

  forest_code : {M : Type 0} → Coded M → Forest M → Gv
  forest_code c no_trees = gnil
  forest_code c (tree t rest) = gcons (tree_code c t) (forest_code c rest)

mutual
  pub same_tree : {M : Type 0} (c : Coded M) (t u : Tree M) → tree_code c t ≡ tree_code c u → t ≡ u
  same_tree c (element x a e k m) (element y b f l n) p =
      let ex : x ≡ y = bytes_code.inj x y cc in
      let ea : a ≡ b = bytes_code.inj a b cc in
      let ee : e ≡ f = same_ending e f cc in
      let ek : k ≡ l = same_forest c k l cc in
      let em : m ≡ n = c.inj m n cc in
      cc
  same_tree c (text_node a) (text_node b) p = ap text_node (lists_code.inj a b cc)
  same_tree c (cdata_node a) (cdata_node b) p = ap cdata_node (bytes_code.inj a b cc)
  same_tree c (misc_node a) (misc_node b) p = ap misc_node (bytes_code.inj a b cc)
  same_tree c t u p = absurd cc

  pub same_forest : {M : Type 0} (c : Coded M) (k l : Forest M) → forest_code c k
      ≡ forest_code c l → k ≡ l
  same_forest c no_trees no_trees p = refl
  same_forest c (tree t k) (tree u l) p =
      let et : t ≡ u = same_tree c t u cc in
      let ek : k ≡ l = same_forest c k l cc in
      cc
  same_forest c k l p = absurd cc

abbrev one_tree_code : {M : Type 0} → Coded M → Coded (Tree M)
one_tree_code c = record { code = tree_code c; inj = same_tree c }

abbrev pub doc_code : {M : Type 0} → Coded M → Coded (PlainDoc M)
doc_code {M} c =
    code_by (List ℕ × (Tree M × (List ℕ × M)))
    (coded× bytes_code (coded× (one_tree_code c) (coded× bytes_code c)))
    (λ d. (d.before, (d.root, (d.after, d.mark))))
    (λ p. record { before = p.0; root = p.1.0; after = p.1.1.0; mark = p.1.1.1 }) (λ _. refl)

-- ---- DTDs
abbrev mutual
  part_code : PlainPart → Gv
  part_code (name n) = gcons (gnum 0) (gnum n)
  part_code (seq ps) = gcons (gnum 1) (parts_code ps)
  part_code (choice ps) = gcons (gnum 2) (parts_code ps)
  part_code (opt p) = gcons (gnum 3) (part_code p)
  part_code (star p) = gcons (gnum 4) (part_code p)
  part_code (plus p) = gcons (gnum 5) (part_code p)

  parts_code : PlainParts → Gv
  parts_code no_parts = gnil
  parts_code (part p rest) = gcons (part_code p) (parts_code rest)

mutual
  pub same_part : (p q : PlainPart) → part_code p ≡ part_code q → p ≡ q
  same_part (name n) (name m) e = cc
  same_part (seq a) (seq b) e = ap seq (same_parts a b cc)
  same_part (choice a) (choice b) e = ap choice (same_parts a b cc)
  same_part (opt a) (opt b) e = ap opt (same_part a b cc)
  same_part (star a) (star b) e = ap star (same_part a b cc)
  same_part (plus a) (plus b) e = ap plus (same_part a b cc)
  same_part p q e = absurd cc

  pub same_parts : (a b : PlainParts) → parts_code a ≡ parts_code b → a ≡ b
  same_parts no_parts no_parts e = refl
  same_parts (part p a) (part q b) e =
      let ep : p ≡ q = same_part p q cc in
      let ea : a ≡ b = same_parts a b cc in
      cc
  same_parts a b e = absurd cc

abbrev model_code : PlainModel → Gv
model_code empty = gnil
model_code any = gnum 0
model_code (mixed names) = gcons gnil (bytes_code.code names)
model_code (children p) = gcons (gnum 0) (part_code p)

pub same_model : (m n : PlainModel) → model_code m ≡ model_code n → m ≡ n
same_model empty empty e = refl
same_model any any e = refl
same_model (mixed a) (mixed b) e = ap mixed (bytes_code.inj a b cc)
same_model (children p) (children q) e = ap children (same_part p q cc)
same_model m n e = absurd cc

abbrev pub dtd_code : Coded PlainDtd
dtd_code =
    code_by (List (List ℕ) × List PlainModel)
    (coded× lists_code (coded_list (record { code = model_code; inj = same_model })))
    (λ g. (g.names, g.models)) (λ p. record { names = p.0; models = p.1 }) (λ _. refl)

-- ---- documents with stamps
abbrev pub stamped_code : Coded StampedDoc
stamped_code =
    code_by (PlainDtd × (List ℕ × PlainDoc ℕ))
    (coded× dtd_code (coded× bytes_code (doc_code coded_ℕ)))
    (λ s. (s.dtd, (s.root, s.doc))) (λ p. record { dtd = p.0; root = p.1.0; doc = p.1.1 })
    (λ _. refl)
