-- Every document is written as a text with the same view.
use Rattle.std.proofs.Common.{◌≡◌, ◌≢◌, ℕ, List, [], ◌++◌, ◌&&◌, true, false, IsTrue, refl, sym, ap, ◌∙◌, append_assoc, append-nil}
use Rattle.std.proofs.lemmas.Bool.{and_parts}
use Rattle.pv_chars.specs.Names.{is_name}
use Rattle.pv_chars.specs.Texts.{joined, holds_close_mark}
use Rattle.pv_chars.specs.Units.{AllUnits}
use Rattle.pv_chars.proofs.NameLemmas.{IsName-is_name}
use Rattle.pv_tree.specs.Plain.{short, tagged, Tree, element, text_node, cdata_node, misc_node, Forest, no_trees, tree, is_element, PlainDoc}
use Rattle.pv_tree.specs.Legal.{has_names, have_names, fits_kids, is_formed, are_formed, IsLegal, AreLegal, front_units, is_open, has_no_close_mark, have_no_close_mark, starts_no_close_mark}
use Rattle.pv_tree.specs.Units.{HasUnits, HaveUnits}
use Rattle.pv_tree.specs.Prolog.{IsProlog, IsEpilog}
use Rattle.pv_tree.proofs.Decisions.{had}
use Rattle.pv_tree.proofs.DecidedForms.{epilog, legal}
use Rattle.pv_dtd.specs.Hedge.{done}
use Rattle.pv_read.specs.Grammar.{SpellsNode, SpellsContent, IsElement}
use Rattle.pv_read.proofs.DocumentFacts.{data_open, no_front, units_are_cut}
use Rattle.pv_write.specs.Text.{tree_text, forest_text, doc_text}
use Rattle.pv_write.specs.Writes.{IsLegalDocument, SpellsView}
use Rattle.pv_write.proofs.MergedTexts.{put, merged, merged_all, view_before-merged, depth_of-merged, front_units-merged}
use Rattle.pv_write.proofs.Runs.{IsRun, run_alone, run_with}

-- a text before content that is spelled
text_put : {M : Type 0} (units : List (List ℕ)) (kids : Forest M) (bytes : List ℕ) → SpellsContent kids bytes → AllUnits units → units ≢ [] → is_open units (front_units kids) ≡ true
    → SpellsContent (put (text_node units) kids) (joined units ++ bytes)
text_put units no_trees bytes spells all some opens = (joined units, bytes, run_alone units all some opens, refl, spells, refl)
text_put units (tree (text_node more) kids) bytes (first, others, (chars, all_more, is_first), whole_run, below, whole) all some opens =
    let alone : more ++ front_units kids ≡ more = ap (λ rest. more ++ rest) (no_front kids whole_run) ∙ append-nil more in
    let opens_more : is_open units more ≡ true = rw alone at opens in
    let closed : holds_close_mark more ≡ false = rw (units_are_cut more first all_more is_first) (data_open first chars) in
    let run : IsRun (units ++ more) (joined units ++ first) = rw (← is_first) at (run_with units more all some all_more opens_more closed) in
    (joined units ++ first, others, run, whole_run, below, ap (λ rest. joined units ++ rest) whole ∙ sym (append_assoc (joined units) first others))
text_put units (tree (element x attrs ending nodes mark) kids) bytes spells all some opens = (joined units, bytes, run_alone units all some opens, refl, spells, refl)
text_put units (tree (cdata_node section) kids) bytes spells all some opens = (joined units, bytes, run_alone units all some opens, refl, spells, refl)
text_put units (tree (misc_node misc) kids) bytes spells all some opens = (joined units, bytes, run_alone units all some opens, refl, spells, refl)

-- a node before content that is spelled
node_put : {M : Type 0} (t : Tree M) (kids merged_kids : Forest M) (bytes : List ℕ) → front_units merged_kids ≡ front_units kids → HasUnits t → IsLegal t → IsTrue (starts_no_close_mark t kids)
    → (IsElement t → SpellsNode (merged t) (tree_text t)) → SpellsContent merged_kids bytes → SpellsContent (put (merged t) merged_kids) (tree_text t ++ bytes)
node_put (element x attrs ending nodes mark) kids merged_kids bytes same some legal starts spells below = (_, bytes, spells tt, tt, below, refl)
node_put (text_node units) kids merged_kids bytes same some legal starts spells below = text_put units merged_kids bytes below legal some (rw same starts)
node_put (cdata_node section) kids merged_kids bytes same some legal starts spells below = (section, bytes, (legal, refl), tt, below, refl)
node_put (misc_node misc) kids merged_kids bytes same some legal starts spells below = (misc, bytes, (legal, refl), tt, below, refl)

no_kids : {M : Type 0} (kids : Forest M) → fits_kids short kids ≡ true → kids ≡ no_trees
no_kids no_trees fits = refl
no_kids (tree t kids) fits = cc

mutual
  pub element_spelled : {M : Type 0} (t : Tree M) → IsTrue (has_names t) → IsTrue (is_formed t) →
      HasUnits t → IsLegal t → IsTrue (has_no_close_mark t) → IsElement t →
      SpellsNode (merged t) (tree_text t)
  element_spelled (element x attrs short kids mark) named formed units legal closed is =
      let fits = and_parts (fits_kids short kids) (are_formed kids) formed in
      let names = and_parts (is_name x) (have_names kids) named in
      (IsName-is_name x names.0, legal.0, rw (no_kids kids fits.0) refl, refl)
  element_spelled (element x attrs (tagged gap) kids mark) named formed units legal closed is =
      let names = and_parts (is_name x) (have_names kids) named in
      (forest_text kids, IsName-is_name x names.0, legal.0, legal.1, content_spelled kids names.1 formed units legal.2 closed, refl)
  element_spelled (text_node units) named formed some legal closed is = absurd is
  element_spelled (cdata_node section) named formed some legal closed is = absurd is
  element_spelled (misc_node misc) named formed some legal closed is = absurd is

  content_spelled : {M : Type 0} (kids : Forest M) → IsTrue (have_names kids) →
      IsTrue (are_formed kids) → HaveUnits kids → AreLegal kids → IsTrue (have_no_close_mark kids) →
      SpellsContent (merged_all kids) (forest_text kids)
  content_spelled no_trees named formed units legal closed = refl
  content_spelled (tree t kids) named formed units legal closed =
      let is_formed_all = and_parts (is_formed t) (are_formed kids) formed in
      let named_all = and_parts (has_names t) (have_names kids) named in
      let closed_all = and_parts (has_no_close_mark t && starts_no_close_mark t kids) (have_no_close_mark kids) closed in
      let closed_first = and_parts (has_no_close_mark t) (starts_no_close_mark t kids) closed_all.0 in
      node_put t kids (merged_all kids) (forest_text kids) (front_units-merged kids) units.0 legal.0 closed_first.1
      (λ is. element_spelled t named_all.0 is_formed_all.0 units.0 legal.0 closed_first.0 is)
      (content_spelled kids named_all.1 is_formed_all.1 units.1 legal.1 closed_all.1)

is_element_is : {M : Type 0} (t : Tree M) → IsTrue (is_element t) → IsElement t
is_element_is (element x attrs ending kids mark) is = tt
is_element_is (text_node units) is = cc
is_element_is (cdata_node held) is = cc
is_element_is (misc_node held) is = cc

merged_is_element : {M : Type 0} (t : Tree M) → IsElement t → IsElement (merged t)
merged_is_element (element x attrs ending kids mark) is = tt
merged_is_element (text_node units) is = is
merged_is_element (cdata_node held) is = is
merged_is_element (misc_node held) is = is

pub view_written : {M : Type 0} (root : List ℕ) (doc : PlainDoc M) → IsLegalDocument root doc → SpellsView root (doc_text doc) doc
view_written root doc d =
    let is = is_element_is doc.root d.rooted in
    record {
      tree = merged doc.root;
      spelled = record {
        element = tree_text doc.root;
        is_prolog = d.prolog;
        is_element = merged_is_element doc.root is;
        is_root = element_spelled doc.root d.named d.formed d.units d.legal d.no_close_mark is;
        is_epilog = d.epilog;
        whole = refl;
      };
      same_view = view_before-merged doc.root done;
      same_depth = depth_of-merged doc.root;
    }

-- a printed document spells a view also where its bytes are only known to be legal: whether they
-- are is decided
pub view_kept : {M : Type 0} (root : List ℕ) (doc : PlainDoc M) → IsTrue (is_element doc.root) → IsTrue (has_names doc.root) → IsTrue (is_formed doc.root) → HasUnits doc.root → ∥ IsLegal doc.root ∥₁
    → IsTrue (has_no_close_mark doc.root) → IsProlog root doc.before → ∥ IsEpilog doc.after ∥₁ → SpellsView root (doc_text doc) doc
view_kept root doc rooted named formed units legal_there no_close_mark prolog epilog_there =
    view_written root doc record {
      rooted = rooted;
      named = named;
      formed = formed;
      units = units;
      legal = had (legal doc.root) legal_there;
      no_close_mark = no_close_mark;
      prolog = prolog;
      epilog = had (epilog doc.after) epilog_there;
    }
