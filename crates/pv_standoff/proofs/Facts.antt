-- What a document keeps of its tree, where it stands for a text and ranges.
use Rattle.std.proofs.Common.{◌≡◌, ◌≤◌, ◌+◌, ◌*◌, ℕ, List, [], ◌∷◌, ◌++◌, true, false, not, ◌&&◌, inl, length, map, refl, sym, ◌∙◌, ap, subst, arith, length-append, append-nil}
use Rattle.std.proofs.lemmas.Bool.{or_parts}
use Rattle.std.proofs.lemmas.List.{length-map}
use Rattle.std.proofs.lemmas.List.Sorted.{length_permutation}
use Rattle.std.specs.List.{AllByRecursion}
use Rattle.pv_chars.specs.Names.{IsName, is_name}
use Rattle.pv_chars.specs.Texts.{begins_close_mark, holds_close_mark, joined}
use Rattle.pv_chars.specs.Units.{AllUnits}
use Rattle.pv_chars.proofs.NameLemmas.{is_name-IsName}
use Rattle.pv_tree.specs.Attributes.{AreMadeOf, IsAttributes, IsKnownReference}
use Rattle.pv_tree.specs.Legal.{MAX_NODES, IsLegal, AreLegal, is_formed, are_formed, has_names, have_names, front_units, is_open, have_no_close_mark, has_no_close_mark}
use Rattle.pv_tree.specs.Plain.{Tree, element, text_node, cdata_node, misc_node, Forest, no_trees, tree, nodes_in_all, nodes_in, is_element}
use Rattle.pv_tree.specs.Prolog.{IsProlog, IsEpilog}
use Rattle.pv_tree.specs.Units.{HasUnits, HaveUnits}
use Rattle.pv_tree.specs.declared.nodes.Mark.{Mark}
use Rattle.pv_standoff.specs.Ranges.{AreNamed, MAX_RANGES}
use Rattle.pv_standoff.specs.Spans.{StandsForRanges, document_of_root, root_of, span_of, units_of_all, spans_of_all, AreBare, AreApart, BeginsWithText}
use Rattle.pv_standoff.specs.declared.ranges.Range.{Range}
use Rattle.pv_standoff.proofs.Lists.{all-left, all-right}
use Rattle.pv_standoff.proofs.OneSortedOrder.{all-permutation}
use Rattle.pv_standoff.proofs.TextLemmas.{spells-left, spells-right}
use Rattle.pv_standoff.specs.Texts.{SpellsUnits}

formed : (kids : Forest Mark) → AreBare kids → are_formed kids ≡ true
formed no_trees b = refl
formed (tree (element x a g k m) rest) b = rw b.0.1 (rw (formed k b.0.3) (formed rest b.1))
formed (tree (text_node u) rest) b = formed rest b.1
formed (tree (cdata_node u) rest) b = absurd b.0
formed (tree (misc_node u) rest) b = absurd b.0

named : (n : ℕ) (kids : Forest Mark) → AreBare kids → AllByRecursion (λ s. is_name s.name ≡ true) (spans_of_all n kids) → have_names kids ≡ true
named n no_trees b h = refl
named n (tree (element x a g k m) rest) b h =
    rw h.0 (rw (named n k b.0.3 (all-left _ (spans_of_all n k) _ h.1)) (named (n + length (units_of_all k)) rest b.1 (all-right _ (spans_of_all n k) _ h.1)))
named n (tree (text_node u) rest) b h = named (n + length u) rest b.1 h
named n (tree (cdata_node u) rest) b h = absurd b.0
named n (tree (misc_node u) rest) b h = absurd b.0

some_units : (kids : Forest Mark) → AreBare kids → HaveUnits kids
some_units no_trees b = tt
some_units (tree (element x a g k m) rest) b = (some_units k b.0.3, some_units rest b.1)
some_units (tree (text_node u) rest) b = (b.0, some_units rest b.1)
some_units (tree (cdata_node u) rest) b = absurd b.0
some_units (tree (misc_node u) rest) b = absurd b.0

left_units : (a b : List (List ℕ)) → AllUnits (a ++ b) → AllUnits a
left_units [] b h = tt
left_units (x ∷ a) b h = (h.0, left_units a b h.1)

right_units : (a b : List (List ℕ)) → AllUnits (a ++ b) → AllUnits b
right_units [] b h = h
right_units (x ∷ a) b h = right_units a b h.1

nothing : (P : List ℕ → Type 0) → AreMadeOf P []
nothing P = record { pieces = []; are_pieces = tt; whole = refl }

no_attributes : IsAttributes IsKnownReference []
no_attributes = record { attributes = []; space = []; are_attributes = nothing _; is_space = refl; whole = refl }

legal : (kids : Forest Mark) → AreBare kids → AllUnits (units_of_all kids) → AreLegal kids
legal no_trees b u = tt
legal (tree (element x a g k m) rest) b u =
    let below = legal k b.0.3 (left_units (units_of_all k) (units_of_all rest) u) in
    (rw (b.0.0, b.0.1) (no_attributes, refl, below), legal rest b.1 (right_units (units_of_all k) (units_of_all rest) u))
legal (tree (text_node v) rest) b u = (left_units v (units_of_all rest) u, legal rest b.1 (right_units v (units_of_all rest) u))
legal (tree (cdata_node v) rest) b u = absurd b.0
legal (tree (misc_node v) rest) b u = absurd b.0

-- ---- `]]>`
open_units : (us : List (List ℕ)) → holds_close_mark us ≡ false → is_open us [] ≡ true
open_units [] h = refl
open_units (u ∷ us) h =
    let parts = or_parts (begins_close_mark (u ∷ us)) (holds_close_mark us) h in
    let P : List (List ℕ) → Type 0 = λ after. (not (begins_close_mark (u ∷ after)) && is_open us []) ≡ true in
    subst P (sym (append-nil us)) (rw parts.0 (open_units us parts.1))

no_front : (kids : Forest Mark) → (BeginsWithText kids → ⊥) → front_units kids ≡ []
no_front no_trees n = refl
no_front (tree (element x a g k m) rest) n = refl
no_front (tree (text_node u) rest) n = absurd (n tt)
no_front (tree (cdata_node u) rest) n = refl
no_front (tree (misc_node u) rest) n = refl

no_close_mark : (kids : Forest Mark) → AreBare kids → AreApart kids → SpellsUnits (joined (units_of_all kids)) (units_of_all kids) → have_no_close_mark kids ≡ true
no_close_mark no_trees b a s = refl
no_close_mark (tree (element x t g k m) rest) b a s =
    rw (no_close_mark k b.0.3 a.0 (spells-left (units_of_all k) (units_of_all rest) _ s)) (no_close_mark rest b.1 a.2 (spells-right (units_of_all k) (units_of_all rest) _ s))
no_close_mark (tree (text_node u) rest) b a s =
    let first = spells-left u (units_of_all rest) _ s in
    let below = no_close_mark rest b.1 a.2 (spells-right u (units_of_all rest) _ s) in
    rw (no_front rest (a.1 tt), open_units u first.none) below
no_close_mark (tree (cdata_node u) rest) b a s = absurd b.0
no_close_mark (tree (misc_node u) rest) b a s = absurd b.0

-- ---- nodes: each text stands before an element, or last
abbrev slack : Forest Mark → ℕ
slack no_trees = 0
slack (tree (element x a g k m) rest) = 0
slack (tree (text_node u) rest) = 1
slack (tree (cdata_node u) rest) = 0
slack (tree (misc_node u) rest) = 0

slack_least : (kids : Forest Mark) → slack kids ≤ 1
slack_least no_trees = omega arith
slack_least (tree (element x a g k m) rest) = omega arith
slack_least (tree (text_node u) rest) = omega arith
slack_least (tree (cdata_node u) rest) = omega arith
slack_least (tree (misc_node u) rest) = omega arith

slack_none : (kids : Forest Mark) → (BeginsWithText kids → ⊥) → slack kids ≡ 0
slack_none no_trees n = refl
slack_none (tree (element x a g k m) rest) n = refl
slack_none (tree (text_node u) rest) n = absurd (n tt)
slack_none (tree (cdata_node u) rest) n = refl
slack_none (tree (misc_node u) rest) n = refl

few : (n : ℕ) (kids : Forest Mark) → AreBare kids → AreApart kids → nodes_in_all kids ≤ 3 * length (spans_of_all n kids) + slack kids
few n no_trees b a = omega arith
few n (tree (element x t g k m) rest) b a =
    let inner = few n k b.0.3 a.0 in
    let after = few (n + length (units_of_all k)) rest b.1 a.2 in
    let i = slack_least k in
    let s = slack_least rest in
    let l = length-append (spans_of_all n k) (spans_of_all (n + length (units_of_all k)) rest) in
    omega (arith, inner, after, i, s, l)
few n (tree (text_node u) rest) b a =
    let after = few (n + length u) rest b.1 a.2 in
    let s = slack_none rest (a.1 tt) in
    omega (arith, after, s)
few n (tree (cdata_node u) rest) b a = absurd b.0
few n (tree (misc_node u) rest) b a = absurd b.0

-- ---- prolog and epilog
no_prolog : (root : List ℕ) → IsProlog root []
no_prolog root = record {
  mark = [];
  declaration = [];
  misc = [];
  doctype = [];
  more_misc = [];
  is_mark = inl refl;
  is_declaration = inl refl;
  is_misc = nothing _;
  is_doctype = inl refl;
  is_more_misc = nothing _;
  whole = refl;
}

no_epilog : IsEpilog []
no_epilog = nothing _

-- the facts of a document
pub record Keeps (root : List ℕ) (t : Tree Mark) : Type 0 where
  pub rooted : is_element t ≡ true
  pub formed : is_formed t ≡ true
  pub small : nodes_in t ≤ MAX_NODES
  pub named : has_names t ≡ true
  pub units : HasUnits t
  pub legal : IsLegal t
  pub no_close_mark : has_no_close_mark t ≡ true
  pub prolog : IsProlog root []
  pub epilog : IsEpilog []

named_spans : (rs : List Range) → AreNamed rs → AllByRecursion (λ s. is_name s.name ≡ true) (map span_of rs)
named_spans [] h = tt
named_spans (r ∷ rs) h = (is_name-IsName r.name h.0, named_spans rs h.1)

pub keeps : (root : List ℕ) (text : List (List ℕ)) (ranges : List Range) (t : Tree Mark) → StandsForRanges root text ranges (document_of_root t) → IsName root → AreNamed ranges →
    length ranges ≤ MAX_RANGES → SpellsUnits (joined text) text → Keeps root t
keeps root text ranges t s name names most spells =
    let is : t ≡ root_of root s.kids = ap (λ d. d.root) s.is_document in
    let p = (s.is_sorted).permutation in
    let l = ap length s.spans ∙ length-map s.sorted span_of ∙ length_permutation ranges s.sorted p in
    let n = all-permutation (λ r. IsName r.name) ranges s.sorted p names in
    let below = few 0 s.kids s.bare s.apart in
    let i = slack_least s.kids in
    let all = named 0 s.kids s.bare (subst (AllByRecursion (λ z. is_name z.name ≡ true)) (sym s.spans) (named_spans s.sorted n)) in
    let spelled = subst (λ z. SpellsUnits (joined z) z) (sym s.units) spells in
    rw is (record {
      rooted = refl;
      formed = formed s.kids s.bare;
      small = omega (arith, l, most, below, i);
      named = rw (is_name-IsName root name) all;
      units = some_units s.kids s.bare;
      legal = (no_attributes, refl, legal s.kids s.bare spelled.are_units);
      no_close_mark = no_close_mark s.kids s.bare s.apart spelled;
      prolog = no_prolog root;
      epilog = no_epilog;
    })
