-- Some bytes spell at most one document, marks aside.
use Rattle.std.proofs.Common.{◌≡◌, ℕ, max, List, [], Some, refl, sym, ap, subst, ◌∙◌, arith}
use Rattle.pv_chars.proofs.ByteOrderMarkLemmas.{same_byte_order_mark}
use Rattle.pv_tree.specs.Plain.{Tree, element, text_node, cdata_node, misc_node, Forest, no_trees, tree, PlainDoc, depth_of, map_marks, map_marks_all, without_marks}
use Rattle.pv_tree.specs.Marks.{unmarked_doc}
use Rattle.pv_read.specs.Grammar.{SpellsDocument}
use Rattle.pv_read.specs.Items.{Item, BeginsItem}
use Rattle.pv_read.specs.Left.{Left, at_front, in_prolog, in_epilog, left_by}
use Rattle.pv_read.proofs.NextItems.{no_item_in_nothing}
use Rattle.pv_read.proofs.OneItem.{one_item}
use Rattle.pv_read.proofs.AgreeNodes.{HoldsBefore}
use Rattle.pv_read.proofs.AgreeDocuments.{holds_at_start}

-- The items of the rest, one after another, leave this at its end.
data EndsIn {M : Type 0} (m : M) : Left M → List ℕ → Left M → Type 0 where
  none_left : {left : Left M} {rest : List ℕ} → rest ≡ [] → EndsIn m left rest left
  one_more : {left next end : Left M} {rest more : List ℕ} (i : Item) → BeginsItem i rest more → left_by m left i ≡ Some next → EndsIn m next more end → EndsIn m left rest end

items_hold_before : {M : Type 0} (m : M) (root : List ℕ) (limit : ℕ) (end : Left M) → HoldsBefore m root limit (λ left rest. EndsIn m left rest end)
items_hold_before m root limit end = record { step = λ i left next rest form well stands is behind. one_more i (record { has_form = form; whole = refl; ends_well = well }) stands behind }

module _ {M : Type 0} (m : M) where
  same_next : (left next other end : Left M) (rest more others : List ℕ) (i j : Item) →
      BeginsItem i rest more → BeginsItem j rest others → left_by m left i ≡ Some next →
      left_by m left j ≡ Some other → EndsIn m next more end → EndsIn m other others end
  same_next left next other end rest more others i j begins at stands there ends_in =
      let same = one_item i j rest more others begins at in
      let found : Some next ≡ Some other = sym stands ∙ ap (left_by m left) same.0 ∙ there in
      let left_is : next ≡ other = cc in
      subst (λ l. EndsIn m l others end) left_is (subst (λ r. EndsIn m next r end) same.1 ends_in)

  -- they leave one thing
  one_end : {left end other : Left M} {rest : List ℕ} → EndsIn m left rest end → EndsIn m left rest other → end ≡ other
  one_end (none_left e) (none_left f) = refl
  one_end (none_left e) (one_more j begins stands below) = absurd (no_item_in_nothing e begins)
  one_end (one_more i begins stands below) (none_left f) = absurd (no_item_in_nothing f begins)
  one_end {left = left} {end = end} (one_more {next = next} {rest = rest} {more = more} i begins stands below) (one_more {next = other_next} {more = others} j at there others_below) =
      one_end (same_next left next other_next end rest more others i j begins at stands there below) others_below

  -- two documents that are spelled leave one thing
  same_documents : (root bytes : List ℕ) (doc other : PlainDoc M) → SpellsDocument root bytes doc → SpellsDocument root bytes other
      → in_epilog doc.before (map_marks (λ _. m) doc.root) doc.after ≡ in_epilog other.before (map_marks (λ _. m) other.root) other.after
  same_documents root bytes doc other spells spells_other =
      let limit = max (depth_of doc.root) (depth_of other.root) in
      let end = in_epilog doc.before (map_marks (λ _. m) doc.root) doc.after in
      let other_end = in_epilog other.before (map_marks (λ _. m) other.root) other.after in
      let own_start = holds_at_start m root bytes doc limit (λ left rest. EndsIn m left rest end) (items_hold_before m root limit end) spells (omega arith) in
      let other_start = holds_at_start m root bytes other limit (λ left rest. EndsIn m left rest other_end) (items_hold_before m root limit other_end) spells_other (omega arith) in
      let start = same_byte_order_mark bytes own_start.mark own_start.rest other_start.mark other_start.rest own_start.starts other_start.starts in
      let ends_in = own_start.back (none_left refl) in
      let moved = subst (λ r. EndsIn m (in_prolog at_front other_start.mark) r end) start.1 (subst (λ b. EndsIn m (in_prolog at_front b) own_start.rest end) start.0 ends_in) in
      one_end moved (other_start.back (none_left refl))

-- ---- marks aside
mutual
  remarked_twice : {M N : Type 0} (f : M → N) (g : M → M) (t : Tree M) → map_marks f (map_marks g t) ≡ map_marks (λ m. f (g m)) t
  remarked_twice f g (element x attrs ending kids mark) = ap (λ k. element x attrs ending k (f (g mark))) (all_remarked_twice f g kids)
  remarked_twice f g (text_node units) = refl
  remarked_twice f g (cdata_node section) = refl
  remarked_twice f g (misc_node misc) = refl

  all_remarked_twice : {M N : Type 0} (f : M → N) (g : M → M) (kids : Forest M) → map_marks_all f (map_marks_all g kids) ≡ map_marks_all (λ m. f (g m)) kids
  all_remarked_twice f g no_trees = refl
  all_remarked_twice f g (tree t kids) = ap (λ s. tree s (map_marks_all f (map_marks_all g kids))) (remarked_twice f g t) ∙ ap (tree (map_marks (λ m. f (g m)) t)) (all_remarked_twice f g kids)

same_unmarked : {M : Type 0} (m : M) (doc other : PlainDoc M) →
    in_epilog doc.before (map_marks (λ _. m) doc.root) doc.after ≡ in_epilog other.before
    (map_marks (λ _. m) other.root) other.after → unmarked_doc doc ≡ unmarked_doc other
same_unmarked {M} m doc other same =
    let without : M → Unit {0} = λ _. tt in
    let before : doc.before ≡ other.before = cc in
    let after : doc.after ≡ other.after = cc in
    let root : map_marks (λ _. m) doc.root ≡ map_marks (λ _. m) other.root = cc in
    let unmarked_root : without_marks doc.root ≡ without_marks other.root = sym (remarked_twice without (λ _. m) doc.root) ∙ ap (map_marks without) root ∙ remarked_twice without (λ _. m) other.root in
    λ i. record { before = before i; root = unmarked_root i; after = after i; mark = tt }

pub one_document : {M : Type 0} (m : M) (root bytes : List ℕ) (doc other : PlainDoc M) → SpellsDocument root bytes doc → SpellsDocument root bytes other → unmarked_doc doc ≡ unmarked_doc other
one_document m root bytes doc other spells spells_other = same_unmarked m doc other (same_documents m root bytes doc other spells spells_other)
