-- Items lead from what is left to what they leave, and so do the nodes that they spell.
use Rattle.std.proofs.Common.{◌≡◌, IsTrue, ◌≤◌, ◌+◌, ℕ, suc, List, [], ◌∷◌, ◌++◌, true, false, inr, codes, length, Some, append-nil, append_assoc, refl, sym, ap, subst, ◌∙◌, arith}
use Rattle.std.proofs.lemmas.Bool.{not-true}
use Rattle.pv_chars.specs.Spaces.{IsOptionalSpace}
use Rattle.pv_chars.specs.Names.{IsName}
use Rattle.pv_chars.specs.Units.{units_in}
use Rattle.pv_tree.specs.Plain.{short, tagged, Tree, element, text_node, cdata_node, misc_node, Forest, no_trees, tree, trees_of, depth_of, depth_of_all, map_marks, map_marks_all}
use Rattle.pv_tree.specs.Attributes.{IsAttributes, IsKnownReference, IsCharacterData}
use Rattle.pv_read.specs.Grammar.{SpellsNode, SpellsContent, IsWholeRun, begins_with_text}
use Rattle.pv_read.specs.Items.{Item, comment_or_instruction, cdata_section, start_tag, empty_tag, end_tag, text_run, bytes_of, HasForm, HasKnownReferences, EndsWell, IsRunEnd}
use Rattle.pv_read.specs.Left.{Open, Left, in_content, left_by, just_opened, closed_element, with_kid, joined_to, empty_element, open_elements}
use Rattle.pv_read.specs.Kinds.{IsMismatch, IsOtherDoctype, opens_element}
use Rattle.pv_read.proofs.DocumentFacts.{units_are_cut}
use Rattle.pv_tree.proofs.Levels.{forest-trees}
use Rattle.pv_read.proofs.AgreeInvariant.{is_text}
use Rattle.pv_read.proofs.AgreeForms.{attributes_form, data_form, content_ends_run}

-- An item is in its place: its references are known, an end tag and a document type declaration have the right name, and elements stand at
-- most so deep.
pub record IsInPlace {M : Type 0} (root : List ℕ) (limit : ℕ) (left : Left M) (i : Item) : Type 0 where
  pub known : HasKnownReferences i
  pub matches : IsMismatch left i → ⊥
  pub names : IsOtherDoctype root i → ⊥
  pub within : IsTrue (opens_element i) → suc (open_elements left) ≤ limit

-- What holds after an item that stands in its place holds before it.
pub record HoldsBefore {M : Type 0} (m : M) (root : List ℕ) (limit : ℕ) (P : Left M → List ℕ → Type 0) : Type 0 where
  pub step : (i : Item) (left next : Left M) (rest : List ℕ) → HasForm i → EndsWell i rest → left_by m left i ≡ Some next → IsInPlace root limit left i → P next rest → P left (bytes_of i ++ rest)

-- ---- in the root
abbrev pub more_kids : {M : Type 0} → Open M → List (Tree M) → Open M
more_kids o ts = record { name = o.name; attrs = o.attrs; kids = o.kids ++ ts }

pub within_of : (limit depth level : ℕ) → level + suc depth ≤ limit → suc level ≤ limit
within_of limit depth level within = omega arith

deeper : (limit depth level : ℕ) → level + suc depth ≤ limit → suc level + depth ≤ limit
deeper limit depth level within = omega arith

pub text_means : {M : Type 0} (m : M) (root before : List ℕ) (inner : Open M)
    (outer : List (Open M)) (bytes rest : List ℕ) (limit : ℕ) (P : Left M → List ℕ → Type 0) →
    HoldsBefore m root limit P → IsCharacterData IsKnownReference bytes → IsRunEnd rest
    → P (in_content before (with_kid inner (text_node (units_in bytes))) outer) rest → P (in_content before inner outer) (bytes ++ rest)
text_means m root before inner outer bytes rest limit P steps chars ends behind =
    steps.step (text_run bytes) (in_content before inner outer) (in_content before (with_kid inner (text_node (units_in bytes))) outer) rest (data_form bytes chars) ends refl
    (record { known = chars; matches = λ is. is; names = λ is. is; within = λ is. let no_open : false ≡ true = is in cc }) behind

pub empty_means : {M : Type 0} (m : M) (root : List ℕ) (left next : Left M)
    (name attrs rest : List ℕ) (limit : ℕ) (P : Left M → List ℕ → Type 0) →
    HoldsBefore m root limit P → IsName name → IsAttributes IsKnownReference attrs →
    left_by m left (empty_tag name attrs) ≡ Some next
    → suc (open_elements left) ≤ limit → P next rest → P left (codes "<" ++ name ++ attrs ++ codes "/>" ++ rest)
empty_means m root left next name attrs rest limit P steps is_name are stands within behind =
    let whole : bytes_of (empty_tag name attrs) ++ rest ≡ codes "<" ++ name ++ attrs ++ codes "/>" ++ rest = simp append_assoc refl in
    subst (λ b. P left b) whole
    (steps.step (empty_tag name attrs) left next rest (is_name, attributes_form attrs are) tt stands (record { known = are; matches = λ is. is; names = λ is. is; within = λ is. within }) behind)

start_means : {M : Type 0} (m : M) (root : List ℕ) (left next : Left M) (name attrs rest : List ℕ)
    (limit : ℕ) (P : Left M → List ℕ → Type 0) → HoldsBefore m root limit P → IsName name →
    IsAttributes IsKnownReference attrs → left_by m left (start_tag name attrs) ≡ Some next
    → suc (open_elements left) ≤ limit → P next rest → P left (bytes_of (start_tag name attrs) ++ rest)
start_means m root left next name attrs rest limit P steps is_name are stands within behind =
    steps.step (start_tag name attrs) left next rest (is_name, attributes_form attrs are) tt stands (record { known = are; matches = λ is. is; names = λ is. is; within = λ is. within }) behind

end_means : {M : Type 0} (m : M) (root before : List ℕ) (inner : Open M) (outer : List (Open M))
    (gap rest : List ℕ) (limit : ℕ) (P : Left M → List ℕ → Type 0) → HoldsBefore m root limit P →
    IsName inner.name → IsOptionalSpace gap
    → P (joined_to before outer (closed_element m inner gap)) rest → P (in_content before inner outer) (bytes_of (end_tag inner.name gap) ++ rest)
end_means m root before inner outer gap rest limit P steps is_name white behind =
    steps.step (end_tag inner.name gap) (in_content before inner outer) (joined_to before outer (closed_element m inner gap)) rest (is_name, white) tt refl
    (record { known = tt; matches = λ is. is refl; names = λ is. is; within = λ is. let no_open : false ≡ true = is in cc }) behind

-- a start tag, the content and the end tag
pub tagged_means : {M : Type 0} (m : M) (root : List ℕ) (left : Left M)
    (before name attrs gap content rest : List ℕ) (kids : Forest M) (outer : List (Open M))
    (limit : ℕ) (P : Left M → List ℕ → Type 0) → HoldsBefore m root limit P
    → IsName name → IsAttributes IsKnownReference attrs → IsOptionalSpace gap →
    left_by m left (start_tag name attrs) ≡ Some (in_content before (just_opened name attrs)
    outer) → suc (open_elements left) ≤ limit
    → (P (in_content before (more_kids (just_opened name attrs) (trees_of kids)) outer)
    (bytes_of (end_tag name gap) ++ rest) → P (in_content before (just_opened name attrs) outer)
    (content ++ (bytes_of (end_tag name gap) ++ rest)))
    → P (joined_to before outer (element name attrs (tagged gap) kids m)) rest
    → P left (codes "<" ++ name ++ attrs ++ codes ">" ++ content ++ codes "</" ++ name ++ gap ++ codes ">" ++ rest)
tagged_means m root left before name attrs gap content rest kids outer limit P steps is_name are white stands within inside behind =
    let whole : bytes_of (start_tag name attrs) ++ (content ++ (bytes_of (end_tag name gap)
    ++ rest)) ≡ codes "<" ++ name ++ attrs ++ codes ">" ++ content ++ codes "</" ++ name ++ gap
    ++ codes ">" ++ rest = simp append_assoc refl in
    let closes = subst (λ k. P (joined_to before outer (element name attrs (tagged gap) k m)) rest) (sym (forest-trees kids)) behind in
    subst (λ b. P left b) whole
    (start_means m root left (in_content before (just_opened name attrs) outer) name attrs (content ++ (bytes_of (end_tag name gap) ++ rest)) limit P steps is_name are stands within
    (inside (end_means m root before (more_kids (just_opened name attrs) (trees_of kids)) outer gap rest limit P steps is_name white closes)))

-- no text follows a text
text_then_none : {M : Type 0} (t : Tree M) (kids : Forest M) → IsWholeRun t kids → is_text t ≡ true → begins_with_text kids ≡ false
text_then_none (element x attrs ending nodes mark) kids whole_run is = cc
text_then_none (text_node units) kids whole_run is = not-true (begins_with_text kids) whole_run
text_then_none (cdata_node section) kids whole_run is = cc
text_then_none (misc_node misc) kids whole_run is = cc

mutual
  -- a node after what is left in the root, where a text is a whole run
  pub node_means : {M : Type 0} (m : M) (root before : List ℕ) (limit : ℕ) (P : Left M → List ℕ →
      Type 0) → HoldsBefore m root limit P → (t : Tree M) (inner : Open M) (outer : List (Open M))
      (bytes rest : List ℕ) → SpellsNode t bytes → (is_text t ≡ true → IsRunEnd rest)
      → suc (length outer) + depth_of t ≤ limit → P (in_content before (with_kid inner (map_marks (λ _. m) t)) outer) rest → P (in_content before inner outer) (bytes ++ rest)
  node_means m root before limit P steps (element x attrs short kids mark) inner outer bytes rest (name, are, none, whole) run within behind =
      let same : map_marks (λ _. m) (element x attrs short kids mark) ≡ empty_element m x attrs = rw none refl in
      subst (λ b. P (in_content before inner outer) (b ++ rest)) (sym whole)
      (empty_means m root (in_content before inner outer) (in_content before
      (with_kid inner (empty_element m x attrs)) outer) x attrs rest limit P steps name are refl
      (within_of limit (depth_of_all kids) (suc (length outer)) within)
      (subst (λ t. P (in_content before (with_kid inner t) outer) rest) same behind))
  node_means m root before limit P steps (element x attrs (tagged gap) kids mark) inner outer bytes rest (content, name, are, white, spells, whole) run within behind =
      subst (λ b. P (in_content before inner outer) (b ++ rest)) (sym whole)
      (tagged_means m root (in_content before inner outer) before x attrs gap content rest
      (map_marks_all (λ _. m) kids) (inner ∷ outer) limit P steps name are white refl
      (within_of limit (depth_of_all kids) (suc (length outer)) within)
      (content_means m root before limit P steps kids (just_opened x attrs) (inner ∷ outer) content
      (bytes_of (end_tag x gap) ++ rest) spells (inr (_, refl))
      (deeper limit (depth_of_all kids) (suc (length outer)) within)) behind)
  node_means m root before limit P steps (text_node units) inner outer bytes rest (chars, all, whole) run within behind =
      text_means m root before inner outer bytes rest limit P steps chars (run refl)
      (subst (λ u. P (in_content before (with_kid inner (text_node u)) outer) rest) (units_are_cut units bytes all whole) behind)
  node_means m root before limit P steps (cdata_node section) inner outer bytes rest (is, same) run within behind =
      subst (λ b. P (in_content before inner outer) (b ++ rest)) (sym same)
      (steps.step (cdata_section section) (in_content before inner outer) (in_content before (with_kid inner (cdata_node section)) outer) rest is tt refl
      (record { known = tt; matches = λ is. is; names = λ is. is; within = λ is. let no_open : false ≡ true = is in cc }) behind)
  node_means m root before limit P steps (misc_node misc) inner outer bytes rest (is, same) run within behind =
      subst (λ b. P (in_content before inner outer) (b ++ rest)) (sym same)
      (steps.step (comment_or_instruction misc) (in_content before inner outer) (in_content before (with_kid inner (misc_node misc)) outer) rest is tt refl
      (record { known = tt; matches = λ is. is; names = λ is. is; within = λ is. let no_open : false ≡ true = is in cc }) behind)

  -- content after what is left in the root
  pub content_means : {M : Type 0} (m : M) (root before : List ℕ) (limit : ℕ) (P : Left M → List ℕ →
      Type 0) → HoldsBefore m root limit P → (kids : Forest M) (inner : Open M)
      (outer : List (Open M)) (bytes rest : List ℕ) → SpellsContent kids bytes → IsRunEnd rest
      → suc (length outer) + depth_of_all kids ≤ limit → P (in_content before (more_kids inner (trees_of (map_marks_all (λ _. m) kids))) outer) rest
      → P (in_content before inner outer) (bytes ++ rest)
  content_means m root before limit P steps no_trees inner outer bytes rest spells ends within behind =
      let same : more_kids inner [] ≡ inner = ap (λ kids. record { name = inner.name; attrs = inner.attrs; kids = kids }) (append-nil inner.kids) in
      subst (λ b. P (in_content before inner outer) (b ++ rest)) (sym spells) (subst (λ i. P (in_content before i outer) rest) same behind)
  content_means {M} m root before limit P steps (tree t kids) inner outer bytes rest (first, others, spells, whole_run, below, whole) ends within behind =
      let f : M → M = λ _. m in
      let same : more_kids inner (trees_of (map_marks_all f (tree t kids))) ≡ more_kids (with_kid inner (map_marks f t)) (trees_of (map_marks_all f kids)) =
      ap (λ kids. record { name = inner.name; attrs = inner.attrs; kids = kids }) (sym (append_assoc inner.kids (map_marks f t ∷ []) (trees_of (map_marks_all f kids)))) in
      subst (λ b. P (in_content before inner outer) b) (sym (append_assoc first others rest) ∙ ap (λ b. b ++ rest) (sym whole))
      (node_means m root before limit P steps t inner outer first (others ++ rest) spells (λ is. content_ends_run kids others rest below (text_then_none t kids whole_run is) ends) (omega arith)
      (content_means m root before limit P steps kids (with_kid inner (map_marks f t)) outer others rest below ends (omega arith)
      (subst (λ i. P (in_content before i outer) rest) same behind)))
