-- The lists and the word of kids where one more stands after them.
use Rattle.std.proofs.Common.{◌≡◌, ◌≤◌, ℕ, ◌+◌, suc, List, [], ◌∷◌, ◌++◌, length, Bool, true, false, if◌then◌else◌, refl, sym, ap, ◌∙◌, append_assoc, append-nil, length-append, arith}
use Rattle.pv_chars.specs.Texts.{has_data}
use Rattle.pv_model.specs.Plain.{PlainToken, text}
use Rattle.pv_dtd.specs.Plain.{PlainDtd}
use Rattle.pv_tree.specs.Plain.{Tree, Ending, element, text_node, cdata_node, misc_node, forest_of}
use Rattle.pv_tree.specs.Lists.{lists_at, lists_from}
use Rattle.pv_tree.specs.Words.{node_before, word_of}
use Rattle.pv_tree.specs.declared.nodes.Mark.{Mark}
use Rattle.pv_read.specs.Left.{Open, just_opened, with_kid}
use Rattle.pv_lists.specs.WholeLists.{next_path, whole_lists}

lists_behind : (path : List ℕ) (i : ℕ) (kids : List (Tree Mark)) (t : Tree Mark) →
    lists_from path i (forest_of (kids ++ t ∷ [])) ≡ lists_from path i (forest_of kids)
    ++ lists_at (path ++ (i + length kids) ∷ []) t
lists_behind path i [] t =
    let same : i ≡ i + 0 = omega arith in
    append-nil (lists_at (path ++ i ∷ []) t) ∙ ap (λ k. lists_at (path ++ k ∷ []) t) same
lists_behind path i (k ∷ ks) t =
    let same : suc i + length ks ≡ i + suc (length ks) = omega arith in
    ap (λ l. lists_at (path ++ i ∷ []) k ++ l) (lists_behind path (suc i) ks t)
    ∙ sym (append_assoc (lists_at (path ++ i ∷ []) k) (lists_from path (suc i) (forest_of ks)) (lists_at (path ++ (suc i + length ks) ∷ []) t))
    ∙ ap (λ n. (lists_at (path ++ i ∷ []) k ++ lists_from path (suc i) (forest_of ks)) ++ lists_at (path ++ n ∷ []) t) same

-- one more kid of the innermost open element
pub whole_lists-with_kid : (o : Open Mark) (os : List (Open Mark)) (t : Tree Mark) → whole_lists (with_kid o t ∷ os) ≡ whole_lists (o ∷ os) ++ lists_at (next_path (o ∷ os)) t
whole_lists-with_kid o os t =
    let same : 0 + length o.kids ≡ length o.kids = omega arith in
    ap (λ l. whole_lists os ++ l) (lists_behind (next_path os) 0 o.kids t ∙ ap (λ n. lists_from (next_path os) 0 (forest_of o.kids) ++ lists_at (next_path os ++ n ∷ []) t) same)
    ∙ sym (append_assoc (whole_lists os) (lists_from (next_path os) 0 (forest_of o.kids)) (lists_at (next_path (o ∷ os)) t))

-- one more kid without lists
pub no_more : (o : Open Mark) (os : List (Open Mark)) (t : Tree Mark) → lists_at (next_path (o ∷ os)) t ≡ [] → whole_lists (with_kid o t ∷ os) ≡ whole_lists (o ∷ os)
no_more o os t none = whole_lists-with_kid o os t ∙ ap (λ l. whole_lists (o ∷ os) ++ l) none ∙ append-nil (whole_lists (o ∷ os))

-- ---- how many lists are whole
pub few_same : (o : Open Mark) (os : List (Open Mark)) (t : Tree Mark) → lists_at (next_path (o ∷ os)) t ≡ [] → length (whole_lists (with_kid o t ∷ os)) ≤ suc (length (whole_lists (o ∷ os)))
few_same o os t none = let same = ap length (no_more o os t none) in omega arith

pub few_begun : (name attrs : List ℕ) (os : List (Open Mark)) → length (whole_lists (just_opened name attrs ∷ os)) ≡ length (whole_lists os)
few_begun name attrs os = ap length (append-nil (whole_lists os))

-- an element ends in another
pub few_ended : (inner o : Open Mark) (os : List (Open Mark)) (attrs : List ℕ) (ending : Ending) (mark : Mark)
    → length (whole_lists (with_kid o (element inner.name attrs ending (forest_of inner.kids) mark) ∷ os)) ≤ suc (length (whole_lists (inner ∷ o ∷ os)))
few_ended inner o os attrs ending mark =
    let same = ap length (whole_lists-with_kid o os (element inner.name attrs ending (forest_of inner.kids) mark)) in
    let many = length-append (whole_lists (o ∷ os)) (lists_at (next_path (o ∷ os)) (element inner.name attrs ending (forest_of inner.kids) mark)) in
    let more = length-append (whole_lists (o ∷ os)) (lists_from (next_path (o ∷ os)) 0 (forest_of inner.kids)) in
    omega (arith, same, many, more)

text_before : (b : Bool) (u v : List PlainToken) → (if b then text ∷ (u ++ v) else (u ++ v)) ≡ (if b then text ∷ u else u) ++ v
text_before true u v = refl
text_before false u v = refl

before_joined : (g : PlainDtd) (t : Tree Mark) (u v : List PlainToken) → node_before g t (u ++ v) ≡ node_before g t u ++ v
before_joined g (element x attrs ending kids mark) u v = refl
before_joined g (text_node units) u v = text_before (has_data units) u v
before_joined g (cdata_node bytes) u v = refl
before_joined g (misc_node bytes) u v = refl

pub word_of-behind : (g : PlainDtd) (kids : List (Tree Mark)) (t : Tree Mark) → word_of g (forest_of (kids ++ t ∷ [])) ≡ word_of g (forest_of kids) ++ node_before g t []
word_of-behind g [] t = refl
word_of-behind g (k ∷ ks) t = ap (node_before g k) (word_of-behind g ks t) ∙ before_joined g k (word_of g (forest_of ks)) (node_before g t [])
