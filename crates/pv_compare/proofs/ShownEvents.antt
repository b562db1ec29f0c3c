-- The events of a tree are those of the hedge that it shows, but for how texts are cut.
use Rattle.std.proofs.Common.{Bool, List, [], append_assoc, append-nil, ap, refl, sym, suc, true, false, map, ℕ, ◌++◌, ◌∙◌, ◌∷◌, ◌≡◌, if◌then◌else◌}
use Rattle.std.proofs.lemmas.List.{map-append}
use Rattle.pv_chars.specs.Units.{AllUnits, IsUnit}
use Rattle.pv_tree.specs.Plain.{Forest, Tree, cdata_node, element, misc_node, no_trees, text_node, tree}
use Rattle.pv_dtd.specs.Hedge.{Hedge, data_unit, done, elem, leaf, white}
use Rattle.pv_missing.specs.Completions.{LeavesOut, out_done, out_kept, out_leaf, out_new}
use Rattle.pv_flat.specs.Plain.{PlainEvent, begin_element, cdata_here, end_element, events_of, events_of_all, misc_here, text_here}
use Rattle.pv_chars.specs.Texts.{is_data, joined}
use Rattle.pv_missing.specs.Extensions.{join}
use Rattle.pv_tree.specs.View.{spread, unit_leaf, view, view_all, view_before}
use Rattle.pv_compare.specs.LeftOut.{HasUnitTexts, HaveUnitTexts, behind_first, bytewise, is_left_out, is_marked, kept_events, marks_left}
use Rattle.pv_compare.proofs.LeftOutHedges.{leaf_event, shown}
use Rattle.pv_compare.proofs.OneHedge.{HasUnitLeaves, IsUnitLeaf, bytewise-append, texts}

unit-event : (u : List ℕ) → leaf_event (unit_leaf u) ≡ text_here u
unit-event u = by (is_data u)
  where
    by : (b : Bool) → leaf_event (if b then data_unit u else white u) ≡ text_here u
    by true = refl
    by false = refl

shown-spread : (us : List (List ℕ)) (h : Hedge) → bytewise (shown (spread us h)) ≡ texts (joined us) ++ bytewise (shown h)
shown-spread [] h = refl
shown-spread (u ∷ us) h =
    ap (λ e. bytewise (e ∷ shown (spread us h))) (unit-event u)
    ∙ ap (λ l. texts u ++ l) (shown-spread us h)
    ∙ sym (append_assoc (texts u) (texts (joined us)) (bytewise (shown h)))
    ∙ ap (λ l. l ++ bytewise (shown h)) (sym (map-append (λ b. text_here (b ∷ [])) u (joined us)))

mutual
  shown-before : {M : Type 0} (t : Tree M) (h : Hedge) → bytewise (shown (view_before t h)) ≡ bytewise (events_of t) ++ bytewise (shown h)
  shown-before (element x attrs ending kids mark) h =
      ap (λ l. begin_element x attrs ∷ l)
      (bytewise-append (shown (view_all kids)) (end_element ∷ shown h)
      ∙ ap (λ l. l ++ end_element ∷ bytewise (shown h)) (shown-all kids)
      ∙ sym (append_assoc (bytewise (events_of_all kids)) (end_element ∷ []) (bytewise (shown h)))
      ∙ ap (λ l. l ++ bytewise (shown h)) (sym (bytewise-append (events_of_all kids) (end_element ∷ []))))
  shown-before (text_node units) h = shown-spread units h ∙ ap (λ l. l ++ bytewise (shown h)) (sym (append-nil (texts (joined units))))
  shown-before (cdata_node bytes) h = refl
  shown-before (misc_node bytes) h = refl

  shown-all : {M : Type 0} (kids : Forest M) → bytewise (shown (view_all kids)) ≡ bytewise (events_of_all kids)
  shown-all no_trees = refl
  shown-all (tree t rest) = shown-before t (view_all rest) ∙ ap (λ l. bytewise (events_of t) ++ l) (shown-all rest) ∙ sym (bytewise-append (events_of t) (events_of_all rest))

pub shown-tree : {M : Type 0} (t : Tree M) → bytewise (shown (view t)) ≡ bytewise (events_of t)
shown-tree t = shown-before t done ∙ append-nil (bytewise (events_of t))

-- texts stay, however they are cut
kept-texts : (n : ℕ) (marks : List ℕ) (outs : List Bool) (bytes : List ℕ) (es : List PlainEvent) → kept_events n marks outs (texts bytes ++ es) ≡ texts bytes ++ kept_events n marks outs es
kept-texts n marks outs [] es = refl
kept-texts n marks outs (b ∷ bytes) es = ap (λ l. text_here (b ∷ []) ∷ l) (kept-texts n marks outs bytes es)

left-texts : (n : ℕ) (marks bytes : List ℕ) (es : List PlainEvent) → marks_left n marks (texts bytes ++ es) ≡ marks_left n marks es
left-texts n marks [] es = refl
left-texts n marks (b ∷ bytes) es = left-texts n marks bytes es

pub kept-bytewise : (n : ℕ) (marks : List ℕ) (outs : List Bool) (es : List PlainEvent) → bytewise (kept_events n marks outs es) ≡ kept_events n marks outs (bytewise es)
kept-bytewise n marks outs [] = refl
kept-bytewise n marks outs (begin_element x t ∷ es) = by (is_marked n marks t) (kept-bytewise (suc n) (behind_first marks) (true ∷ outs) es) (kept-bytewise (suc n) marks (false ∷ outs) es)
  where
    by : (b : Bool) → bytewise (kept_events (suc n) (behind_first marks) (true ∷ outs) es) ≡ kept_events (suc n) (behind_first marks) (true ∷ outs) (bytewise es) →
        bytewise (kept_events (suc n) marks (false ∷ outs) es) ≡ kept_events (suc n) marks (false ∷ outs) (bytewise es) →
        bytewise (if b then kept_events (suc n) (behind_first marks) (true ∷ outs) es else begin_element x t ∷ kept_events (suc n) marks (false ∷ outs) es) ≡
        (if b then kept_events (suc n) (behind_first marks) (true ∷ outs) (bytewise es) else begin_element x t ∷ kept_events (suc n) marks (false ∷ outs) (bytewise es))
    by true p q = p
    by false p q = ap (λ l. begin_element x t ∷ l) q
kept-bytewise n marks outs (end_element ∷ es) = by (is_left_out outs) (kept-bytewise n marks (behind_first outs) es)
  where
    by : (b : Bool) → bytewise (kept_events n marks (behind_first outs) es) ≡ kept_events n marks (behind_first outs) (bytewise es) →
        bytewise (if b then kept_events n marks (behind_first outs) es else end_element ∷ kept_events n marks (behind_first outs) es) ≡
        (if b then kept_events n marks (behind_first outs) (bytewise es) else end_element ∷ kept_events n marks (behind_first outs) (bytewise es))
    by true p = p
    by false p = ap (λ l. end_element ∷ l) p
kept-bytewise n marks outs (text_here b ∷ es) = ap (λ l. texts b ++ l) (kept-bytewise n marks outs es) ∙ sym (kept-texts n marks outs b (bytewise es))
kept-bytewise n marks outs (cdata_here b ∷ es) = ap (λ l. cdata_here b ∷ l) (kept-bytewise n marks outs es)
kept-bytewise n marks outs (misc_here b ∷ es) = ap (λ l. misc_here b ∷ l) (kept-bytewise n marks outs es)

pub left-bytewise : (n : ℕ) (marks : List ℕ) (es : List PlainEvent) → marks_left n marks es ≡ marks_left n marks (bytewise es)
left-bytewise n marks [] = refl
left-bytewise n marks (begin_element x t ∷ es) = by (is_marked n marks t) (left-bytewise (suc n) (behind_first marks) es) (left-bytewise (suc n) marks es)
  where
    by : (b : Bool) → marks_left (suc n) (behind_first marks) es ≡ marks_left (suc n) (behind_first marks) (bytewise es) → marks_left (suc n) marks es ≡ marks_left (suc n) marks (bytewise es) →
        (if b then marks_left (suc n) (behind_first marks) es else marks_left (suc n) marks es)
        ≡ (if b then marks_left (suc n) (behind_first marks) (bytewise es) else marks_left
        (suc n) marks (bytewise es))
    by true p q = p
    by false p q = q
left-bytewise n marks (end_element ∷ es) = left-bytewise n marks es
left-bytewise n marks (text_here b ∷ es) = left-bytewise n marks es ∙ sym (left-texts n marks b (bytewise es))
left-bytewise n marks (cdata_here b ∷ es) = left-bytewise n marks es
left-bytewise n marks (misc_here b ∷ es) = left-bytewise n marks es

-- ---- units
unit-is : (u : List ℕ) → IsUnit u → IsUnitLeaf (unit_leaf u)
unit-is u is = by (is_data u) refl
  where
    by : (b : Bool) → is_data u ≡ b → IsUnitLeaf (if b then data_unit u else white u)
    by true e = (is, ap (λ b. if b then data_unit u else white u) e)
    by false e = (is, ap (λ b. if b then data_unit u else white u) e)

spread-units : (us : List (List ℕ)) (h : Hedge) → AllUnits us → HasUnitLeaves h → HasUnitLeaves (spread us h)
spread-units [] h all leaves = leaves
spread-units (u ∷ us) h (is, all) leaves = (unit-is u is, spread-units us h all leaves)

mutual
  units-before : {M : Type 0} (t : Tree M) (h : Hedge) → HasUnitTexts t → HasUnitLeaves h → HasUnitLeaves (view_before t h)
  units-before (element x attrs ending kids mark) h texts leaves = (units-all kids texts, leaves)
  units-before (text_node units) h texts leaves = spread-units units h texts leaves
  units-before (cdata_node bytes) h texts leaves = (tt, leaves)
  units-before (misc_node bytes) h texts leaves = (tt, leaves)

  units-all : {M : Type 0} (kids : Forest M) → HaveUnitTexts kids → HasUnitLeaves (view_all kids)
  units-all no_trees texts = tt
  units-all (tree t rest) (here, more) = units-before t (view_all rest) here (units-all rest more)

pub units-tree : {M : Type 0} (t : Tree M) → HasUnitTexts t → HasUnitLeaves (view t)
units-tree t texts = units-before t done texts tt

join-units : (a b : Hedge) → HasUnitLeaves a → HasUnitLeaves b → HasUnitLeaves (join a b)
join-units done b p q = q
join-units (leaf l a) b (here, p) q = (here, join-units a b p q)
join-units (elem x t k a) b (kids, p) q = (kids, join-units a b p q)

-- what is left has the leaves that stood there
pub out-units : {m e : ℕ} {added : List ℕ} {h h' : Hedge} → LeavesOut m e added h h' → HasUnitLeaves h' → HasUnitLeaves h
out-units (out_done m e same) units = tt
out-units (out_leaf m e added l h h' o) (here, units) = (here, out-units o units)
out-units (out_kept m i e added one two x t k k' h h' is a b) (kids, units) = (out-units a kids, out-units b units)
out-units (out_new m i e added one two x h h1 h2 k' h' is same a b) (kids, units) = Rattle.std.proofs.Common.subst HasUnitLeaves (sym same) (join-units h1 h2 (out-units a kids) (out-units b units))
