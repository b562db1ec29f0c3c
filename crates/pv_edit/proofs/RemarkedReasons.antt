-- Why an edit is refused, and what undoes it, whatever the marks are.
use Rattle.std.proofs.Common.{◌≡◌, ◌∙◌, ap, sym, refl, ℕ, zero, suc, ◌+◌, Bool, not, ◌&&◌, ◌||◌, List, [], ◌∷◌, ◌++◌, length, map, Option, Some, None}
use Rattle.std.specs.Prelude.{nat_lt, nat_le, ◌==◌}
use Rattle.std.specs.Option.{option_map, option_and_then}
use Rattle.std.proofs.lemmas.List.{length-map}
use Rattle.pv_tree.specs.Plain.{Tree, element, text_node, cdata_node, misc_node, forest_of, trees_of, is_element, map_marks, depth_of, PlainDoc}
use Rattle.pv_tree.specs.Places.{Spot, at_document, node_below, list_of, list_at, spot_at}
use Rattle.pv_tree.specs.Places.{at_node as at_spot}
use Rattle.pv_tree.specs.Legal.{MAX_DEPTH}
use Rattle.pv_tree.specs.Marks.{unmarked_doc}
use Rattle.pv_edit.specs.Changes.{Change, list_after, root_after, doc_after}
use Rattle.pv_edit.specs.Effects.{change_of, next_of, parent_of, kid_place}
use Rattle.pv_edit.specs.GivenNames.{is_new_name}
use Rattle.pv_edit.specs.Laws.{MarksDontCount, unmarked_outcome}
use Rattle.pv_edit.specs.Inverses.{IsKept, LeadsBack, ends_short, name_on, end_of, put_back, inverse_of}
use Rattle.pv_edit.specs.Reasons.{is_given, is_spot, is_root, is_one_element, items_of, kids_at, lacks_node, lacks_list, lacks_element, lacks_text}
use Rattle.pv_edit.specs.Reasons.{goes_too_deep, makes_close_mark, spells_close_mark, unless, reason_of, edit_outcome, outcome, gives}
use Rattle.pv_edit.specs.declared.reasons.Reason.{Reason}
use Rattle.pv_edit.specs.declared.reasons.Reason.TheVariants.{NoNode, NotElement, NotText, Range, BadName, BadText, RootShape, Deep, CloseMark}
use Rattle.pv_edit.specs.declared.edits.Edit.{Edit}
use Rattle.pv_edit.specs.declared.edits.Edit.TheVariants.{Wrap, Insert, Unwrap, Rename, Split, Join, SetText, AddText, DelText}
use Rattle.pv_edit.specs.declared.inverses.Inverse.TheVariants.{TakeOut, PutBack, Name, Divide, Text, Discard, Restore}
use Rattle.pv_edit.proofs.InverseLeads.{given-reason, given-doc}
use Rattle.pv_edit.proofs.RemarkedChanges.{change_as, spot_as, trees-as, node-as, spot-as, units-as, text-as, one-as, element-as, list-as, root-as}
use Rattle.pv_edit.proofs.RemarkedFacts.{depth-as, spells-as, kept-to}

given-as : {A B : Type 0} (g : A → B) (o : Option A) → is_given (option_map g o) ≡ is_given o
given-as g None = refl
given-as g (Some x) = refl

list-of-as : {M N : Type 0} (f : M → N) (t : Tree M) → list_of (map_marks f t) ≡ option_map (map (map_marks f)) (list_of t)
list-of-as f (element x attrs e kids m) = ap Some (trees-as f kids)
list-of-as f (text_node units) = refl
list-of-as f (cdata_node bytes) = refl
list-of-as f (misc_node bytes) = refl

list-at-as : {M N : Type 0} (f : M → N) (path : List ℕ) (root : Tree M) → list_at path (map_marks f root) ≡ option_map (map (map_marks f)) (list_at path root)
list-at-as f [] root = refl
list-at-as f (zero ∷ path) root =
    ap (option_and_then list_of) (node-as f path root)
    ∙ elim (node_below path root) as (λ o. option_and_then list_of (option_map (map_marks f) o) ≡ option_map (map (map_marks f)) (option_and_then list_of o)) [ None ↦ refl | Some u ↦ list-of-as f u ]
list-at-as f (suc i ∷ path) root = refl

items-as : {M N : Type 0} (f : M → N) (o : Option (List (Tree M))) → items_of (option_map (map (map_marks f)) o) ≡ map (map_marks f) (items_of o)
items-as f None = refl
items-as f (Some ts) = refl

kids-at-as : {M N : Type 0} (f : M → N) (path : List ℕ) (root : Tree M) → kids_at path (map_marks f root) ≡ map (map_marks f) (kids_at path root)
kids-at-as f path root = ap items_of (list-at-as f path root) ∙ items-as f (list_at path root)

kids-number-as : {M N : Type 0} (f : M → N) (path : List ℕ) (root : Tree M) → length (kids_at path (map_marks f root)) ≡ length (kids_at path root)
kids-number-as f path root = ap length (kids-at-as f path root) ∙ length-map (kids_at path root) (map_marks f)

lacks-node-as : {M N : Type 0} (f : M → N) (path : List ℕ) (root : Tree M) → lacks_node path (map_marks f root) ≡ lacks_node path root
lacks-node-as f path root = ap not (ap is_given (spot-as f path root) ∙ given-as (spot_as f) (spot_at path root))

lacks-list-as : {M N : Type 0} (f : M → N) (path : List ℕ) (root : Tree M) → lacks_list path (map_marks f root) ≡ lacks_list path root
lacks-list-as f path root = ap not (ap is_given (list-at-as f path root) ∙ given-as (map (map_marks f)) (list_at path root))

element-on-as : {M N : Type 0} (f : M → N) (o : Option (Spot M)) → is_spot is_element (option_map (spot_as f) o) ≡ is_spot is_element o
element-on-as f None = refl
element-on-as f (Some at_document) = refl
element-on-as f (Some (at_spot t)) = element-as f t

lacks-element-as : {M N : Type 0} (f : M → N) (path : List ℕ) (root : Tree M) → lacks_element path (map_marks f root) ≡ lacks_element path root
lacks-element-as f path root = ap not (ap (is_spot is_element) (spot-as f path root) ∙ element-on-as f (spot_at path root))

change-of-as : {M N : Type 0} (f : M → N) (blank : M) (root : Tree M) (edit : Edit) → change_as f (change_of blank root edit) ≡ change_of (f blank) (map_marks f root) edit
change-of-as f blank root (Wrap path from to name) = refl
change-of-as f blank root (Insert path at name) = refl
change-of-as f blank root (Unwrap path) = refl
change-of-as f blank root (Rename path name) = refl
change-of-as f blank root (Split path at) = rw (units-as f path root) refl
change-of-as f blank root (Join path) = rw (units-as f path root, units-as f (next_of path) root) refl
change-of-as f blank root (SetText path text) = refl
change-of-as f blank root (AddText path at text) = refl
change-of-as f blank root (DelText path) = refl

deep-as : {M N : Type 0} (f : M → N) (blank : M) (root : Tree M) (edit : Edit) →
    goes_too_deep (change_of (f blank) (map_marks f root) edit) (map_marks f root) ≡ goes_too_deep
    (change_of blank root edit) root
deep-as f blank root edit =
    let c = change_of blank root edit in
    ap (λ d. goes_too_deep d (map_marks f root)) (sym (change-of-as f blank root edit)) ∙ ap (nat_lt MAX_DEPTH) (ap depth_of (root-as f c.list c root) ∙ depth-as f (root_after c.list c root))

mark-as : {M N : Type 0} (f : M → N) (blank : M) (root : Tree M) (edit : Edit) →
    makes_close_mark (change_of (f blank) (map_marks f root) edit) (map_marks f root)
    ≡ makes_close_mark (change_of blank root edit) root
mark-as f blank root edit =
    let c = change_of blank root edit in
    ap (λ d. makes_close_mark d (map_marks f root)) (sym (change-of-as f blank root edit))
    ∙ ap (λ ts. spells_close_mark (forest_of (list_after (change_as f c) ts)))
    (kids-at-as f c.list root) ∙ ap (λ ts. spells_close_mark (forest_of ts))
    (list-as f c (kids_at c.list root)) ∙ spells-as f (list_after c (kids_at c.list root))

unless-as : {a b : Bool} (r : Reason) {x y : Option Reason} → a ≡ b → x ≡ y → unless a r x ≡ unless b r y
unless-as {b = b} r {x = x} e g = ap (λ t. unless t r x) e ∙ ap (unless b r) g

pub reason-as : {M N : Type 0} (f : M → N) (blank : M) (root : Tree M) (edit : Edit) → reason_of (f blank) (map_marks f root) edit ≡ reason_of blank root edit
reason-as f blank root (Wrap path from to name) =
    unless-as NoNode (lacks-node-as f path root) (unless-as NotElement (lacks-list-as f path root) (unless-as Range (ap (λ n. nat_lt to from || nat_lt n to) (kids-number-as f path root))
    (unless-as BadName refl (unless-as RootShape refl (unless-as Deep (deep-as f blank root (Wrap path from to name)) refl)))))
reason-as f blank root (Insert path at name) =
    unless-as NoNode (lacks-node-as f path root) (unless-as NotElement (lacks-list-as f path root) (unless-as Range (ap (λ n. nat_lt n at) (kids-number-as f path root))
    (unless-as BadName refl (unless-as RootShape refl (unless-as Deep (deep-as f blank root (Insert path at name)) refl)))))
reason-as f blank root (Unwrap path) =
    unless-as NoNode (lacks-node-as f path root) (unless-as NotElement (lacks-element-as f path root)
    (unless-as RootShape (ap (λ b. is_root path && not b) (ap is_one_element (kids-at-as f path root) ∙ one-as f (kids_at path root))) (unless-as CloseMark (mark-as f blank root (Unwrap path)) refl)))
reason-as f blank root (Rename path name) = unless-as NoNode (lacks-node-as f path root)
    (unless-as NotElement (lacks-element-as f path root) (unless-as {a = not (is_new_name name)}
    BadName {x = None} refl refl))
reason-as f blank root (Split path at) =
    unless-as NoNode (lacks-node-as f path root) (unless-as NotText (text-as f path root)
    (unless-as Range (ap (λ (us : List (List ℕ)). (at == 0) || nat_le (length us) at)
    (units-as f path root)) refl))
reason-as f blank root (Join path) =
    unless-as NoNode (lacks-node-as f path root)
    (unless-as NotText (ap (λ b. b || lacks_text (next_of path) (map_marks f root)) (text-as f path root) ∙ ap (λ b. lacks_text path root || b) (text-as f (next_of path) root)) refl)
reason-as f blank root (SetText path text) =
    unless-as NoNode (lacks-node-as f path root) (unless-as NotText (text-as f path root) (unless-as BadText refl (unless-as CloseMark (mark-as f blank root (SetText path text)) refl)))
reason-as f blank root (AddText path at text) =
    unless-as NoNode (lacks-node-as f path root) (unless-as NotElement (lacks-list-as f path root) (unless-as Range (ap (λ n. nat_lt n at) (kids-number-as f path root))
    (unless-as BadText refl (unless-as RootShape refl (unless-as CloseMark (mark-as f blank root (AddText path at text)) refl)))))
reason-as f blank root (DelText path) = unless-as NoNode (lacks-node-as f path root) (unless-as NotText (text-as f path root) (unless-as CloseMark (mark-as f blank root (DelText path)) refl))

short-on-as : {M N : Type 0} (f : M → N) (o : Option (Spot M)) → ends_short (option_map (spot_as f) o) ≡ ends_short o
short-on-as f None = refl
short-on-as f (Some at_document) = refl
short-on-as f (Some (at_spot (element x attrs e kids m))) = refl
short-on-as f (Some (at_spot (text_node units))) = refl
short-on-as f (Some (at_spot (cdata_node bytes))) = refl
short-on-as f (Some (at_spot (misc_node bytes))) = refl

short-as : {M N : Type 0} (f : M → N) (path : List ℕ) (root : Tree M) → ends_short (spot_at path (map_marks f root)) ≡ ends_short (spot_at path root)
short-as f path root = ap ends_short (spot-as f path root) ∙ short-on-as f (spot_at path root)

name-on-as : {M N : Type 0} (f : M → N) (o : Option (Spot M)) → name_on (option_map (spot_as f) o) ≡ name_on o
name-on-as f None = refl
name-on-as f (Some at_document) = refl
name-on-as f (Some (at_spot (element x attrs e kids m))) = refl
name-on-as f (Some (at_spot (text_node units))) = refl
name-on-as f (Some (at_spot (cdata_node bytes))) = refl
name-on-as f (Some (at_spot (misc_node bytes))) = refl

put-as : {M N : Type 0} (f : M → N) (list : List ℕ) (i : ℕ) (o : Option (Spot M)) → put_back list i (option_map (spot_as f) o) ≡ put_back list i o
put-as f list i None = refl
put-as f list i (Some at_document) = refl
put-as f list i (Some (at_spot (element x attrs e kids m))) = ap (λ n. PutBack list i (i + n) x attrs (end_of e)) (ap length (trees-as f kids) ∙ length-map (trees_of kids) (map_marks f))
put-as f list i (Some (at_spot (text_node units))) = refl
put-as f list i (Some (at_spot (cdata_node bytes))) = refl
put-as f list i (Some (at_spot (misc_node bytes))) = refl

pub inverse-as : {M N : Type 0} (f : M → N) (root : Tree M) (edit : Edit) → inverse_of (map_marks f root) edit ≡ inverse_of root edit
inverse-as f root (Wrap path from to name) = ap (TakeOut (path ++ from ∷ [])) (short-as f path root)
inverse-as f root (Insert path at name) = ap (TakeOut (path ++ at ∷ [])) (short-as f path root)
inverse-as f root (Unwrap path) = ap (put_back (parent_of path) (kid_place path)) (spot-as f path root) ∙ put-as f (parent_of path) (kid_place path) (spot_at path root)
inverse-as f root (Rename path name) = ap (Name path) (ap name_on (spot-as f path root) ∙ name-on-as f (spot_at path root))
inverse-as f root (Split path at) = refl
inverse-as f root (Join path) = ap (λ (us : List (List ℕ)). Divide path (length us)) (units-as f path root)
inverse-as f root (SetText path text) = ap (Text path) (units-as f path root)
inverse-as f root (AddText path at text) = ap (Discard (path ++ at ∷ [])) (short-as f path root)
inverse-as f root (DelText path) = ap (Restore path) (units-as f path root)

root-edited : {M N : Type 0} (f : M → N) (blank : M) (root : Tree M) (edit : Edit) →
    root_after (change_of (f blank) (map_marks f root) edit).list (change_of (f blank)
    (map_marks f root) edit) (map_marks f root) ≡ map_marks f
    (root_after (change_of blank root edit).list (change_of blank root edit) root)
root-edited {N = N} f blank root edit =
    let c = change_of blank root edit in
    ap (λ (d : Change N). root_after d.list d (map_marks f root)) (sym (change-of-as f blank root edit)) ∙ root-as f c.list c root

-- the inverse of an edit leads back
pub made-leads : {M : Type 0} (blank : M) (doc made : PlainDoc M) (edit : Edit) → IsKept doc.root →
    edit_outcome blank doc edit ≡ gives made → LeadsBack (inverse_of doc.root edit) made (unmarked_doc doc)
made-leads {M = M} blank doc made edit k h =
    let f : M → Unit = λ _. tt in
    let reason = given-reason (reason_of blank doc.root edit) _ made h in
    let same = given-doc (reason_of blank doc.root edit) _ made h in
    let none : reason_of tt (map_marks f doc.root) edit ≡ None = reason-as f blank doc.root edit ∙ reason in
    let edited : doc_after (change_of tt (map_marks f doc.root) edit) (unmarked_doc doc) ≡ unmarked_doc made =
    ap (λ (t : Tree Unit). record (unmarked_doc doc) { root = t }) (root-edited f blank doc.root edit) ∙ ap unmarked_doc same in
    record {
      edit = edit;
      kept = kept-to f doc.root k;
      is_edited = ap (λ (o : Option Reason). outcome o (doc_after (change_of tt (map_marks f doc.root) edit) (unmarked_doc doc))) none ∙ ap gives edited;
      is_inverse = inverse-as f doc.root edit;
    }

-- an outcome without its marks
outcome-as : {M : Type 0} (o : Option Reason) (doc : PlainDoc M) → outcome o (unmarked_doc doc) ≡ unmarked_outcome (outcome o doc)
outcome-as None doc = refl
outcome-as (Some reason) doc = refl

pub marks-dont-count : (M : Type 0) → MarksDontCount M
marks-dont-count M blank doc edit =
    let f : M → Unit = λ _. tt in
    let edited : doc_after (change_of tt (map_marks f doc.root) edit) (unmarked_doc doc) ≡ unmarked_doc (doc_after (change_of blank doc.root edit) doc) =
    ap (λ (t : Tree Unit). record (unmarked_doc doc) { root = t }) (root-edited f blank doc.root edit) in (
      ap (λ (o : Option Reason). outcome o (doc_after (change_of tt (map_marks f doc.root) edit) (unmarked_doc doc))) (reason-as f blank doc.root edit)
          ∙ ap (outcome (reason_of blank doc.root edit)) edited ∙ outcome-as (reason_of blank doc.root edit) (doc_after (change_of blank doc.root edit) doc),
      inverse-as f doc.root edit,
    )
