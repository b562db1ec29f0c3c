-- The events of the items so far, and of one more.
use Rattle.std.proofs.Common.{◌≡◌, ℕ, List, [], ◌∷◌, ◌++◌, map, reverse, Some, None, refl, sym, ap, ◌∙◌, append_assoc, append-nil, inl, inr, ◌⊎◌, Bor}
use Rattle.std.proofs.lemmas.List.{map-append, reverse-append}
use Rattle.pv_chars.specs.Units.{units_in}
use Rattle.pv_tree.specs.Marks.{blank_mark}
use Rattle.pv_tree.specs.Plain.{Tree, cdata_node, forest_of, misc_node, text_node}
use Rattle.pv_tree.specs.declared.nodes.Mark.{Mark}
use Rattle.pv_read.specs.Items.{HasKnownReferences, Item, xml_declaration, doctype, comment_or_instruction, cdata_section, start_tag, empty_tag, end_tag, text_run}
use Rattle.pv_read.specs.Kinds.{entity}
use Rattle.pv_read.specs.Left.{Left, Open, closed_element, empty_element, in_content, joined_to, just_opened, left_by, with_kid}
use Rattle.pv_read.specs.Steps.{TakesItem}
use Rattle.pv_read.proofs.DecidedReferences.{known_is_decided}
use Rattle.pv_read.proofs.DocumentFacts.{data_joined}
use Rattle.pv_flat.specs.Plain.{PlainEvent, begin_element, cdata_here, end_element, events_in, events_of, events_of_all, events_so_far, misc_here, text_here}

pub all-append : {M : Type 0} (ks : List (Tree M)) (t : Tree M) → events_of_all (forest_of (ks ++ t ∷ [])) ≡ events_of_all (forest_of ks) ++ events_of t
all-append [] t = append-nil (events_of t)
all-append (k ∷ ks) t = ap (λ l. events_of k ++ l) (all-append ks t) ∙ sym (append_assoc (events_of k) (events_of_all (forest_of ks)) (events_of t))

pub with-kid : {M : Type 0} (e : Open M) (t : Tree M) (outer : List (Open M)) → events_in (with_kid e t ∷ outer) ≡ events_in (e ∷ outer) ++ events_of t
with-kid e t outer =
    ap (λ l. events_in outer ++ begin_element e.name e.attrs ∷ l) (all-append e.kids t)
    ∙ sym (append_assoc (events_in outer) (begin_element e.name e.attrs ∷ events_of_all (forest_of e.kids)) (events_of t))

-- an element that ends
pub closed : (before : List ℕ) (e : Open Mark) (outer : List (Open Mark)) (gap : List ℕ) →
    events_so_far (joined_to before outer (closed_element blank_mark e gap)) ≡ events_in (e ∷ outer)
    ++ end_element ∷ []
closed before e [] gap = refl
closed before e (o ∷ os) gap =
    with-kid o (closed_element blank_mark e gap) os
    ∙ sym (append_assoc (events_in (o ∷ os)) (begin_element e.name e.attrs ∷ events_of_all (forest_of e.kids)) (end_element ∷ []))

-- an item that stands without fault refers to known names alone
pub known-taken : {root rest more : List ℕ} {left : Left Mark} {i : Item} → TakesItem None blank_mark root left rest i more → HasKnownReferences i
known-taken {rest = rest} {more = more} {i = i} t = by (known_is_decided i t.begins.has_form)
  where
    by : HasKnownReferences i ⊎ (HasKnownReferences i → ⊥) → HasKnownReferences i
    by (inl known) = known
    by (inr unknown) = absurd (t.no_fault entity record { item = i; more = more; next = t.next; begins = t.begins; may_stand = t.stands; has_property = unknown })

-- the event of an item in the root, and those of an empty-element tag
abbrev pub given_by : Item → List PlainEvent
given_by (xml_declaration bytes) = []
given_by (doctype name bytes) = []
given_by (comment_or_instruction bytes) = misc_here bytes ∷ []
given_by (cdata_section bytes) = cdata_here bytes ∷ []
given_by (start_tag name attrs) = begin_element name attrs ∷ []
given_by (empty_tag name attrs) = begin_element name attrs ∷ end_element ∷ []
given_by (end_tag name gap) = end_element ∷ []
given_by (text_run bytes) = text_here bytes ∷ []

-- after an item in the root
pub one-more : (before : List ℕ) (inner : Open Mark) (outer : List (Open Mark)) (i : Item)
    (next : Left Mark) → HasKnownReferences i → left_by blank_mark (in_content before inner outer) i
    ≡ Some next → events_so_far next ≡ events_in (inner ∷ outer) ++ given_by i
one-more before inner outer (xml_declaration bytes) next known e = absurd (cc)
one-more before inner outer (doctype name bytes) next known e = absurd (cc)
one-more before inner outer (comment_or_instruction bytes) next known e =
    let is : next ≡ in_content before (with_kid inner (misc_node bytes)) outer = cc in ap events_so_far is ∙ with-kid inner (misc_node bytes) outer
one-more before inner outer (cdata_section bytes) next known e =
    let is : next ≡ in_content before (with_kid inner (cdata_node bytes)) outer = cc in ap events_so_far is ∙ with-kid inner (cdata_node bytes) outer
one-more before inner outer (start_tag name attrs) next known e =
    let is : next ≡ in_content before (just_opened name attrs) (inner ∷ outer) = cc in ap events_so_far is
one-more before inner outer (empty_tag name attrs) next known e =
    let is : next ≡ in_content before (with_kid inner (empty_element blank_mark name attrs)) outer = cc in ap events_so_far is ∙ with-kid inner (empty_element blank_mark name attrs) outer
one-more before inner outer (end_tag name gap) next known e =
    let is : next ≡ joined_to before outer (closed_element blank_mark inner gap) = cc in ap events_so_far is ∙ closed before inner outer gap
one-more before inner outer (text_run bytes) next known e =
    let is : next ≡ in_content before (with_kid inner (text_node (units_in bytes))) outer = cc in
    ap events_so_far is ∙ with-kid inner (text_node (units_in bytes)) outer ∙ ap (λ b. events_in (inner ∷ outer) ++ text_here b ∷ []) (data_joined bytes known)

pub names-push : (items : List (Bor (List ℕ))) (x : Bor (List ℕ)) → reverse (map (λ (b : Bor (List ℕ)). b.now) (items ++ x ∷ [])) ≡ x.now ∷ reverse (map (λ (b : Bor (List ℕ)). b.now) items)
names-push items x = ap reverse (map-append (λ (b : Bor (List ℕ)). b.now) items (x ∷ [])) ∙ reverse-append (map (λ (b : Bor (List ℕ)). b.now) items) (x.now ∷ [])
