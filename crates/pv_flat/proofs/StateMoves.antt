-- From one state to the next.
use Rattle.std.proofs.Common.{◌≡◌, ℕ, suc, List, [], ◌∷◌, ◌++◌, map, Some, None, refl, ap, subst, ◌∙◌, append_assoc}
use Rattle.pv_tree.specs.Marks.{blank_mark}
use Rattle.pv_tree.specs.declared.nodes.Mark.{Mark}
use Rattle.pv_read.specs.Items.{Item, xml_declaration, doctype, comment_or_instruction, cdata_section, start_tag, empty_tag, end_tag, text_run}
use Rattle.pv_read.specs.Left.{Left, Open, in_content, in_epilog, in_prolog, left_by}
use Rattle.pv_read.specs.Meaning.{is_document}
use Rattle.pv_read.specs.Steps.{TakesItem}
use Rattle.pv_read.proofs.Prologs.{same_some, takes_leads}
use Rattle.pv_flat.specs.Plain.{PlainEvent, events_so_far}
use Rattle.pv_flat.specs.ComingEvents.{TextEnd, IsIn, RestComes, ends_with, refused_as}
use Rattle.pv_flat.specs.Steps.{open_names_behind}
use Rattle.pv_flat.proofs.EventsSoFar.{given_by, known-taken, one-more}

-- an item more, and its events
pub rest-step : (root : List ℕ) (k : ℕ) (left : Left Mark) (rest : List ℕ) (i : Item)
    (more : List ℕ) (t : TakesItem None blank_mark root left rest i more)
    (given es : List PlainEvent) (end : TextEnd) →
    events_so_far t.next ≡ events_so_far left ++ given → RestComes root (suc k) t.next more es end → RestComes root k left rest (given ++ es) end
rest-step root k left rest i more t given es (ends_with before after) is c = (
  c.0,
  takes_leads k t (is_document c.0) c.1,
  c.2 ∙ ap (λ l. l ++ es) is ∙ append_assoc (events_so_far left) given es,
  c.3,
  c.4,
)
rest-step root k left rest i more t given es (refused_as o) is c = takes_leads k t o c

is-in-behind : (before b : List ℕ) (inner : Open Mark) (outer : List (Open Mark)) (i : Item) (next : Left Mark) → b ≡ before → left_by blank_mark (in_content b inner outer) i ≡ Some next →
    IsIn before (open_names_behind i (inner.name ∷ map (λ (e : Open Mark). e.name) outer)) next
is-in-behind before b inner outer (xml_declaration bytes) next h e = absurd (cc)
is-in-behind before b inner outer (doctype name bytes) next h e = absurd (cc)
is-in-behind before b inner outer (comment_or_instruction bytes) next h e = subst (λ l. IsIn before (inner.name ∷ map (λ (e : Open Mark). e.name) outer) l) (same_some e) (h, refl)
is-in-behind before b inner outer (cdata_section bytes) next h e = subst (λ l. IsIn before (inner.name ∷ map (λ (e : Open Mark). e.name) outer) l) (same_some e) (h, refl)
is-in-behind before b inner outer (start_tag name attrs) next h e = subst (λ l. IsIn before (name ∷ inner.name ∷ map (λ (e : Open Mark). e.name) outer) l) (same_some e) (h, refl)
is-in-behind before b inner outer (empty_tag name attrs) next h e = subst (λ l. IsIn before (inner.name ∷ map (λ (e : Open Mark). e.name) outer) l) (same_some e) (h, refl)
is-in-behind before b inner [] (end_tag name gap) next h e = subst (λ l. IsIn before [] l) (same_some e) (h, refl, refl)
is-in-behind before b inner (o ∷ os) (end_tag name gap) next h e = subst (λ l. IsIn before (o.name ∷ map (λ (e : Open Mark). e.name) os) l) (same_some e) (h, refl)
is-in-behind before b inner outer (text_run bytes) next h e = subst (λ l. IsIn before (inner.name ∷ map (λ (e : Open Mark). e.name) outer) l) (same_some e) (h, refl)

-- what comes after an item in the root comes before it, after the item's events
pub inside : (root before rest : List ℕ) (names : List (List ℕ)) (k : ℕ) (i : Item)
    (more : List ℕ) → (names ≡ [] → ⊥) → ((left : Left Mark) → IsIn before names left →
    TakesItem None blank_mark root left rest i more) →
    (es : List PlainEvent) (end : TextEnd) → ((left : Left Mark) →
    IsIn before (open_names_behind i names) left → RestComes root (suc k) left more es end) →
    (left : Left Mark) → IsIn before names left → RestComes root k left rest (given_by i ++ es) end
inside root before rest names k i more some taken es end c (in_prolog at b) h = absurd h
inside root before rest names k i more some taken es end c (in_epilog b t after) h = absurd (some h.1)
inside root before rest names k i more some taken es end c (in_content b inner outer) h =
    let t = taken (in_content b inner outer) h in
    let next = subst (λ ns. IsIn before (open_names_behind i ns) t.next) h.1 (is-in-behind before b inner outer i t.next h.0 t.stands) in
    rest-step root k (in_content b inner outer) rest i more t (given_by i) es end (one-more b inner outer i t.next (known-taken t) t.stands) (c t.next next)
