-- The items of a root, one after another.
use Rattle.std.proofs.Common.{◌≡◌, ℕ, suc, List, [], true, false, IsTrue, Option, Some, None, refl, sym, ap, ◌∙◌, subst, rules}
use Rattle.pv_chars.specs.Units.{units_in}
use Rattle.pv_tree.specs.Plain.{text_node}
use Rattle.pv_tree.specs.PlainForms.{plain}
use Rattle.pv_tree.specs.Marks.{blank_mark}
use Rattle.pv_tree.specs.declared.nodes.Mark.{Mark}
use Rattle.pv_tree.specs.declared.nodes.Node.TheVariants.{Text}
use Rattle.pv_tree.specs.declared.nodes.Node.{the_lemmas}
use Rattle.pv_read.specs.Items.{Item, xml_declaration, doctype, comment_or_instruction, cdata_section, start_tag, empty_tag, end_tag, text_run}
use Rattle.pv_read.specs.Left.{Left, Open, in_content, left_by, with_kid}
use Rattle.pv_read.specs.Kinds.{entity}
use Rattle.pv_read.specs.Meaning.{DocumentRestMeans}
use Rattle.pv_read.specs.Errors.{Refuses}
use Rattle.pv_read.specs.ItemLaws.{ItemsAreDetermined}
use Rattle.pv_read.specs.Places.{PlainPlace, place_reached}
use Rattle.pv_read.specs.Steps.{TakesItem}
use Rattle.pv_read.specs.TextRuns.{BeginsText, BeginsNoText}
use Rattle.pv_read.specs.OpenElements.{plain_open, opens_of, left_in, left_after, is_markup}
use Rattle.pv_read.specs.Contents.{IsStep, ReadsContent}
use Rattle.pv_read.specs.declared.errors.DocError.{DocError}
use Rattle.pv_read.specs.declared.open.OpenElements.{OpenElements}
use Rattle.pv_read.proofs.NextItems.{takes}
use Rattle.pv_read.proofs.Prologs.{same_some, takes_leads}
use Rattle.pv_read.proofs.RefusedRests.{Refuses-weaker}

plain-Text : (units : List (List ℕ)) → plain (Text units) ≡ text_node units
plain-Text units = search (rules, the_lemmas)

no_empty : false ≡ true → ⊥
no_empty e = cc

-- a text run stands in an element without fault
text_taken : (one_item : ItemsAreDetermined) (most : Option ℕ) (root before : List ℕ)
    (inner : Open Mark) (outer : List (Open Mark)) (rest : List ℕ) {units : List
    (List ℕ)} {more : List ℕ} (t : BeginsText rest units more)
    → TakesItem most blank_mark root (in_content before inner outer) rest (text_run t.run) more
text_taken one_item most root before inner outer rest {units} {more} t =
    takes one_item most blank_mark root (in_content before inner outer) rest (λ h. no_empty h.0) (text_run t.run) more t.begins
    (in_content before (with_kid inner (text_node (units_in t.run))) outer) refl t.known (λ h. h) (λ h. h) (λ h. no_empty h.0)

pub text_step : (one_item : ItemsAreDetermined) (most : Option ℕ) (root : List ℕ) (old new : OpenElements) (rest more : List ℕ) (units : List (List ℕ)) → BeginsText rest units more
    → plain_open new.inner ≡ with_kid (plain_open old.inner) (plain (Text units)) → new.outer.items ≡ old.outer.items → IsStep most root old rest new None more
text_step one_item most root old new rest more units t inner_is outer_is before count o means =
    let taken = text_taken one_item most root before (plain_open old.inner) (opens_of old.outer.items) rest t in
    let kid_is : plain (Text units) ≡ text_node (units_in t.run) = plain-Text units ∙ ap text_node t.units_are in
    let left_is : left_in before new ≡ in_content before (with_kid (plain_open old.inner) (text_node (units_in t.run))) (opens_of old.outer.items) =
    ap (λ e. in_content before e (opens_of new.outer.items)) (inner_is ∙ ap (with_kid (plain_open old.inner)) kid_is)
    ∙ ap (λ items. in_content before (with_kid (plain_open old.inner) (text_node (units_in t.run))) (opens_of items)) outer_is in
    takes_leads count taken o (subst (λ l. DocumentRestMeans most blank_mark root (suc count) l more o) (left_is ∙ same_some taken.stands) means)

module _ (most : Option ℕ) (root : List ℕ) (old : OpenElements) (rest : List ℕ) (place : PlainPlace) (at : (before : List ℕ) → place_reached (left_in before old) ≡ place) (i : Item) (more : List ℕ)
    (taken : (left : Left Mark) → place_reached left ≡ place → TakesItem most blank_mark root left rest i more) where
  pub taken_in : (before : List ℕ) → TakesItem most blank_mark root (left_in before old) rest i more
  taken_in before = taken (left_in before old) (at before)

  pub item_step : (new : OpenElements) (whole : _) → ((before : List ℕ) → left_by blank_mark (left_in before old) i ≡ Some (left_after before new whole)) → IsStep most root old rest new whole more
  item_step new whole is before count o means =
      let t = taken_in before in
      takes_leads count t o (subst (λ l. DocumentRestMeans most blank_mark root (suc count) l more o) (same_some (sym (is before) ∙ t.stands)) means)

pub markup_taken : (most : Option ℕ) (root : List ℕ) (inner : Open Mark) (outer : List (Open Mark)) (rest : List ℕ) (i : Item) (more : List ℕ)
    → BeginsNoText rest → TakesItem most blank_mark root (in_content [] inner outer) rest i more → IsTrue (is_markup i)
markup_taken most root inner outer rest (xml_declaration bytes) more no_text t = let stands = t.stands in cc
markup_taken most root inner outer rest (doctype name bytes) more no_text t = let stands = t.stands in cc
markup_taken most root inner outer rest (comment_or_instruction bytes) more no_text t = refl
markup_taken most root inner outer rest (cdata_section bytes) more no_text t = refl
markup_taken most root inner outer rest (start_tag name attrs) more no_text t = refl
markup_taken most root inner outer rest (empty_tag name attrs) more no_text t = refl
markup_taken most root inner outer rest (end_tag name gap) more no_text t = refl
markup_taken most root inner outer rest (text_run bytes) more no_text t =
    absurd (t.no_fault entity record { item = text_run bytes; more = more; next = t.next; begins = t.begins; may_stand = t.stands; has_property = no_text bytes more t.begins })

pub refused_at : (most : Option ℕ) (root : List ℕ) (old : OpenElements) (rest : List ℕ)
    (place : PlainPlace) (at : (before : List ℕ) → place_reached (left_in before old) ≡ place)
    (count : ℕ) (e : DocError)
    → ((left : Left Mark) → place_reached left ≡ place → Refuses (DocumentRestMeans most blank_mark root count left rest) e)
    → (before : List ℕ) → Refuses (DocumentRestMeans most blank_mark root count (left_in before old) rest) e
refused_at most root old rest place at count e refuses before = refuses (left_in before old) (at before)

pub refused_content : {most : Option ℕ} {root name attrs bytes : List
    ℕ} {first : ℕ} {elements : OpenElements} {rest : List ℕ} {count : ℕ}
    (r : ReadsContent most root name attrs bytes first elements rest count) (e : DocError)
    → ((before : List ℕ) → Refuses (DocumentRestMeans most blank_mark root count (left_in before elements) rest) e)
    → (before : List ℕ) → Refuses (DocumentRestMeans most blank_mark root first (in_content before (record { name = name; attrs = attrs; kids = [] }) []) bytes) e
refused_content r e refuses before = Refuses-weaker _ _ (r.leads before) e (refuses before)
