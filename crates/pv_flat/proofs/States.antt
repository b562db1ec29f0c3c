-- From one state of a reader to the next.
use Rattle.std.proofs.Common.{◌≡◌, ◌-◌, ℕ, suc, List, [], ◌∷◌, ◌++◌, map, reverse, length, take, refl, sym, ap, subst, ◌∙◌, Option, Some, None, Ok, Err, Result, IfOk, IfErr, arith, Bor, true}
use Rattle.std.specs.Prelude.{option_to_list, slice_get}
use Rattle.std.proofs.Math.Seq.{take-suc, take-length}
use Rattle.std.proofs.lemmas.Option.{get_or_from_slice_get}
use Rattle.pv_tree.specs.Marks.{blank_mark}
use Rattle.pv_tree.specs.declared.nodes.Mark.{Mark}
use Rattle.pv_read.specs.Errors.{Refuses}
use Rattle.pv_read.specs.Items.{Item, xml_declaration, doctype, comment_or_instruction, cdata_section, start_tag, empty_tag, end_tag, text_run}
use Rattle.pv_read.specs.Left.{Left, Open, in_content, left_by}
use Rattle.pv_read.specs.Meaning.{DocumentRestMeans}
use Rattle.pv_read.specs.PlainItems.{plain_item}
use Rattle.pv_read.specs.Places.{content, may_stand_in_content, place_reached}
use Rattle.pv_read.specs.Steps.{TakesItem}
use Rattle.pv_read.specs.declared.errors.DocError.{DocError}
use Rattle.pv_read.specs.declared.errors.DocError.TheVariants.{Deep, DoctypeName, Entity, Limit, Mismatch, NoMemory, Subset, Syntax}
use Rattle.pv_read.specs.declared.forms.items.Item.{Item as SpannedItem}
use Rattle.pv_flat.specs.Plain.{PlainEvent}
use Rattle.pv_flat.specs.ComingEvents.{AdvancesBy, EventsCome, ComesAt, ComesInside, TextEnd, IsIn}
use Rattle.pv_flat.specs.ComingEvents.{IsInnermost, RestComes, SameState, TakesInside, open_names}
use Rattle.pv_flat.specs.ComingEvents.{refused_as}
use Rattle.pv_flat.specs.declared.state.Events.{Events}
use Rattle.pv_flat.specs.declared.state.Stage.{Stage}
use Rattle.pv_flat.specs.declared.state.Stage.TheVariants as stage
use Rattle.pv_flat.proofs.EventsSoFar.{given_by, names-push}
use Rattle.pv_flat.specs.Steps.{open_names_behind}
use Rattle.pv_flat.proofs.StateMoves.{inside}
use Rattle.pv_flat.proofs.RootRefusals.{place-is, refused-inside}

pub comes-by : (s : Events) (at : Stage) → s.stage ≡ at → (es : List PlainEvent) (end : TextEnd) → ComesAt at s es end → EventsCome s es end
comes-by s at is es end c = subst (λ st. ComesAt st s es end) (sym is) c

pub comes-as : (s : Events) (at : Stage) → s.stage ≡ at → (es : List PlainEvent) (end : TextEnd) → EventsCome s es end → ComesAt at s es end
comes-as s at is es end c = subst (λ st. ComesAt st s es end) is c

pub passed : (old new : Events) (i : Item) (more : List ℕ) → old.stage ≡ stage.Inside → (open_names old ≡ [] → ⊥) → TakesInside old i more →
    new.root ≡ old.root → new.before.now ≡ old.before.now → new.rest.now ≡ more → new.count ≡ suc old.count → open_names new ≡ open_names_behind i (open_names old) →
    (es : List PlainEvent) (end : TextEnd) → ComesInside new es end → EventsCome old (given_by i ++ es) end
passed old new i more at some taken root before rest count names es end c =
    comes-by old stage.Inside at (given_by i ++ es) end
    (inside old.root old.before.now old.rest.now (open_names old) old.count i more some taken es end
    (λ left h.
    let there = subst (λ b. IsIn b (open_names new) left) (sym before) (subst (λ ns. IsIn old.before.now ns left) (sym names) h) in
    subst (λ x. RestComes x (suc old.count) left more es end) root
    (subst (λ k. RestComes new.root k left more es end) count
    (subst (λ l. RestComes new.root new.count left l es end) rest (c left there)))))

pub same-names : (old new : List (Bor (List ℕ))) → new ≡ old → reverse (map (λ (b : Bor (List ℕ)). b.now) new) ≡ reverse (map (λ (b : Bor (List ℕ)). b.now) old)
same-names old new is = ap (λ xs. reverse (map (λ (b : Bor (List ℕ)). b.now) xs)) is

pub pushed-names : (old pushed new : List (Bor (List ℕ))) (x : Bor (List ℕ)) → pushed ≡ old
    ++ x ∷ [] → new ≡ pushed → reverse (map (λ (b : Bor (List ℕ)). b.now) new) ≡ x.now ∷ reverse
    (map (λ (b : Bor (List ℕ)). b.now) old)
pushed-names old pushed new x is same = same-names pushed new same ∙ same-names (old ++ x ∷ []) pushed is ∙ names-push old x

-- no name is left out
no-more : (xs : List (Bor (List ℕ))) → length xs ≡ 0 → reverse (map (λ (b : Bor (List ℕ)). b.now) xs) ≡ []
no-more [] e = refl
no-more (x ∷ xs) e = absurd (omega arith)

pub popped-names : (old popped new : List (Bor (List ℕ))) (r : Option (Bor (List ℕ))) (name gap : List ℕ) → old ≡ popped ++ option_to_list r → new ≡ popped → (r ≡ None → length old ≡ 0) →
    (reverse (map (λ (b : Bor (List ℕ)). b.now) old) ≡ [] → ⊥) →
    reverse (map (λ (b : Bor (List ℕ)). b.now) new) ≡ open_names_behind (end_tag name gap)
    (reverse (map (λ (b : Bor (List ℕ)). b.now) old))
popped-names old popped new None name gap is same none some = absurd (some (no-more old (none refl)))
popped-names old popped new (Some x) name gap is same none some =
    same-names popped new same ∙ sym (ap (open_names_behind (end_tag name gap)) (same-names (popped ++ x ∷ []) old is ∙ names-push popped x))

-- the last of the elements is the innermost
pub last-name : (items : List (Bor (List ℕ))) (x : Bor (List ℕ)) →
    slice_get items (length items - 1) ≡ Some x → (outer : List (List ℕ))
    × (reverse (map (λ (b : Bor (List ℕ)). b.now) items) ≡ x.now ∷ outer)
last-name [] x e = absurd (cc)
last-name (y ∷ ys) x e =
    let items = y ∷ ys in
    let k = length items - 1 in
    let one : suc k ≡ length items = omega arith in
    let whole : items ≡ take k items ++ x ∷ [] =
    sym (take-length items) ∙ ap (λ n. take n items) (sym one) ∙ take-suc items k x (omega arith) ∙ ap (λ z. take k items ++ z ∷ []) (get_or_from_slice_get items k x x e) in
    (reverse (map (λ (b : Bor (List ℕ)). b.now) (take k items)), same-names (take k items ++ x ∷ []) items whole ∙ names-push (take k items) x)

-- some elements with these names are open
opens : List (List ℕ) → List (Open Mark)
opens [] = []
opens (n ∷ ns) = record { name = n; attrs = []; kids = [] } ∷ opens ns

names-of-opens : (ns : List (List ℕ)) → map (λ (e : Open Mark). e.name) (opens ns) ≡ ns
unfolding opens
names-of-opens [] = refl
names-of-opens (n ∷ ns) = ap (λ l. n ∷ l) (names-of-opens ns)

may-stand : (before : List ℕ) (inner : Open Mark) (outer : List (Open Mark)) (i : Item)
    (next : Left Mark) → left_by blank_mark (in_content before inner outer) i ≡ Some next →
    may_stand_in_content i ≡ true
may-stand before inner outer (xml_declaration bytes) next e = absurd (cc)
may-stand before inner outer (doctype name bytes) next e = absurd (cc)
may-stand before inner outer (comment_or_instruction bytes) next e = refl
may-stand before inner outer (cdata_section bytes) next e = refl
may-stand before inner outer (start_tag name attrs) next e = refl
may-stand before inner outer (empty_tag name attrs) next e = refl
may-stand before inner outer (end_tag name gap) next e = refl
may-stand before inner outer (text_run bytes) next e = refl

pub stands-inside : (s : Events) (name : List ℕ) (i : Item) (more : List ℕ) → IsInnermost s name → TakesInside s i more → may_stand_in_content i ≡ true
stands-inside s name i more n taken =
    let inner : Open Mark = record { name = name; attrs = []; kids = [] } in
    let outer = opens n.0 in
    let t = taken (in_content s.before.now inner outer) (refl, ap (λ l. name ∷ l) (names-of-opens n.0) ∙ sym n.1) in
    may-stand s.before.now inner outer i t.next t.stands

-- what is read in the innermost element
pub read-inside : (s : Events) (name : List ℕ) (many : ℕ) (r : Result (SpannedItem × Bor (List ℕ)) DocError) → IsInnermost s name → many ≡ length (open_names s) →
    IfOk r (λ x. (left : Left Mark) → place_reached left ≡ content name many →
    TakesItem None blank_mark s.root left s.rest.now (plain_item x.0) x.1.now) →
    IfOk r (λ x. TakesInside s (plain_item x.0) x.1.now)
read-inside s name many (Ok x) n count taken = λ left h. taken left (place-is s.before.now name (open_names s) n.0 many n.1 count left h)
read-inside s name many (Err e) n count taken = tt

pub refused-in-place : (s : Events) (name : List ℕ) (many : ℕ) (r : Result (SpannedItem × Bor (List ℕ)) DocError) → IsInnermost s name → many ≡ length (open_names s) →
    IfErr r (λ e. (left : Left Mark) → place_reached left ≡ content name many → Refuses (DocumentRestMeans None blank_mark s.root s.count left s.rest.now) e) →
    IfErr r (λ e. (left : Left Mark) → IsIn s.before.now (open_names s) left → Refuses (DocumentRestMeans None blank_mark s.root s.count left s.rest.now) e)
refused-in-place s name many (Ok x) n count refused = tt
refused-in-place s name many (Err e) n count refused = λ left h. refused left (place-is s.before.now name (open_names s) n.0 many n.1 count left h)

-- an error in the root, the state being as it was
pub refused-advance : (old new : Events) (e : DocError) → old.stage ≡ stage.Inside →
    ((left : Left Mark) → IsIn old.before.now (open_names old) left →
    Refuses (DocumentRestMeans None blank_mark old.root old.count left old.rest.now) e) →
    SameState old new → AdvancesBy old (Err e) new
refused-advance old new e at refused same = (λ es. by e es (refused-inside old.root old.before.now old.rest.now (open_names old) old.count e refused), same)
  where
    by : (e : DocError) (es : List PlainEvent) → Refuses (λ o. (left : Left Mark) →
        IsIn old.before.now (open_names old) left →
        DocumentRestMeans None blank_mark old.root old.count left old.rest.now o) e →
        Refuses (λ o. EventsCome old es (refused_as o)) e
    by (Syntax j) es r = comes-by old stage.Inside at es _ r
    by (Mismatch j) es r = comes-by old stage.Inside at es _ r
    by (Entity j) es r = comes-by old stage.Inside at es _ r
    by Subset es r = (r.0, comes-by old stage.Inside at es _ r.1)
    by DoctypeName es r = (r.0, comes-by old stage.Inside at es _ r.1)
    by (Deep j) es r = comes-by old stage.Inside at es _ r
    by Limit es r = comes-by old stage.Inside at es _ r
    by NoMemory es r = tt

-- in the root, states with the same parts are the same
pub same-inside : (old new : Events) → old.stage ≡ stage.Inside → new.stage ≡ stage.Inside →
    ((es : List PlainEvent) (end : TextEnd) → (ComesInside new es end → ComesInside old es end)
    × (ComesInside old es end → ComesInside new es end)) → SameState old new
same-inside old new at there same es end = (
  λ c. comes-by old stage.Inside at es end ((same es end).0 (comes-as new stage.Inside there es end c)),
  λ c. comes-by new stage.Inside there es end ((same es end).1 (comes-as old stage.Inside at es end c)),
)
