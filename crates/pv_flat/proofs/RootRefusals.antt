-- What is refused in the root or after it.
use Rattle.std.proofs.Common.{◌≡◌, ℕ, suc, List, [], ◌∷◌, map, length, refl, sym, ap, subst, ◌∙◌, append-nil, arith, true, Some, None}
use Rattle.std.proofs.lemmas.List.{length-map}
use Rattle.pv_tree.specs.Marks.{blank_mark}
use Rattle.pv_tree.specs.Plain.{Tree}
use Rattle.pv_tree.specs.declared.nodes.Mark.{Mark}
use Rattle.pv_read.specs.Epilogs.{EndsDocument, document}
use Rattle.pv_read.specs.Errors.{Refuses}
use Rattle.pv_read.specs.Items.{Item, xml_declaration, doctype, comment_or_instruction, cdata_section, start_tag, empty_tag, end_tag, text_run}
use Rattle.pv_read.specs.Kinds.{HasFault, IsOtherDoctype, doctype_name, may_stand_doctype, subset}
use Rattle.pv_read.specs.Left.{Left, Open, in_content, in_epilog, in_prolog, joined_to, left_by}
use Rattle.pv_read.specs.Meaning.{DocumentRestMeans, Outcome, ends, fault, faulty, is_document, item}
use Rattle.pv_read.specs.Places.{content, place_reached}
use Rattle.pv_read.specs.declared.errors.DocError.{DocError}
use Rattle.pv_read.specs.declared.errors.DocError.TheVariants.{Deep, DoctypeName, Entity, Limit, Mismatch, NoMemory, Subset, Syntax}
use Rattle.pv_read.proofs.Prologs.{by_test, same_some}
use Rattle.pv_flat.specs.Plain.{events_of}
use Rattle.pv_flat.specs.ComingEvents.{IsIn, RestComes, ends_with}

-- the prolog is left behind
abbrev pub IsPastProlog : Left Mark → Type 0
IsPastProlog (in_prolog stage before) = ⊥
IsPastProlog (in_content before inner outer) = Unit {0}
IsPastProlog (in_epilog before root after) = Unit {0}

past-joined : (before : List ℕ) (outer : List (Open Mark)) (t : Tree Mark) → IsPastProlog (joined_to before outer t)
past-joined before [] t = tt
past-joined before (o ∷ os) t = tt

past-by : (left : Left Mark) (i : Item) (next : Left Mark) → IsPastProlog left → left_by blank_mark left i ≡ Some next → IsPastProlog next
past-by (in_prolog stage before) i next p e = absurd p
past-by (in_content before inner outer) (xml_declaration bytes) next p e = absurd (cc)
past-by (in_content before inner outer) (doctype name bytes) next p e = absurd (cc)
past-by (in_content before inner outer) (comment_or_instruction bytes) next p e = subst IsPastProlog (same_some e) tt
past-by (in_content before inner outer) (cdata_section bytes) next p e = subst IsPastProlog (same_some e) tt
past-by (in_content before inner outer) (start_tag name attrs) next p e = subst IsPastProlog (same_some e) tt
past-by (in_content before inner outer) (empty_tag name attrs) next p e = subst IsPastProlog (same_some e) tt
past-by (in_content before inner outer) (end_tag name gap) next p e = subst IsPastProlog (same_some e) (past-joined before outer _)
past-by (in_content before inner outer) (text_run bytes) next p e = subst IsPastProlog (same_some e) tt
past-by (in_epilog before root after) (xml_declaration bytes) next p e = absurd (cc)
past-by (in_epilog before root after) (doctype name bytes) next p e = absurd (cc)
past-by (in_epilog before root after) (comment_or_instruction bytes) next p e = subst IsPastProlog (same_some e) tt
past-by (in_epilog before root after) (cdata_section bytes) next p e = absurd (cc)
past-by (in_epilog before root after) (start_tag name attrs) next p e = absurd (cc)
past-by (in_epilog before root after) (empty_tag name attrs) next p e = absurd (cc)
past-by (in_epilog before root after) (end_tag name gap) next p e = absurd (cc)
past-by (in_epilog before root after) (text_run bytes) next p e = subst IsPastProlog (by_test _ _ _ e) tt

no-doctype : (left : Left Mark) → IsPastProlog left → may_stand_doctype left ≡ true → ⊥
no-doctype (in_prolog stage before) p e = p
no-doctype (in_content before inner outer) p e = cc
no-doctype (in_epilog before root after) p e = cc

no-other : (root : List ℕ) (left : Left Mark) (i : Item) (next : Left Mark) → IsPastProlog left → left_by blank_mark left i ≡ Some next → IsOtherDoctype root i → ⊥
no-other root left (xml_declaration bytes) next p e h = h
no-other root (in_prolog stage before) (doctype name bytes) next p e h = p
no-other root (in_content before inner outer) (doctype name bytes) next p e h = absurd (cc)
no-other root (in_epilog before t after) (doctype name bytes) next p e h = absurd (cc)
no-other root left (comment_or_instruction bytes) next p e h = h
no-other root left (cdata_section bytes) next p e h = h
no-other root left (start_tag name attrs) next p e h = h
no-other root left (empty_tag name attrs) next p e h = h
no-other root left (end_tag name gap) next p e h = h
no-other root left (text_run bytes) next p e h = h

-- after the prolog no fault of a document type declaration comes
not-subset : (root : List ℕ) (k j : ℕ) (left : Left Mark) (rest : List ℕ) (o : Outcome Mark) → o ≡ faulty subset j → IsPastProlog left → DocumentRestMeans None blank_mark root k left rest o → ⊥
not-subset root k j left rest o is past (ends e) = cc
not-subset root k j left rest o is past (item {next = next} i begins stands none more) = not-subset root (suc k) j next _ o is (past-by left i next past stands) more
not-subset root k j left rest o is past (fault kind first) =
    let same : kind ≡ subset = cc in
    let holds = subst (λ f. HasFault None blank_mark root left rest f) same first.holds in
    no-doctype left past holds.0

not-doctype : (root : List ℕ) (k j : ℕ) (left : Left Mark) (rest : List ℕ) (o : Outcome Mark) → o ≡ faulty doctype_name j → IsPastProlog left → DocumentRestMeans None blank_mark root k left rest o → ⊥
not-doctype root k j left rest o is past (ends e) = cc
not-doctype root k j left rest o is past (item {next = next} i begins stands none more) = not-doctype root (suc k) j next _ o is (past-by left i next past stands) more
not-doctype root k j left rest o is past (fault kind first) =
    let same : kind ≡ doctype_name = cc in
    let holds = subst (λ f. HasFault None blank_mark root left rest f) same first.holds in
    no-other root left holds.item holds.next past holds.may_stand holds.has_property

past-in : (before : List ℕ) (names : List (List ℕ)) (left : Left Mark) → IsIn before names left → IsPastProlog left
past-in before names (in_prolog stage b) h = h
past-in before names (in_content b inner outer) h = tt
past-in before names (in_epilog b t after) h = tt

-- one refusal for whatever is left
pub refused-inside : (root before rest : List ℕ) (names : List (List ℕ)) (k : ℕ) (e : DocError) →
    ((left : Left Mark) → IsIn before names left →
    Refuses (DocumentRestMeans None blank_mark root k left rest) e) →
    Refuses (λ o. (left : Left Mark) → IsIn before names left → DocumentRestMeans None blank_mark root k left rest o) e
refused-inside root before rest names k (Syntax j) r = r
refused-inside root before rest names k (Mismatch j) r = r
refused-inside root before rest names k (Entity j) r = r
refused-inside root before rest names k Subset r = (0, λ left h. absurd (not-subset root k _ left rest _ refl (past-in before names left h) (r left h).1))
refused-inside root before rest names k DoctypeName r = (0, λ left h. absurd (not-doctype root k _ left rest _ refl (past-in before names left h) (r left h).1))
refused-inside root before rest names k (Deep j) r = r
refused-inside root before rest names k Limit r = r
refused-inside root before rest names k NoMemory r = tt

-- after the root
pub refused-behind : (root before rest : List ℕ) (k : ℕ) (e : DocError) → ((b : List ℕ) (t : Tree Mark) → Refuses (DocumentRestMeans None blank_mark root k (in_epilog b t []) rest) e) →
    (left : Left Mark) → IsIn before [] left → Refuses (DocumentRestMeans None blank_mark root k left rest) e
refused-behind root before rest k e r (in_prolog stage b) h = absurd h
refused-behind root before rest k e r (in_content b inner outer) h = let none = h.1 in absurd (cc)
refused-behind root before rest k e r (in_epilog b t after) h = rw h.2 (r b t)

-- the end of the text
pub ends-behind : (root before rest : List ℕ) (k : ℕ) → EndsDocument None root k rest → (left : Left Mark) → IsIn before [] left → RestComes root k left rest [] (ends_with before rest)
ends-behind root before rest k e (in_prolog stage b) h = absurd h
ends-behind root before rest k e (in_content b inner outer) h = let none = h.1 in absurd (cc)
ends-behind root before rest k e (in_epilog b t after) h =
    (document b t rest, subst (λ l. DocumentRestMeans None blank_mark root k (in_epilog b t l) rest (is_document (document b t rest))) (sym h.2) (e b t), sym (append-nil (events_of t)), h.0, refl)

-- where an item is to stand
pub place-is : (before name : List ℕ) (names outer : List (List ℕ)) (many : ℕ) →
    names ≡ name ∷ outer → many ≡ length names → (left : Left Mark) → IsIn before names left →
    place_reached left ≡ content name many
place-is before name names outer many is count (in_prolog stage b) h = absurd h
place-is before name names outer many is count (in_epilog b t after) h = let none = h.1 in absurd (cc)
place-is before name names outer many is count (in_content b inner o) h =
    let all : inner.name ∷ map (λ (e : Open Mark). e.name) o ≡ name ∷ outer = h.1 ∙ is in
    let first : inner.name ≡ name = cc in
    let number : suc (length o) ≡ many = omega (arith, ap length h.1, length-map o (λ (e : Open Mark). e.name), count) in
    λ i. content (first i) (number i)
