-- Each text means something.
use Rattle.std.proofs.Common.{◌≡◌, ◌≤◌, ◌<◌, ◌↔◌, ℕ, suc, inl, inr, List, [], ◌∷◌, length, Bool, true, false, Option, Some, None, IsTrue, refl, arith}
use Rattle.std.proofs.lemmas.Bool.{cases_order}
use Rattle.pv_read.specs.Limits.{TextLimits, IsDeepest}
use Rattle.pv_tree.specs.Marks.{blank_mark}
use Rattle.pv_tree.specs.declared.nodes.Mark.{Mark}
use Rattle.pv_read.specs.DocumentLaws.{HasOneMeaning}
use Rattle.pv_read.specs.Items.{Item, xml_declaration, doctype, comment_or_instruction, cdata_section, start_tag, empty_tag, end_tag, text_run, HasKnownReferences, BeginsItem}
use Rattle.pv_read.specs.Left.{Left, at_front, in_prolog, in_content, in_epilog, left_by, open_elements, IsWholeAt}
use Rattle.pv_read.specs.Kinds.{Kind, subset, syntax, entity, mismatch, doctype_name, deep, BeginsSubset, may_stand_doctype, IsMismatch}
use Rattle.pv_read.specs.Kinds.{IsOtherDoctype, opens_element, IsTooDeep, HasFault, IsFirstFault}
use Rattle.pv_read.specs.Meaning.{Outcome, is_document, faulty, too_long, DocumentRestMeans, ends, item, fault, DocumentMeansWithin, long, items}
use Rattle.pv_chars.specs.ByteOrderMark.{TakesByteOrderMark}
use Rattle.pv_read.specs.Places.{place_reached, may_stand}
use Rattle.pv_read.specs.PlainItems.{BeginsNoItem}
use Rattle.pv_read.specs.Steps.{MeansSomething}
use Rattle.pv_read.proofs.ItemsAtPlaces.{stands_at, none_at}
use Rattle.pv_read.proofs.DecidedReferences.{Decided, one_of, known_is_decided}
use Rattle.pv_read.proofs.NextItems.{subset_is_first, nothing_begins, may_not_stand, other_reference, other_name, other_doctype, too_deep, takes}
use Rattle.pv_read.proofs.OneItem.{one_item}
use Rattle.pv_read.proofs.OneMeaning.{same_document_meaning}

-- ---- each kind of fault is decided
unlike : {P : Type 0} → Decided P → Decided (P → ⊥)
unlike (inl is) = inr (λ other. other is)
unlike (inr other) = inl other

other_name_decided : (left : Left Mark) (name gap : List ℕ) → Decided (IsMismatch left (end_tag name gap))
other_name_decided (in_prolog stage before) name gap = inr (λ h. h)
other_name_decided (in_content before inner outer) name gap = unlike (one_of name inner.name)
other_name_decided (in_epilog before root after) name gap = inr (λ h. h)

mismatch_decided : (left : Left Mark) (i : Item) → Decided (IsMismatch left i)
mismatch_decided left (xml_declaration bytes) = inr (λ h. h)
mismatch_decided left (doctype name bytes) = inr (λ h. h)
mismatch_decided left (comment_or_instruction bytes) = inr (λ h. h)
mismatch_decided left (cdata_section bytes) = inr (λ h. h)
mismatch_decided left (start_tag name attrs) = inr (λ h. h)
mismatch_decided left (empty_tag name attrs) = inr (λ h. h)
mismatch_decided left (end_tag name gap) = other_name_decided left name gap
mismatch_decided left (text_run bytes) = inr (λ h. h)

doctype_decided : (root : List ℕ) (i : Item) → Decided (IsOtherDoctype root i)
doctype_decided root (xml_declaration bytes) = inr (λ h. h)
doctype_decided root (doctype name bytes) = unlike (one_of name root)
doctype_decided root (comment_or_instruction bytes) = inr (λ h. h)
doctype_decided root (cdata_section bytes) = inr (λ h. h)
doctype_decided root (start_tag name attrs) = inr (λ h. h)
doctype_decided root (empty_tag name attrs) = inr (λ h. h)
doctype_decided root (end_tag name gap) = inr (λ h. h)
doctype_decided root (text_run bytes) = inr (λ h. h)

at_most : (a b : ℕ) → Decided (a ≤ b)
at_most a b =
    elim (cases_order a b) [
      | inl same ↦ inl (omega arith)
      | inr (inl less) ↦ inl (omega arith)
      | inr (inr more) ↦ inr (λ h. absurd (omega arith))
    ]

where_true : {P : Type 0} (b : Bool) → Decided P → Decided (IsTrue b × P)
where_true true (inl is) = inl (refl, is)
where_true true (inr other) = inr (λ h. other h.1)
where_true false is = inr (λ h. let never = h.0 in cc)

deepest_decided : (most : Option ℕ) (n : ℕ) → Decided (IsDeepest most n)
deepest_decided None n = inr (λ h. h)
deepest_decided (Some depth) n = at_most depth n

deep_decided : (most : Option ℕ) (left : Left Mark) (i : Item) → Decided (IsTooDeep most left i)
deep_decided most left i = where_true (opens_element i) (deepest_decided most (open_elements left))

subset_decided : (most : Option ℕ) (root rest : List ℕ) (left : Left Mark) → Decided (BeginsSubset rest) → Decided (HasFault most blank_mark root left rest subset)
subset_decided most root rest left is = where_true (may_stand_doctype left) is

-- ---- what the rest means at one place
module _ (most : Option ℕ) (root rest : List ℕ) (k : ℕ) where
  faulty_here : (left : Left Mark) (kind : Kind) → IsFirstFault most blank_mark root left rest kind → (o : Outcome Mark) × DocumentRestMeans most blank_mark root k left rest o
  faulty_here left kind is = (faulty kind k, fault kind is)

  nothing_here : (left : Left Mark) → (HasFault most blank_mark root left rest subset → ⊥) →
      BeginsNoItem rest → (IsWholeAt left rest → ⊥) → (o : Outcome Mark)
      × DocumentRestMeans most blank_mark root k left rest o
  nothing_here left none no_item not_whole = faulty_here left syntax (nothing_begins one_item most blank_mark root left rest none not_whole no_item)

  is_nothing : (bytes : List ℕ) → Decided (bytes ≡ [])
  is_nothing [] = inl refl
  is_nothing (b ∷ bs) = inr (λ e. cc)

  ends_here : (left : Left Mark) → (HasFault most blank_mark root left rest subset → ⊥) → BeginsNoItem rest → (o : Outcome Mark) × DocumentRestMeans most blank_mark root k left rest o
  ends_here (in_prolog stage before) none no_item = nothing_here (in_prolog stage before) none no_item (λ whole. whole)
  ends_here (in_content before inner outer) none no_item = nothing_here (in_content before inner outer) none no_item (λ whole. whole)
  ends_here (in_epilog before t after) none no_item = by (is_nothing rest)
    where
      by : Decided (rest ≡ []) → (o : Outcome Mark) × DocumentRestMeans most blank_mark root k (in_epilog before t after) rest o
      by (inl e) = (is_document (record { before = before; root = t; after = after; mark = blank_mark }), ends e)
      by (inr some) = nothing_here (in_epilog before t after) none no_item some

  module _ (left : Left Mark) (none : HasFault most blank_mark root left rest subset → ⊥) (i : Item) (more : List ℕ) (begins : BeginsItem i rest more) (behind : MeansSomething root more) where
    module _ (next : Left Mark) (stands : left_by blank_mark left i ≡ Some next) where
      module _ (known : HasKnownReferences i) where
        module _ (same_name : IsMismatch left i → ⊥) where
          module _ (same_doctype : IsOtherDoctype root i → ⊥) where
            by_depth : Decided (IsTooDeep most left i) → (o : Outcome Mark) × DocumentRestMeans most blank_mark root k left rest o
            by_depth (inl is) = faulty_here left deep (too_deep one_item most blank_mark root left rest none i more begins next stands known same_name same_doctype is)
            by_depth (inr shallow) =
                let t = takes one_item most blank_mark root left rest none i more begins next stands known same_name same_doctype shallow in
                let meant = behind most (suc k) t.next in
                (meant.0, item i t.begins t.stands t.no_fault meant.1)

          by_doctype : Decided (IsOtherDoctype root i) → (o : Outcome Mark) × DocumentRestMeans most blank_mark root k left rest o
          by_doctype (inl is) = faulty_here left doctype_name (other_doctype one_item most blank_mark root left rest none i more begins next stands known same_name is)
          by_doctype (inr same) = by_depth same (deep_decided most left i)

        by_name : Decided (IsMismatch left i) → (o : Outcome Mark) × DocumentRestMeans most blank_mark root k left rest o
        by_name (inl is) = faulty_here left mismatch (other_name one_item most blank_mark root left rest none i more begins next stands known is)
        by_name (inr same) = by_doctype same (doctype_decided root i)

      by_references : Decided (HasKnownReferences i) → (o : Outcome Mark) × DocumentRestMeans most blank_mark root k left rest o
      by_references (inl known) = by_name known (mismatch_decided left i)
      by_references (inr other) = faulty_here left entity (other_reference one_item most blank_mark root left rest none i more begins next stands other)

    by_place : (b : Bool) → may_stand (place_reached left) i ≡ b → (o : Outcome Mark) × DocumentRestMeans most blank_mark root k left rest o
    by_place true e = let there = stands_at most blank_mark root rest left (place_reached left) refl i e in by_references there.next there.is (known_is_decided i begins.has_form)
    by_place false e = faulty_here left syntax (may_not_stand one_item most blank_mark root left rest none i more begins (none_at most blank_mark root rest left (place_reached left) refl i e))

  by_subset : (left : Left Mark) → Decided (HasFault most blank_mark root left rest subset)
      → ((HasFault most blank_mark root left rest subset → ⊥) → (o : Outcome Mark)
      × DocumentRestMeans most blank_mark root k left rest o) → (o : Outcome Mark)
      × DocumentRestMeans most blank_mark root k left rest o
  by_subset left (inl is) others = faulty_here left subset (subset_is_first one_item most blank_mark root left rest is)
  by_subset left (inr none) others = others none

-- where no item begins the rest means something, and where one begins, if what is after it does
pub none_means : (root rest : List ℕ) → Decided (BeginsSubset rest) → BeginsNoItem rest → MeansSomething root rest
none_means root rest is no_item most k left = by_subset most root rest k left (subset_decided most root rest left is) (λ none. ends_here most root rest k left none no_item)

pub one_means : (root rest : List ℕ) → Decided (BeginsSubset rest) → (i : Item) (more : List ℕ) → BeginsItem i rest more → MeansSomething root more → MeansSomething root rest
one_means root rest is i more begins behind most k left =
    by_subset most root rest k left (subset_decided most root rest left is) (λ none. by_place most root rest k left none i more begins behind (may_stand (place_reached left) i) refl)

-- what a test of bytes tells
pub tested : (b : Bool) {P : Type 0} → (IsTrue b ↔ P) → Decided P
tested true is = inl (is.0 refl)
tested false is = inr (λ p. let never = is.1 p in cc)

-- ---- the text
only_one : (limits : TextLimits) (root bytes : List ℕ) (o : Outcome Mark) → DocumentMeansWithin limits blank_mark root bytes o → HasOneMeaning limits root bytes
only_one limits root bytes o means = record { outcome = o; means = means; only = λ other meant. same_document_meaning one_item limits blank_mark root meant means }

pub has_one_meaning : (root bytes mark rest : List ℕ) → TakesByteOrderMark bytes mark rest → MeansSomething root rest → (limits : TextLimits) → HasOneMeaning limits root bytes
has_one_meaning root bytes mark rest starts something limits = by (at_most (length bytes) limits.bytes)
  where
    by : Decided (length bytes ≤ limits.bytes) → HasOneMeaning limits root bytes
    by (inl few) = let meant = something limits.depth 0 (in_prolog at_front mark) in only_one limits root bytes meant.0 (items few starts meant.1)
    by (inr many) = only_one limits root bytes too_long (long (over many))
      where
        over : (length bytes ≤ limits.bytes → ⊥) → limits.bytes < length bytes
        over many =
            elim (cases_order limits.bytes (length bytes)) [
              | inl same ↦ absurd (many (omega arith))
              | inr (inl less) ↦ less
              | inr (inr more) ↦ absurd (many (omega arith))
            ]
