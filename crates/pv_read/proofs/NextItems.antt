-- The item that stands at the front, and the first kind of fault there.
use Rattle.std.proofs.Common.{◌≡◌, ◌<◌, inl, inr, ℕ, List, [], ◌∷◌, ◌++◌, Option, Some, None, refl, sym, ap, ◌∙◌, subst, arith}
use Rattle.pv_tree.specs.Plain.{Tree}
use Rattle.pv_read.specs.Items.{Item, xml_declaration, doctype, comment_or_instruction, cdata_section, start_tag, empty_tag, end_tag, text_run, bytes_of, HasForm, HasKnownReferences, BeginsItem}
use Rattle.pv_read.specs.Left.{Left, in_prolog, in_content, in_epilog, left_by, IsWholeAt}
use Rattle.pv_read.specs.Kinds.{Kind, subset, syntax, entity, mismatch, doctype_name, deep, Stands, IsMismatch, IsOtherDoctype, IsTooDeep, HasFault, rank, IsFirstFault}
use Rattle.pv_read.specs.ItemLaws.{ItemsAreDetermined}
use Rattle.pv_read.specs.PlainItems.{BeginsNoItem}
use Rattle.pv_read.specs.Steps.{TakesItem}

-- an item is not empty
bytes_some : (i : Item) → HasForm i → bytes_of i ≡ [] → ⊥
bytes_some (xml_declaration bytes) form none = let whole = form.whole in cc
bytes_some (doctype name bytes) form none = let whole = form.whole in let front = form.is_front.whole in cc
bytes_some (comment_or_instruction bytes) (inl form) none = let whole = form.whole in cc
bytes_some (comment_or_instruction bytes) (inr form) none = let whole = form.whole in cc
bytes_some (cdata_section bytes) form none = let whole = form.whole in cc
bytes_some (start_tag name attrs) form none = cc
bytes_some (empty_tag name attrs) form none = cc
bytes_some (end_tag name gap) form none = cc
bytes_some (text_run bytes) form none = form.some none

pub no_item_in_nothing : {i : Item} {bytes rest : List ℕ} → bytes ≡ [] → BeginsItem i bytes rest → ⊥
no_item_in_nothing {i} {bytes} {rest} none begins = bytes_some i begins.has_form (front (bytes_of i) rest (sym begins.whole ∙ none))
  where
    front : (a b : List ℕ) → a ++ b ≡ [] → a ≡ []
    front [] b e = refl
    front (x ∷ xs) b e = cc

pub whole_has_nothing : {M : Type 0} (left : Left M) (rest : List ℕ) → IsWholeAt left rest → rest ≡ []
whole_has_nothing (in_prolog stage before) rest whole = absurd whole
whole_has_nothing (in_content before inner outer) rest whole = absurd whole
whole_has_nothing (in_epilog before root after) rest whole = whole

-- where the document is whole there is no fault
pub whole_has_no_fault : {M : Type 0} (most : Option ℕ) (m : M) (root before after rest : List ℕ) (t : Tree M) (kind : Kind) → rest ≡ [] → HasFault most m root (in_epilog before t after) rest kind → ⊥
whole_has_no_fault most m root before after rest t subset none h = cc (h.0)
whole_has_no_fault most m root before after rest t syntax none h = h.0 none
whole_has_no_fault most m root before after rest t entity none h = no_item_in_nothing none h.begins
whole_has_no_fault most m root before after rest t mismatch none h = no_item_in_nothing none h.begins
whole_has_no_fault most m root before after rest t doctype_name none h = no_item_in_nothing none h.begins
whole_has_no_fault most m root before after rest t deep none h = no_item_in_nothing none h.begins

module _ {M : Type 0} (one_item : ItemsAreDetermined) (most : Option ℕ) (m : M) (root : List ℕ) (left : Left M) (rest : List ℕ) where
  pub subset_is_first : HasFault most m root left rest subset → IsFirstFault most m root left rest subset
  subset_is_first h = record { holds = h; first = λ earlier less h. absurd (omega arith) }

  module _ (no_subset : HasFault most m root left rest subset → ⊥) where
    syntax_first : (earlier : Kind) → rank earlier < 1 → HasFault most m root left rest earlier → ⊥
    syntax_first subset less h = no_subset h
    syntax_first syntax less h = absurd (omega arith)
    syntax_first entity less h = absurd (omega arith)
    syntax_first mismatch less h = absurd (omega arith)
    syntax_first doctype_name less h = absurd (omega arith)
    syntax_first deep less h = absurd (omega arith)

    pub nothing_begins : (IsWholeAt left rest → ⊥) → BeginsNoItem rest → IsFirstFault most m root left rest syntax
    nothing_begins not_whole none = record { holds = (not_whole, λ i more begins. absurd (none i more begins)); first = syntax_first }

    module _ (i : Item) (more : List ℕ) (begins : BeginsItem i rest more) where
      pub may_not_stand : left_by m left i ≡ None → IsFirstFault most m root left rest syntax
      may_not_stand none =
          record {
            holds = (
              λ whole. no_item_in_nothing (whole_has_nothing left rest whole) begins,
              λ j others b. let same = (one_item j i rest others more b begins).0 in ap (left_by m left) same ∙ none,
            );
            first = syntax_first;
          }

      module _ (next : Left M) (stands : left_by m left i ≡ Some next) where
        no_syntax : HasFault most m root left rest syntax → ⊥
        no_syntax h = let none = h.1 i more begins in cc

        is_so : (P : Item → Type 0) → Stands m left rest P → P i
        is_so P s = subst P (one_item s.item i rest s.more more s.begins begins).0 s.has_property

        stands_so : (P : Item → Type 0) → P i → Stands m left rest P
        stands_so P is = record { item = i; more = more; next = next; begins = begins; may_stand = stands; has_property = is }

        entity_first : (earlier : Kind) → rank earlier < 2 → HasFault most m root left rest earlier → ⊥
        entity_first subset less h = no_subset h
        entity_first syntax less h = no_syntax h
        entity_first entity less h = absurd (omega arith)
        entity_first mismatch less h = absurd (omega arith)
        entity_first doctype_name less h = absurd (omega arith)
        entity_first deep less h = absurd (omega arith)

        pub other_reference : (HasKnownReferences i → ⊥) → IsFirstFault most m root left rest entity
        other_reference is = record { holds = stands_so (λ j. HasKnownReferences j → ⊥) is; first = entity_first }

        module _ (known : HasKnownReferences i) where
          no_entity : HasFault most m root left rest entity → ⊥
          no_entity h = is_so (λ j. HasKnownReferences j → ⊥) h known

          mismatch_first : (earlier : Kind) → rank earlier < 3 → HasFault most m root left rest earlier → ⊥
          mismatch_first subset less h = no_subset h
          mismatch_first syntax less h = no_syntax h
          mismatch_first entity less h = no_entity h
          mismatch_first mismatch less h = absurd (omega arith)
          mismatch_first doctype_name less h = absurd (omega arith)
          mismatch_first deep less h = absurd (omega arith)

          pub other_name : IsMismatch left i → IsFirstFault most m root left rest mismatch
          other_name is = record { holds = stands_so (IsMismatch left) is; first = mismatch_first }

          module _ (same_name : IsMismatch left i → ⊥) where
            doctype_first : (earlier : Kind) → rank earlier < 4 → HasFault most m root left rest earlier → ⊥
            doctype_first subset less h = no_subset h
            doctype_first syntax less h = no_syntax h
            doctype_first entity less h = no_entity h
            doctype_first mismatch less h = same_name (is_so (IsMismatch left) h)
            doctype_first doctype_name less h = absurd (omega arith)
            doctype_first deep less h = absurd (omega arith)

            pub other_doctype : IsOtherDoctype root i → IsFirstFault most m root left rest doctype_name
            other_doctype is = record { holds = stands_so (IsOtherDoctype root) is; first = doctype_first }

            module _ (same_doctype : IsOtherDoctype root i → ⊥) where
              deep_first : (earlier : Kind) → rank earlier < 5 → HasFault most m root left rest earlier → ⊥
              deep_first subset less h = no_subset h
              deep_first syntax less h = no_syntax h
              deep_first entity less h = no_entity h
              deep_first mismatch less h = same_name (is_so (IsMismatch left) h)
              deep_first doctype_name less h = same_doctype (is_so (IsOtherDoctype root) h)
              deep_first deep less h = absurd (omega arith)

              pub too_deep : IsTooDeep most left i → IsFirstFault most m root left rest deep
              too_deep is = record { holds = stands_so (IsTooDeep most left) is; first = deep_first }

              module _ (shallow : IsTooDeep most left i → ⊥) where
                no_fault : (kind : Kind) → HasFault most m root left rest kind → ⊥
                no_fault subset h = no_subset h
                no_fault syntax h = no_syntax h
                no_fault entity h = no_entity h
                no_fault mismatch h = same_name (is_so (IsMismatch left) h)
                no_fault doctype_name h = same_doctype (is_so (IsOtherDoctype root) h)
                no_fault deep h = shallow (is_so (IsTooDeep most left) h)

                pub takes : TakesItem most m root left rest i more
                takes = record { next = next; begins = begins; stands = stands; no_fault = no_fault }
