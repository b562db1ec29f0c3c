-- What the place tells of the items so far.
use Rattle.std.proofs.Common.{◌≡◌, ℕ, List, Bool, true, false, IsTrue, Option, Some, None, cond, refl, sym, ap, ◌∙◌, subst}
use Rattle.std.specs.List.{list_all}
use Rattle.pv_chars.specs.Spaces.{is_space}
use Rattle.pv_read.specs.Limits.{IsDeepest}
use Rattle.pv_read.specs.Items.{Item, xml_declaration, doctype, comment_or_instruction, cdata_section, start_tag, empty_tag, end_tag, text_run}
use Rattle.pv_read.specs.Left.{Left, in_prolog, in_content, in_epilog, left_by, takes_doctype, is_at_front, open_elements, IsWholeAt}
use Rattle.pv_read.specs.Kinds.{may_stand_doctype, BeginsSubset, IsMismatch, opens_element, IsTooDeep, HasFault, subset}
use Rattle.pv_read.specs.Places.{PlainPlace, place_reached, takes_doctype_at, open_at, may_stand, IsMismatchAt, AsksForItem}

doctype_there : {M : Type 0} (left : Left M) → may_stand_doctype left ≡ takes_doctype_at (place_reached left)
doctype_there (in_prolog stage before) = refl
doctype_there (in_content before inner outer) = refl
doctype_there (in_epilog before root after) = refl

open_there : {M : Type 0} (left : Left M) → open_elements left ≡ open_at (place_reached left)
open_there (in_prolog stage before) = refl
open_there (in_content before inner outer) = refl
open_there (in_epilog before root after) = refl

-- what is left where an item may stand, and nothing where it may not
pub record MayStand {M : Type 0} (m : M) (left : Left M) (i : Item) : Type 0 where
  pub next : Left M
  pub is : left_by m left i ≡ Some next

by_test : {A : Type 0} (b : Bool) (x : A) → b ≡ true → cond b (Some x) None ≡ Some x
by_test b x e = rw e refl

none_by_test : {A : Type 0} (b : Bool) (x : A) → b ≡ false → cond b (Some x) None ≡ None
none_by_test b x e = rw e refl

stands : {M : Type 0} (m : M) (left : Left M) (i : Item) → may_stand (place_reached left) i ≡ true → MayStand m left i
stands m (in_prolog stage before) (xml_declaration bytes) e = record { next = _; is = by_test (is_at_front stage) _ e }
stands m (in_prolog stage before) (doctype name bytes) e = record { next = _; is = by_test (takes_doctype stage) _ e }
stands m (in_prolog stage before) (comment_or_instruction bytes) e = record { next = _; is = refl }
stands m (in_prolog stage before) (cdata_section bytes) e = cc
stands m (in_prolog stage before) (start_tag name attrs) e = record { next = _; is = refl }
stands m (in_prolog stage before) (empty_tag name attrs) e = record { next = _; is = refl }
stands m (in_prolog stage before) (end_tag name gap) e = cc
stands m (in_prolog stage before) (text_run bytes) e = record { next = _; is = by_test (list_all is_space bytes) _ e }
stands m (in_content before inner outer) (xml_declaration bytes) e = cc
stands m (in_content before inner outer) (doctype name bytes) e = cc
stands m (in_content before inner outer) (comment_or_instruction bytes) e = record { next = _; is = refl }
stands m (in_content before inner outer) (cdata_section bytes) e = record { next = _; is = refl }
stands m (in_content before inner outer) (start_tag name attrs) e = record { next = _; is = refl }
stands m (in_content before inner outer) (empty_tag name attrs) e = record { next = _; is = refl }
stands m (in_content before inner outer) (end_tag name gap) e = record { next = _; is = refl }
stands m (in_content before inner outer) (text_run bytes) e = record { next = _; is = refl }
stands m (in_epilog before root after) (xml_declaration bytes) e = cc
stands m (in_epilog before root after) (doctype name bytes) e = cc
stands m (in_epilog before root after) (comment_or_instruction bytes) e = record { next = _; is = refl }
stands m (in_epilog before root after) (cdata_section bytes) e = cc
stands m (in_epilog before root after) (start_tag name attrs) e = cc
stands m (in_epilog before root after) (empty_tag name attrs) e = cc
stands m (in_epilog before root after) (end_tag name gap) e = cc
stands m (in_epilog before root after) (text_run bytes) e = record { next = _; is = by_test (list_all is_space bytes) _ e }

stands_not : {M : Type 0} (m : M) (left : Left M) (i : Item) → may_stand (place_reached left) i ≡ false → left_by m left i ≡ None
stands_not m (in_prolog stage before) (xml_declaration bytes) e = none_by_test (is_at_front stage) _ e
stands_not m (in_prolog stage before) (doctype name bytes) e = none_by_test (takes_doctype stage) _ e
stands_not m (in_prolog stage before) (comment_or_instruction bytes) e = cc
stands_not m (in_prolog stage before) (cdata_section bytes) e = refl
stands_not m (in_prolog stage before) (start_tag name attrs) e = cc
stands_not m (in_prolog stage before) (empty_tag name attrs) e = cc
stands_not m (in_prolog stage before) (end_tag name gap) e = refl
stands_not m (in_prolog stage before) (text_run bytes) e = none_by_test (list_all is_space bytes) _ e
stands_not m (in_content before inner outer) (xml_declaration bytes) e = refl
stands_not m (in_content before inner outer) (doctype name bytes) e = refl
stands_not m (in_content before inner outer) (comment_or_instruction bytes) e = cc
stands_not m (in_content before inner outer) (cdata_section bytes) e = cc
stands_not m (in_content before inner outer) (start_tag name attrs) e = cc
stands_not m (in_content before inner outer) (empty_tag name attrs) e = cc
stands_not m (in_content before inner outer) (end_tag name gap) e = cc
stands_not m (in_content before inner outer) (text_run bytes) e = cc
stands_not m (in_epilog before root after) (xml_declaration bytes) e = refl
stands_not m (in_epilog before root after) (doctype name bytes) e = refl
stands_not m (in_epilog before root after) (comment_or_instruction bytes) e = cc
stands_not m (in_epilog before root after) (cdata_section bytes) e = refl
stands_not m (in_epilog before root after) (start_tag name attrs) e = refl
stands_not m (in_epilog before root after) (empty_tag name attrs) e = refl
stands_not m (in_epilog before root after) (end_tag name gap) e = refl
stands_not m (in_epilog before root after) (text_run bytes) e = none_by_test (list_all is_space bytes) _ e

same_mismatch : {M : Type 0} (left : Left M) (i : Item) → IsMismatchAt (place_reached left) i ≡ IsMismatch left i
same_mismatch (in_prolog stage before) (xml_declaration bytes) = refl
same_mismatch (in_prolog stage before) (doctype name bytes) = refl
same_mismatch (in_prolog stage before) (comment_or_instruction bytes) = refl
same_mismatch (in_prolog stage before) (cdata_section bytes) = refl
same_mismatch (in_prolog stage before) (start_tag name attrs) = refl
same_mismatch (in_prolog stage before) (empty_tag name attrs) = refl
same_mismatch (in_prolog stage before) (end_tag name gap) = refl
same_mismatch (in_prolog stage before) (text_run bytes) = refl
same_mismatch (in_content before inner outer) (xml_declaration bytes) = refl
same_mismatch (in_content before inner outer) (doctype name bytes) = refl
same_mismatch (in_content before inner outer) (comment_or_instruction bytes) = refl
same_mismatch (in_content before inner outer) (cdata_section bytes) = refl
same_mismatch (in_content before inner outer) (start_tag name attrs) = refl
same_mismatch (in_content before inner outer) (empty_tag name attrs) = refl
same_mismatch (in_content before inner outer) (end_tag name gap) = refl
same_mismatch (in_content before inner outer) (text_run bytes) = refl
same_mismatch (in_epilog before root after) (xml_declaration bytes) = refl
same_mismatch (in_epilog before root after) (doctype name bytes) = refl
same_mismatch (in_epilog before root after) (comment_or_instruction bytes) = refl
same_mismatch (in_epilog before root after) (cdata_section bytes) = refl
same_mismatch (in_epilog before root after) (start_tag name attrs) = refl
same_mismatch (in_epilog before root after) (empty_tag name attrs) = refl
same_mismatch (in_epilog before root after) (end_tag name gap) = refl
same_mismatch (in_epilog before root after) (text_run bytes) = refl

-- where an item is to stand the document isn't whole
pub not_whole_at : {M : Type 0} (left : Left M) (place : PlainPlace) (rest : List ℕ) → place_reached left ≡ place → AsksForItem place rest → IsWholeAt left rest → ⊥
not_whole_at left place rest at asks whole = by left (subst (λ p. AsksForItem p rest) (sym at) asks) whole
  where
    by : {M : Type 0} (left : Left M) → AsksForItem (place_reached left) rest → IsWholeAt left rest → ⊥
    by (in_prolog stage before) asks whole = whole
    by (in_content before inner outer) asks whole = whole
    by (in_epilog before root after) asks whole = asks whole

module _ {M : Type 0} (most : Option ℕ) (m : M) (root rest : List ℕ) (left : Left M) (place : PlainPlace) (at : place_reached left ≡ place) where
  takes_is : may_stand_doctype left ≡ takes_doctype_at place
  takes_is = doctype_there left ∙ ap takes_doctype_at at

  pub subset_at : IsTrue (takes_doctype_at place) × BeginsSubset rest → HasFault most m root left rest subset
  subset_at h = (takes_is ∙ h.0, h.1)

  pub subset_of : HasFault most m root left rest subset → IsTrue (takes_doctype_at place) × BeginsSubset rest
  subset_of h = (sym takes_is ∙ h.0, h.1)

  module _ (i : Item) where
    pub stands_at : may_stand place i ≡ true → MayStand m left i
    stands_at e = stands m left i (ap (λ p. may_stand p i) at ∙ e)

    pub none_at : may_stand place i ≡ false → left_by m left i ≡ None
    none_at e = stands_not m left i (ap (λ p. may_stand p i) at ∙ e)

    mismatch_is : IsMismatchAt place i ≡ IsMismatch left i
    mismatch_is = sym (ap (λ p. IsMismatchAt p i) at) ∙ same_mismatch left i

    pub mismatch_at : IsMismatchAt place i → IsMismatch left i
    mismatch_at h = subst (λ (A : Type 0). A) mismatch_is h

    pub mismatch_of : IsMismatch left i → IsMismatchAt place i
    mismatch_of h = subst (λ (A : Type 0). A) (sym mismatch_is) h

    pub deep_at : IsTrue (opens_element i) × IsDeepest most (open_at place) → IsTooDeep most left i
    deep_at h = let same = open_there left ∙ ap open_at at in (h.0, rw same h.1)

    pub deep_of : IsTooDeep most left i → IsTrue (opens_element i) × IsDeepest most (open_at place)
    deep_of h = let same = open_there left ∙ ap open_at at in (h.0, rw (← same) h.1)
