-- A text has one meaning.
use Rattle.std.proofs.Common.{◌≡◌, inl, inr, ℕ, zero, suc, List, Option, Some, refl, sym, ap, ◌∙◌, subst, arith}
use Rattle.std.proofs.lemmas.Bool.{cases_order}
use Rattle.pv_chars.proofs.ByteOrderMarkLemmas.{same_byte_order_mark}
use Rattle.pv_read.specs.Limits.{TextLimits}
use Rattle.pv_read.specs.Items.{Item, BeginsItem}
use Rattle.pv_read.specs.Left.{Left, at_front, in_prolog, left_by}
use Rattle.pv_read.specs.Kinds.{Kind, subset, syntax, entity, mismatch, doctype_name, deep, rank, IsFirstFault}
use Rattle.pv_read.specs.Meaning.{Outcome, faulty, DocumentRestMeans, ends, item, fault, DocumentMeansWithin, long, items}
use Rattle.pv_read.specs.ItemLaws.{ItemsAreDetermined}
use Rattle.pv_read.proofs.NextItems.{no_item_in_nothing, whole_has_no_fault}
use Rattle.pv_read.proofs.Prologs.{same_some}

kind_of : ℕ → Kind
kind_of zero = subset
kind_of (suc zero) = syntax
kind_of (suc (suc zero)) = entity
kind_of (suc (suc (suc zero))) = mismatch
kind_of (suc (suc (suc (suc zero)))) = doctype_name
kind_of (suc (suc (suc (suc (suc n))))) = deep

kind_of_rank : (kind : Kind) → kind_of (rank kind) ≡ kind
unfolding kind_of
kind_of_rank subset = refl
kind_of_rank syntax = refl
kind_of_rank entity = refl
kind_of_rank mismatch = refl
kind_of_rank doctype_name = refl
kind_of_rank deep = refl

same_kind : {M : Type 0} {most : Option ℕ} {m : M} {root rest : List ℕ} {left : Left M} {k j : Kind} → IsFirstFault most m root left rest k → IsFirstFault most m root left rest j → k ≡ j
same_kind {k = k} {j = j} a b =
    elim (cases_order (rank k) (rank j)) [
      | inl same ↦ sym (kind_of_rank k) ∙ ap kind_of same ∙ kind_of_rank j
      | inr (inl less) ↦ absurd (b.first k less a.holds)
      | inr (inr less) ↦ absurd (a.first j less b.holds)
    ]

module _ {M : Type 0} (one_item : ItemsAreDetermined) (most : Option ℕ) (m : M) (root : List ℕ) where
  same_step : {k : ℕ} (left : Left M) {next other : Left M} {rest more others : List ℕ} {o : Outcome M} (i j : Item) → BeginsItem i rest more → BeginsItem j rest others
      → left_by m left i ≡ Some next → left_by m left j ≡ Some other → DocumentRestMeans most m root (suc k) next more o → DocumentRestMeans most m root (suc k) other others o
  same_step {k} left {next} {other} {rest} {more} {others} {o} i j begins at stands there means =
      let same = one_item i j rest more others begins at in
      let left_is : next ≡ other = same_some (sym stands ∙ ap (left_by m left) same.0 ∙ there) in
      subst (λ r. DocumentRestMeans most m root (suc k) other r o) same.1 (subst (λ l. DocumentRestMeans most m root (suc k) l more o) left_is means)

  -- after these items, the rest has one meaning
  pub same_meaning : {k : ℕ} {left : Left M} {rest : List ℕ} {o p : Outcome M} → DocumentRestMeans most m root k left rest o → DocumentRestMeans most m root k left rest p → o ≡ p
  same_meaning (ends a) (ends b) = refl
  same_meaning (ends a) (item i begins stands none means) = absurd (no_item_in_nothing a begins)
  same_meaning (ends a) (fault kind f) = absurd (whole_has_no_fault most m root _ _ _ _ kind a f.holds)
  same_meaning (item i begins stands none means) (ends a) = absurd (no_item_in_nothing a begins)
  same_meaning {left = left} (item i begins stands none means) (item j at there free others) = same_meaning (same_step left i j begins at stands there means) others
  same_meaning (item i begins stands none means) (fault kind f) = absurd (none kind f.holds)
  same_meaning (fault kind f) (ends a) = absurd (whole_has_no_fault most m root _ _ _ _ kind a f.holds)
  same_meaning (fault kind f) (item i begins stands none means) = absurd (none kind f.holds)
  same_meaning {k} (fault kind f) (fault other g) = ap (λ x. faulty x k) (same_kind f g)

module _ {M : Type 0} (one_item : ItemsAreDetermined) (limits : TextLimits) (m : M) (root : List ℕ) where
  pub same_document_meaning : {bytes : List ℕ} {o p : Outcome M} → DocumentMeansWithin limits m root bytes o → DocumentMeansWithin limits m root bytes p → o ≡ p
  same_document_meaning (long a) (long b) = refl
  same_document_meaning (long a) (items few mark n) = absurd (omega arith)
  same_document_meaning (items few mark n) (long b) = absurd (omega arith)
  same_document_meaning {bytes} {o} (items {mark = mark} {rest = rest} few a n) (items {mark = other} {rest = more} less b l) =
      let same = same_byte_order_mark bytes mark rest other more a b in
      let meant = subst (λ k. DocumentRestMeans limits.depth m root 0 (in_prolog at_front k) rest o) same.0 n in
      same_meaning one_item limits.depth m root (subst (λ r. DocumentRestMeans limits.depth m root 0 (in_prolog at_front other) r o) same.1 meant) l
