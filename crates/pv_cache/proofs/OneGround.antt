-- An edit is accepted, or has one ground to be refused on.
use Rattle.std.proofs.Common.{List, ap, arith, refl, subst, sym, ℕ, ◌≡◌}
use Rattle.std.proofs.Math.Logic.{∥∥₁_elim}
use Rattle.std.specs.Coded.{Coded-set, coded_list, coded_ℕ}
use Rattle.pv_cache.specs.AcceptedEdits.{GetsNoWorse, GetsWorse, IsAccepted, IsWithinLimits}
use Rattle.pv_cache.specs.VerdictsAfterChange.{IsFirstImpossibleAt}
use Rattle.pv_cache.specs.GroundLaws.{AcceptedHasNoGround, HasOneGround}
use Rattle.pv_cache.specs.Moves.{HasGround}
use Rattle.pv_cache.proofs.RemarkedDocuments.{accepted_as, ground_as}
use Rattle.pv_cache.proofs.FirstChangedList.{one_first_at}
use Rattle.pv_dtd.specs.Plain.{PlainDtd}
use Rattle.pv_edit.specs.ChangedLists.{changed_lists, makes}
use Rattle.pv_edit.specs.Reasons.{Outcome, edit_outcome, gives, refuses}
use Rattle.pv_edit.specs.declared.answers.EditAnswer.{EditAnswer}
use Rattle.pv_edit.specs.declared.answers.EditAnswer.TheVariants.{Impossible, Limit, NoMemory}
use Rattle.pv_edit.specs.declared.answers.EditAnswer.TheVariants.{Shape}
use Rattle.pv_edit.specs.declared.edits.Edit.{Edit}
use Rattle.pv_edit.specs.declared.reasons.Reason.{Reason}
use Rattle.pv_missing.specs.Verdicts.{is_impossible}
use Rattle.pv_missing.proofs.Counts.{one_count_of_lists}
use Rattle.pv_tree.specs.Lists.{lists_of}
use Rattle.pv_tree.specs.Marks.{unmarked_doc}
use Rattle.pv_tree.specs.Plain.{PlainDoc}

module _ {M : Type 0} where
  same_given : (o : Outcome M) (x y : PlainDoc M) → o ≡ gives x → o ≡ gives y → x ≡ y
  same_given o x y a b = cc

  not_both : (o : Outcome M) (x : PlainDoc M) (r : Reason) → o ≡ gives x → o ≡ refuses r → ⊥
  not_both o x r a b = absurd cc

  same_reason : (o : Outcome M) (r s : Reason) → o ≡ refuses r → o ≡ refuses s → r ≡ s
  same_reason o r s a b = cc

  one_path : (g : PlainDtd) (root : List ℕ) (doc : PlainDoc M) (paths : List (List ℕ))
      (path other : List ℕ) → ∥ IsFirstImpossibleAt g root doc paths path ∥₁ →
      ∥ IsFirstImpossibleAt g root doc paths other ∥₁ → path ≡ other
  one_path g root doc paths path other a b =
      let set = Coded-set (coded_list coded_ℕ) path other in
      ∥∥₁_elim a set (λ x. ∥∥₁_elim b set (λ y. one_first_at g root doc paths path other x y))

  -- as many lists can't be both more and no more
  pub not_worse : (g : PlainDtd) (root : List ℕ) (doc edited : PlainDoc M) →
      GetsNoWorse g root doc edited → GetsWorse g root doc edited → ⊥
  not_worse g root doc edited (m, n, a, le) (k, l, b, lt) =
      let p = one_count_of_lists M is_impossible g root (lists_of doc) m k a.had b.had in
      let q = one_count_of_lists M is_impossible g root (lists_of edited) n l a.has b.has in
      absurd (omega arith)

  module _ (blank : M) (g : PlainDtd) (root : List ℕ) (doc : PlainDoc M) (edit : Edit) where
    abbrev Given : PlainDoc M → Type 0
    Given d = edit_outcome blank doc edit ≡ gives d

    abbrev Within : PlainDoc M → Type 0
    Within d = IsWithinLimits g d (changed_lists (makes edit))

    within_same : (x y : PlainDoc M) → Given x → Given y → Within x → Within y
    within_same x y a b w = subst Within (same_given _ x y a b) w

    pub no_ground : (edited : PlainDoc M) (answer : EditAnswer) →
        IsAccepted blank g root doc edit edited → HasGround blank g root doc edit answer →
        answer ≡ NoMemory
    no_ground edited (Shape reason) a h = absurd (not_both _ edited reason a.is_edited h)
    no_ground edited Limit a (d, e, n) = absurd (n (within_same edited d a.is_edited e a.within))
    no_ground edited (Impossible path) a (d, e, w, n, f) =
        let no_worse =
        subst (λ (x : PlainDoc M). ∥ GetsNoWorse g root doc x ∥₁)
        (same_given _ edited d a.is_edited e) a.no_worse in
        absurd (∥∥₁_elim no_worse (λ x. absurd x) (λ p.
        ∥∥₁_elim n (λ x. absurd x) (not_worse g root doc d p)))
    no_ground edited NoMemory a h = refl

    one_ground : (answer other : EditAnswer) → HasGround blank g root doc edit answer →
        HasGround blank g root doc edit other → (answer ≡ NoMemory → ⊥) → (other ≡ NoMemory → ⊥) →
        answer ≡ other
    one_ground NoMemory b h k n m = absurd (n refl)
    one_ground (Shape r) NoMemory h k n m = absurd (m refl)
    one_ground Limit NoMemory h k n m = absurd (m refl)
    one_ground (Impossible p) NoMemory h k n m = absurd (m refl)
    one_ground (Shape r) (Shape s) h k n m = ap Shape (same_reason _ r s h k)
    one_ground (Shape r) Limit h (d, e, w) n m = absurd (not_both _ d r e h)
    one_ground (Shape r) (Impossible p) h (d, e, w, v, f) n m = absurd (not_both _ d r e h)
    one_ground Limit (Shape r) (d, e, w) k n m = absurd (not_both _ d r e k)
    one_ground Limit Limit h k n m = refl
    one_ground Limit (Impossible p) (d, e, w) (x, y, z, v, f) n m =
        absurd (w (within_same x d y e z))
    one_ground (Impossible p) (Shape r) (d, e, w, v, f) k n m = absurd (not_both _ d r e k)
    one_ground (Impossible p) Limit (x, y, z, v, f) (d, e, w) n m =
        absurd (w (within_same x d y e z))
    one_ground (Impossible p) (Impossible q) (d, e, w, v, f) (x, y, z, u, j) n m =
        let r =
        subst (λ (a : PlainDoc M). ∥ IsFirstImpossibleAt g root a (changed_lists (makes edit)) p ∥₁)
        (same_given _ d x e y) f in
        ap Impossible (one_path g root x (changed_lists (makes edit)) p q r j)

pub no_ground_of_accepted : (M N : Type 0) → AcceptedHasNoGround M N
no_ground_of_accepted M N blank other g root doc same edit edited answer is a h =
    no_ground tt g root (unmarked_doc doc) edit (unmarked_doc edited) answer
    (accepted_as (λ _. tt) blank g root doc edit edited a)
    (subst (λ (d : PlainDoc Unit). HasGround tt g root d edit answer) (sym is)
    (ground_as (λ _. tt) other g root same edit answer h))

pub has_one_ground : (M : Type 0) → HasOneGround M
has_one_ground M blank g root doc edit answer other h k n m =
    one_ground blank g root doc edit answer other h k n m
