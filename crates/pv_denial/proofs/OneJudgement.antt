-- A denial is judged to be one thing only.
use Rattle.std.proofs.Common.{List, ap, inl, inr, refl, subst, sym, ℕ, ◌∙◌, ◌≡◌}
use Rattle.pv_dtd.specs.Plain.{PlainDtd}
use Rattle.pv_tree.specs.Lists.{Listed}
use Rattle.pv_tables.specs.TableLaws.{OneListAtPath}
use Rattle.pv_denial.specs.Judgements.{FailsAt, IsAbout, IsDenialJudged, IsTooWideFor, JudgesAt}
use Rattle.pv_denial.specs.Laws.{OneJudged}
use Rattle.pv_missing.specs.Widths.{IsListForVerdict}
use Rattle.pv_denial.specs.declared.denials.Cause.TheVariants as cause
use Rattle.pv_denial.specs.declared.denials.Denial.{Denial}
use Rattle.pv_denial.specs.declared.denials.Flaw.{Flaw}
use Rattle.pv_denial.specs.declared.denials.Flaw.TheVariants as flaw
use Rattle.pv_denial.specs.declared.denials.Judged.{Judged}
use Rattle.pv_denial.specs.declared.denials.Judged.TheVariants as judged

module _ {M : Type 0} (g : PlainDtd) (root : List ℕ) (d : Denial) (list : Listed M) where
  one_flaw : (a b : Flaw) → FailsAt g root d list a → FailsAt g root d list b → a ≡ b
  one_flaw flaw.List b p q = absurd p
  one_flaw a flaw.List p q = absurd q
  one_flaw flaw.Cause flaw.Cause p q = refl
  one_flaw flaw.Cause flaw.Table p q = absurd (p.1 q.1)
  one_flaw flaw.Cause flaw.Reached p q = absurd (p.1 q.1)
  one_flaw flaw.Table flaw.Cause p q = absurd (q.1 p.1)
  one_flaw flaw.Table flaw.Table p q = refl
  one_flaw flaw.Table flaw.Reached p q = absurd (p.2 q.2)
  one_flaw flaw.Reached flaw.Cause p q = absurd (q.1 p.1)
  one_flaw flaw.Reached flaw.Table p q = absurd (q.2 p.2)
  one_flaw flaw.Reached flaw.Reached p q = refl

  no_flaw : (a : Flaw) → FailsAt g root d list a → JudgesAt g root d list judged.Denied → ⊥
  no_flaw flaw.List p q = p
  no_flaw flaw.Cause p q = p.1 q.1
  no_flaw flaw.Table p q = p.2 q.2
  no_flaw flaw.Reached p q = q.3 p.3

  one_at : (j k : Judged) → JudgesAt g root d list j → JudgesAt g root d list k → j ≡ k
  one_at judged.Denied judged.Denied p q = refl
  one_at judged.Denied (judged.Rejected b) p q = absurd (no_flaw b q p)
  one_at (judged.Rejected a) judged.Denied p q = absurd (no_flaw a p q)
  one_at (judged.Rejected a) (judged.Rejected b) p q = ap (λ f. judged.Rejected f) (one_flaw a b p q)

  narrow_at : (j : Judged) → JudgesAt g root d list j → (d.cause ≡ cause.Word → IsListForVerdict g list)
  narrow_at judged.Denied p = p.0
  narrow_at (judged.Rejected flaw.List) p = absurd p
  narrow_at (judged.Rejected flaw.Cause) p = p.0
  narrow_at (judged.Rejected flaw.Table) p = p.0
  narrow_at (judged.Rejected flaw.Reached) p = p.0

pub one_judged : (M : Type 0) → OneListAtPath M → OneJudged M
one_judged M paths g root doc d = (same, narrow)
  where
    one_list : (a b : Listed M) → IsAbout doc d a → IsAbout doc d b → a ≡ b
    one_list a b p q = paths doc a b p.is_listed q.is_listed (p.is_path ∙ sym q.is_path)

    same : (j k : Judged) → IsDenialJudged g root doc d j → IsDenialJudged g root doc d k → j ≡ k
    same j k (inl (n, e)) (inl (m, f)) = e ∙ sym f
    same j k (inl (n, e)) (inr (l, a, p)) = absurd (n l a)
    same j k (inr (l, a, p)) (inl (n, e)) = absurd (n l a)
    same j k (inr (l, a, p)) (inr (m, b, q)) =
        let P : Listed M → Type 0 = λ x. JudgesAt g root d x j in
        one_at g root d m j k (subst P (one_list l m a b) p) q

    narrow : (j : Judged) → IsDenialJudged g root doc d j → IsTooWideFor g doc d → ⊥
    narrow j (inl (n, e)) (m, b, c, w) = n m b
    narrow j (inr (l, a, p)) (m, b, c, w) =
        let P : Listed M → Type 0 = λ x. JudgesAt g root d x j in
        w (narrow_at g root d m j (subst P (one_list l m a b) p) c)
