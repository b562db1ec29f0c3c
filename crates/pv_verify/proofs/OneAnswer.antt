-- A pack has at most one answer.
use Rattle.std.proofs.Common.{List, arith, inl, inr, refl, subst, sym, ℕ, ◌<◌, ◌∙◌, ◌≡◌, ◌≤◌, ◌⊎◌}
use Rattle.std.proofs.lemmas.Bool.{cases_lt}
use Rattle.pv_dtd.specs.Plain.{PlainDtd}
use Rattle.pv_tree.specs.Plain.{PlainDoc}
use Rattle.pv_tree.specs.declared.nodes.Mark.{Mark}
use Rattle.pv_read.specs.DocumentLaws.{DocumentsMeanOne}
use Rattle.pv_read.specs.Meaning.{is_document}
use Rattle.pv_flat.specs.ComingEvents.{flat_limits}
use Rattle.pv_compare.specs.Kept.{IsBodyText}
use Rattle.pv_cert.specs.declared.packs.Pack.{Pack}
use Rattle.pv_verify.specs.Laws.{OneAnswer}
use Rattle.pv_verify.specs.Tests.{FailsFirst, PassesAllTests, IsRejected, PassesTest, rank}
use Rattle.pv_verify.specs.declared.answers.Why.{Why}
use Rattle.pv_verify.specs.declared.answers.Why.TheVariants as why

-- tests of one place are the same
same_test : (a b : Why) → rank a ≡ rank b → a ≡ b
same_test why.Body why.Body e = refl
same_test why.Marks why.Marks e = refl
same_test why.Kept why.Kept e = refl
same_test why.Validity why.Validity e = refl
same_test why.Closure why.Closure e = refl
same_test why.Totals why.Totals e = refl
same_test a b e = absurd (omega arith)

same_body : DocumentsMeanOne → (root bytes : List ℕ) (a b : PlainDoc Mark) → IsBodyText root bytes a → IsBodyText root bytes b → a ≡ b
same_body one root bytes a b p q = let e : is_document a ≡ is_document b = one flat_limits root bytes (is_document a) (is_document b) p q in cc

module _ {M : Type 0} (g : PlainDtd) (root : List ℕ) (doc : PlainDoc M) (pack : Pack) where
  abbrev IsNoText : Type 0
  IsNoText = (body : PlainDoc Mark) → IsBodyText root pack.body body → ⊥

  rejected_cases : (test : Why) → IsRejected g root doc pack test → ((test ≡ why.Body) × IsNoText) ⊎ FailsFirst g root doc pack test
  rejected_cases why.Body r = inl (refl, r)
  rejected_cases why.Marks r = inr r
  rejected_cases why.Kept r = inr r
  rejected_cases why.Validity r = inr r
  rejected_cases why.Closure r = inr r
  rejected_cases why.Totals r = inr r

  module _ (one : DocumentsMeanOne) where
    -- no test fails first that another first failure's tests pass
    not_before : (a b : Why) (f : FailsFirst g root doc pack a) (h : FailsFirst g root doc pack b) → rank a < rank b → ⊥
    not_before a b f h lt = f.fails (subst (λ (body : PlainDoc Mark). PassesTest g root doc pack body a) (same_body one root pack.body h.body f.body h.is_body f.is_body) (h.before a lt))

    pub one_first : (a b : Why) → IsRejected g root doc pack a → IsRejected g root doc pack b → a ≡ b
    one_first a b r s = by_case (rejected_cases a r) (rejected_cases b s)
      where
        by_case : ((a ≡ why.Body) × IsNoText) ⊎ FailsFirst g root doc pack a → ((b ≡ why.Body) × IsNoText) ⊎ FailsFirst g root doc pack b → a ≡ b
        by_case (inl (e, none)) (inl (f, nothing)) = e ∙ sym f
        by_case (inl (e, none)) (inr h) = absurd (none h.body h.is_body)
        by_case (inr f) (inl (e, none)) = absurd (none f.body f.is_body)
        by_case (inr f) (inr h) = by_order (cases_lt (rank a) (rank b)) (cases_lt (rank b) (rank a))
          where
            by_order : (rank a < rank b) ⊎ (rank b ≤ rank a) → (rank b < rank a) ⊎ (rank a ≤ rank b) → a ≡ b
            by_order (inl less) o = absurd (not_before a b f h less)
            by_order (inr more) (inl less) = absurd (not_before b a h f less)
            by_order (inr more) (inr less) = same_test a b (omega arith)

    pub not_both : (test : Why) → IsRejected g root doc pack test → PassesAllTests g root doc pack → ⊥
    not_both test r acc = by_case (rejected_cases test r)
      where
        by_case : ((test ≡ why.Body) × IsNoText) ⊎ FailsFirst g root doc pack test → ⊥
        by_case (inl (e, none)) = none acc.body (acc.passes why.Body)
        by_case (inr f) = f.fails (subst (λ (body : PlainDoc Mark). PassesTest g root doc pack body
            test) (same_body one root pack.body acc.body f.body (acc.passes why.Body) f.is_body)
            (acc.passes test))

pub one_answer : (M : Type 0) → DocumentsMeanOne → OneAnswer M
one_answer M one g root doc pack = record { one_first = one_first g root doc pack one; not_both = not_both g root doc pack one }
