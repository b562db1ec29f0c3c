-- Where no list is Impossible, what is accepted can be made valid.
use Rattle.std.proofs.Common.{List, arith, refl, ℕ, ◌≡◌}
use Rattle.std.proofs.Math.Logic.{∥∥₁_map}
use Rattle.pv_cache.specs.AcceptedEdits.{GetsNoWorse}
use Rattle.pv_cache.specs.GroundLaws.{AcceptsThePossible}
use Rattle.pv_dtd.specs.Plain.{PlainDtd}
use Rattle.pv_missing.specs.VerdictLaws.{NoneImpossible}
use Rattle.pv_missing.specs.Verdicts.{AreVerdicts, HaveImpossible, impossible_in, is_impossible}
use Rattle.pv_missing.proofs.Counts.{one_count_of_lists}
use Rattle.pv_tree.specs.Lists.{lists_of}
use Rattle.pv_tree.specs.Plain.{PlainDoc}
use Rattle.pv_tree.specs.declared.nodes.Verdict.{Verdict}

module _ {M : Type 0} (g : PlainDtd) (root : List ℕ) (doc edited : PlainDoc M) (vs : List Verdict)
    (none : HaveImpossible g root (lists_of doc) 0)
    (are : AreVerdicts g root (lists_of edited) vs) where
  counted : HaveImpossible g root (lists_of edited) (impossible_in vs)
  counted = record { verdicts = vs; are_verdicts = are; count = refl }

  no_worse_none : GetsNoWorse g root doc edited → impossible_in vs ≡ 0
  no_worse_none (m, n, both, le) =
      let p = one_count_of_lists M is_impossible g root (lists_of doc) m 0 both.had none in
      let q =
      one_count_of_lists M is_impossible g root (lists_of edited) (impossible_in vs) n
      counted both.has in
      omega arith

  none_no_worse : impossible_in vs ≡ 0 → GetsNoWorse g root doc edited
  none_no_worse e = (0, impossible_in vs, record { had = none; has = counted }, omega arith)

pub accepts_the_possible : (M : Type 0) → NoneImpossible M → AcceptsThePossible M
accepts_the_possible M by blank g root doc edited edit vs p q none are =
    let iff = by g root edited vs p q are in (
      λ a. record {
        is_edited = a.is_edited;
        within = a.within;
        possible =
            ∥∥₁_map a.no_worse (λ n. iff.1 (no_worse_none g root doc edited vs none are n));
      },
      λ k. record {
        is_edited = k.is_edited;
        within = k.within;
        no_worse =
            ∥∥₁_map k.possible (λ v. none_no_worse g root doc edited vs none are (iff.0 v));
      },
    )
