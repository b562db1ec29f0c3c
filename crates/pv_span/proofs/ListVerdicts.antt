-- The verdict of a list by its live word.
use Rattle.std.proofs.Common.{Bool, List, Some, subst}
use Rattle.pv_model.specs.Plain.{PlainToken}
use Rattle.pv_dtd.specs.Plain.{PlainDtd}
use Rattle.pv_rules.specs.Sites.{PlainSite}
use Rattle.pv_tree.specs.declared.nodes.Verdict.TheVariants as verdict
use Rattle.pv_missing.specs.LiveWords.{IsLiveWord}
use Rattle.pv_missing.specs.WordVerdicts.{IsPossibleAt, IsVerdictByWord}
use Rattle.pv_missing.proofs.OneLiveWord.{one_live_word}

module _ (g : PlainDtd) (w live : List PlainToken) (s : PlainSite) (none : Bool) (is_live : IsLiveWord g w live) where
  pub impossible_judged : (IsPossibleAt g s live → ⊥) → IsVerdictByWord g (Some s) w none verdict.Impossible
  impossible_judged not = λ l. not (let P : List PlainToken → Type 0 = IsPossibleAt g s in subst P (one_live_word g w l.live live l.is_live is_live) l.possible)
