-- Lists judged by their words.
use Rattle.std.proofs.Common.{◌≡◌, ◌<◌, ◌↔◌, ℕ, List, [], ◌∷◌, length, Bool, true, false, not, IsTrue, arith, Option, Some, None, refl, ap, subst}
use Rattle.std.specs.Option.{option_map}
use Rattle.pv_model.specs.Plain.{PlainToken}
use Rattle.pv_dtd.specs.Plain.{PlainDtd}
use Rattle.pv_dtd.specs.Hedge.{token}
use Rattle.pv_rules.specs.Sites.{PlainSite, content_site}
use Rattle.pv_tree.specs.Lists.{Listed}
use Rattle.pv_tree.specs.Plain.{Tree, forest_of}
use Rattle.pv_tree.specs.Words.{word_of}
use Rattle.pv_tree.specs.declared.nodes.Mark.{Mark}
use Rattle.pv_tree.specs.declared.nodes.Verdict.{Verdict}
use Rattle.pv_missing.specs.ListWeights.{site_of}
use Rattle.pv_missing.specs.WordVerdicts.{HoldsOne, has_no_trees}
use Rattle.pv_missing.proofs.VerdictWords.{verdict_by_word}
use Rattle.pv_tree.specs.declared.nodes.Verdict.TheVariants as verdict
use Rattle.pv_check.specs.declared.widths.Widths.{Widths}
use Rattle.pv_check.specs.ListJudgements.{IsPlaced, JudgesList, JudgesWord, site_of_token}

-- a list is judged as its word is
list_judged : (s : Widths) (g : PlainDtd) (root : List ℕ) (list : Listed Mark)
    (v : Option Verdict) → HoldsOne list.owner list.kids
    → JudgesWord s g (site_of g root list.owner) (word_of g list.kids) (has_no_trees list.kids) v →
    JudgesList s g root list v
list_judged s g root list None one wide = wide
list_judged s g root list (Some v) one is = (is.0, (verdict_by_word Mark g root list v one).1 is.1)

pub judged_as : (s : Widths) (g : PlainDtd) (root : List ℕ) (list : Listed Mark)
    (v : Option Verdict) (site : Option PlainSite) (w : List PlainToken) (bare : Bool) →
    HoldsOne list.owner list.kids
    → site ≡ site_of g root list.owner → w ≡ word_of g list.kids → bare ≡ has_no_trees list.kids →
    JudgesWord s g site w bare v → JudgesList s g root list v
judged_as s g root list v site w bare one site_is word_is bare_is h =
    list_judged s g root list v one
    (subst (λ (b : Bool). JudgesWord s g (site_of g root list.owner) (word_of g list.kids) b v)
    bare_is
    (subst (λ (u : List PlainToken). JudgesWord s g (site_of g root list.owner) u bare v) word_is
    (subst (λ (o : Option PlainSite). JudgesWord s g o w bare v) site_is h)))

-- the site of an element's content by its token
pub site_by_token : (o : Option ℕ) (t : PlainToken) → t ≡ token o → site_of_token t ≡ option_map content_site o
site_by_token None t e = ap site_of_token e
site_by_token (Some x) t e = ap site_of_token e

-- whether there are no kids, by their number
pub bare_by : (kids : List (Tree Mark)) (n : ℕ) (b : Bool) → n ≡ length kids → (IsTrue b ↔ 0 < n) → not b ≡ has_no_trees (forest_of kids)
bare_by [] n true is w = absurd (let some = w.0 refl in omega arith)
bare_by [] n false is w = refl
bare_by (k ∷ ks) n true is w = refl
bare_by (k ∷ ks) n false is w = absurd (let h : false ≡ true = w.1 (omega arith) in cc)

-- a path is its own places
pub placed_there : (v : Option Verdict) (path : List ℕ) → IsPlaced v path path
placed_there None path = refl
placed_there (Some verdict.Valid) path = tt
placed_there (Some verdict.Possible) path = tt
placed_there (Some verdict.Impossible) path = refl
