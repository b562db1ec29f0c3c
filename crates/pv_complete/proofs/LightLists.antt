-- The Possible lists of a document that misses at most 1,000,000 elements are light, and so is the
-- list that comes next.
use Rattle.std.specs.Option.{option_map}
use Rattle.std.proofs.Common.{List, None, Option, Some, [], arith, drop, refl, subst, sym, true}
use Rattle.std.proofs.Common.{length, ℕ, ◌<◌, ◌∙◌, ◌∷◌, ◌≡◌, ◌≢◌}
use Rattle.std.proofs.Math.Logic.{∥∥₁_elim, ∥∥₁_map}
use Rattle.std.specs.List.{AllByRecursion}
use Rattle.pv_dtd.specs.Plain.{PlainDtd}
use Rattle.pv_dtd.specs.Proper.{IsProperDtd}
use Rattle.pv_tree.specs.Lists.{Listed, lists_of}
use Rattle.pv_tree.specs.Words.{word_of}
use Rattle.pv_tree.specs.Plain.{Forest, PlainDoc}
use Rattle.pv_tree.specs.declared.nodes.Mark.{Mark}
use Rattle.pv_tree.specs.declared.nodes.Verdict.{Verdict}
use Rattle.pv_tree.specs.declared.nodes.Verdict.TheVariants as verdict
use Rattle.pv_model.specs.Plain.{PlainToken}
use Rattle.pv_rules.specs.Derivations.{IsWeight, heaviest}
use Rattle.pv_rules.specs.Rules.{Rule}
use Rattle.pv_rules.specs.Sites.{PlainSite}
use Rattle.pv_missing.specs.DocumentLaws.{BoundsAddUp}
use Rattle.pv_missing.specs.ListLaws.{WeightIsLeast}
use Rattle.pv_missing.specs.LiveWords.{IsLiveWord}
use Rattle.pv_missing.specs.PlainForms.{plain_of}
use Rattle.pv_missing.specs.Proper.{IsProperDoc}
use Rattle.pv_missing.specs.Verdicts.{AreVerdicts, IsLive, IsVerdict}
use Rattle.pv_missing.specs.ListWeights.{BoundInAll, IsBound, site_of, whole}
use Rattle.pv_missing.specs.Widths.{FitsWeights}
use Rattle.pv_missing.specs.declared.owners.Of.{Of}
use Rattle.pv_tables.specs.WeightLaws.{LiveWeighs, LiveWeight}
use Rattle.pv_complete.specs.Loads.{UsesVerdict}
use Rattle.pv_complete.specs.NeededElements.{AreLightLists, CanWeigh, IsLightList, Needs}
use Rattle.pv_complete.specs.ListPieces.{AreNotImpossible, HasNextList}
use Rattle.pv_complete.proofs.WeightSums.{live_site}
use Rattle.pv_complete.proofs.PiecesByVerdict.{not_at}

module _ (M : Type 0) (g : PlainDtd) (root : List ℕ) where
  no_bounds : (lists : List (Listed M)) → BoundInAll g root lists 0
  no_bounds [] = refl
  no_bounds (list ∷ lists) = (0, 0, refl, (λ n m. omega arith), no_bounds lists)

  all_light : ((list : Listed M) (k : ℕ) → IsVerdict g root list verdict.Possible → LiveWeighs g root list k → IsBound g root list k) →
      (lists : List (Listed M)) → ((s : ℕ) → BoundInAll g root lists s → s < heaviest) → AllByRecursion (CanWeigh g root) lists → AreLightLists g root lists
  all_light bound [] few can = tt
  all_light bound (list ∷ lists) few can = (
    (λ p. (can.0 p, λ k w. few k (k, 0, omega arith, bound list k p w, no_bounds lists))),
    all_light bound lists (λ s b. few s (0, s, omega arith, (λ n m. omega arith), b)) can.1,
  )

pub light_lists : (M : Type 0) (g : PlainDtd) (root : List ℕ) (doc : PlainDoc M) (n : ℕ) → IsProperDtd g → IsProperDoc doc → LiveWeight M → WeightIsLeast M → BoundsAddUp M → Needs g root doc n →
    AreLightLists g root (lists_of doc)
light_lists M g root doc n proper proper_doc live_weight weight_is_least add_up needs =
    all_light M g root (λ list k p w i m. (weight_is_least g root list i k proper m ((live_weight g root list k p.0).0 w)).0) (lists_of doc)
    (λ s b. let le = let l = needs.least in add_up g root doc s proper proper_doc b n l.completes in let f = needs.light in omega arith) (let c = needs.can in c.weighed)

-- that none is Impossible can be looked up
pub live_verdicts : (vs : List Verdict) → ∥ AreNotImpossible vs ∥₁ → AreNotImpossible vs
live_verdicts [] h = tt
live_verdicts (v ∷ vs) h = (λ e. ∥∥₁_elim h (λ x. absurd x) (λ all. all.0 e), live_verdicts vs (∥∥₁_map h (λ all. all.1)))

module _ (g : PlainDtd) (vs : List Verdict) (kids : Forest Mark) (used : ℕ) where
  -- a list that isn't Impossible has an owner in the DTD
  pub has_owner : HasNextList g None kids vs used → AreNotImpossible vs → ⊥
  has_owner h all = by_verdict h.verdicts
    where
      live_of : (v : Verdict) → v ≢ verdict.Impossible → IsVerdict g h.root h.list v → IsLive g h.root h.list
      live_of verdict.Valid n is = is.0
      live_of verdict.Possible n is = is.0
      live_of verdict.Impossible n is = absurd (n refl)

      by_verdict : AreVerdicts g h.root (h.list ∷ h.more) (drop used vs) → ⊥
      by_verdict (v, rest, e, is, more) = live_site g h.root vs h.list (live_of v (not_at vs used v rest all e) is) h.is_owner

  -- a Possible list can be weighed, and is light
  pub next_light : (owner : Option Of) (new : ℕ) (s : PlainSite) (live : List PlainToken) → HasNextList g owner kids vs used → UsesVerdict vs used new true → option_map plain_of owner ≡ Some s →
      IsLiveWord g (word_of g kids) live → FitsWeights g (length (word_of g kids)) × ((k : ℕ) → IsWeight (Rule g live) (whole s live) k → k < heaviest)
  next_light owner new s live h next is_site is_live = by_verdict h.verdicts
    where
      by_verdict : AreVerdicts g h.root (h.list ∷ h.more) (drop used vs) → FitsWeights g (length (word_of g kids)) × ((k : ℕ) → IsWeight (Rule g live) (whole s live) k → k < heaviest)
      by_verdict (v, rest, e, is, more) =
          let head : v ≡ verdict.Possible = cc (e, next) in
          let judged : IsVerdict g h.root h.list verdict.Possible = rw head at is in
          let l = h.light judged in
          let own : IsLiveWord g (word_of g h.list.kids) live = subst (λ f. IsLiveWord g (word_of g f) live) (sym h.is_kids) is_live in
          (subst (λ f. FitsWeights g (length (word_of g f))) h.is_kids l.0, λ k w. l.1 k (s, live, h.is_owner ∙ is_site, own, w))
