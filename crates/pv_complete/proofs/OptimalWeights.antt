-- What is known of the weights of a site over a span, where weights are known to be there.
use Rattle.std.specs.Prelude.{IsTrue}
use Rattle.std.proofs.Common.{List, None, Option, Some, length, slice_get, suc, ℕ, ◌+◌, ◌<◌, ◌≡◌, ◌≢◌, ◌≤◌, ◌⊎◌}
use Rattle.std.proofs.Math.Logic.{∥∥₁_elim}
use Rattle.std.specs.Coded.{Coded-set, coded_ℕ}
use Rattle.pv_model.specs.Plain.{PlainPart, PlainParts, PlainToken, any, children, choice, empty, mixed, name, named, no_parts, opt, part, plus, seq, star, text}
use Rattle.pv_dtd.specs.Facts.{are_known}
use Rattle.pv_dtd.specs.Plain.{PlainDtd, declared, model_of, parts_in}
use Rattle.pv_rules.specs.Derivations.{heaviest}
use Rattle.pv_rules.specs.Numbering.{IsMemberAt, first_part, part_at, rest_at}
use Rattle.pv_rules.specs.Rules.{Goal, IsSpan, over}
use Rattle.pv_rules.specs.Sites.{HasSite, content_site, name_site, part_site, rest_site}
use Rattle.pv_rules.proofs.FlatKinds.{IsNoRest}
use Rattle.pv_complete.specs.Moves.{AreWeightsBy, IsNoItem}
use Rattle.pv_complete.proofs.OptimalRules.{content_any as by_content_any}
use Rattle.pv_complete.proofs.OptimalRules.{content_children as by_content_children}
use Rattle.pv_complete.proofs.OptimalRules.{content_declared as by_content_declared}
use Rattle.pv_complete.proofs.OptimalRules.{content_empty as by_content_empty}
use Rattle.pv_complete.proofs.OptimalRules.{content_mixed as by_content_mixed}
use Rattle.pv_complete.proofs.OptimalRules.{content_nothing as by_content_nothing}
use Rattle.pv_complete.proofs.OptimalRules.{name_kept as by_name_kept}
use Rattle.pv_complete.proofs.OptimalRules.{name_new as by_name_new}
use Rattle.pv_complete.proofs.OptimalRules.{part_choice_weight as by_part_choice_weight}
use Rattle.pv_complete.proofs.OptimalRules.{part_name_weight as by_part_name_weight}
use Rattle.pv_complete.proofs.OptimalRules.{part_opt_nothing as by_part_opt_nothing}
use Rattle.pv_complete.proofs.OptimalRules.{part_opt_weight as by_part_opt_weight}
use Rattle.pv_complete.proofs.OptimalRules.{part_plus_cut as by_part_plus_cut}
use Rattle.pv_complete.proofs.OptimalRules.{part_seq_weight as by_part_seq_weight}
use Rattle.pv_complete.proofs.OptimalRules.{part_stands as by_part_stands}
use Rattle.pv_complete.proofs.OptimalRules.{part_star_cut as by_part_star_cut}
use Rattle.pv_complete.proofs.OptimalRules.{part_star_nothing as by_part_star_nothing}
use Rattle.pv_complete.proofs.OptimalRules.{rest_cut as by_rest_cut}
use Rattle.pv_complete.proofs.OptimalRules.{rest_last_weight as by_rest_last_weight}
use Rattle.pv_complete.proofs.OptimalRules.{rest_stands as by_rest_stands}

module _ (g : PlainDtd) (w : List PlainToken) (t : Goal → ℕ) (are : ∥ AreWeightsBy g w t ∥₁)
    (known : IsTrue (are_known g)) (some_names : declared g ≤ length g.names) (i j : ℕ)
    (span : IsSpan w i j) where
  same : (a b : ℕ) → (AreWeightsBy g w t → a ≡ b) → a ≡ b
  same a b f = ∥∥₁_elim are (Coded-set coded_ℕ a b) f

  none : (AreWeightsBy g w t → ⊥) → ⊥
  none f = ∥∥₁_elim are (λ x. absurd x) f

  pub name_new : (x : ℕ) → HasSite g (name_site x) → t (over (name_site x) i j) < heaviest → (slice_get w i ≡ Some (named x) → j ≡ suc i → ⊥) →
      t (over (name_site x) i j) ≡ suc (t (over (content_site x) i j))
  name_new x has few not = same _ _ (λ a. by_name_new g w t a known some_names i j span x has few not)

  pub name_kept : (x : ℕ) → HasSite g (name_site x) → slice_get w i ≡ Some (named x) → j ≡ suc i → t (over (name_site x) i j) ≡ 0
  name_kept x has f e = same _ _ (λ a. by_name_kept g w t a known some_names i j span x has f e)

  pub content_declared : (x : ℕ) → HasSite g (content_site x) → t (over (content_site x) i j) < heaviest → model_of g x ≡ None → ⊥
  content_declared x has few e = none (λ a. by_content_declared g w t a known some_names i j span x has few e)

  pub content_empty : (x : ℕ) → HasSite g (content_site x) → t (over (content_site x) i j) < heaviest → model_of g x ≡ Some empty → i ≡ j
  content_empty x has few e = same _ _ (λ a. by_content_empty g w t a known some_names i j span x has few e)

  pub content_children : (x : ℕ) → HasSite g (content_site x) → t (over (content_site x) i j)
      < heaviest → (p : PlainPart) → model_of g x ≡ Some (children p) →
      t (over (content_site x) i j) ≡ t (over (part_site (first_part g x)) i j)
  content_children x has few p e = same _ _ (λ a. by_content_children g w t a known some_names i j span x has few p e)

  pub content_mixed : (x : ℕ) → HasSite g (content_site x) → t (over (content_site x) i j)
      < heaviest → (ys : List ℕ) → model_of g x ≡ Some (mixed ys) → i < j →
      ((slice_get w i ≡ Some text) × (t (over (content_site x) i j)
      ≡ t (over (content_site x) (suc i) j)) → ⊥) →
      IsNoItem t part_site (first_part g x) (first_part g x + length ys) x i j (t (over (content_site x) i j)) → ⊥
  content_mixed x has few ys e lt not other = none (λ a. by_content_mixed g w t a known some_names i j span x has few ys e lt not other)

  pub content_any : (x : ℕ) → HasSite g (content_site x) → t (over (content_site x) i j)
      < heaviest → model_of g x ≡ Some any → i < j → ((slice_get w i ≡ Some text)
      × (t (over (content_site x) i j) ≡ t (over (content_site x) (suc i) j)) → ⊥) →
      IsNoItem t name_site 0 (declared g) x i j (t (over (content_site x) i j)) → ⊥
  content_any x has few e lt not other = none (λ a. by_content_any g w t a known some_names i j span x has few e lt not other)

  pub content_nothing : (x : ℕ) → HasSite g (content_site x) → t (over (content_site x) i j)
      < heaviest → (model_of g x ≡ Some empty) ⊎ (model_of g x ≡ Some any) ⊎ ((ys : List ℕ)
      × (model_of g x ≡ Some (mixed ys))) → i ≡ j → t (over (content_site x) i j) ≡ 0
  content_nothing x has few m e = same _ _ (λ a. by_content_nothing g w t a known some_names i j span x has few m e)

  pub part_stands : (q : ℕ) → HasSite g (part_site q) → t (over (part_site q) i j) < heaviest → part_at g q ≡ None → ⊥
  part_stands q has few e = none (λ a. by_part_stands g w t a known some_names i j span q has few e)

  pub part_name_weight : (q : ℕ) → HasSite g (part_site q) → t (over (part_site q) i j) < heaviest → (y : ℕ) → part_at g q ≡ Some (name y) → t (over (part_site q) i j) ≡ t (over (name_site y) i j)
  part_name_weight q has few y e = same _ _ (λ a. by_part_name_weight g w t a known some_names i j span q has few y e)

  pub part_seq_weight : (q : ℕ) → HasSite g (part_site q) → t (over (part_site q) i j) < heaviest →
      (p : PlainPart) (ps : PlainParts) → part_at g q ≡ Some (seq (part p ps)) →
      t (over (part_site q) i j) ≡ t (over (rest_site (suc q)) i j)
  part_seq_weight q has few p ps e = same _ _ (λ a. by_part_seq_weight g w t a known some_names i j span q has few p ps e)

  pub part_opt_weight : (q : ℕ) → HasSite g (part_site q) → t (over (part_site q) i j) < heaviest →
      (p : PlainPart) → part_at g q ≡ Some (opt p) → i < j → t (over (part_site q) i j)
      ≡ t (over (part_site (suc q)) i j)
  part_opt_weight q has few p e lt = same _ _ (λ a. by_part_opt_weight g w t a known some_names i j span q has few p e lt)

  pub part_opt_nothing : (q : ℕ) → HasSite g (part_site q) → t (over (part_site q) i j) < heaviest → (p : PlainPart) → part_at g q ≡ Some (opt p) → i ≡ j → t (over (part_site q) i j) ≡ 0
  part_opt_nothing q has few p e f = same _ _ (λ a. by_part_opt_nothing g w t a known some_names i j span q has few p e f)

  pub part_star_nothing : (q : ℕ) → HasSite g (part_site q) → t (over (part_site q) i j) < heaviest → (p : PlainPart) → part_at g q ≡ Some (star p) → i ≡ j → t (over (part_site q) i j) ≡ 0
  part_star_nothing q has few p e f = same _ _ (λ a. by_part_star_nothing g w t a known some_names i j span q has few p e f)

  pub part_star_cut : (q : ℕ) → HasSite g (part_site q) → t (over (part_site q) i j) < heaviest → (p : PlainPart) → part_at g q ≡ Some (star p) → i < j →
      ((k : ℕ) → suc i ≤ k → k < suc j → t (over (part_site q) i j) ≢ t (over (part_site (suc q)) i k) + t (over (part_site q) k j)) → ⊥
  part_star_cut q has few p e lt other = none (λ a. by_part_star_cut g w t a known some_names i j span q has few p e lt other)

  pub part_plus_cut : (q : ℕ) → HasSite g (part_site q) → t (over (part_site q) i j) < heaviest →
      (p : PlainPart) → part_at g q ≡ Some (plus p) →
      (t (over (part_site q) i j) ≢ t (over (part_site (suc q)) i j)) →
      ((k : ℕ) → suc i ≤ k → k < j → t (over (part_site q) i j) ≢ t (over (part_site (suc q)) i k) + t (over (part_site q) k j)) → ⊥
  part_plus_cut q has few p e one other = none (λ a. by_part_plus_cut g w t a known some_names i j span q has few p e one other)

  pub rest_stands : (q : ℕ) → HasSite g (rest_site q) → t (over (rest_site q) i j) < heaviest → (r : Option PlainParts) → rest_at g q ≡ r → IsNoRest r → ⊥
  rest_stands q has few r e n = none (λ a. by_rest_stands g w t a known some_names i j span q has few r e n)

  pub rest_last_weight : (q : ℕ) → HasSite g (rest_site q) → t (over (rest_site q) i j) < heaviest →
      (p : PlainPart) → rest_at g q ≡ Some (part p no_parts) → t (over (rest_site q) i j)
      ≡ t (over (part_site q) i j)
  rest_last_weight q has few p e = same _ _ (λ a. by_rest_last_weight g w t a known some_names i j span q has few p e)

  pub rest_cut : (q : ℕ) → HasSite g (rest_site q) → t (over (rest_site q) i j) < heaviest → (p r : PlainPart) (ps : PlainParts) → rest_at g q ≡ Some (part p (part r ps)) →
      ((k : ℕ) → i ≤ k → k < suc j → t (over (rest_site q) i j) ≢ t (over (part_site q) i k) + t (over (rest_site (q + parts_in p)) k j)) → ⊥
  rest_cut q has few p r ps e other = none (λ a. by_rest_cut g w t a known some_names i j span q has few p r ps e other)

  -- some member of a choice weighs as much
  pub part_choice_none : (q : ℕ) → HasSite g (part_site q) → t (over (part_site q) i j) < heaviest → (ps : PlainParts) → part_at g q ≡ Some (choice ps) →
      ((p : PlainPart) (r : ℕ) → IsMemberAt p r (suc q) ps → t (over (part_site q) i j) ≢ t (over (part_site r) i j)) → ⊥
  part_choice_none q has few ps e other = none (λ a. let c = by_part_choice_weight g w t a known some_names i j span q has few ps e in other c.0 c.1 c.2 c.3)
