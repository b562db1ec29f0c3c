-- What is missing in a list, by derivations of its whole word.
use Rattle.std.specs.Prelude.{option_map}
use Rattle.std.proofs.Common.{List, Option, Some, [], arith, ℕ, ◌∷◌, ◌≡◌}
use Rattle.pv_model.specs.Plain.{named}
use Rattle.pv_dtd.specs.Plain.{PlainDtd, number_of}
use Rattle.pv_tree.specs.Lists.{Owner, an_element, the_document}
use Rattle.pv_tree.specs.Plain.{Forest}
use Rattle.pv_tree.specs.Words.{word_of}
use Rattle.pv_rules.specs.Derivations.{Derives}
use Rattle.pv_rules.specs.Rules.{Goal, Rule}
use Rattle.pv_rules.specs.Sites.{PlainSite, content_site, name_site}
use Rattle.pv_rules.proofs.DerivationLaws.{closed_below}
use Rattle.pv_dtd.specs.Proper.{IsProperDtd}
use Rattle.pv_missing.specs.ListLaws.{ClosedIsBound, DerivationsMiss, WeightIsLeast}
use Rattle.pv_missing.specs.MissingNumbers.{MissesBy}
use Rattle.pv_missing.specs.ListWeights.{site_of, whole}
use Rattle.pv_missing.proofs.DocLists.{live_misses_by}
use Rattle.pv_missing.proofs.OneList.{covered_names}
use Rattle.pv_missing.proofs.SpanDerivations.{DerivesAtMost, content_weights, root_weights}

-- the site of a number that an owner has
same_site : (f : ℕ → PlainSite) (o : Option ℕ) (y : ℕ) (s : PlainSite) → o ≡ Some y → option_map f o ≡ Some s → f y ≡ s
same_site f o y s e h = let i = rw e at h in cc

module _ {M : Type 0} (g : PlainDtd) (proper : IsProperDtd g) (root : List ℕ) where
  pub list_derives : (o : Owner) (k : Forest M) (n : ℕ) (s : PlainSite) → MissesBy g root o k n → site_of g root o ≡ Some s → DerivesAtMost g (word_of g k) n s
  list_derives the_document k n s p e =
      let i = same_site name_site (number_of g root) p.number s p.is_owner e in
      rw (← i) ((root_weights g p.number n (word_of g k) proper (covered_names g n (named p.number ∷ []) (word_of g k) p.possible)).1 p.possible)
  list_derives (an_element x) k n s p e =
      let i = same_site content_site (number_of g x) p.number s p.is_owner e in
      rw (← i) ((content_weights g p.number n (word_of g k) proper (covered_names g n p.possible.whole (word_of g k) p.possible.covers)).1 p.possible)

  pub derives_list : (o : Owner) (k : Forest M) (n m : ℕ) (s : PlainSite) → MissesBy g root o k n → site_of g root o ≡ Some s →
      Derives (Rule g (word_of g k)) m (whole s (word_of g k)) → MissesBy g root o k m
  derives_list the_document k n m s p e d =
      let i = same_site name_site (number_of g root) p.number s p.is_owner e in record {
        number = p.number;
        is_owner = p.is_owner;
        possible = (root_weights g p.number m (word_of g k) proper (covered_names g n (named p.number ∷ []) (word_of g k) p.possible)).0 (rw (← i) at d);
      }
  derives_list (an_element x) k n m s p e d =
      let i = same_site content_site (number_of g x) p.number s p.is_owner e in record {
        number = p.number;
        is_owner = p.is_owner;
        productive = p.productive;
        no_kids = p.no_kids;
        possible = (content_weights g p.number m (word_of g k) proper (covered_names g n p.possible.whole (word_of g k) p.possible.covers)).0 (rw (← i) at d);
      }

pub derivations_miss : (M : Type 0) → DerivationsMiss M
derivations_miss M g root list s n proper l e =
    let p = live_misses_by g root list.owner list.kids l in (
      (λ d. derives_list g proper root list.owner list.kids p.0 n s p.1 e d),
      (λ q. list_derives g proper root list.owner list.kids n s q e),
    )

pub weight_is_least : (M : Type 0) → WeightIsLeast M
weight_is_least M g root list n k proper p (s, e, i) =
    let d = list_derives g proper root list.owner list.kids n s p e in (
      (let q = i.least d.0 d.2 in let r = d.1 in omega arith),
      (λ few. derives_list g proper root list.owner list.kids n k s p e (i.reached few)),
    )

pub closed_is_bound : (M : Type 0) → ClosedIsBound M
closed_is_bound M g root list s t proper e closed n p =
    let d = list_derives g proper root list.owner list.kids n s p e in
    let q = closed_below Goal (Rule g (word_of g list.kids)) t closed d.0 (whole s (word_of g list.kids)) d.2 in let r = d.1 in omega arith
