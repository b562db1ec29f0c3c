-- A table that is below the derivations of sites bounds what is missing in lists.
use Rattle.std.specs.Prelude.{option_map}
use Rattle.std.proofs.Common.{List, None, Option, Some, arith, length, refl, subst, ℕ, ◌<◌, ◌≡◌}
use Rattle.std.proofs.lemmas.Option.{slice_get_within}
use Rattle.pv_dtd.specs.Plain.{PlainDtd, number_of}
use Rattle.pv_dtd.specs.Proper.{IsProperDtd}
use Rattle.pv_dtd.proofs.NameSequences.{get-place}
use Rattle.pv_rules.specs.Rules.{Goal}
use Rattle.pv_rules.specs.Sites.{HasSite, PlainSite, content_site, name_site}
use Rattle.pv_tree.specs.Lists.{Listed, Owner, an_element, the_document}
use Rattle.pv_tree.specs.Words.{word_of}
use Rattle.pv_missing.specs.ListLaws.{DerivationsMiss, LiveMisses}
use Rattle.pv_missing.specs.ListWeights.{IsBound, site_of, whole}
use Rattle.pv_bounds.specs.Bounds.{IsBelowSites}

module _ (g : PlainDtd) (s : PlainSite) where
  -- a site made from a number that is told of a name
  named_has : (make : ℕ → PlainSite) → ((n : ℕ) → n < length g.names → HasSite g (make n)) → (x : List ℕ) (o : Option ℕ) → number_of g x ≡ o → option_map make o ≡ Some s → HasSite g s
  named_has make has x None h f = absurd cc
  named_has make has x (Some n) h f =
      let z : make n ≡ s = cc in subst (HasSite g) z (has n (slice_get_within g.names n x (get-place g.names x n h)))

  pub has_owner : (root : List ℕ) (owner : Owner) → site_of g root owner ≡ Some s → HasSite g s
  has_owner root the_document e = named_has name_site (λ n l. l) root (number_of g root) refl e
  has_owner root (an_element x) e = named_has content_site (λ n l. l) x (number_of g x) refl e

pub is_bound : {M : Type 0} → LiveMisses M → DerivationsMiss M → (g : PlainDtd) (root : List ℕ) (list : Listed M) (s : PlainSite) (t : Goal → ℕ) → IsProperDtd g → site_of g root list.owner ≡ Some s →
    IsBelowSites g (word_of g list.kids) t → IsBound g root list (t (whole s (word_of g list.kids)))
is_bound live derive g root list s t proper site below n misses =
    let d = (derive g root list s n proper ((live g root list).1 (n, misses)) site).1 misses in
    let b = below s 0 (length (word_of g list.kids)) d.0 (has_owner g s root list.owner site) d.2 in
    let l = d.1 in omega arith
