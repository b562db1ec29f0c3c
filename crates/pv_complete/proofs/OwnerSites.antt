-- The site of a list's owner is one of the DTD.
use Rattle.std.specs.Prelude.{option_map}
use Rattle.std.proofs.Common.{List, None, Option, Some, refl, subst, ℕ, ◌≡◌}
use Rattle.std.proofs.lemmas.Option.{slice_get_within}
use Rattle.pv_dtd.specs.Plain.{PlainDtd, number_of}
use Rattle.pv_dtd.proofs.NameSequences.{get-place}
use Rattle.pv_rules.specs.Sites.{HasSite, PlainSite, content_site, name_site}
use Rattle.pv_tree.specs.Lists.{Owner, an_element, the_document}
use Rattle.pv_missing.specs.ListWeights.{site_of}

module _ (g : PlainDtd) (s : PlainSite) (x : List ℕ) where
  named : (o : Option ℕ) → number_of g x ≡ o → option_map name_site o ≡ Some s → HasSite g s
  named None h f = absurd cc
  named (Some n) h f = let z : name_site n ≡ s = cc in subst (HasSite g) z (slice_get_within g.names n x (get-place g.names x n h))

  inner : (o : Option ℕ) → number_of g x ≡ o → option_map content_site o ≡ Some s → HasSite g s
  inner None h f = absurd cc
  inner (Some n) h f = let z : content_site n ≡ s = cc in subst (HasSite g) z (slice_get_within g.names n x (get-place g.names x n h))

pub owner_site : (g : PlainDtd) (root : List ℕ) (owner : Owner) (s : PlainSite) → site_of g root owner ≡ Some s → HasSite g s
owner_site g root the_document s e = named g s root (number_of g root) refl e
owner_site g root (an_element x) s e = inner g s x (number_of g x) refl e
