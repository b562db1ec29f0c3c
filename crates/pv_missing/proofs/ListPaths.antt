-- Going over the lists of a document: their paths, and the sites of their owners.
use Rattle.std.proofs.Common.{List, Option, [], add-one, refl, subst, ℕ, ◌+◌, ◌++◌, ◌∷◌, ◌≡◌}
use Rattle.pv_dtd.specs.Plain.{PlainDtd}
use Rattle.pv_rules.specs.Sites.{PlainSite}
use Rattle.pv_tree.specs.Lists.{an_element, lists_at, lists_from, the_document}
use Rattle.pv_tree.specs.Plain.{Forest, Tree, tree}
use Rattle.pv_missing.specs.ListWeights.{site_of}

-- the lists of the first of some trees, and then those of the others
pub from_first : {M : Type 0} (path : List ℕ) (i : ℕ) (kids : Forest M) (t : Tree M)
    (rest : Forest M) → kids ≡ tree t rest → lists_from path i kids ≡ lists_at (path ++ i ∷ []) t
    ++ lists_from path (i + 1) rest
from_first path i kids t rest e = rw (e, add-one) refl

-- the owner of an element's list, and of the document node's, whatever the DTD is told by
pub element_site : (g d : PlainDtd) (root x y : List ℕ) (o : Option PlainSite) → g ≡ d → x ≡ y → site_of g x (an_element x) ≡ o → site_of d root (an_element y) ≡ o
element_site g d root x y o e f h = subst (λ (z : List ℕ). site_of d root (an_element z) ≡ o) f (subst (λ (z : PlainDtd). site_of z root (an_element x) ≡ o) e h)

pub root_site : (g d : PlainDtd) (root : List ℕ) (o : Option PlainSite) → g ≡ d → site_of g root the_document ≡ o → site_of d root the_document ≡ o
root_site g d root o e h = subst (λ (z : PlainDtd). site_of z root the_document ≡ o) e h
