-- In a list that is valid nothing is missing, and it weighs 0.
use Rattle.std.proofs.Common.{List, Some, [], arith, refl, ℕ, ◌∷◌, ◌≡◌}
use Rattle.std.specs.List.{AllByRecursion}
use Rattle.pv_model.specs.Plain.{PlainToken, named, other, text}
use Rattle.pv_dtd.specs.Plain.{PlainDtd, number_of}
use Rattle.pv_tree.specs.Lists.{IsOwnValid, IsRootList, IsValidBy, Listed, Owner, an_element, the_document}
use Rattle.pv_tree.specs.Plain.{Forest, cdata_node, element, misc_node, no_trees, text_node, tree}
use Rattle.pv_tree.specs.Words.{word_of}
use Rattle.pv_missing.specs.Covers.{Covers, cover_kept, cover_none, cover_text}
use Rattle.pv_rules.specs.Derivations.{IsWeight}
use Rattle.pv_rules.specs.Rules.{Rule}
use Rattle.pv_rules.specs.Sites.{PlainSite, content_site, name_site}
use Rattle.pv_dtd.specs.Proper.{IsProperDtd}
use Rattle.pv_missing.specs.ListLaws.{ValidMissesNone}
use Rattle.pv_missing.specs.MissingNumbers.{Misses, MissesBy, MissesInContent, MissesInRoot}
use Rattle.pv_missing.specs.ListWeights.{Weighs, site_of, whole}
use Rattle.pv_missing.proofs.DocLists.{live_misses_by}
use Rattle.pv_missing.proofs.OneList.{IsCoverable, covered_by_productive}
use Rattle.pv_missing.proofs.SpanDerivations.{DerivesAtMost}
use Rattle.pv_missing.proofs.ListDerivations.{list_derives}

-- a word that can be covered covers itself
covers_itself : (g : PlainDtd) (w : List PlainToken) → AllByRecursion (IsCoverable g) w → Covers g 0 w w
covers_itself g [] a = cover_none 0 refl
covers_itself g (named y ∷ w) a = cover_kept 0 y w w a.0 (covers_itself g w a.1)
covers_itself g (text ∷ w) a = cover_text 0 w w (covers_itself g w a.1)
covers_itself g (other ∷ w) a = absurd a.0

weighs_nothing : (g : PlainDtd) (w : List PlainToken) (s : PlainSite) → DerivesAtMost g w 0 s → IsWeight (Rule g w) (whole s w) 0
weighs_nothing g w s (m, le, d) = record { bounded = omega arith; least = λ n _. omega arith; reached = λ _. let e : m ≡ 0 = omega arith in rw e at d }

module _ {M : Type 0} (g : PlainDtd) (root : List ℕ) where
  own_misses : (x : List ℕ) (k : Forest M) (n : ℕ) → IsOwnValid g (number_of g x) k → MissesInContent g x k n → MissesInContent g x k 0
  own_misses x k n o p = record {
    number = p.number;
    is_owner = p.is_owner;
    productive = p.productive;
    no_kids = p.no_kids;
    possible = record {
      model = o.model;
      is_model = let e : o.number ≡ p.number = let a = o.is_owner in let b = p.is_owner in cc in rw e at o.is_model;
      whole = word_of g k;
      allowed = o.allowed;
      covers = covers_itself g (word_of g k) (covered_by_productive g n p.possible.whole (word_of g k) p.possible.covers);
    };
  }

  root_misses : (k : Forest M) (n : ℕ) → IsRootList root k → MissesInRoot g root k n → MissesInRoot g root k 0
  root_misses no_trees n o p = absurd o
  root_misses (tree (element x a e k m) r) n o p = let s : x ≡ root = o.0 in let i = p.is_owner in let f : number_of g x ≡ number_of g root = cc in record {
    number = p.number;
    is_owner = p.is_owner;
    possible = let c = covered_by_productive g n (named p.number ∷ []) (word_of g (tree (element x a e k m) r)) p.possible in
        rw (o.1, f, i) (cover_kept 0 p.number [] [] (rw (o.1, f, i) at c).0 (cover_none 0 refl));
  }
  root_misses (tree (text_node us) r) n o p = absurd o.0
  root_misses (tree (cdata_node b) r) n o p = absurd o.0
  root_misses (tree (misc_node b) r) n o p = absurd o.0

  none_missing : (o : Owner) (k : Forest M) (n : ℕ) → IsValidBy g root o k → MissesBy g root o k n → MissesBy g root o k 0
  none_missing the_document k n v p = root_misses k n v p
  none_missing (an_element x) k n v p = own_misses x k n v p

  the_site : (o : Owner) (k : Forest M) → MissesBy g root o k 0 → (s : PlainSite) × (site_of g root o ≡ Some s)
  the_site the_document k p = (name_site p.number, let f = p.is_owner in rw f refl)
  the_site (an_element x) k p = (content_site p.number, let f = p.is_owner in rw f refl)

  weighs_none : IsProperDtd g → (list : Listed M) → Misses g root list 0 → Weighs g root list 0
  weighs_none proper list p =
      let s = the_site list.owner list.kids p in
      (s.0, s.1, weighs_nothing g (word_of g list.kids) s.0 (list_derives g proper root list.owner list.kids 0 s.0 p s.1))

pub valid_misses_none : (M : Type 0) → ValidMissesNone M
valid_misses_none M g root list proper v =
    let l = live_misses_by g root list.owner list.kids v.0 in let z = none_missing g root list.owner list.kids l.0 v.1 l.1 in
    (z, weighs_none g root proper list z)
