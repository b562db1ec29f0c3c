-- The table by which it can be seen that <a/> misses one element, and no less, under
-- <!ELEMENT a (b)> <!ELEMENT b EMPTY>.
use Rattle.std.specs.Prelude.{[], codes, suc, zero, ℕ, ◌∷◌, ◌≡◌}
use Rattle.pv_rules.specs.Derivations.{IsClosed, heaviest}
use Rattle.pv_rules.specs.Rules.{Goal, Rule, over}
use Rattle.pv_rules.specs.Sites.{PlainSite, content_site, name_site, part_site, rest_site}
use Rattle.pv_missing.specs.Completions.{Completes}
use Rattle.law_missing.specs.Documents.{doc_of, tag}
use Rattle.law_missing.specs.Dtds.{pair_dtd}

-- The values of the sites at the span from 0 to 0, an element b being missing at this one. Names
-- are numbered a, b; parts are the sequence and b in it. What has no value is unlisted.
abbrev pub site_value : ℕ → PlainSite → ℕ
site_value b (content_site zero) = 1
site_value b (content_site (suc zero)) = 0
site_value b (content_site (suc (suc x))) = heaviest
site_value b (name_site zero) = 2
site_value b (name_site (suc zero)) = b
site_value b (name_site (suc (suc x))) = heaviest
site_value b (part_site zero) = 1
site_value b (part_site (suc zero)) = 1
site_value b (part_site (suc (suc q))) = heaviest
site_value b (rest_site zero) = heaviest
site_value b (rest_site (suc zero)) = 1
site_value b (rest_site (suc (suc q))) = heaviest

-- the list of a has no tokens, so that it has one span
abbrev pub value_over : ℕ → ℕ → ℕ → ℕ
value_over zero zero k = k
value_over zero (suc j) k = heaviest
value_over (suc i) j k = heaviest

-- the table of values of all sites over all spans
abbrev pub pair_table : ℕ → Goal → ℕ
pair_table b goal = value_over goal.from goal.to (site_value b goal.site)

-- The table is closed, with the value 1 at the whole content of a. Without its entry of a missing b
-- it isn't. One b inserted, which is element number 1, completes the document.
pub record TableRow : Type 0 where
  pub closed : IsClosed (Rule pair_dtd []) (pair_table 1)
  pub whole : pair_table 1 (over (content_site 0) 0 0) ≡ 1
  pub open_without : IsClosed (Rule pair_dtd []) (pair_table heaviest) → ⊥
  pub completes : Completes pair_dtd (codes "a") (doc_of (tag (codes "a") []))
      (doc_of (tag (codes "a") (tag (codes "b") [] ∷ []))) (1 ∷ []) 1
