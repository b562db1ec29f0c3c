-- What is found of the live word of a list.
use Rattle.std.specs.Prelude.{IsSome}
use Rattle.std.proofs.Common.{List, Some, arith, inl, inr, length, map, slice_get, subst, suc, sym, ℕ, ◌*◌, ◌<◌, ◌≡◌, ◌≤◌, ◌⊎◌}
use Rattle.std.proofs.lemmas.Bool.{cases_lt}
use Rattle.std.proofs.lemmas.List.{length-map}
use Rattle.pv_model.specs.Plain.{PlainToken}
use Rattle.pv_model.specs.PlainForms.{plain_token}
use Rattle.pv_model.specs.declared.models.Token.{Token}
use Rattle.pv_dtd.specs.Plain.{PlainDtd}
use Rattle.pv_dtd.specs.Proper.{IsProperDtd}
use Rattle.pv_rules.specs.PlainForms.{plain_site}
use Rattle.pv_rules.specs.declared.sites.Site.{Site}
use Rattle.pv_missing.specs.LiveWords.{AreProductiveTokens, IsLiveWord}
use Rattle.pv_reach.specs.FurthestEnds.{AreReaches, end_told}
use Rattle.pv_reach.specs.Laws.{SpansWithin}
use Rattle.pv_reach.specs.declared.reaches.Reaches.{Reaches}
use Rattle.pv_denial.specs.Rows.{most_values}
use Rattle.pv_denial.specs.declared.denials.Row.{Row}
use Rattle.pv_deny.specs.ToldRows.{AreToldRows, AreToldSites, HasManyValues, HasRows}
use Rattle.pv_deny.proofs.RowFacts.{deriving_sites, few_values, furthest_rows, told_each}

module _ (spans : SpansWithin) (g : PlainDtd) (plain : PlainDtd) (is_plain : plain ≡ g)
    (proper : IsProperDtd plain) (word : List Token)
    (names : AreProductiveTokens g (map plain_token word)) (r : Reaches)
    (are : AreReaches g (map plain_token word) r) (sites : List Site)
    (all : AreToldSites g r 4 0 sites) where
  abbrev size : length (map plain_token word) ≡ length word
  size = length-map word plain_token

  abbrev good : IsProperDtd g
  good = subst IsProperDtd is_plain proper

  pub each_told : (k i : ℕ) (s : Site) → slice_get sites k ≡ Some s → i ≤ length word → IsSome (end_told r (plain_site s) i)
  each_told k i s e le = told_each spans g (map plain_token word) r good names are sites all k i s e
      (let n = size in omega arith)

  module _ (w : List PlainToken) (live : IsLiveWord g w (map plain_token word)) where
    pub many_values : (most_values < length sites * suc (length word)) → HasManyValues g w
    many_values many = record {
      live = map plain_token word;
      is_live = live;
      sites = map plain_site sites;
      are_sites = deriving_sites spans g (map plain_token word) r good names are sites all;
      many =
          let n : length (map plain_site sites) ≡ length sites = length-map sites plain_site in
          let P : ℕ → Type 0 = λ v. most_values < v * suc (length (map plain_token word)) in
          let Q : ℕ → Type 0 = λ v. most_values < length sites * suc v in
          subst P (sym n) (subst Q (sym size) many);
    }

    pub has_rows : (rows : List Row) → AreToldRows r (length word) sites rows →
        length sites * suc (length word) ≤ most_values → HasRows g w rows
    has_rows rows of few =
        let P : ℕ → Type 0 = λ v. AreToldRows r v sites rows in
        let Q : ℕ → Type 0 = λ v. length sites * suc v ≤ most_values in
        let of_word = subst P (sym size) of in
        record {
          live = map plain_token word;
          is_live = live;
          furthest =
              furthest_rows spans g (map plain_token word) r good names are sites all rows of_word;
          few =
              few_values spans g (map plain_token word) r good names are sites all rows of_word
              (subst Q (sym size) few);
        }

pub past : (a b : ℕ) → ((a ≤ b) → ⊥) → b < a
past a b none = by (cases_lt b a)
  where
    by : (b < a) ⊎ (a ≤ b) → b < a
    by (inl lt) = lt
    by (inr le) = absurd (none le)
