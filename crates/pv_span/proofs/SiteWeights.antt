-- The weights of sites, by the chart of their columns.
use Rattle.std.specs.Prelude.{IsTrue, min}
use Rattle.std.proofs.Common.{List, arith, inl, inr, length, ℕ, suc, ◌*◌, ◌/◌, ◌<◌, ◌↔◌, ◌≤◌}
use Rattle.std.proofs.Math.Nat.{mul-le-mul}
use Rattle.std.proofs.lemmas.Bool.{cases_lt}
use Rattle.pv_model.specs.Plain.{PlainToken}
use Rattle.pv_dtd.specs.Facts.{are_known}
use Rattle.pv_dtd.specs.Plain.{PlainDtd, declared}
use Rattle.pv_rules.specs.Derivations.{Derives, IsWeight, heaviest}
use Rattle.pv_rules.specs.Rules.{IsSpan, Rule, over}
use Rattle.pv_rules.specs.Sites.{HasSite, PlainSite}
use Rattle.pv_productive.specs.Tables.{no_size}
use Rattle.pv_missing.specs.Widths.{FitsWeights, columns_of}
use Rattle.pv_span.specs.Charts.{IsFilled, PlainChart, value_of}
use Rattle.pv_layout.specs.ColumnRules.{cell}
use Rattle.pv_layout.specs.Columns.{AreFit, PlainSites, column_of}
use Rattle.pv_layout.specs.Forms.{PlainForm}
use Rattle.pv_span.proofs.FinishedSpans.{derives_something, is_weight}
use Rattle.pv_layout.proofs.SharedSites.{column_derives}
use Rattle.pv_layout.proofs.ColumnsAsSites.{site_derives}

-- a word that fits under a DTD with columns is short
pub is_short : (g : PlainDtd) (n : ℕ) → FitsWeights g n → 0 < columns_of g → n < 8192
is_short g n f some = elim (cases_lt n 8192) [
  | inl lt ↦ lt
  | inr ge ↦ absurd (
      let a : 8193 * 8194 ≤ suc n * suc (suc n) = mul-le-mul {n₁ = 8193} {m₁ = 8194} {n₂ = suc n} {m₂ = suc (suc n)} (omega arith) (omega arith) in
      let b : 33566721 * 1 ≤ suc n * suc (suc n) / 2 * columns_of g = mul-le-mul {n₁ = 33566721} {m₁ = 1} {n₂ = suc n * suc (suc n) / 2} {m₂ = columns_of g} (omega arith) some in
      omega arith
      )
]

module _ (g : PlainDtd) (w : List PlainToken) (m : PlainSites) (forms : List PlainForm)
    (fit : AreFit g m forms) (known : IsTrue (are_known g)) (some_names : declared g
    ≤ length g.names) (t : PlainChart)
    (f : IsFilled forms w t) (s : PlainSite) (i j : ℕ) (has : HasSite g s) (span : IsSpan w i j) where
  abbrev value : ℕ
  value = value_of t (cell (column_of m s) i j)

  pub site_weight : IsWeight (Rule g w) (over s i j) (min heaviest value)
  site_weight =
      let k = is_weight forms w t f.sound f.all (column_of m s) i j span in
      record {
        bounded = k.bounded;
        least = λ n d. k.least n (column_derives g w m forms fit known some_names n s i j has d);
        reached = λ l. site_derives g w m forms fit known some_names (min heaviest value) s i j has (k.reached l);
      }

  pub site_derives_something : (value < no_size) ↔ ((n : ℕ) × Derives (Rule g w) n (over s i j))
  site_derives_something =
      let k = derives_something forms w t f.sound f.all (column_of m s) i j span in (
        (λ l. let d = k.0 l in (d.0, site_derives g w m forms fit known some_names d.0 s i j has d.1)),
        (λ d. k.1 (d.0, column_derives g w m forms fit known some_names d.0 s i j has d.1)),
      )
