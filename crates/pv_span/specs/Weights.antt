-- The weights of all sites over all spans of a word.
use Rattle.std.specs.Prelude.{List, length, min, ℕ, ◌<◌, ◌≡◌, ◌↔◌}
use Rattle.pv_model.specs.Plain.{PlainToken}
use Rattle.pv_dtd.specs.Plain.{PlainDtd}
use Rattle.pv_rules.specs.Derivations.{Derives, IsWeight, heaviest}
use Rattle.pv_rules.specs.Rules.{Goal, IsSpan, Rule, over}
use Rattle.pv_rules.specs.Sites.{HasSite, PlainSite}
use Rattle.pv_productive.specs.Tables.{no_size}
use Rattle.pv_span.specs.Charts.{value_of}
use Rattle.pv_layout.specs.ColumnRules.{cell}
use Rattle.pv_layout.specs.Columns.{column_of}
use Rattle.pv_span.specs.PlainForms.{plain_chart}
use Rattle.pv_layout.specs.SiteForms.{plain_columns}
use Rattle.pv_span.specs.declared.weighing.Spans.{Spans}

-- the value of a site over a span
abbrev pub site_value : Spans → Goal → ℕ
site_value spans x = value_of (plain_chart spans.chart)
    (cell (column_of (plain_columns spans.sites) x.site) x.from x.to)

-- what is told of a site over a span
abbrev pub weight_of : Spans → Goal → ℕ
weight_of spans x = min heaviest (site_value spans x)

-- how many tokens the word has
abbrev pub tokens_of : Spans → ℕ
tokens_of spans = spans.chart.tokens

-- These are the weights of each site of the DTD over each span of the word. Of a DTD without sites
-- nothing is told.
pub record AreWeights (g : PlainDtd) (w : List PlainToken) (spans : Spans) : Type 0 where
  pub long : (s : PlainSite) → HasSite g s → tokens_of spans ≡ length w
  pub weights : (s : PlainSite) (i j : ℕ) → HasSite g s → IsSpan w i j →
      IsWeight (Rule g w) (over s i j) (weight_of spans (over s i j))

-- The values tell which sites derive something.
pub record AreValues (g : PlainDtd) (w : List PlainToken) (spans : Spans) : Type 0 where
  pub long : (s : PlainSite) → HasSite g s → tokens_of spans ≡ length w
  pub values : (s : PlainSite) (i j : ℕ) → HasSite g s → IsSpan w i j →
      (site_value spans (over s i j) < no_size) ↔ ((n : ℕ) × Derives (Rule g w) n (over s i j))
