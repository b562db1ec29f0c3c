-- A filled chart tells the weights of all sites over the spans of a word.
use Rattle.std.proofs.Common.{List, length, map, ◌<◌, ◌≡◌}
use Rattle.pv_model.specs.PlainForms.{plain_token}
use Rattle.pv_model.specs.declared.models.Token.{Token}
use Rattle.pv_dtd.proofs.ProperDtds.{proper}
use Rattle.pv_productive.specs.PlainForms.{dtd_of}
use Rattle.pv_rules.specs.Sites.{HasSite, PlainSite}
use Rattle.pv_missing.specs.Widths.{FitsWeights}
use Rattle.pv_span.specs.Charts.{IsFilled}
use Rattle.pv_layout.specs.FormForms.{plain_all}
use Rattle.pv_span.specs.PlainForms.{plain_chart}
use Rattle.pv_layout.specs.SiteForms.{plain_columns, plain_sites}
use Rattle.pv_span.specs.Weights.{AreValues, AreWeights}
use Rattle.pv_span.specs.declared.charts.Chart.{Chart}
use Rattle.pv_layout.specs.declared.layout.ColumnLayout.{ColumnLayout}
use Rattle.pv_layout.specs.declared.sites.SiteColumns.{SiteColumns}
use Rattle.pv_layout.proofs.HeldFits.{layout_fits}
use Rattle.pv_span.proofs.SitesWithColumns.{some_columns}
use Rattle.pv_span.proofs.SiteWeights.{is_short, site_derives_something, site_weight}

module _ (l : ColumnLayout) (word : List Token) (chart : Chart) (sites : SiteColumns) (s : plain_columns sites ≡ plain_sites l.sites) (fits : FitsWeights (dtd_of l.grammar.now) (length word))
    (filled : length word < 8192 → IsFilled (plain_all l.forms.items) (map plain_token word) (plain_chart chart)) where
  all_filled : (o : PlainSite) → HasSite (dtd_of l.grammar.now) o → IsFilled (plain_all l.forms.items) (map plain_token word) (plain_chart chart)
  all_filled o has = filled (is_short (dtd_of l.grammar.now) (length word) fits (some_columns (dtd_of l.grammar.now) o has))

  pub chart_weighs : AreWeights (dtd_of l.grammar.now) (map plain_token word) (record { chart = chart; sites = sites })
  chart_weighs = record {
    long = λ o has. (all_filled o has).sound.long;
    weights = λ o i j has p. rw s (site_weight (dtd_of l.grammar.now) (map plain_token word) (plain_sites l.sites) (plain_all l.forms.items) (layout_fits l)
        l.grammar.now.layout.dtd.known (proper l.grammar.now.layout.dtd).named (plain_chart chart) (all_filled o has) o i j has p);
  }

  pub chart_tells : AreValues (dtd_of l.grammar.now) (map plain_token word) (record { chart = chart; sites = sites })
  chart_tells = record {
    long = λ o has. (all_filled o has).sound.long;
    values = λ o i j has p. rw s (site_derives_something (dtd_of l.grammar.now) (map plain_token word) (plain_sites l.sites) (plain_all l.forms.items) (layout_fits l)
        l.grammar.now.layout.dtd.known (proper l.grammar.now.layout.dtd).named (plain_chart chart) (all_filled o has) o i j has p);
  }
