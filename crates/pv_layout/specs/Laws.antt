-- The law of columns, as a statement.
use Rattle.std.specs.Prelude.{List, ℕ}
use Rattle.pv_model.specs.Plain.{PlainToken}
use Rattle.pv_rules.specs.Derivations.{Derives}
use Rattle.pv_rules.specs.Rules.{Rule, over}
use Rattle.pv_rules.specs.Sites.{HasSite, PlainSite}
use Rattle.pv_productive.specs.PlainForms.{dtd_of}
use Rattle.pv_layout.specs.ColumnRules.{ColumnRule, cell}
use Rattle.pv_layout.specs.Columns.{column_of}
use Rattle.pv_layout.specs.FormForms.{plain_all}
use Rattle.pv_layout.specs.SiteForms.{plain_sites}
use Rattle.pv_layout.specs.declared.layout.ColumnLayout.{ColumnLayout}

-- Under a grammar that is laid out, the column of a site derives over a span what the site does, at
-- the same weight.
abbrev pub ColumnsDerive : Type 0
ColumnsDerive = (l : ColumnLayout) (w : List PlainToken) (n : ℕ) (s : PlainSite) (i j : ℕ) →
    HasSite (dtd_of l.grammar.now) s → Derives (Rule (dtd_of l.grammar.now) w) n (over s i j) →
    Derives (ColumnRule (plain_all l.forms.items) w) n (cell (column_of (plain_sites l.sites) s) i j)
