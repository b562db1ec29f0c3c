-- The columns of a grammar, kept without it.
use Rattle.pv_dtd.specs.Plain.{PlainDtd}
use Rattle.pv_layout.specs.Columns.{AreFit}
use Rattle.pv_layout.specs.FormForms.{plain_all}
use Rattle.pv_layout.specs.SiteForms.{plain_sites}
use Rattle.pv_layout.specs.declared.layout.Columns.{Columns}

-- in the columns stands what the DTD says of its sites
abbrev pub AreColumnsOf : PlainDtd → Columns → Type 0
AreColumnsOf g columns = AreFit g (plain_sites columns.sites) (plain_all columns.forms.items)
