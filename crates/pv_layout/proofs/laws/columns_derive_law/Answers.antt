use Rattle.pv_dtd.proofs.ProperDtds.{proper}
use Rattle.pv_productive.specs.PlainForms.{dtd_of}
use Rattle.pv_layout.specs.FormForms.{plain_all}
use Rattle.pv_layout.specs.SiteForms.{plain_sites}
use Rattle.pv_layout.proofs.HeldFits.{layout_fits}
use Rattle.pv_layout.proofs.SharedSites.{column_derives}
use Rattle.pv_layout.proofs.laws.columns_derive_law.Goals as goal

pub returns : goal.returns
returns c = λ l w n s i j has d.
    column_derives (dtd_of l.grammar.now) w (plain_sites l.sites) (plain_all l.forms.items)
    (layout_fits l) l.grammar.now.layout.dtd.known (proper l.grammar.now.layout.dtd).named n s i j
    has d
