use Rattle.pv_productive.specs.PlainForms.{dtd_of}
use Rattle.pv_layout.specs.FormForms.{plain_all}
use Rattle.pv_layout.specs.Making.{AreLaid}
use Rattle.pv_layout.specs.SiteForms.{plain_sites}
use Rattle.pv_layout.proofs.layout.lay_contents.Given as goal

abbrev pub invariant-loop-id : goal.invariant-loop-id
invariant-loop-id l = AreLaid (dtd_of l.grammar) (plain_sites l.sites) l.making.names (plain_all l.making.forms.items) 0 l.id
