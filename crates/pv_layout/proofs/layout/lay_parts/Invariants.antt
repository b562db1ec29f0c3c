use Rattle.pv_productive.specs.PlainForms.{dtd_of}
use Rattle.pv_layout.specs.FormForms.{plain_all}
use Rattle.pv_layout.specs.Making.{AreLaid}
use Rattle.pv_layout.specs.SiteForms.{plain_sites}
use Rattle.pv_layout.proofs.layout.lay_parts.Given as goal

abbrev pub invariant-loop-number : goal.invariant-loop-number
invariant-loop-number l = AreLaid (dtd_of l.grammar) (plain_sites l.sites) l.making.names (plain_all l.making.forms.items) l.number 0
