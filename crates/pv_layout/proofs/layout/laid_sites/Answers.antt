use Rattle.std.proofs.Common.{ap, ◌∙◌}
use Rattle.pv_dtd.specs.Plain.{PlainDtd, parts_in_models}
use Rattle.pv_productive.specs.PlainForms.{dtd_of}
use Rattle.pv_layout.specs.FormForms.{plain_all}
use Rattle.pv_layout.specs.SiteForms.{plain_sites}
use Rattle.pv_layout.proofs.LaidColumns.{none_laid}
use Rattle.pv_layout.proofs.layout.laid_sites.Goals as goal

pub lay_sites-requires : goal.lay_sites-requires
lay_sites-requires c =
    none_laid (dtd_of c.args.grammar.now) (plain_sites c.in_ok-sites.sites) c.args.making.now.names
    c.parts.result (plain_all c.args.making.now.forms.items) c.requires
    (c.parts.ensures ∙ ap (λ (d : PlainDtd). parts_in_models d.models) c.dtd.ensures)
    c.in_ok-sites.ensures
