use Rattle.std.proofs.Common.{ap, length, ◌∙◌}
use Rattle.std.proofs.lemmas.List.{length-map}
use Rattle.pv_dtd.specs.Plain.{PlainDtd}
use Rattle.pv_productive.specs.PlainForms.{dtd_of}
use Rattle.pv_layout.specs.FormForms.{plain_all}
use Rattle.pv_layout.specs.SiteForms.{plain_sites}
use Rattle.pv_layout.proofs.LaidColumns.{all_fit, few_forms}
use Rattle.pv_layout.proofs.layout.sites_and_forms.Goals as goal

pub laid_sites-requires : goal.laid_sites-requires
laid_sites-requires c =
    c.in_ok-making.ensures.names ∙ c.names.ensures
    ∙ ap (λ (d : PlainDtd). length d.names) c.dtd.ensures

pub returns-clause-fit : goal.returns-clause-fit
returns-clause-fit c =
    let making = c.laid_sites.new.making in
    let e = rw c.deref.ensures.value at c.in_ok-forms.ensures in
    rw e (all_fit (dtd_of c.args.grammar.now) (plain_sites c.in_ok-sites.sites) making.names
    (plain_all making.forms.items) c.in_ok-sites.ensures
    (let f = making.few in simp length-map f))

pub returns-clause-few : goal.returns-clause-few
returns-clause-few c =
    let making = c.laid_sites.new.making in
    few_forms c.deref.result.now making.names c.in_ok-forms.forms.items making.forms.items
    c.in_ok-forms.ensures making.few
