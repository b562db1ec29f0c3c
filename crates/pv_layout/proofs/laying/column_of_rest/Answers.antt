use Rattle.std.proofs.Common.{ap, ◌∙◌}
use Rattle.std.proofs.lemmas.Result.{IfOk-weaker}
use Rattle.pv_productive.specs.PlainForms.{dtd_of}
use Rattle.pv_layout.specs.Columns.{column_at}
use Rattle.pv_rules.specs.Numbering.{rest_at}
use Rattle.pv_rules.proofs.FlatKinds.{followed_at, last_at, outside_at}
use Rattle.pv_layout.specs.FormForms.{plain_all}
use Rattle.pv_layout.specs.Making.{IsMade}
use Rattle.pv_layout.specs.SiteForms.{plain_sites}
use Rattle.pv_layout.proofs.LaidColumns.{no_rest_fits}
use Rattle.pv_layout.proofs.laying.column_of_rest.Goals as goal

pub returns-in-Outside-clause-fits : goal.returns-in-Outside-clause-fits
returns-in-Outside-clause-fits c =
    let g = dtd_of c.args.grammar.now in
    let n = outside_at g c.args.number c.args.part c.requires.part c.in-Outside.is in
    IfOk-weaker c.column.result _ _
    (λ d made. no_rest_fits g (plain_sites c.args.sites.now) (IsMade c.column.new.self.names (plain_all c.column.new.self.forms.items)) d c.args.number (rest_at g c.args.number) n made)
    c.column.ensures.made

pub returns-in-Last-clause-fits : goal.returns-in-Last-clause-fits
returns-in-Last-clause-fits c =
    let a = last_at (dtd_of c.args.grammar.now) c.args.number c.args.part c.requires.part c.in-Last.is in
    rw a.1 (c.column_at-own.ensures ∙ ap (λ xs. column_at xs c.args.number) c.deref.ensures.value)

pub returns-in-Followed-clause-fits : goal.returns-in-Followed-clause-fits
returns-in-Followed-clause-fits c =
    let a = followed_at (dtd_of c.args.grammar.now) c.args.number c.args.part c.requires.part c.in-Followed.is in
    let own = c.column_at-own.ensures ∙ ap (λ xs. column_at xs c.args.number) c.deref.ensures.value in
    let behind = c.column_at-behind.ensures ∙ ap (λ xs. column_at xs c.args.part.end) c.deref-in-Followed.ensures.value in
    rw (a.3, ← a.4, ← own, ← behind) c.column-in-Followed.ensures.made
