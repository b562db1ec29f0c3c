use Rattle.std.proofs.Common.{ap, arith, false, subst, suc, ◌+◌, ◌∙◌, ◌≡◌}
use Rattle.std.proofs.lemmas.Result.{IfOk-weaker}
use Rattle.pv_productive.specs.PlainForms.{dtd_of}
use Rattle.pv_layout.specs.Columns.{column_at}
use Rattle.pv_model.specs.Plain.{seq}
use Rattle.pv_rules.proofs.FlatKinds.{choice_at, name_at, opt_at, plus_at, seq_at, star_at}
use Rattle.pv_rules.proofs.FormedParts.{parts_formed}
use Rattle.pv_layout.specs.FormForms.{plain_all}
use Rattle.pv_layout.specs.Forms.{of_opt, of_plus, of_star}
use Rattle.pv_layout.specs.Making.{IsMade}
use Rattle.pv_layout.specs.SiteForms.{plain_sites}
use Rattle.pv_layout.proofs.LaidColumns.{seq_fits}
use Rattle.pv_layout.proofs.laying.column_of_part.Goals as goal

pub returns-in-Name-clause-fits : goal.returns-in-Name-clause-fits
returns-in-Name-clause-fits c =
    let e = name_at (dtd_of c.args.grammar.now) c.args.number c.in-Name.id.0 c.args.part c.requires.part c.in-Name.is in
    rw e (c.column_at.ensures ∙ ap (λ xs. column_at xs c.in-Name.id.0) c.deref.ensures.value)

pub returns-in-Seq-clause-fits : goal.returns-in-Seq-clause-fits
returns-in-Seq-clause-fits c =
    let g = dtd_of c.args.grammar.now in
    let a = seq_at g c.args.number c.args.part c.requires.part c.in-Seq.is in
    let z : c.args.number + 1 ≡ suc c.args.number = omega arith in
    rw a.1 (seq_fits g (plain_sites c.args.sites.now) (IsMade c.args.making.now.names (plain_all c.args.making.now.forms.items)) c.column_at-in-Seq.result c.args.number a.0
    (parts_formed g c.args.grammar.now.layout.dtd.formed c.args.number (seq a.0) a.1)
    (c.column_at-in-Seq.ensures ∙ ap (λ xs. column_at xs (c.args.number + 1)) c.deref-in-Seq.ensures.value ∙ ap (column_at c.args.sites.now.rests.items) z))

pub members_of-requires : goal.members_of-requires
members_of-requires c =
    let a = choice_at (dtd_of c.args.grammar.now) c.args.number c.args.part c.requires.part c.in-Choice.is in
    record { choice = (a.0, a.1, let z = a.2 in omega arith) }

pub returns-in_ok-members-in-Choice-clause-fits : goal.returns-in_ok-members-in-Choice-clause-fits
returns-in_ok-members-in-Choice-clause-fits c =
    let a = choice_at (dtd_of c.args.grammar.now) c.args.number c.args.part c.requires.part c.in-Choice.is in
    let are = rw c.deref-in-Choice.ensures.value at (c.in_ok-members-in-Choice.ensures a.0 a.1) in
    rw a.1 (IfOk-weaker c.column.result _ _ (λ d made. (c.in_ok-members-in-Choice.members.items, made, are)) c.column.ensures.made)

pub returns-in-Opt-clause-fits : goal.returns-in-Opt-clause-fits
returns-in-Opt-clause-fits c =
    let a = opt_at (dtd_of c.args.grammar.now) c.args.number c.args.part c.requires.part c.in-Opt.is in
    let z : c.args.number + 1 ≡ suc c.args.number = omega arith in
    let inner = c.column_at-in-Opt.ensures ∙ ap (λ xs. column_at xs (c.args.number + 1)) c.deref-in-Opt.ensures.value ∙ ap (column_at c.args.sites.now.parts.items) z in
    rw a.1 (IfOk-weaker c.column-in-Opt.result _ _
    (λ d made. subst (λ v. IsMade c.column-in-Opt.new.self.names (plain_all c.column-in-Opt.new.self.forms.items) d (of_opt v)) inner made) c.column-in-Opt.ensures.made)

pub returns-in-Star-clause-fits : goal.returns-in-Star-clause-fits
returns-in-Star-clause-fits c =
    let a = star_at (dtd_of c.args.grammar.now) c.args.number c.args.part c.requires.part c.in-Star.is in
    let z : c.args.number + 1 ≡ suc c.args.number = omega arith in
    let inner = c.column_at-in-Star.ensures ∙ ap (λ xs. column_at xs (c.args.number + 1)) c.deref-in-Star.ensures.value ∙ ap (column_at c.args.sites.now.parts.items) z in
    rw a.1 (IfOk-weaker c.column-in-Star.result _ _
    (λ d made. subst (λ v. IsMade c.column-in-Star.new.self.names (plain_all c.column-in-Star.new.self.forms.items) d (of_star v false)) inner made) c.column-in-Star.ensures.made)

pub returns-in-Plus-clause-fits : goal.returns-in-Plus-clause-fits
returns-in-Plus-clause-fits c =
    let a = plus_at (dtd_of c.args.grammar.now) c.args.number c.args.part c.requires.part c.in-Plus.is in
    let z : c.args.number + 1 ≡ suc c.args.number = omega arith in
    let inner = c.column_at-in-Plus.ensures ∙ ap (λ xs. column_at xs (c.args.number + 1)) c.deref-in-Plus.ensures.value ∙ ap (column_at c.args.sites.now.parts.items) z in
    rw a.1 (IfOk-weaker c.column-in-Plus.result _ _
    (λ d made. subst (λ v. IsMade c.column-in-Plus.new.self.names (plain_all c.column-in-Plus.new.self.forms.items) d (of_plus v)) inner made) c.column-in-Plus.ensures.made)
