use Rattle.std.proofs.Common.{refl, subst, sym, true≢false, ◌∙◌, ◌≡◌}
use Rattle.std.proofs.lemmas.Result.{err_from_is_err_and}
use Rattle.pv_productive.specs.PlainForms.{dtd_of}
use Rattle.pv_tree.specs.PlainForms.{forest}
use Rattle.pv_tree.specs.ListWalks.{path_come_to}
use Rattle.pv_missing.specs.PlainForms.{plain_of}
use Rattle.pv_complete.specs.PlainForms.{made_of}
use Rattle.pv_complete.specs.TableWalks.{StopsKids}
use Rattle.pv_complete.specs.declared.errors.NeedError.{NeedError}
use Rattle.pv_complete.proofs.MadeTables.{makes_no_owner, makes_other, makes_table, tables_stop}
use Rattle.pv_complete.proofs.OwnerSites.{owner_site}
use Rattle.pv_complete.proofs.listings.tabling.table_list.Goals as goal

pub returns-then-not-next_is_possible-clause-tabled : goal.returns-then-not-next_is_possible-clause-tabled
returns-then-not-next_is_possible-clause-tabled c = λ root list kids path owner.
    makes_other (dtd_of c.args.layout.now.grammar.now) root c.args.verdicts.now.verdicts list (made_of c.args.made.now) _ c.if-not-next_is_possible.ensures refl refl

pub returns-in_default-clause-tabled : goal.returns-in_default-clause-tabled
returns-in_default-clause-tabled c = λ root list kids path owner.
    makes_no_owner (dtd_of c.args.layout.now.grammar.now) root c.args.verdicts.now.verdicts list (made_of c.args.made.now) _ c.if-not-next_is_possible.ensures (rw c.in_default.is at owner)

pub returns-then-not-is_known_owner-clause-tabled : goal.returns-then-not-is_known_owner-clause-tabled
returns-then-not-is_known_owner-clause-tabled c = λ root list kids path owner.
    absurd (true≢false (sym (c.is_known_owner.ensures.1
    (owner_site (dtd_of c.args.layout.now.grammar.now) root list.owner (plain_of c.in-Some.of)
    (rw c.in-Some.is at owner))) ∙ c.if-not-is_known_owner.true))

pub returns-in_err-entries-clause-refused : goal.returns-in_err-entries-clause-refused
returns-in_err-entries-clause-refused c =
    let d = dtd_of c.args.layout.now.grammar.now in
    let kids = forest c.args.kids.now in
    let room = c.args.made.now.room in
    let p = err_from_is_err_and c.from_residual-in_err-entries.result c.from_residual-in_err-entries.ensures.1 in
    rw p.1 (λ root list same_kids path owner.
    let q = p.2 in
    let same : c.in_err-entries.field-0.0 ≡ p.0 = cc in
    let s : StopsKids d kids (path_come_to c.args.lists.now) room c.in_err-entries.field-0.0 = rw (c.places.ensures, c.in_ok-path.ensures) at c.in_err-entries.ensures.refused in
    tables_stop d root c.args.verdicts.now.verdicts list kids (path_come_to c.args.lists.now) _ (made_of c.args.made.now) p.0 same_kids path
    c.if-not-next_is_possible.ensures (subst (λ (e : NeedError). StopsKids d kids (path_come_to c.args.lists.now) room e) same s))

pub returns-clause-tabled : goal.returns-clause-tabled
returns-clause-tabled c = λ root list same_kids path owner.
    makes_table (dtd_of c.args.layout.now.grammar.now) root c.args.verdicts.now.verdicts list
    (made_of c.args.made.now) (made_of c.add.new.self) (forest c.args.kids.now)
    c.in_ok-entries.entries.items same_kids
    (rw c.add.ensures.used c.if-not-next_is_possible.ensures) c.in_ok-entries.ensures.entries c.in_ok-entries.ensures.fits
    (rw path (rw c.in_ok-path.ensures at c.in_ok-add.ensures.tables)) c.in_ok-add.ensures.room
