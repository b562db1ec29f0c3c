use Rattle.std.proofs.Common.{arith, sym}
use Rattle.pv_rules.proofs.FlatKinds.{no_part}
use Rattle.pv_productive.specs.PlainForms.{dtd_of}
use Rattle.pv_layout.specs.FormForms.{plain_all}
use Rattle.pv_layout.specs.SiteForms.{plain_sites}
use Rattle.pv_layout.proofs.LaidColumns.{part_laid, part_there}
use Rattle.pv_layout.proofs.laying.lay_part.Goals as goal

pub unreachable-requires : goal.unreachable-requires
unreachable-requires c =
    let g = dtd_of c.args.grammar.now in
    part_there g c.args.number (let a = c.requires.laid.all_parts in let l = c.requires.number in omega arith) (no_part g c.args.number (sym c.in_default.ensures))

pub returns-clause-laid : goal.returns-clause-laid
returns-clause-laid c =
    rw (c.column_of_rest.ensures.names, c.column_of_part.ensures.names)
    (part_laid (dtd_of c.args.grammar.now) (plain_sites c.args.sites.now) c.args.making.now.names (plain_all c.args.making.now.forms.items)
    (plain_all c.column_of_part.new.making.forms.items) (plain_all c.column_of_rest.new.making.forms.items) c.args.number c.in_ok-column.column c.in_ok-rest.rest
    c.requires.laid c.requires.number c.in_ok-column.ensures.kept (rw c.column_of_part.ensures.names at c.in_ok-rest.ensures.kept)
    (rw c.column_of_part.ensures.names at c.in_ok-column.ensures.fits)
    (rw (c.column_of_rest.ensures.names, c.column_of_part.ensures.names) at c.in_ok-rest.ensures.fits))
