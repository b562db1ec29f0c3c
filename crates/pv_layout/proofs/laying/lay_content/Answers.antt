use Rattle.std.proofs.Common.{sym}
use Rattle.pv_rules.proofs.FlatContents.{no_content}
use Rattle.pv_productive.specs.PlainForms.{dtd_of}
use Rattle.pv_layout.specs.FormForms.{plain_all}
use Rattle.pv_layout.specs.SiteForms.{plain_sites}
use Rattle.pv_layout.proofs.LaidColumns.{content_laid, model_there}
use Rattle.pv_layout.proofs.laying.lay_content.Goals as goal

pub unreachable-requires : goal.unreachable-requires
unreachable-requires c =
    let g = dtd_of c.args.grammar.now in model_there g c.args.id.0 c.requires.declared (no_content g c.args.id.0 (sym c.in_default.ensures))

pub returns-clause-laid : goal.returns-clause-laid
returns-clause-laid c =
    rw (c.in_ok-push.ensures.items, c.column_of_content.ensures.names)
    (content_laid (dtd_of c.args.grammar.now) (plain_sites c.args.sites.now) c.args.making.now.names (plain_all c.args.making.now.forms.items)
    (plain_all c.column_of_content.new.making.forms.items) c.args.id.0 c.in_ok-column.column c.requires.laid c.in_ok-column.ensures.kept
    (rw c.column_of_content.ensures.names at c.in_ok-column.ensures.fits))
