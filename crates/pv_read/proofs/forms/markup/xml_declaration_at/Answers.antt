use Rattle.pv_read.proofs.MarkupItems.{declaration_item}
use Rattle.pv_read.proofs.forms.markup.xml_declaration_at.Goals as goal

pub returns : goal.returns
returns c = declaration_item c.args.bytes.now c.in_ok-rest.rest.now c.split_at.result.0.now c.split_at.ensures.front c.in_ok-rest.ensures
