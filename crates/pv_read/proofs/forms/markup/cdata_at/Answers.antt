use Rattle.pv_read.proofs.MarkupItems.{cdata_item}
use Rattle.pv_read.proofs.forms.markup.cdata_at.Goals as goal

pub returns : goal.returns
returns c = cdata_item c.args.bytes.now c.in_ok-rest.rest.now c.split_at.result.0.now c.split_at.ensures.front c.in_ok-rest.ensures
