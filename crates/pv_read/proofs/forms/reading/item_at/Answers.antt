use Rattle.std.proofs.Common.{◌<◌, length}
use Rattle.pv_chars.proofs.Options.{match_some}
use Rattle.pv_read.specs.Items.{BeginsItem}
use Rattle.pv_read.specs.PlainItems.{plain_item, BeginsNoItem}
use Rattle.pv_read.proofs.AnyItem.{item_shorter}
use Rattle.pv_read.proofs.forms.reading.item_at.Goals as goal

pub returns-clause-shorter : goal.returns-clause-shorter
returns-clause-shorter c =
    let bytes = c.args.bytes.now in
    match_some c.any_item_at.result (BeginsNoItem bytes) (λ r. BeginsItem (plain_item r.0) bytes r.1.now) (λ r. length r.1.now < length bytes)
    (λ r b. item_shorter (plain_item r.0) bytes r.1.now b) c.any_item_at.ensures
