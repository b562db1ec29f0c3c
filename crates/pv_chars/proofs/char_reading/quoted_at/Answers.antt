use Rattle.pv_chars.proofs.TextDeclarations.{quoted_is_read}
use Rattle.pv_chars.proofs.char_reading.quoted_at.Goals as goal

pub returns : goal.returns
returns c = quoted_is_read (λ r. (r.0.now, r.1.now)) c.args.bytes.now _ c.quoted_at.ensures
