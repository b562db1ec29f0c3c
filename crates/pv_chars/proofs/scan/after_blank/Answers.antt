use Rattle.std.proofs.Common.{◌-◌, length, get_or, take, drop, sym, ◌∙◌}
use Rattle.pv_chars.proofs.Arms.{cons_of}
use Rattle.pv_chars.proofs.TextScans.{blank_where}
use Rattle.pv_chars.proofs.scan.after_blank.Goals as goal

pub returns-in-len1-up-clause-found : goal.returns-in-len1-up-clause-found
returns-in-len1-up-clause-found c =
    let bytes = c.args.bytes.now in
    blank_where bytes (take (length bytes - 1) (drop 1 bytes)) c.after_space.result.now
    (get_or bytes 0 0) (cons_of bytes c.in-len1-up.len_at_least) (sym c.is_space.ensures
    ∙ c.if-is_space.true) c.after_space.ensures.taken
