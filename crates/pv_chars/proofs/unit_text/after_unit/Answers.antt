use Rattle.std.proofs.Common.{◌-◌, length, get_or, take, drop, sym, ◌∙◌}
use Rattle.pv_chars.proofs.Arms.{cons_of}
use Rattle.pv_chars.proofs.MeansLemmas.{lone_unit}
use Rattle.pv_chars.proofs.unit_text.after_unit.Goals as goal

pub returns-in-len1-up : goal.returns-in-len1-up
returns-in-len1-up c =
    let bytes = c.args.bytes.now in
    lone_unit bytes (take (length bytes - 1) (drop 1 bytes)) (get_or bytes 0 0) (cons_of bytes c.in-len1-up.len_at_least) (sym c.is_lone.ensures ∙ c.if-is_lone.true)
