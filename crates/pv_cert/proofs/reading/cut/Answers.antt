use Rattle.std.proofs.Common.{◌≡◌, ◌+◌, ◌-◌, take, drop, ap, ◌∙◌, arith, length-drop}
use lib.Seq.{paste}
use Rattle.std.proofs.lemmas.List.Edits.{take-paste}
use Rattle.pv_cert.proofs.reading.cut.Goals as goal

pub returns : goal.returns
returns c =
    let all = c.args.bytes.items in
    let start = c.args.start in
    let size = c.args.end - start in
    let same : size ≡ 0 + size = omega arith in
    c.shrink_to_fit.ensures.items ∙ c.truncate.ensures.items ∙ ap (take size) c.copy_within.ensures.items ∙ ap (λ k. take k (paste all 0 (drop start all) size)) same
    ∙ take-paste all 0 (drop start all) size (omega (arith, c.requires.within)) (omega (arith, c.requires.within, length-drop start all))
