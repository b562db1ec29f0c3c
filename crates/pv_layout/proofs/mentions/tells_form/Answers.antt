use Rattle.std.proofs.Common.{arith, length, ◌<◌}
use Rattle.std.proofs.lemmas.Option.{slice_get_within}
use Rattle.pv_layout.specs.FormForms.{plain_form}
use Rattle.pv_layout.specs.Mentions.{columns_mentioned}
use Rattle.pv_layout.proofs.mentions.tells_form.Goals as goal

pub returns : goal.returns
returns c = λ t d o l.
    let columns = columns_mentioned (plain_form c.args.form.now) in
    let within : o.0 < length columns = slice_get_within columns o.0 d o.1 in
    c.loop-place.invariant o.0 d (omega (arith, within, c.mention_count-place-end.ensures, c.loop-place-test.false)) o.1 l
