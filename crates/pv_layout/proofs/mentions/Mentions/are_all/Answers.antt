use Rattle.std.proofs.Common.{arith, length, ◌≡◌}
use Rattle.std.proofs.lemmas.List.{length-map}
use Rattle.pv_layout.specs.FormForms.{plain_all}
use Rattle.pv_layout.proofs.mentions.Mentions.are_all.Goals as goal

pub returns : goal.returns
returns c = λ all s d o l.
    let n : length (plain_all c.args.forms.now) ≡ length c.args.forms.now = simp length-map in
    c.tells_all.ensures all s d o (omega arith)
