use Rattle.std.proofs.Common.{◌≡◌, None, refl}
use Rattle.pv_words.specs.Numbers.{number_spelled}
use Rattle.pv_cli.proofs.command_line.drill_size.Goals as goal

pub returns-in-None-clause-size : goal.returns-in-None-clause-size
returns-in-None-clause-size c =
    let none : number_spelled c.args.word.now ≡ None = c.in-None.ensures in
    rw none refl
