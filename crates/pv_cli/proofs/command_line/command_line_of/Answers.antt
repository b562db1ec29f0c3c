use Rattle.std.proofs.Common.{◌≡◌, length, sym, arith}
use Rattle.pv_io.specs.Files.{byte_lists}
use Rattle.pv_cli.proofs.CommandLines.{of_no_line}
use Rattle.pv_opening.proofs.ArgumentWords.{length-byte_lists}
use Rattle.pv_cli.proofs.command_line.command_line_of.Goals as goal

pub returns-in_default-clause-line : goal.returns-in_default-clause-line
returns-in_default-clause-line c =
    let two : length (byte_lists c.args.words.now) ≡ 2 → ⊥ =
    λ e. grind (arith, length-byte_lists c.args.words.now) in
    let four : length (byte_lists c.args.words.now) ≡ 4 → ⊥ =
    λ e. grind (arith, length-byte_lists c.args.words.now) in
    let five : length (byte_lists c.args.words.now) ≡ 5 → ⊥ =
    λ e. grind (arith, length-byte_lists c.args.words.now) in
    sym (of_no_line _ two four five)
