use Rattle.std.proofs.Common.{◌≡◌, Some, None}
use Rattle.pv_words.specs.Words.{first_word}
use Rattle.pv_script.proofs.FailedReads.{unknown-or}
use Rattle.pv_script.proofs.arguments.first_word.Goals as goal

pub returns : goal.returns
returns c =
    let bytes = c.args.bytes.now in
    rw c.ok_or.ensures.value (unknown-or c.first_word.result (first_word bytes ≡ None) (λ cut. first_word bytes ≡ Some (cut.0.now, cut.1.now)) c.first_word.ensures)
