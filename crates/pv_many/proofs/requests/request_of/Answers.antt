use Rattle.std.proofs.Common.{◌≡◌, length, sym, arith}
use Rattle.pv_io.specs.Files.{byte_lists}
use Rattle.pv_opening.proofs.ArgumentWords.{length-byte_lists}
use Rattle.pv_many.proofs.RequestWords.{of_no_request}
use Rattle.pv_many.proofs.requests.request_of.Goals as goal

pub returns-else-words-eq3-clause-request : goal.returns-else-words-eq3-clause-request
returns-else-words-eq3-clause-request c =
    let three : length (byte_lists c.args.words.now) ≡ 3 →
    ⊥ = λ e. grind (arith, length-byte_lists c.args.words.now) in
    sym (of_no_request _ three)
