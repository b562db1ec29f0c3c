use Rattle.std.proofs.Common.{◌≡◌, length, sym, arith}
use Rattle.pv_io.specs.Files.{byte_lists}
use Rattle.pv_opening.proofs.ArgumentWords.{length-byte_lists}
use Rattle.pvlong.proofs.RequestWords.{of_no_request}
use Rattle.pvlong.proofs.requests.request_of.Goals as goal

pub returns-else-words-eq4-clause-request : goal.returns-else-words-eq4-clause-request
returns-else-words-eq4-clause-request c =
    let four : length (byte_lists c.args.words.now) ≡ 4 →
    ⊥ = λ e. grind (arith, length-byte_lists c.args.words.now) in
    sym (of_no_request _ four)
