use Rattle.std.proofs.Common.{List, ℕ, Bor}
use Rattle.pv_words.proofs.FirstWords.{first_word-found}
use Rattle.pv_words.proofs.words.first_word.Goals as goal

pub returns : goal.returns
returns c =
    first_word-found (λ (x : Bor (List ℕ) × Bor (List ℕ)). x.0.now) (λ (x : Bor (List ℕ) × Bor (List ℕ)). x.1.now) c.args.bytes.now c.up_to_byte.result c.up_to_byte.ensures
