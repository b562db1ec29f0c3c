use Rattle.std.proofs.Common.{◌≡◌, vec_len}
use Rattle.test_rows.proofs.runs.runs.texts_of.Given as goal

abbrev pub invariant-loop-word : goal.invariant-loop-word
invariant-loop-word l = vec_len l.texts ≡ l.word-index
