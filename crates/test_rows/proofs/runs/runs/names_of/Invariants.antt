use Rattle.std.proofs.Common.{◌≡◌, ◌++◌, map, drop, string_bytes}
use Rattle.pv_io.specs.Files.{fetch_names}
use Rattle.test_rows.proofs.runs.runs.names_of.Given as goal

-- the names so far, and those of the words that are left, are all
abbrev pub invariant-loop-word : goal.invariant-loop-word
invariant-loop-word l = map (λ w. string_bytes w) l.names.items ++ map (λ w. string_bytes w) (drop l.word-index l.word-items) ≡ fetch_names l.fn.words
