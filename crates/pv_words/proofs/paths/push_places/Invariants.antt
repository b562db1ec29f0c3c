use Rattle.std.proofs.Common.{◌≡◌, ◌++◌, drop}
use Rattle.pv_words.specs.Paths.{places_text}
use Rattle.pv_words.proofs.paths.push_places.Given as goal

-- what is written so far, and what is left to write, is all
abbrev pub invariant-loop-place : goal.invariant-loop-place
invariant-loop-place l = l.text.items ++ places_text (drop l.place-index l.places) ≡ l.fn.text.items ++ places_text l.places
