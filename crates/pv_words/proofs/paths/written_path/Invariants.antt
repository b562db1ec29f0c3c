use Rattle.std.proofs.Common.{◌≡◌, ◌++◌, length}
use Rattle.std.specs.Option.{option_map}
use Rattle.pv_words.specs.Paths.{numbers_spelled, between_dots}
use Rattle.pv_words.proofs.paths.written_path.Given as goal

-- the places read so far stand before those that are left
abbrev pub invariant-places : goal.invariant-places
invariant-places l = numbers_spelled (between_dots l.initial.rest) ≡ option_map (λ ns. l.places.items ++ ns) (numbers_spelled (between_dots l.rest))

abbrev pub decreases-places : goal.decreases-places
decreases-places l = length l.rest
