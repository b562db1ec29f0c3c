use Rattle.std.proofs.Common.{◌≡◌, [], drop, map}
use Rattle.std.specs.Str.{bytes_eq}
use Rattle.pv_dtd.proofs.DistinctLists.{are_new}
use Rattle.pv_dtd.proofs.rules.are_distinct.Given as goal

-- the names left are new after those seen where all differ
abbrev pub invariant-loop-name : goal.invariant-loop-name
invariant-loop-name l = are_new bytes_eq (map (λ n. n.now) l.seen.keys) (map (λ n. n.now) (drop l.name-index l.names)) ≡ are_new bytes_eq [] (map (λ n. n.now) l.names)
