use Rattle.std.proofs.Common.{◌≤◌, length, map}
use Rattle.pv_dtd.proofs.ListedNames.{IsReadSoFar}
use Rattle.pv_dtd.proofs.models.listed_at.Given as goal

-- the names so far and those that are read after them are all that are listed
abbrev pub invariant-listed : goal.invariant-listed
invariant-listed l = record {
  read : IsReadSoFar l.bytes (map (λ n. n.now) l.names.items) l.rest;
  within : length l.rest ≤ length l.bytes;
}

abbrev pub decreases-listed : goal.decreases-listed
decreases-listed l = length l.rest
