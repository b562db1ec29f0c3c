use Rattle.std.proofs.Common.{◌≤◌, ◌+◌, ◌*◌, length, map}
use Rattle.pv_dtd.specs.NamedForms.{named_part}
use Rattle.pv_dtd.specs.PartReading.{particle_at}
use Rattle.pv_dtd.proofs.Members.{IsGroupSoFar}
use Rattle.pv_dtd.proofs.particles.+particles.Given as goal

abbrev pub decreases-group_at : goal.decreases-group_at
decreases-group_at l = 4 * l.depth + 3

abbrev pub decreases-others_at : goal.decreases-others_at
decreases-others_at l = 4 * l.depth + 2

abbrev pub decreases-particle_at : goal.decreases-particle_at
decreases-particle_at l = 4 * l.depth + 1

abbrev pub decreases-bare_at : goal.decreases-bare_at
decreases-bare_at l = 4 * l.depth

-- the members so far and what is read after them are the whole group
abbrev pub invariant-others_at-members : goal.invariant-others_at-members
invariant-others_at-members l = record {
  read : IsGroupSoFar (particle_at l.depth) l.separator (named_part l.fn.first) l.behind (map named_part l.members.items) l.rest;
  within : length l.rest ≤ length l.behind;
}

abbrev pub decreases-others_at-members : goal.decreases-others_at-members
decreases-others_at-members l = length l.rest
