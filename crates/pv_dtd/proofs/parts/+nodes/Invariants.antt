use Rattle.std.proofs.Common.{◌≡◌, ◌-◌, ◌^◌, min, take}
use Rattle.pv_dtd.specs.Items.{particles_in_all}
use Rattle.pv_dtd.specs.NamedForms.{named_parts}
use Rattle.pv_dtd.proofs.parts.+nodes.Given as goal

abbrev pub invariant-particles_in_all-loop-member : goal.invariant-particles_in_all-loop-member
invariant-particles_in_all-loop-member l = l.count ≡ min (particles_in_all (named_parts (take l.member-index l.members))) (2 ^ 64 - 1)
