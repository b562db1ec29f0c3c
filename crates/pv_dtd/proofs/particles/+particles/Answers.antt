use Rattle.std.proofs.Common.{◌≡◌, ◌<◌, ◌≤◌, ◌-◌, ℕ, zero, suc, List, length, map, codes, [], ◌∷◌, Some, None, ap, ◌∙◌, arith}
use Rattle.std.proofs.lemmas.List.{map-append}
use Rattle.pv_chars.specs.Scan.{after_bytes}
use Rattle.pv_dtd.specs.NamedForms.{named_part}
use Rattle.pv_dtd.specs.PartReading.{bare_at, group_at, particle_at}
use Rattle.pv_dtd.proofs.Members.{so_far_first, closes, no_separator, no_member, so_far_more}
use Rattle.pv_dtd.proofs.particles.+particles.Goals as goal

bare_is_group : (depth : ℕ) (bytes inside : List ℕ) → 0 < depth → Some inside ≡ after_bytes (codes "(") bytes → bare_at depth bytes ≡ group_at (particle_at (depth - 1)) inside
unfolding bare_at
bare_is_group zero bytes inside some is = absurd (omega arith)
bare_is_group (suc depth) bytes inside some is = let less : depth ≡ suc depth - 1 = omega arith in rw (← is) (ap (λ d. group_at (particle_at d) inside) less)

pub bare_at-returns-in-Some-2-clause-read : goal.bare_at-returns-in-Some-2-clause-read
bare_at-returns-in-Some-2-clause-read t c =
    let some : 0 < c.args.depth = omega (arith, c.if-depth-eq0.false) in
    rw (bare_is_group c.args.depth c.args.bytes.now c.in-Some.field-0.now some c.in-Some.ensures.after) c.group_at.ensures.read

pub others_at-members-init : goal.others_at-members-init
others_at-members-init t c = rw c.in_ok-members.ensures.items record { read = so_far_first _ _ _ _; within = omega arith }

pub others_at-returns-in-Some-clause-read : goal.others_at-returns-in-Some-clause-read
others_at-returns-in-Some-clause-read t c = closes _ _ _ _ _ _ _ c.members.invariant.read c.after_space-place.ensures.after _ c.in-Some.ensures.after _ c.group_of.ensures

pub others_at-returns-in_default-after_bytes-clause-read : goal.others_at-returns-in_default-after_bytes-clause-read
others_at-returns-in_default-after_bytes-clause-read t c =
    no_separator _ _ _ _ _ _ _ c.members.invariant.read c.after_space-place.ensures.after c.in_default.ensures.after c.in_default-after_bytes.ensures.after

pub others_at-returns-in_default-2-clause-read : goal.others_at-returns-in_default-2-clause-read
others_at-returns-in_default-2-clause-read t c =
    let none : None ≡ particle_at c.args.depth c.after_space.result.now = rw c.in_default-2.is at c.in_ok-next.ensures.read in
    no_member _ _ _ _ _ _ _ c.members.invariant.read c.after_space-place.ensures.after c.in_default.ensures.after _ c.in-Some-after_bytes.ensures.after _ c.after_space.ensures.after none

pub others_at-members-preserved : goal.others_at-members-preserved
others_at-members-preserved t c =
    let read : Some (named_part c.in-Some-2.next, c.in-Some-2.behind_next.now) ≡ particle_at c.args.depth c.after_space.result.now = rw c.in-Some-2.is at c.in_ok-next.ensures.read in
    let within : length c.in-Some-2.behind_next.now ≤ length c.after_space.result.now = rw c.in-Some-2.is at c.in_ok-next.ensures.within in
    let pushed = ap (map named_part) c.in_ok-push.ensures.items ∙ map-append named_part c.members.members.items (c.in-Some-2.next ∷ []) in
    let shorter : length c.in-Some-2.behind_next.now < length c.members.rest.now =
    omega (
      arith,
      within,
      c.in-Some-after_bytes.ensures.within,
      c.after_space-place.ensures.within,
      c.after_space.ensures.within,
    ) in
    rw pushed record {
      read = so_far_more _ _ _ _ _ _ _ c.members.invariant.read c.after_space-place.ensures.after
          c.in_default.ensures.after _ c.in-Some-after_bytes.ensures.after _
          c.after_space.ensures.after _ _ read shorter;
      within = omega (arith, c.members.invariant.within, shorter);
    }
