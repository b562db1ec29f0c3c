use Rattle.std.proofs.Common.{◌<◌, length, map, [], ◌∷◌, ap, ◌∙◌, arith}
use Rattle.std.proofs.lemmas.List.{map-append}
use Rattle.pv_dtd.proofs.ListedNames.{so_far_none, no_more, no_name, one_more}
use Rattle.pv_dtd.proofs.models.listed_at.Goals as goal

pub listed-init : goal.listed-init
listed-init c = rw c.new-names.ensures.items record { read = so_far_none _; within = omega arith }

pub returns-in_default-clause-read : goal.returns-in_default-clause-read
returns-in_default-clause-read c = no_more _ _ _ _ c.listed.invariant.read c.after_space-place.ensures.after c.in_default.ensures.after

pub returns-in_default-name_at-clause-read : goal.returns-in_default-name_at-clause-read
returns-in_default-name_at-clause-read c = no_name _ _ _ _ c.listed.invariant.read
    c.after_space-place.ensures.after _ c.in-Some.ensures.after _ c.after_space.ensures.after
    c.in_default-name_at.ensures.name

pub listed-preserved : goal.listed-preserved
listed-preserved c =
    let pushed = ap (map (λ n. n.now)) c.in_ok-push.ensures.items ∙ map-append (λ n. n.now) c.listed.names.items (c.in-Some-name_at.name ∷ []) in
    let shorter : length c.in-Some-name_at.behind.now < length c.listed.rest.now =
    omega (
      arith,
      c.in-Some.ensures.within,
      c.in-Some-name_at.ensures.within,
      c.after_space-place.ensures.within,
      c.after_space.ensures.within,
    ) in
    record {
      read = rw pushed (one_more _ _ _ _ c.listed.invariant.read c.after_space-place.ensures.after _ c.in-Some.ensures.after _ c.after_space.ensures.after _ _ c.in-Some-name_at.ensures.name shorter);
      within = omega (arith, c.listed.invariant.within, shorter);
    }
