use Rattle.pv_params.specs.OpenTexts.{LeadToExpansion, work_left, stacked, plain_so_far}
use Rattle.pv_params.proofs.expansion.expanded_file.Given as goal

abbrev pub invariant-steps : goal.invariant-steps
invariant-steps l = LeadToExpansion l.bytes (stacked l.reading.texts.items) l.reading.names (plain_so_far l.reading.so_far)

abbrev pub decreases-steps : goal.decreases-steps
decreases-steps l = work_left (stacked l.reading.texts.items) (plain_so_far l.reading.so_far)
