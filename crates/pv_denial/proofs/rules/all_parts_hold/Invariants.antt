use Rattle.std.proofs.Common.{map, ℕ, ◌<◌}
use Rattle.pv_model.specs.PlainForms.{plain_token}
use Rattle.pv_rules.specs.Sites.{part_site, rest_site}
use Rattle.pv_productive.specs.PlainForms.{dtd_of}
use Rattle.pv_denial.specs.RowForms.{HoldsAt}
use Rattle.pv_denial.proofs.rules.all_parts_hold.Given as goal

abbrev pub invariant-loop-number : goal.invariant-loop-number
invariant-loop-number l = (q : ℕ) → q < l.number →
    HoldsAt (dtd_of l.grammar) (map plain_token l.word) l.barrier (part_site q) ×
    HoldsAt (dtd_of l.grammar) (map plain_token l.word) l.barrier (rest_site q)
