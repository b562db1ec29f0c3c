use Rattle.std.proofs.Common.{map, ℕ, ◌<◌}
use Rattle.pv_model.specs.PlainForms.{plain_token}
use Rattle.pv_rules.specs.Sites.{content_site, name_site}
use Rattle.pv_productive.specs.PlainForms.{dtd_of}
use Rattle.pv_denial.specs.RowForms.{HoldsAt}
use Rattle.pv_denial.proofs.rules.all_names_hold.Given as goal

abbrev pub invariant-loop-name : goal.invariant-loop-name
invariant-loop-name l = (x : ℕ) → x < l.name →
    HoldsAt (dtd_of l.grammar) (map plain_token l.word) l.barrier (name_site x) ×
    HoldsAt (dtd_of l.grammar) (map plain_token l.word) l.barrier (content_site x)
