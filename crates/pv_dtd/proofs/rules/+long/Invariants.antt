use Rattle.std.proofs.Common.{◌≡◌, drop}
use Rattle.std.specs.List.{list_any}
use Rattle.pv_dtd.specs.Items.{spelled_in_all}
use Rattle.pv_dtd.specs.Kinds.{is_too_long}
use Rattle.pv_dtd.specs.NamedForms.{named_parts}
use Rattle.pv_dtd.proofs.rules.+long.Given as goal

abbrev pub invariant-have_too_long-loop-member : goal.invariant-have_too_long-loop-member
invariant-have_too_long-loop-member l = list_any is_too_long (spelled_in_all (named_parts (drop l.member-index l.members))) ≡ list_any is_too_long (spelled_in_all (named_parts l.members))
