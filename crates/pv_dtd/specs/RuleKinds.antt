-- The kinds of faults that breaking a rule is.
use Rattle.pv_dtd.specs.Kinds.{Kind, twice, mixed_twice, limit}
use Rattle.pv_dtd.specs.declared.rules.Rule.{Rule}
use Rattle.pv_dtd.specs.declared.rules.Rule.TheVariants.{Twice, MixedTwice, Limit}

abbrev pub kind_of_rule : Rule → Kind
kind_of_rule Twice = twice
kind_of_rule MixedTwice = mixed_twice
kind_of_rule Limit = limit
