-- Sorted order as a comparison.
use Rattle.std.specs.declared.cmp.Ordering.{Ordering}
use Rattle.std.specs.Ordering.{nat_cmp, ordering_then, is_lt}
use Rattle.std.specs.Prelude.{Bool}
use Rattle.pv_standoff.specs.declared.ranges.Range.{Range}

-- by `from` rising, then `to` falling, then `level` rising
abbrev pub place_cmp : Range → Range → Ordering
place_cmp r q = ordering_then (ordering_then (nat_cmp r.from q.from) (nat_cmp q.to r.to))
    (nat_cmp r.level q.level)

abbrev pub is_before : Range → Range → Bool
is_before r q = is_lt (place_cmp r q)
