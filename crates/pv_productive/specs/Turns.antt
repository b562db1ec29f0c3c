-- How often a part that waits may still be taken.
use Rattle.std.specs.Prelude.{vec_len, ℕ, ◌*◌, ◌+◌, ◌^◌}
use Rattle.std.specs.BinaryHeap.{heap_len}
use Rattle.pv_productive.specs.Tables.{Table, sum_in}
use Rattle.pv_productive.specs.declared.waiting.Waiting.{Waiting}

abbrev pub parts_waiting : Waiting → ℕ
parts_waiting w = vec_len w.ready + heap_len w.choices

-- Each part that waits is taken once. More come to wait where a size falls: the mentions of a name,
-- which are fewer than there are numbers of parts.
abbrev pub turns_left : Table → Waiting → ℕ
turns_left t w = sum_in t * 2 ^ 32 + parts_waiting w
