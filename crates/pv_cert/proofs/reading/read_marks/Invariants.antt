use Rattle.std.proofs.Common.{◌≤◌, ◌+◌, ℕ, length, map, Some}
use Rattle.pv_cert.specs.Lines.{mark_line, total_line}
use Rattle.pv_cert.specs.Meaning.{Stand}
use Rattle.pv_cert.proofs.reading.read_marks.Given as goal

abbrev pub invariant-marks : goal.invariant-marks
invariant-marks l = record {
  stand : (k : ℕ) → Stand (Some (total_line k)) l.initial.rest (map mark_line l.marks.items) l.rest;
  within : length l.rest + length l.marks.items ≤ length l.initial.rest;
}

abbrev pub decreases-marks : goal.decreases-marks
decreases-marks l = length l.rest
