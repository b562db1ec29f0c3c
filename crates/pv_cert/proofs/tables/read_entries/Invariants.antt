use Rattle.std.proofs.Common.{◌≤◌, ◌+◌, length}
use Rattle.pv_cert.proofs.TableLines.{HaveRead}
use Rattle.pv_cert.proofs.tables.read_entries.Given as goal

abbrev pub invariant-entries : goal.invariant-entries
invariant-entries l = record {
  read : HaveRead l.initial.rest l.entries.items l.last l.rest;
  few : length l.entries.items ≤ l.most;
  within : length l.rest + length l.entries.items ≤ length l.initial.rest;
}

abbrev pub decreases-entries : goal.decreases-entries
decreases-entries l = length l.rest
