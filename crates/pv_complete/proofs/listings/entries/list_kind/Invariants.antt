use Rattle.std.proofs.Common.{length, ◌≤◌}
use Rattle.pv_productive.specs.PlainForms.{dtd_of}
use Rattle.pv_span.specs.Weights.{tokens_of, weight_of}
use Rattle.pv_complete.specs.Kinds.{rank_of_kind}
use Rattle.pv_complete.specs.Listings.{IsListedTo, key}
use Rattle.pv_complete.proofs.listings.entries.list_kind.Given as goal

abbrev pub invariant-loop-number : goal.invariant-loop-number
invariant-loop-number l = record {
  few : length l.entries.items ≤ l.room;
  listed : IsListedTo (dtd_of l.grammar) (tokens_of l.spans) (weight_of l.spans) (key (rank_of_kind l.kind) l.number 0 0) l.entries.items;
}
