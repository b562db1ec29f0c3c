use Rattle.pv_productive.specs.PlainForms.{dtd_of}
use Rattle.pv_span.specs.Weights.{tokens_of, weight_of}
use Rattle.pv_complete.proofs.EntryLists.{listed_none}
use Rattle.pv_complete.proofs.listings.entries.entries_of.Goals as goal

pub list_kind-requires-clause-listed : goal.list_kind-requires-clause-listed
list_kind-requires-clause-listed c = rw c.new-entries.ensures.items (listed_none (dtd_of c.args.grammar.now) (tokens_of c.args.spans.now) (weight_of c.args.spans.now))
