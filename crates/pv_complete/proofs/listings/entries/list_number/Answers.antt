use Rattle.pv_productive.specs.PlainForms.{dtd_of}
use Rattle.pv_span.specs.Weights.{tokens_of, weight_of}
use Rattle.pv_complete.specs.Kinds.{rank_of_kind}
use Rattle.pv_complete.proofs.EntryLists.{listed_number}
use Rattle.pv_complete.proofs.listings.entries.list_number.Goals as goal

pub list_site-requires-clause-listed : goal.list_site-requires-clause-listed
list_site-requires-clause-listed c = rw (c.in-Some.ensures.is.0, c.in-Some.ensures.is.1) c.requires.listed

pub returns-in-Some-clause-listed : goal.returns-in-Some-clause-listed
returns-in-Some-clause-listed c = rw (c.in-Some.ensures.is.0, c.in-Some.ensures.is.1) at c.list_site.ensures.listed

pub returns-in-None-clause-listed : goal.returns-in-None-clause-listed
returns-in-None-clause-listed c =
    listed_number (dtd_of c.args.grammar.now) (tokens_of c.args.spans.now)
    (weight_of c.args.spans.now) (rank_of_kind c.args.kind) c.args.number
    c.args.entries.now.items c.in-None.ensures.none c.requires.listed
