use Rattle.std.proofs.Common.{arith, suc, ◌+◌, ◌≡◌}
use Rattle.pv_productive.specs.PlainForms.{dtd_of}
use Rattle.pv_span.specs.Weights.{tokens_of, weight_of}
use Rattle.pv_complete.specs.Kinds.{count_of, rank_of_kind}
use Rattle.pv_complete.proofs.KindFacts.{past_end}
use Rattle.pv_complete.proofs.EntryLists.{listed_kind}
use Rattle.pv_complete.proofs.listings.entries.list_kind.Goals as goal

pub returns-clause-listed : goal.returns-clause-listed
returns-clause-listed c =
    let d = dtd_of c.args.grammar.now in
    let e : c.loop-number.number ≡ count_of d c.args.kind = omega arith in
    listed_kind d (tokens_of c.args.spans.now) (weight_of c.args.spans.now) (rank_of_kind c.args.kind) (count_of d c.args.kind) c.loop-number.entries.items
    (past_end d c.args.kind) (rw e at c.loop-number.invariant.listed)

pub loop-number-init : goal.loop-number-init
loop-number-init c = record { few = c.requires.few; listed = c.requires.listed }

pub loop-number-preserved : goal.loop-number-preserved
loop-number-preserved c =
    let e : suc c.loop-number.number ≡ c.loop-number.number + 1 = omega arith in
    record { few = c.in_ok-list_number.ensures.few; listed = rw e at c.in_ok-list_number.ensures.listed }

pub list_number-requires : goal.list_number-requires
list_number-requires c = record { number = omega arith; tokens = c.requires.tokens; few = c.loop-number.invariant.few; listed = c.loop-number.invariant.listed }
