use Rattle.std.proofs.Common.{arith, map}
use Rattle.std.proofs.lemmas.List.{length-map}
use Rattle.std.proofs.lemmas.Result.{IfErr-weaker, IfOk-weaker}
use Rattle.pv_model.specs.PlainForms.{plain_token}
use Rattle.pv_productive.specs.PlainForms.{dtd_of}
use Rattle.pv_missing.specs.PlainForms.{plain_of}
use Rattle.pv_span.proofs.KnownSites.{owner_has}
use Rattle.pv_complete.proofs.TableEntries.{all_entries, stops_word}
use Rattle.pv_complete.proofs.listings.tabling.word_entries.Goals as goal

pub overflow_cast-word : goal.overflow_cast-word
overflow_cast-word c = let l = c.in-Ok.ensures.weights.long (plain_of c.args.owner.now.of)
    (owner_has c.args.owner.now) in let m = simp length-map at l in let s =
    c.in-Ok.spans.chart.short in omega arith

pub entries_of-requires : goal.entries_of-requires
entries_of-requires c =
    let l = c.in-Ok.ensures.weights.long (plain_of c.args.owner.now.of) (owner_has c.args.owner.now)
    in let m = simp length-map at l in let s = c.in-Ok.spans.chart.short in
    record { tokens = (omega arith, omega arith) }

pub returns-in-Ok-clause-entries : goal.returns-in-Ok-clause-entries
returns-in-Ok-clause-entries c =
    IfOk-weaker c.entries_of.result _ _ (λ es l. all_entries
    (dtd_of c.args.owner.now.layout.now.grammar.now) (map plain_token c.args.word.now)
    c.in-Ok.spans c.in-Ok.ensures.weights es.items l) c.entries_of.ensures.listed

pub returns-in-Ok-clause-refused : goal.returns-in-Ok-clause-refused
returns-in-Ok-clause-refused c =
    IfErr-weaker c.entries_of.result _ _ (λ e s. stops_word
    (dtd_of c.args.owner.now.layout.now.grammar.now) (map plain_token c.args.word.now)
    c.in-Ok.spans c.in-Ok.ensures.weights c.args.places.now c.args.room e s) c.entries_of.ensures.refused
