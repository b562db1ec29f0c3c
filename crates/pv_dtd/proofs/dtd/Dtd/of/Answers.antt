use Rattle.std.proofs.Common.{arith}
use Rattle.pv_dtd.proofs.DtdFacts.{held_named, held_types, held_few, held_names, held_legal}
use Rattle.pv_dtd.proofs.DtdFacts.{held_known, held_mentioned, held_formed, held_parts, items_held}
use Rattle.pv_dtd.proofs.dtd.Dtd.of.Goals as goal

pub invariant_of-result : goal.invariant_of-result
invariant_of-result c =
    let keys = c.into_set.result.keys in
    let models = c.args.models.items in
    let of = items_held keys models c.args.names c.into_set.ensures c.requires.items in
    record {
      named = held_named keys models of;
      legal = ∣ held_legal keys models of ∣₁;
      distinct = held_names keys models of;
      known = held_known keys models of;
      mentioned = held_mentioned keys models of;
      formed = held_formed keys models of;
      counted = c.requires.counted;
      few_types = held_types keys models of;
      few_parts = omega (arith, c.requires.counted, held_parts keys models of);
      few_names = held_few keys models of;
    }
