use Rattle.std.proofs.Common.{Bool, List, ap, arith, length, take}
use Rattle.pv_cache.specs.ShownKids.{number_shown}
use Rattle.pv_cache.proofs.SplicedTokens.{number-front, number-order}
use Rattle.pv_cache.proofs.words.spliced_tokens.Goals as goal

pub spliced-requires-clause-order : goal.spliced-requires-clause-order
spliced-requires-clause-order c =
    let first = ap (λ (s : List Bool). number_shown (take c.args.from s)) c.deref.ensures.value in
    let last = ap (λ (s : List Bool). number_shown (take c.args.to s)) c.deref-2.ensures.value in
    let h = number-order c.args.from c.args.to c.args.before.now.shown.items c.requires.order in
    omega arith

pub spliced-requires-clause-within : goal.spliced-requires-clause-within
spliced-requires-clause-within c =
    let last = ap (λ (s : List Bool). number_shown (take c.args.to s)) c.deref-2.ensures.value in
    let long = ap length c.deref-3.ensures.value in
    let h = number-front c.args.to c.args.before.now.shown.items in
    omega (arith, c.requires.counted)
