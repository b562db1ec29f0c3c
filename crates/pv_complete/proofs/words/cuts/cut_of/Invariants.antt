use Rattle.std.proofs.Common.{ℕ, ◌+◌, ◌<◌, ◌≤◌, ◌≢◌}
use Rattle.pv_rules.specs.PlainForms.{plain_site}
use Rattle.pv_rules.specs.Rules.{over}
use Rattle.pv_span.specs.Weights.{weight_of}
use Rattle.pv_complete.proofs.words.cuts.cut_of.Given as goal

-- no place so far is one
abbrev pub invariant-loop-place : goal.invariant-loop-place
invariant-loop-place l = (place : ℕ) → l.low ≤ place → place < l.place →
    l.spot.weight ≢ weight_of l.spot.weights.spans.now (over (plain_site l.one) l.spot.from place) + weight_of l.spot.weights.spans.now (over (plain_site l.two) place l.spot.to)
