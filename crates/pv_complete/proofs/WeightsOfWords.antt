-- What the weights of a word tell.
use Rattle.std.proofs.Common.{arith, length, map, ℕ, ◌≡◌, ◌≤◌}
use Rattle.std.proofs.lemmas.List.{length-map}
use Rattle.std.proofs.Math.Logic.{∥∥₁_elim, ∥∥₁_map}
use Rattle.std.specs.Coded.{Coded-set, coded_ℕ}
use Rattle.pv_model.specs.PlainForms.{plain_token}
use Rattle.pv_rules.specs.Rules.{IsSpan}
use Rattle.pv_rules.specs.Sites.{HasSite, PlainSite}
use Rattle.pv_productive.specs.PlainForms.{dtd_of}
use Rattle.pv_span.specs.Weights.{AreWeights, tokens_of, weight_of}
use Rattle.pv_complete.specs.Moves.{AreWeightsBy}
use Rattle.pv_complete.specs.declared.words.word_weights.WordWeights.{WordWeights}

pub long_word : (v : WordWeights) (s : PlainSite) → HasSite (dtd_of v.grammar.now) s → tokens_of v.spans.now ≡ length (map plain_token v.word.now)
long_word v s has = ∥∥₁_elim v.weights (Coded-set coded_ℕ (tokens_of v.spans.now)
    (length (map plain_token v.word.now))) (λ (a : AreWeights (dtd_of v.grammar.now)
    (map plain_token v.word.now) v.spans.now). a.long s has)

pub weights_by : (v : WordWeights) → ∥ AreWeightsBy (dtd_of v.grammar.now) (map plain_token v.word.now) (weight_of v.spans.now) ∥₁
weights_by v = ∥∥₁_map v.weights (λ (a : AreWeights (dtd_of v.grammar.now) (map plain_token v.word.now) v.spans.now). a.weights)

-- a span of the tokens of the program is one of the word
pub span_of : (v : WordWeights) (i j : ℕ) → (i ≤ j) × (j ≤ length v.word.now) → IsSpan (map plain_token v.word.now) i j
span_of v i j s = (s.0, let l = s.1 in simp length-map (omega arith))
