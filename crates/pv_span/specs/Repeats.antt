-- Tokens of a word that stand there again, further after.
use Rattle.std.specs.Prelude.{List, slice_get, ℕ, ◌+◌, ◌-◌, ◌<◌, ◌≡◌, ◌≤◌}
use Rattle.pv_model.specs.declared.models.Token.{Token}
use Rattle.pv_span.specs.Charts.{span_number}
use Rattle.pv_span.specs.declared.charts.Chart.{Chart}
use Rattle.pv_span.specs.declared.repeats.Repeats.{Repeats}

-- so many of these from number p on are those from number q on
abbrev pub AreSameFrom : {A : Type 0} → List A → ℕ → ℕ → ℕ → Type 0
AreSameFrom xs p q n = (k : ℕ) → k < n → slice_get xs (p + k) ≡ slice_get xs (q + k)

-- the tokens of the word stand there again as is told
abbrev pub AreSameTokens : List Token → Repeats → Type 0
AreSameTokens word r = AreSameFrom word r.from r.again r.count

-- the span from place p on that is as long as the one at hand is done
abbrev pub IsDoneFrom : Chart → ℕ → Type 0
IsDoneFrom t p = (p + (t.to - t.from) ≤ t.tokens) ×
    (span_number t.tokens p (p + (t.to - t.from)) < t.done.count)

-- the tokens of the span at hand stand again in a span that is done
pub record StandAgain (r : Repeats) (t : Chart) : Type 0 where
  pub from : r.from ≡ t.from
  pub few : t.to - t.from ≤ r.count
  pub done : IsDoneFrom t r.again
