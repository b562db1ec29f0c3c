-- Points of a word: at a place of it, what the tokens before it have reached.
use Rattle.std.specs.Prelude.{◌≡◌, ℕ, ◌+◌, List, [], ◌∷◌, ◌++◌, length}
use Rattle.pv_model.specs.Plain.{PlainPart, PlainToken}
use Rattle.pv_rematch.specs.States.{IsAfter}
use Rattle.pv_rematch.specs.declared.points.Point.{Point}

-- after some tokens, the points lead over these: each has its distance from the one before it, and
-- what all tokens before it have reached
abbrev pub LeadOver : PlainPart → List PlainToken → List Point → List PlainToken → Type 0
LeadOver p u [] a = a ≡ []
LeadOver p u (r ∷ rs) a =
    (b : List PlainToken) × (c : List PlainToken) × (a ≡ b ++ c) × (length b ≡ r.gap) ×
    IsAfter p (u ++ b) r.state × LeadOver p (u ++ b) rs c

-- after some tokens, the points lead over the first tokens of the rest
abbrev pub ArePoints : PlainPart → (before rest : List PlainToken) → List Point → Type 0
ArePoints p u w rs =
    (a : List PlainToken) × (b : List PlainToken) × (w ≡ a ++ b) × LeadOver p u rs a

-- how many tokens the points lead over
abbrev pub span : List Point → ℕ
span [] = 0
span (r ∷ rs) = r.gap + span rs
