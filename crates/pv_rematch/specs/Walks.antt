-- A walk over tokens of a word, from a point to the next ones that may be met again.
use Rattle.std.specs.Prelude.{◌≡◌, ℕ, Bool, List, [], ◌∷◌, ◌++◌, length, drop}
use Rattle.pv_model.specs.Plain.{PlainPart, PlainToken}
use Rattle.pv_rematch.specs.States.{IsAfter, is_word}
use Rattle.pv_rematch.specs.Points.{LeadOver, ArePoints}
use Rattle.pv_rematch.specs.declared.points.Point.{Point}
use Rattle.pv_rematch.specs.declared.walkers.Walker.{Walker}
use Rattle.pv_rematch.specs.declared.walkers.Walked.{Walked}

-- after the tokens u the walker has read these tokens
pub record HasRead (p : PlainPart) (u a : List PlainToken) (k : Walker) : Type 0 where
  pub kept : List PlainToken
  pub since : List PlainToken
  pub is : a ≡ kept ++ since
  pub gap : length since ≡ k.since
  pub points : LeadOver p u k.points.items kept
  pub state : IsAfter p (u ++ a) k.state

-- the first of the points stands at this place of the word before, and the others after it; it
-- was known whether that is a word of the particle
abbrev pub Wait : PlainPart → List PlainToken → Bool → ℕ → List Point → Type 0
Wait p w was n [] = Unit {0}
Wait p w was n (r ∷ rs) =
    (b : List PlainToken) × (c : List PlainToken) × (d : List PlainToken) ×
    (w ≡ b ++ (c ++ d)) × (length b ≡ n) × IsAfter p b r.state × LeadOver p b rs c ×
    (was ≡ is_word p w)

-- after the tokens u the walk over these has left new points, which those of the old ones that it
-- has not passed follow, and it is known whether all are a word of the particle
pub record HasWalked (p : PlainPart) (u a : List PlainToken) (old : List Point) (f : Walked) :
    Type 0 where
  pub points : ArePoints p u a (f.points.items ++ drop f.passed old)
  pub answer : f.is_allowed ≡ is_word p (u ++ a)
