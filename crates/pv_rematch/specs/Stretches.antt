-- What takes the place of some points of a word where the word has changed.
use Rattle.std.specs.Prelude.{◌≡◌, ℕ, ◌≤◌, List, [], ◌++◌, length, take, drop}
use Rattle.pv_model.specs.Plain.{PlainPart, PlainToken}
use Rattle.pv_rematch.specs.States.{is_word}
use Rattle.pv_rematch.specs.Points.{LeadOver, ArePoints}
use Rattle.pv_rematch.specs.declared.points.Point.{Point}
use Rattle.pv_rematch.specs.declared.stretches.Points.{Points}
use Rattle.pv_rematch.specs.declared.stretches.Stretch.{Stretch}

-- the points are ones of the word, and it is known whether that is one of the particle
pub record AreOf (p : PlainPart) (w : List PlainToken) (ps : Points) : Type 0 where
  pub points : ArePoints p [] w ps.items.items
  pub answer : ps.is_allowed ≡ is_word p w

-- the points with the new ones in place of some
abbrev pub replaced : List Point → Stretch → List Point
replaced ps s = take s.first ps ++ (s.points.items ++ drop s.last ps)

-- with the new points in place of some, these are points of the word after
pub record ReplacesPoints (p : PlainPart) (w : List PlainToken) (ps : List Point) (s : Stretch) :
    Type 0 where
  pub order : s.first ≤ s.last
  pub within : s.last ≤ length ps
  pub points : ArePoints p [] w (replaced ps s)
  pub answer : s.is_allowed ≡ is_word p w

-- the first so many points, up to this place, are ones of the word after too
pub record StaysBefore (p : PlainPart) (w : List PlainToken) (ps : List Point)
    (n place : ℕ) : Type 0
  where
    pub before : List PlainToken
    pub lead : LeadOver p [] (take n ps) before
    pub len : length before ≡ place
    pub is : w ≡ before ++ drop place w
