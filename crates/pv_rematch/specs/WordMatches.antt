-- What is kept of a word under a content model, and what a change of the word makes of it.
use Rattle.std.specs.Prelude.{◌≡◌, ℕ, List}
use Rattle.pv_model.specs.Plain.{PlainPart, PlainModel, children, PlainToken}
use Rattle.pv_rematch.specs.Counts.{AreWithout, IsAllowedAlone, JudgesAlone}
use Rattle.pv_rematch.specs.Stretches.{AreOf, ReplacesPoints}
use Rattle.pv_rematch.specs.declared.word_matches.WordMatch.{WordMatch}
use Rattle.pv_rematch.specs.declared.word_matches.Kept.{Kept}
use Rattle.pv_rematch.specs.declared.word_matches.Kept.TheVariants as kept
use Rattle.pv_rematch.specs.declared.word_matches.Turn.{Turn}
use Rattle.pv_rematch.specs.declared.word_matches.Made.{Made}
use Rattle.pv_rematch.specs.declared.word_matches.Made.TheVariants as made
use Rattle.pv_rematch.specs.declared.stretches.Points.{Points}

-- of a model that judges each token alone, the number of those that it doesn't allow; of a
-- particle, points of the word and whether it is one of the particle
abbrev pub KeepsWord : ℕ → PlainModel → List PlainToken → Kept → Type 0
KeepsWord declared m w (kept.Count n) = JudgesAlone m × AreWithout (IsAllowedAlone declared m) w n
KeepsWord declared m w (kept.Points ps) = (p : PlainPart) × (m ≡ children p) × AreOf p w ps

-- this is kept of the word under the model, where so many names are declared
pub record IsWordMatch (declared : ℕ) (m : PlainModel) (w : List PlainToken) (c : WordMatch) : Type 0
  where
    pub is : KeepsWord declared m w c.kept

-- this is made of what is kept: another whole, or new points in place of some
abbrev pub MakesWord : ℕ → PlainModel → List PlainToken → Kept → Made → Type 0
MakesWord declared m w k (made.Whole new) = KeepsWord declared m w new
MakesWord declared m w k (made.Part s) =
    (p : PlainPart) × (ps : Points) × (m ≡ children p) × (k ≡ kept.Points ps) ×
    ReplacesPoints p w ps.items.items s

-- the turn makes of this match one of the word after a change
pub record IsTurn (declared : ℕ) (m : PlainModel) (w : List PlainToken) (c : WordMatch) (t : Turn) :
    Type 0 where
  pub is : MakesWord declared m w c.kept t.made
