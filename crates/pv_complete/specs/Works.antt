-- A stack of works, the last of which is next, and the pieces that they want.
use Rattle.std.specs.Prelude.{List, [], length, zero, suc, ℕ, ◌*◌, ◌+◌, ◌++◌, ◌-◌, ◌<◌, ◌∷◌, ◌≡◌}
use Rattle.std.specs.List.{AllByRecursion}
use Rattle.pv_model.specs.Plain.{PlainToken}
use Rattle.pv_dtd.specs.Plain.{PlainDtd, parts_in_models}
use Rattle.pv_rules.specs.Derivations.{heaviest}
use Rattle.pv_rules.specs.PlainForms.{plain_site}
use Rattle.pv_rules.specs.Rules.{Goal, IsSpan, over}
use Rattle.pv_rules.specs.Sites.{HasSite}
use Rattle.pv_rules.specs.declared.sites.Site.{Site}
use Rattle.pv_complete.specs.Moves.{site_rank}
use Rattle.pv_write.specs.Pieces.{PlainPiece, finish}
use Rattle.pv_complete.specs.Spelling.{SpellsSpan}
use Rattle.pv_complete.specs.declared.words.pieces.Work.{Work}
use Rattle.pv_complete.specs.declared.words.pieces.Work.TheVariants as work

abbrev pub goal_work : Site → ℕ → ℕ → Work
goal_work s i j = work.Goal s i j

-- the pieces of one work: those of the site over the span, with as many new elements as it weighs,
-- or the end tag
abbrev pub Wants : PlainDtd → List PlainToken → (Goal → ℕ) → Work → List PlainPiece → Type 0
Wants g w t (work.Goal s i j) ps = SpellsSpan g w (t (over (plain_site s) i j))
    (over (plain_site s) i j) ps
Wants g w t (work.End id) ps = ps ≡ finish id.0 ∷ []

-- the pieces of all works of a stack
pub data WantsAll (g : PlainDtd) (w : List PlainToken) (t : Goal → ℕ) : List Work →
    List PlainPiece → Type 0 where
  wants_none : WantsAll g w t [] []
  wants_top : (works all : List Work) (top : Work) (ps qs rs : List PlainPiece) →
      all ≡ works ++ top ∷ [] → rs ≡ ps ++ qs → Wants g w t top ps →
      WantsAll g w t works qs → WantsAll g w t all rs

-- Pieces that complete the new pieces, by the new stack, are such by which the old stack completes
-- the old ones.
abbrev pub Goes : PlainDtd → List PlainToken → (Goal → ℕ) → List Work → List PlainPiece →
    List Work → List PlainPiece → Type 0
Goes g w t old before new after =
    (ps : List PlainPiece) → WantsAll g w t new ps →
    (qs : List PlainPiece) × (after ++ ps ≡ before ++ qs) × WantsAll g w t old qs

-- a work whose pieces can be found
abbrev pub CanSpell : PlainDtd → List PlainToken → (Goal → ℕ) → Work → Type 0
CanSpell g w t (work.Goal s i j) = HasSite g (plain_site s) × IsSpan w i j ×
    (t (over (plain_site s) i j) < heaviest)
CanSpell g w t (work.End id) = Unit {0}

-- how far a goal is from its pieces: by its weight, then by the length of its span, then by its
-- rank
abbrev pub distance : PlainDtd → List PlainToken → (Goal → ℕ) → Work → ℕ
distance g w t (work.Goal s i j) =
    suc ((4 + 2 * parts_in_models g.models) *
    (suc (length w) * t (over (plain_site s) i j) + (j - i)) + site_rank g (plain_site s))
distance g w t (work.End id) = 0

-- a power of 3
abbrev pub power : ℕ → ℕ
power zero = 1
power (suc n) = 3 * power n

-- a bound of the moves that the works of a stack need
abbrev pub moves_left : PlainDtd → List PlainToken → (Goal → ℕ) → List Work → ℕ
moves_left g w t [] = 0
moves_left g w t (x ∷ xs) = power (distance g w t x) + moves_left g w t xs

abbrev pub CanSpellAll : PlainDtd → List PlainToken → (Goal → ℕ) → List Work → Type 0
CanSpellAll g w t works = AllByRecursion (CanSpell g w t) works

-- A move of a goal on top of a stack leaves works that are ready, and fewer moves.
pub record IsNearer (g : PlainDtd) (w : List PlainToken) (t : Goal → ℕ) (old new : List Work) :
    Type 0 where
  pub ready : CanSpellAll g w t old → CanSpellAll g w t new
  pub less : CanSpellAll g w t old → moves_left g w t new < moves_left g w t old
