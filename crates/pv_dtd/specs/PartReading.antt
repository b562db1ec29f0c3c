-- Content particles, read from the left.
use Rattle.std.specs.Prelude.{ℕ, zero, suc, List, [], ◌∷◌, length, codes, ◌==◌, if◌then◌else◌}
use Rattle.std.specs.Prelude.{Option, Some, None}
use Rattle.pv_chars.specs.Scan.{◌>>=◌, after_space, after_bytes}
use Rattle.pv_chars.specs.CharReading.{name_at}
use Rattle.pv_dtd.specs.Items.{NamedPart, name, seq, choice, opt, star, plus, NamedParts, no_parts}
use Rattle.pv_dtd.specs.Items.{part}

-- a value from the front of a text, and what stands after it
abbrev pub Reader : Type 0 → Type 0
Reader X = List ℕ → Option (X × List ℕ)

-- a name as a particle
unfoldable pub word_at : Reader NamedPart
word_at bytes = do
  word ← name_at bytes
  Some (name word.0, word.1)

-- a particle, and the operator that may stand after it
unfoldable pub with_operator : NamedPart → List ℕ → NamedPart × List ℕ
with_operator p [] = (p, [])
with_operator p (b ∷ bs) =
    if b == 63 then (opt p, bs)
    else if b == 42 then (star p, bs)
    else if b == 43 then (plus p, bs)
    else (p, b ∷ bs)

-- a separator, a particle and the others
unfoldable pub more_at : Reader NamedPart → ℕ → Reader NamedParts → Reader NamedParts
more_at particle separator others bytes = do
  after ← after_bytes (separator ∷ []) bytes
  next ← particle (after_space after)
  more ← others next.1
  Some (part next.0 more.0, more.1)

-- nothing more where ')' stood in front
abbrev pub others_by : Reader NamedParts → List ℕ → Option (List ℕ) → Option (NamedParts × List ℕ)
others_by more bytes (Some after) = Some (no_parts, after)
others_by more bytes None = more bytes

-- (S? separator S? cp)* S? ')', in at most so many steps
unfoldable pub others_at : Reader NamedPart → ℕ → ℕ → Reader NamedParts
others_at particle separator zero bytes = None
others_at particle separator (suc steps) bytes =
    others_by (more_at particle separator (others_at particle separator steps)) (after_space bytes)
    (after_bytes (codes ")") (after_space bytes))

-- '|' where it stands in front, and else ','
unfoldable pub separator_at : List ℕ → ℕ
separator_at [] = 44
separator_at (b ∷ bs) = if b == 124 then 124 else 44

-- the group whose members have this separator between them
abbrev pub group_of : ℕ → NamedParts → NamedPart
group_of separator ps = if separator == 124 then choice ps else seq ps

-- the group of this first member and the others
abbrev pub group_from : ℕ → NamedPart → Option (NamedParts × List ℕ) → Option (NamedPart × List ℕ)
group_from separator first others =
    others >>= λ more. Some (group_of separator (part first more.0), more.1)

-- a choice or a sequence after its '('; each of the others takes a byte, so there are steps
-- enough
unfoldable pub group_at : Reader NamedPart → Reader NamedPart
group_at particle bytes = do
  first ← particle (after_space bytes)
  group_from (separator_at (after_space first.1)) first.0
      (others_at particle (separator_at (after_space first.1)) (suc (length first.1)) first.1)

-- no group
abbrev pub too_deep : Reader NamedPart
too_deep bytes = None

-- a group by this reader, or a name, where '(' did or did not stand in front
abbrev pub bare_by : Reader NamedPart → List ℕ → Option (List ℕ) → Option (NamedPart × List ℕ)
bare_by group bytes (Some inside) = group inside
bare_by group bytes None = word_at bytes

abbrev pub bare_from : Reader NamedPart → Reader NamedPart
bare_from group bytes = bare_by group bytes (after_bytes (codes "(") bytes)

unfoldable pub particle_from : Reader NamedPart → Reader NamedPart
particle_from bare bytes = do
  p ← bare bytes
  Some (with_operator p.0 p.1)

-- a particle without its operator, with at most so many groups one inside another
unfoldable pub bare_at : ℕ → Reader NamedPart
bare_at zero = bare_from too_deep
bare_at (suc depth) = bare_from (group_at (particle_from (bare_at depth)))

-- a particle with its operator, with at most so many groups one inside another
abbrev pub particle_at : ℕ → Reader NamedPart
particle_at depth = particle_from (bare_at depth)
