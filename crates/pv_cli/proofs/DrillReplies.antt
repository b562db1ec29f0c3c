-- Replies to the lines of a drill, counted one after the other.
use Rattle.std.proofs.Common.{◌≡◌, ℕ, zero, suc, ◌+◌, ◌%◌, List, [], ◌∷◌, ◌++◌, get_or, Result, Ok}
use Rattle.std.proofs.Common.{Err, IfOk, ap, refl, sym, arith}
use Rattle.pv_script.specs.Commands.{SpellsCommand}
use Rattle.pv_script.specs.declared.commands.Command.TheVariants.{Quit}
use Rattle.pv_drill.specs.Drill.{drill_lines, section_line, section_lines}
use Rattle.pv_session.specs.Sessions.{PlainSession}
use Rattle.pv_cli.specs.declared.commands.drill.Counts.{Counts}
use Rattle.pv_cli.specs.Drill.{CountsLine, CountsReplies, counts_with, no_counts}
use Rattle.pv_conversation.specs.Session.{done_of}

first_byte : (xs ys : List ℕ) → xs ≡ ys → get_or xs 0 0 ≡ get_or ys 0 0
first_byte xs ys is = ap (λ (h : List ℕ). get_or h 0 0) is

-- no line of a drill is `quit`
pub goes_on : (k which : ℕ) → SpellsCommand (section_line k which) Quit → ⊥
goes_on k zero spells = let same : 119 ≡ 113 = first_byte _ _ spells.text in omega (arith, same)
goes_on k (suc zero) spells =
    let same : 119 ≡ 113 = first_byte _ _ spells.text in omega (arith, same)
goes_on k (suc (suc which)) spells =
    let same : 117 ≡ 113 = first_byte _ _ spells.text in omega (arith, same)

-- a line, and lines
pub counts_one : (session : PlainSession) (before : Counts) (line : List ℕ) (after : PlainSession)
    (now : Counts) → CountsLine session before line after now →
    CountsReplies session before (line ∷ []) after now
counts_one session before line after now counts = (counts.0, after, counts.1, (refl, counts.2))

pub counts_on : (session : PlainSession) (before : Counts) (lines more : List (List ℕ))
    (middle after : PlainSession) (counts now : Counts) →
    CountsReplies session before lines middle counts → CountsReplies middle counts more after now →
    CountsReplies session before (lines ++ more) after now
counts_on session before [] more middle after counts now here there =
    rw (sym here.0, sym here.1) there
counts_on session before (line ∷ lines) more middle after counts now here there = (
  here.0,
  here.1,
  here.2,
  counts_on here.1 (counts_with before (done_of here.0)) lines more
      middle after counts now here.3 there,
)

-- one more section
pub counts_section : (session middle after : PlainSession) (k : ℕ) (counts now : Counts) →
    CountsReplies session no_counts (drill_lines k) middle counts →
    CountsReplies middle counts (section_lines (k + 1)) after now →
    CountsReplies session no_counts (drill_lines (k + 1)) after now
counts_section session middle after k counts now here there =
    let next : k + 1 ≡ suc k = omega arith in
    let moved = rw next at there in
    rw next (counts_on session no_counts (drill_lines k) (section_lines (suc k)) middle after counts
    now here moved)

-- the lines for a third section
pub counts_third : {E : Type 0} (session one two three : PlainSession) (k : ℕ)
    (counts first second : Counts) (result : Result Counts E) → k % 3 ≡ 0 →
    CountsLine session counts (section_line k 0) one first →
    CountsLine one first (section_line k 1) two second →
    IfOk result (CountsLine two second (section_line k 2) three) →
    IfOk result (CountsReplies session counts (section_lines k) three)
counts_third session one two three k counts first second (Ok third) is a b c = rw is
    (counts_on session counts (section_line k 0 ∷ section_line k 1 ∷ []) (section_line k 2 ∷ []) two
    three second third
    (counts_on session counts (section_line k 0 ∷ []) (section_line k 1 ∷ []) one two first second
    (counts_one session counts (section_line k 0) one first a)
    (counts_one one first (section_line k 1) two second b))
    (counts_one two second (section_line k 2) three third c))
counts_third session one two three k counts first second (Err e) is a b c = tt
