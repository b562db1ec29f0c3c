-- How many lists a move judges, as a counter counts them.
use Rattle.std.specs.Prelude.{Err, Ok, Result, ℕ, ◌+◌, ◌≡◌, ◌≤◌}
use Rattle.pv_edit.specs.declared.answers.EditAnswer.{EditAnswer}
use Rattle.pv_edit.specs.declared.answers.EditAnswer.TheVariants.{Impossible, Limit, NoMemory}
use Rattle.pv_edit.specs.declared.answers.EditAnswer.TheVariants.{Shape}

-- What an edit counts that is refused, where it would change so many lists: all of them where more
-- lists would be Impossible, none where its shape or a limit is the ground, and at most two where
-- there was no memory.
abbrev pub CountsRefused : ℕ → ℕ → ℕ → EditAnswer → Type 0
CountsRefused lists before after (Impossible path) = after ≡ before + lists
CountsRefused lists before after (Shape reason) = after ≡ before
CountsRefused lists before after Limit = after ≡ before
CountsRefused lists before after NoMemory = (before ≤ after) × (after ≤ before + 2)

-- what an edit counts: each of the lists that it changes where it is made
abbrev pub CountsEdit : {A : Type 0} → ℕ → ℕ → ℕ → Result A EditAnswer → Type 0
CountsEdit lists before after (Ok made) = after ≡ before + lists
CountsEdit lists before after (Err why) = CountsRefused lists before after why
