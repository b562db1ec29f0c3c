-- What `need` and `complete` reply in a session. That a list is Possible or impossible, and that a
-- document has a completion, is said in whichever way (`∥ ∥₁` says that there is one, and not
-- which).
use Rattle.std.specs.Prelude.{◌≡◌, ℕ, List}
use Rattle.pv_script.specs.declared.replies.Reply.{Reply}
use Rattle.pv_script.specs.declared.replies.Reply.TheVariants as reply
use Rattle.pv_session.specs.Sessions.{PlainSession}
use Rattle.pv_complete.specs.LeastCompletions.{IsLeastCompletion}
use Rattle.pv_complete.specs.GrownTrees.{IsGrownText}
use Rattle.pv_complete.specs.NeededElements.{IsHeavy, Needs, StopsAtWide}
use Rattle.pv_fresh.specs.Answers.{IsImpossibleAt}

-- How many elements are missing isn't told: no insertions can make the document valid, and the list
-- at a path is the first impossible one; or some can, and the list is the first Possible one that
-- is too wide for weights; or there is none, and more than 1,000,000 elements are missing.
pub data Withholds (s : PlainSession) (told : Reply) : Type 0 where
  is_impossible : (path : List ℕ) → ∥ IsImpossibleAt s.root s.dtd s.doc path ∥₁ →
      told ≡ reply.Impossible path → Withholds s told
  is_wide : (path : List ℕ) → ∥ StopsAtWide s.dtd s.root s.doc path ∥₁ → told ≡ reply.Wide path →
      Withholds s told
  is_heavy : ∥ IsHeavy s.dtd s.root s.doc ∥₁ → told ≡ reply.Heavy → Withholds s told

-- the least number of elements whose insertion makes the document valid, or why it isn't told
pub data TellsNeed (s : PlainSession) (told : Reply) : Type 0 where
  is_needed : (k : ℕ) → ∥ Needs s.dtd s.root s.doc k ∥₁ → told ≡ reply.Need k → TellsNeed s told
  is_withheld : Withholds s told → TellsNeed s told

-- a document that has so many elements more, and is valid, all else being written as it was; or why
-- it isn't told; of several such documents any
pub data TellsCompletion (s : PlainSession) (told : Reply) : Type 0 where
  is_completed : (k : ℕ) (marks body : List ℕ) →
      ∥ IsLeastCompletion s.dtd s.root s.doc k marks body ∥₁ → ∥ IsGrownText s.doc body ∥₁ →
      told ≡ reply.Completed k body → TellsCompletion s told
  is_not_completed : Withholds s told → TellsCompletion s told
