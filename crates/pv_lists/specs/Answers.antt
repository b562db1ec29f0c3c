-- What is read of a document, and why nothing is.
use Rattle.std.specs.Prelude.{◌<◌, ℕ, Option, List, [], ◌∷◌, length, Err}
use Rattle.pv_tree.specs.Lists.{lists_at}
use Rattle.pv_tree.specs.Plain.{Tree}
use Rattle.pv_tree.specs.declared.nodes.Mark.{Mark}
use Rattle.pv_read.specs.Errors.{Refuses}
use Rattle.pv_read.specs.Limits.{TextLimits}
use Rattle.pv_read.specs.Meaning.{Outcome}
use Rattle.pv_read.specs.PlainForms.{Answers}
use Rattle.pv_lists.specs.Judgements.{Judgement, MAX_KIDS}
use Rattle.pv_lists.specs.OpenLists.{HasRoot}
use Rattle.pv_lists.specs.declared.errors.ReadError.{ReadError}
use Rattle.pv_lists.specs.declared.errors.ReadError.TheVariants.{Document, Judge}
use Rattle.pv_lists.specs.declared.open.OpenLists.{OpenLists}

-- a limit on depth, or none, and one on bytes, as the limits of a text
abbrev pub limits_of : Option ℕ → ℕ → TextLimits
limits_of most_depth most_bytes = record { depth = most_depth; bytes = most_bytes }

-- This is known of the root of a document, and its lists are fewer than there may be.
pub record ReadsLists {B F : Type 0} (m : Judgement B F) (root : List ℕ) (lists : OpenLists B F)
    (t : Tree Mark) : Type 0 where
  pub has_root : HasRoot m root lists t
  pub few_lists : length (lists_at (0 ∷ []) t) < MAX_KIDS

-- a refusal, other than where a list isn't judged, is one of the reader
abbrev pub RefusesLists : {M : Type 0} → {E : Type 0} → (Outcome M → Type 0) → ReadError E →
    Type 0
RefusesLists Is (Document error) = Refuses Is error
RefusesLists Is (Judge cause) = Unit {0}

-- and then the answer to a text that means this
abbrev pub AnswersLists : {E : Type 0} → Outcome Mark → ReadError E → Type 0
AnswersLists outcome (Document error) = Answers outcome (Err error)
AnswersLists outcome (Judge cause) = Unit {0}
