-- What each verb needs of the order of work: a line for each verb.
use Rattle.std.specs.Prelude.{Bool, true, false}
use Rattle.pv_cli.specs.declared.verb.Verb.{Verb}
use Rattle.pv_cli.specs.declared.verb.Verb.TheVariants.{Valid, Check, Session, Complete, Why}

-- what a verb tests of its document: that it is valid; that no list is too wide; or that, and that
-- inserting elements can make it valid, or can't
pub data Test : Type 0 where
  validity : Test
  width : Test
  possibility : Test
  impossibility : Test

-- what a verb needs of the order of work: what it tests of its document, whether it reads a script,
-- and so asks its input, and whether it weighs the lists of its document, and makes their tables
pub record VerbNeeds : Type 0 where
  pub test : Test
  pub script : Bool
  pub tables : Bool

-- what each verb needs
abbrev pub needs_of_verb : Verb → VerbNeeds
needs_of_verb Valid = record { test = validity; script = false; tables = false }
needs_of_verb Check = record { test = possibility; script = false; tables = false }
needs_of_verb Session = record { test = width; script = true; tables = false }
needs_of_verb Complete = record { test = possibility; script = false; tables = true }
needs_of_verb Why = record { test = impossibility; script = false; tables = false }

-- whether a test looks at the width of lists
abbrev pub tests_width : Test → Bool
tests_width validity = false
tests_width width = true
tests_width possibility = true
tests_width impossibility = true
