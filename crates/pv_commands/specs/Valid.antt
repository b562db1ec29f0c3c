-- What `valid DTD ROOT DOC` responds.
use Rattle.std.specs.Prelude.{◌≡◌, ℕ, List, ◌++◌, codes}
use Rattle.pv_dtd.specs.Plain.{PlainDtd}
use Rattle.pv_dtd.specs.Hedge.{IsValid}
use Rattle.pv_tree.specs.Lists.{IsFirstNot, IsValidList, lists_of}
use Rattle.pv_tree.specs.Plain.{PlainDoc}
use Rattle.pv_tree.specs.View.{view}
use Rattle.pv_tree.specs.declared.nodes.Mark.{Mark}
use Rattle.pv_opening.specs.declared.status.Status.TheVariants.{Done, Negative}
use Rattle.pv_opening.specs.Course.{Course}
use Rattle.pv_opening.specs.Documents.{PlainOpened}
use Rattle.pv_words.specs.Paths.{path_text}
use Rattle.pv_opening.specs.Response.{PlainResponse, with_line}
use Rattle.pv_opening.specs.Stage.{Responds}

-- the document is valid, or this is the path of its first list that isn't
pub data TellsValidity (root : List ℕ) (g : PlainDtd) (doc : PlainDoc Mark) (r : PlainResponse) :
    Type 0 where
  is_valid : IsValid g root (view doc.root) → r ≡ with_line Done (codes "valid") →
      TellsValidity root g doc r
  is_invalid : (path : List ℕ) → IsFirstNot (IsValidList g root) (lists_of doc) path →
      r ≡ with_line Negative (codes "invalid " ++ path_text path) →
      TellsValidity root g doc r

-- what `valid` does after the opened files
abbrev pub IsValidCourse : List ℕ → PlainOpened → Course → Type 0
IsValidCourse root opened = Responds (TellsValidity root opened.dtd opened.doc)
