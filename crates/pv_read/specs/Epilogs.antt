-- What was read after the root.
use Rattle.std.specs.Prelude.{◌≡◌, ◌≤◌, ℕ, ◌+◌, List, [], ◌++◌, length, Option}
use Rattle.pv_tree.specs.Plain.{Tree, PlainDoc}
use Rattle.pv_tree.specs.Marks.{blank_mark}
use Rattle.pv_tree.specs.declared.nodes.Mark.{Mark}
use Rattle.pv_read.specs.Left.{in_epilog}
use Rattle.pv_read.specs.Meaning.{is_document, DocumentRestMeans}
use Rattle.pv_read.specs.Steps.{LeadsBehind}

-- Items after the root, which so many items end, up to this rest.
pub record ReadsEpilog (most : Option ℕ) (root end : List ℕ) (first : ℕ) (rest : List ℕ)
    (count : ℕ) : Type 0 where
  pub after : List ℕ
  pub whole : end ≡ after ++ rest
  pub few : count + length rest ≤ first + length end
  pub leads : (before : List ℕ) (t : Tree Mark) →
      LeadsBehind most blank_mark root first (in_epilog before t []) end
      count (in_epilog before t after) rest

abbrev pub document : List ℕ → Tree Mark → List ℕ → PlainDoc Mark
document before t after = record { before = before; root = t; after = after; mark = blank_mark }

-- whatever root so many items end, the rest is what stands after it in the document
abbrev pub EndsDocument : Option ℕ → List ℕ → ℕ → List ℕ → Type 0
EndsDocument most root count end = (before : List ℕ) (t : Tree Mark) →
    DocumentRestMeans most blank_mark root count (in_epilog before t []) end
    (is_document (document before t end))
