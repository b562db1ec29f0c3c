-- The body of a pack, read.
use Rattle.std.specs.Prelude.{IsTrue, List, ℕ, ◌↔◌}
use Rattle.pv_tree.specs.Marks.{blank_mark}
use Rattle.pv_tree.specs.Plain.{PlainDoc}
use Rattle.pv_tree.specs.declared.nodes.Mark.{Mark}
use Rattle.pv_read.specs.Meaning.{DocumentMeans, is_document}
use Rattle.pv_compare.specs.EventComparison.{IsBodyRead}
use Rattle.pv_compare.specs.Kept.{IsBodyText, KeepsDocument}
use Rattle.pv_compare.specs.declared.comparing.BodyRead.{BodyRead}

-- One reading of a body tells this of it, beside a document and by these marks.
pub record IsReadBeside (root : List ℕ) (doc : PlainDoc Mark) (body marks : List ℕ)
    (read : BodyRead) : Type 0 where
  pub is_read : IsBodyRead root body read.plain.items
  pub keeps : (bytes : List ℕ) (b : PlainDoc Mark) → IsBodyText root bytes doc →
      IsBodyText root body b → IsTrue read.kept ↔ KeepsDocument doc b marks

-- The bytes are the text of a document.
pub record IsSomeBodyText (root bytes : List ℕ) : Type 0 where
  pub body : PlainDoc Mark
  pub is_text : IsBodyText root bytes body

-- Some bytes mean this document.
pub record IsMeant (root : List ℕ) (doc : PlainDoc Mark) : Type 0 where
  pub bytes : List ℕ
  pub means : DocumentMeans blank_mark root bytes (is_document doc)
