-- Laws on the texts of documents.
use Rattle.std.specs.Prelude.{◌≡◌, ℕ, List}
use Rattle.pv_tree.specs.Plain.{PlainDoc}
use Rattle.pv_tree.specs.declared.nodes.Mark.{Mark}
use Rattle.pv_read.specs.Grammar.{SpellsDocument}
use Rattle.pv_write.specs.Text.{doc_text}
use Rattle.pv_write.specs.Writes.{IsLegalDocument, SpellsView}

-- what a text spells is written as that text
abbrev pub WritesWhatIsSpelled : Type 0
WritesWhatIsSpelled = (root bytes : List ℕ) (doc : PlainDoc Mark) → SpellsDocument root bytes doc →
    doc_text doc ≡ bytes

-- every legal document is written as a text of a tree with the same view, at any depth and size
abbrev pub WritesEveryView : Type 0
WritesEveryView = (root : List ℕ) (doc : PlainDoc Mark) → IsLegalDocument root doc →
    SpellsView root (doc_text doc) doc
