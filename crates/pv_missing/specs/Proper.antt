-- What the laws ask of a document; every one of the program has it.
use Rattle.std.specs.Prelude.{IsTrue}
use Rattle.pv_tree.specs.Plain.{PlainDoc, is_element}
use Rattle.pv_tree.specs.Units.{HasUnits}

-- the root is an element, and no text is without units
pub record IsProperDoc {M : Type 0} (doc : PlainDoc M) : Type 0 where
  pub rooted : IsTrue (is_element doc.root)
  pub units : HasUnits doc.root
