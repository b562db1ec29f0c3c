-- What an edit is going to do, made ready before the tree is touched.
use Rattle.std.specs.Prelude.{◌≡◌, ◌<◌, false, length}
use Rattle.pv_tree.specs.Plain.{Tree}
use Rattle.pv_tree.specs.declared.nodes.Mark.{Mark}
use Rattle.pv_tree.specs.Marks.{blank_mark}
use Rattle.pv_edit.specs.Effects.{change_of, next_of, units_at}
use Rattle.pv_edit.specs.Inverses.{inverse_of, change_back}
use Rattle.pv_edit.specs.Reasons.{lacks_text}
use Rattle.pv_edit.specs.FittingChanges.{plain_task}
use Rattle.pv_edit.specs.declared.edits.Edit.{Edit}
use Rattle.pv_edit.specs.declared.inverses.Inverse.{Inverse}
use Rattle.pv_edit.specs.declared.inverses.Inverse.TheVariants.{TakeOut, PutBack, Name, Merge}
use Rattle.pv_edit.specs.declared.inverses.Inverse.TheVariants.{Divide, Text, Discard, Restore}
use Rattle.pv_edit.specs.declared.tasks.Preparation.{Preparation}
use Rattle.pv_edit.specs.declared.tasks.Task.{Task}

-- the change of an edit, and its inverse
pub record IsPreparation (root : Tree Mark) (edit : Edit) (ready : Preparation) : Type 0 where
  pub change : plain_task ready.task ≡ change_of blank_mark root edit
  pub inverse : ready.inverse ≡ inverse_of root edit

-- the change that an inverse makes
abbrev pub IsTask : Tree Mark → Inverse → Task → Type 0
IsTask root inverse task = plain_task task ≡ change_back blank_mark root inverse

-- the texts that an inverse joins or cuts stand there
abbrev pub HasTexts : {M : Type 0} → Tree M → Inverse → Type 0
HasTexts root (TakeOut path shorten) = Unit {0}
HasTexts root (PutBack path from to name attrs e) = Unit {0}
HasTexts root (Name path name) = Unit {0}
HasTexts root (Merge path) =
    (lacks_text path root ≡ false) × (lacks_text (next_of path) root ≡ false)
HasTexts root (Divide path at) =
    (lacks_text path root ≡ false) × (0 < at) × (at < length (units_at path root))
HasTexts root (Text path units) = Unit {0}
HasTexts root (Discard path shorten) = Unit {0}
HasTexts root (Restore path units) = Unit {0}
