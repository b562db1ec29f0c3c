use Rattle.std.proofs.Common.{◌+◌, ◌∙◌, ap, length, List, ℕ}
use Rattle.std.specs.Prelude.{nat_lt}
use Rattle.pv_tree.specs.PlainForms.{plain}
use Rattle.pv_tree.specs.Marks.{blank_mark}
use Rattle.pv_edit.proofs.ListPlaces.{listed}
use Rattle.pv_edit.proofs.TooDeepChanges.{insert-deep}
use Rattle.pv_edit.proofs.shapes.inserts_too_deep.Goals as goal

pub returns : goal.returns
returns c =
    ap (λ (p : List ℕ). nat_lt 512 (length p + 1)) c.places.ensures
    ∙ insert-deep blank_mark c.args.at c.args.name.now c.args.path.now (plain c.args.doc.now.root) _
    (listed c.args.path.now (plain c.args.doc.now.root) c.requires.list) c.requires.top
    c.args.doc.now.shallow
