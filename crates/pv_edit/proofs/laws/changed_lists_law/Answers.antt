use Rattle.pv_edit.proofs.ListsChanged.{edit-lists, inverse-lists}
use Rattle.pv_edit.proofs.laws.changed_lists_law.Goals as goal

pub returns-clause-made : goal.returns-clause-made
returns-clause-made g c = edit-lists

pub returns-clause-undone : goal.returns-clause-undone
returns-clause-undone g c blank root before edited edit h = inverse-lists blank root tt before edited edit h
