use Rattle.pv_tree.specs.Lists.{lists_of}
use Rattle.pv_tables.proofs.TableTotals.{same_place}
use Rattle.pv_tables.proofs.laws.one_list_at_path_law.Goals as goal

pub returns : goal.returns
returns g c = λ doc a b p q e. same_place _ (lists_of doc) (c.lists_ascend_law.ensures doc) a b p q e
