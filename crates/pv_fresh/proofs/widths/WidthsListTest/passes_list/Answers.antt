use Rattle.std.proofs.Common.{List, ℕ}
use Rattle.pv_dtd.specs.PlainForms.{plain_dtd}
use Rattle.pv_tree.specs.Lists.{Listed}
use Rattle.pv_tree.specs.Walks.{list_given}
use Rattle.pv_tree.specs.declared.nodes.Mark.{Mark}
use Rattle.pv_tree.proofs.ListSearches.{tells_one}
use Rattle.pv_missing.specs.Widths.{IsListForVerdict}
use Rattle.pv_fresh.proofs.widths.WidthsListTest.passes_list.Goals as goal

pub returns : goal.returns
returns c = λ path.
    let any : List ℕ → List (Listed Mark) → Type 0 = λ _ _. Unit {0} in
    tells_one (λ _. IsListForVerdict (plain_dtd c.args.self.now.dtd.now)) any any (list_given path c.args.list.now) c.is_list_narrow.result
    (λ root more next. c.is_list_narrow.ensures) (λ root more next t. tt)
