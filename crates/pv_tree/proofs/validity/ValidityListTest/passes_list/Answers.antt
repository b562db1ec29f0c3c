use Rattle.std.proofs.Common.{Bool, IsTrue, List, ℕ, ◌≡◌, ◌↔◌}
use Rattle.std.proofs.lemmas.Result.{IfOk-weaker}
use Rattle.pv_dtd.specs.PlainForms.{plain_dtd}
use Rattle.pv_dtd.specs.Plain.{number_of}
use Rattle.pv_tree.specs.Lists.{IsOwnValid, IsValidList, Listed}
use Rattle.pv_tree.specs.PlainForms.{forest}
use Rattle.pv_tree.specs.Walks.{list_given}
use Rattle.pv_tree.specs.declared.nodes.Mark.{Mark}
use Rattle.pv_tree.proofs.ListSearches.{tells_one}
use Rattle.pv_tree.proofs.validity.ValidityListTest.passes_list.Goals as goal

pub returns-in-Document : goal.returns-in-Document
returns-in-Document c = λ path.
    let asked : List ℕ → List (Listed Mark) → Type 0 = λ root _. root ≡ c.args.self.now.root.now in
    tells_one (IsValidList (plain_dtd c.args.self.now.dtd.now)) asked asked (list_given path c.args.list.now) c.is_root_list.result
    (λ root more next. rw (c.in-Document.is, next) c.is_root_list.ensures) (λ root more next t. next)

pub returns-in-Element : goal.returns-in-Element
returns-in-Element c = λ path.
    let g = plain_dtd c.args.self.now.dtd.now in
    let asked : List ℕ → List (Listed Mark) → Type 0 = λ root _. root ≡ c.args.self.now.root.now in
    IfOk-weaker c.is_own_valid.result _ _
    (λ (told : Bool) (is : IsTrue told ↔ IsOwnValid g (number_of g c.in-Element.name.now)
    (forest c.args.list.now.kids.now)). tells_one (IsValidList g) asked asked
    (list_given path c.args.list.now) told (λ root more next. rw c.in-Element.is is)
    (λ root more next t. next))
    c.is_own_valid.ensures
