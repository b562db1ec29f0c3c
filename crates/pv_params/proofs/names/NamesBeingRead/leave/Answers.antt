use Rattle.std.proofs.Common.{◌≡◌, [], sym, ap, ◌∙◌}
use Rattle.pv_params.specs.Entries.{last_first_on}
use Rattle.pv_params.specs.OpenTexts.{names_behind}
use Rattle.pv_params.proofs.Stacks.{name_left}
use Rattle.pv_params.proofs.names.NamesBeingRead.leave.Goals as goal
use Rattle.pv_params.proofs.names.NamesBeingRead.leave.Goals.{in-Some-1, in-None-1}

pub returns-then-of_entity : goal.returns-then-of_entity
returns-then-of_entity c =
    let left : last_first_on c.pop.new.self.keys [] ≡ names_behind c.args.of_entity
    c.args.self.now = name_left c.self.inside.set.keys _ c.self.view_is c.pop.new.self.keys
    c.pop.result c.pop.ensures.keys c.pop.ensures.found.1
    ∙ ap (λ b. names_behind b c.args.self.now) (sym c.if-of_entity.true) in
    elim c.match-pop.branch [
      | in-Some-1 w ↦ w.self-is ∙ left
      | in-None-1 w ↦ w.self-is ∙ left
    ]
