use Rattle.std.proofs.Common.{◌≡◌, eqb}
use Rattle.std.specs.List.{list_any}
use Rattle.pv_model.specs.declared.models.NameId.{NameId}
use Rattle.pv_model.proofs.Tokens.{listed}
use Rattle.pv_model.proofs.mixed.is_listed.Goals as goal

pub returns-in-Name : goal.returns-in-Name
returns-in-Name c =
    let answer : c.contains.result ≡ list_any (λ (id : NameId). eqb id.0 c.in-Name.name.0) c.args.names.now = c.contains.ensures.value in
    rw (answer, c.in-Name.is) (listed c.args.names.now c.in-Name.name.0)
