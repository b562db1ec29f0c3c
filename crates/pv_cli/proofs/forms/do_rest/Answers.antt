use Rattle.std.proofs.Common.{refl}
use Rattle.pv_opening.specs.Returns.{plain_fetched}
use Rattle.pv_cli.specs.declared.verb.Verb.TheVariants.{Valid, Check, Complete, Why}
use Rattle.pv_cli.proofs.Runs.{found_rest}
use Rattle.pv_cli.proofs.forms.do_rest.Goals as goal

pub returns-in-Valid : goal.returns-in-Valid
returns-in-Valid g c =
    rw c.in-Valid.is
    (found_rest Valid c.args.root.now (plain_fetched c.args.fetched) _ _ _ _ _ c.valid.result _
    c.valid.ensures refl c.respond.ensures)

pub returns-in-Check : goal.returns-in-Check
returns-in-Check g c =
    rw c.in-Check.is
    (found_rest Check c.args.root.now (plain_fetched c.args.fetched) _ _ _ _ _ c.check.result _
    c.check.ensures.finds c.check.ensures.checks c.respond-in-Check.ensures)

pub returns-in-Complete : goal.returns-in-Complete
returns-in-Complete g c =
    rw c.in-Complete.is
    (found_rest Complete c.args.root.now (plain_fetched c.args.fetched) _ _ _ _ _ c.complete.result
    _ c.complete.ensures refl c.respond-in-Complete.ensures)

pub returns-in-Why : goal.returns-in-Why
returns-in-Why g c =
    rw c.in-Why.is
    (found_rest Why c.args.root.now (plain_fetched c.args.fetched) _ _ _ _ _ c.why.result _
    c.why.ensures.finds c.why.ensures.checks c.respond-in-Why.ensures)

pub returns-in-Session : goal.returns-in-Session
returns-in-Session g c = rw c.in-Session.is c.session.ensures
