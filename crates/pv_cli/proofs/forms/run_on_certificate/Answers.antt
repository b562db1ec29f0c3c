use Rattle.pv_cli.proofs.forms.run_on_certificate.Goals as goal

pub returns-in-Verify-clause-finds : goal.returns-in-Verify-clause-finds
returns-in-Verify-clause-finds g c = rw c.in-Verify.is c.verify.ensures.finds

pub returns-in-Deny-clause-finds : goal.returns-in-Deny-clause-finds
returns-in-Deny-clause-finds g c = rw c.in-Deny.is c.deny.ensures.finds
