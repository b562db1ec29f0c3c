use Rattle.pv_params.proofs.ExpansionAnswers.{exactly}
use Rattle.pv_params.proofs.expansion.expand.Goals as goal

pub returns-clause-exactly : goal.returns-clause-exactly
returns-clause-exactly c = exactly c.args.bytes.now c.expanded_or_unchanged.result c.expanded_or_unchanged.ensures.read c.expanded_or_unchanged.ensures.refused
