use Rattle.pv_conversation.proofs.ContinuedScripts.{more_changes_nothing}
use Rattle.pv_conversation.proofs.laws.whatever_follows_law.Goals as goal

pub returns : goal.returns
returns c = more_changes_nothing
