use Rattle.std.proofs.Common.{arith}
use Rattle.pv_cache.proofs.JoinedWords.{not-bare}
use Rattle.pv_cache.proofs.words.is_bare.Goals as goal

pub returns-in_default : goal.returns-in_default
returns-in_default c = not-bare c.args.nodes.now (omega arith)
