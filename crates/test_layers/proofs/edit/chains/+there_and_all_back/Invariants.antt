use Rattle.std.proofs.Common.{length}
use Rattle.test_layers.proofs.edit.chains.+there_and_all_back.Given as goal

abbrev pub decreases-there_and_all_back : goal.decreases-there_and_all_back
decreases-there_and_all_back l = length l.rows.now
