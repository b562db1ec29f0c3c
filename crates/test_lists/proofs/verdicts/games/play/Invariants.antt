use Rattle.std.proofs.Common.{map}
use Rattle.std.specs.Option.{option_map}
use Rattle.pv_missing.specs.PlainForms.{plain_of}
use Rattle.pv_model.specs.PlainForms.{plain_token}
use Rattle.pv_productive.specs.PlainForms.{dtd_of}
use Rattle.pv_verdicts.specs.Judged.{IsJudged}
use Rattle.pv_verdicts.specs.LastJudgedWord.{IsLast}
use Rattle.test_lists.proofs.verdicts.games.play.Given as goal

abbrev pub invariant-loop-number : goal.invariant-loop-number
invariant-loop-number g l = record {
  judged : IsJudged (dtd_of l.judge) (option_map plain_of l.owner) (map plain_token l.word.items)
      l.judged;
  last : IsLast (dtd_of l.judge) l.last;
}
