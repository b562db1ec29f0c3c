-- What is said of lists that are judged by themselves.
use Rattle.std.specs.Prelude.{Bool, Option, List, ℕ}
use Rattle.pv_dtd.specs.Plain.{PlainDtd}
use Rattle.pv_tree.specs.Lists.{IsValidList}
use Rattle.pv_lists.specs.Judgements.{Judgement}
use Rattle.pv_lists.specs.WholeLists.{TellsFirst, TellsWhether}

-- by this DTD the first list is found that isn't valid by itself, and whether one isn't is noted
abbrev pub validity_by : PlainDtd → Judgement Bool (Option (List ℕ))
validity_by g = record {
  dtd = g;
  finds = λ root. TellsFirst (IsValidList g root);
  notes = λ root. TellsWhether (IsValidList g root);
}
