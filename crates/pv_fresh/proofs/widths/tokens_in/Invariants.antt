use Rattle.std.proofs.Common.{drop, length, ◌+◌, ◌≤◌, ◌≡◌}
use Rattle.pv_dtd.specs.Plain.{PlainDtd}
use Rattle.pv_tree.specs.PlainForms.{forest}
use Rattle.pv_tree.specs.Words.{word_of}
use Rattle.pv_fresh.proofs.widths.tokens_in.Given as goal

-- the tokens so far and those of the rest are those of all
abbrev pub invariant-loop-kid : goal.invariant-loop-kid
invariant-loop-kid l = record {
  count : (g : PlainDtd) → l.count + length (word_of g (forest (drop l.kid-index l.kids))) ≡ length (word_of g (forest l.kids));
  most : l.count ≤ l.kid-index;
}
