use Rattle.std.specs.Option.{option_map_or}
use Rattle.std.proofs.Common.{heap_len, suc, vec_len, ◌+◌, ◌≡◌, ◌≤◌}
use Rattle.pv_productive.proofs.waiting.Waiting.push_mentions.Given as goal

-- each mention stands before the last one
abbrev pub invariant-loop-mention : goal.invariant-loop-mention
invariant-loop-mention l = record {
  few : vec_len l.self.ready + option_map_or suc l.mention 0
      ≤ vec_len l.initial.self.ready + 4294967296;
  kept : heap_len l.self.choices ≡ heap_len l.initial.self.choices;
}

abbrev pub decreases-loop-mention : goal.decreases-loop-mention
decreases-loop-mention l = option_map_or suc l.mention 0
