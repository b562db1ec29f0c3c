use Rattle.std.proofs.Common.{◌≡◌, ◌++◌, drop}
use Rattle.pv_words.specs.Lines.{with_feeds}
use Rattle.pv_script.proofs.replies.push_names.Given as goal

-- what is written so far, and what is left to write, is all
abbrev pub invariant-loop-name : goal.invariant-loop-name
invariant-loop-name l = l.text.items ++ with_feeds (drop l.name-index l.names) ≡ l.fn.text.items ++ with_feeds l.names
