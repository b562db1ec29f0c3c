use Rattle.std.proofs.Common.{◌≡◌, ◌++◌, drop}
use Rattle.pv_tree.specs.PlainForms.{forest}
use Rattle.pv_cache.specs.ShownKids.{shown_of}
use Rattle.pv_cache.proofs.words.shown_of.Given as goal

-- those so far, and those that are left
abbrev pub invariant-loop-kid : goal.invariant-loop-kid
invariant-loop-kid l =
    l.shown.items ++ shown_of (forest (drop l.kid-index l.kids)) ≡ shown_of (forest l.kids)
