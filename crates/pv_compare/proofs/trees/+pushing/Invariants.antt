use Rattle.std.proofs.Common.{◌≡◌, ◌++◌, drop, map}
use Rattle.pv_tree.specs.PlainForms.{forest}
use Rattle.pv_flat.specs.Plain.{events_of_all, plain_event}
use Rattle.pv_compare.proofs.trees.+pushing.Given as goal

-- the events so far, and then those of the nodes that are left
abbrev pub invariant-push_all-loop-node : goal.invariant-push_all-loop-node
invariant-push_all-loop-node l =
    map plain_event l.events.items ++ events_of_all (forest (drop l.node-index l.nodes)) ≡ map plain_event l.fn.events.items ++ events_of_all (forest l.nodes)
