use Rattle.std.proofs.Common.{[], ap, map, ◌∙◌, ◌∷◌}
use Rattle.std.proofs.lemmas.List.{map-append}
use Rattle.pv_flat.specs.Plain.{plain_event}
use Rattle.pv_compare.proofs.trees.push.Goals as goal

pub returns : goal.returns
returns c = ap (map plain_event) c.in_ok-push.ensures.items ∙ map-append plain_event c.args.events.now.items (c.args.event ∷ [])
