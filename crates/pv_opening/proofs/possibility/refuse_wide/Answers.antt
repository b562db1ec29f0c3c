use Rattle.std.proofs.Common.{codes, refl, ◌++◌, ◌≡◌}
use Rattle.pv_missing.specs.Widths.{IsFirstTooWide}
use Rattle.pv_words.specs.Paths.{path_text}
use Rattle.pv_tree.specs.Lists.{lists_of}
use Rattle.pv_opening.specs.Possibility.{AreAllNarrow, RefusesWidth, is_too_wide}
use Rattle.pv_opening.specs.Response.{with_line}
use Rattle.pv_opening.specs.Returns.{RefusesWith}
use Rattle.pv_opening.specs.declared.status.Status.TheVariants.{Limit}
use Rattle.pv_opening.proofs.Stages.{refusal_stops, stops_as}
use Rattle.pv_opening.proofs.possibility.refuse_wide.Goals as goal

pub returns-in-TooWide : goal.returns-in-TooWide
returns-in-TooWide c = λ d doc has.
    let path = c.in-TooWide.path in
    let wide : IsFirstTooWide d (lists_of doc) path = rw c.in-TooWide.is at has in
    let told : RefusesWith (λ r. r ≡ with_line Limit (codes "limit width " ++ path_text path)) c.refuse_path.result = rw c.places.ensures at c.refuse_path.ensures in
    let refused = stops_as (λ r. r ≡ with_line Limit (codes "limit width " ++ path_text path)) (RefusesWidth d doc) c.refuse_path.result (λ r e. is_too_wide path wide e) told in
    refusal_stops {X = Unit {0}} (λ _. AreAllNarrow d doc) (RefusesWidth d doc) c.refuse_path.result refused

pub returns-in-NoMemory : goal.returns-in-NoMemory
returns-in-NoMemory c = λ d doc has. refl
