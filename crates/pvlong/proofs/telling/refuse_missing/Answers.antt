use Rattle.std.proofs.Common.{◌≡◌, ◌++◌, codes}
use Rattle.pv_words.specs.Paths.{path_text}
use Rattle.pv_opening.specs.Response.{with_line}
use Rattle.pv_opening.specs.Returns.{RefusesWith}
use Rattle.pv_opening.specs.declared.status.Status.TheVariants.{Limit, Negative}
use Rattle.pv_opening.proofs.Stages.{stops_as}
use Rattle.pvlong.specs.ToldNumbers.{TellsNothing, is_impossible, is_too_wide}
use Rattle.pvlong.proofs.telling.refuse_missing.Goals as goal

pub returns-in-TooWide : goal.returns-in-TooWide
returns-in-TooWide c = λ root g doc tells.
    let path = c.in-TooWide.path in
    let wide = rw c.in-TooWide.is at tells in
    let told : RefusesWith (λ r. r ≡ with_line Limit (codes "no wide " ++ path_text path)) c.refuse_path.result = rw c.places.ensures at c.refuse_path.ensures in
    stops_as (λ r. r ≡ with_line Limit (codes "no wide " ++ path_text path)) (TellsNothing root g doc) c.refuse_path.result (λ r is. is_too_wide path wide is) told

pub returns-in-Impossible : goal.returns-in-Impossible
returns-in-Impossible c = λ root g doc tells.
    let path = c.in-Impossible.path in
    let at_path = rw c.in-Impossible.is at tells in
    let told : RefusesWith (λ r. r ≡ with_line Negative (codes "no impossible " ++ path_text path))
    c.refuse_path-in-Impossible.result = rw c.places-in-Impossible.ensures at
    c.refuse_path-in-Impossible.ensures in
    stops_as (λ r. r ≡ with_line Negative (codes "no impossible " ++ path_text path)) (TellsNothing root g doc) c.refuse_path-in-Impossible.result (λ r is. is_impossible path at_path is) told
