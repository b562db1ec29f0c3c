use Rattle.std.proofs.Common.{◌≡◌, ◌++◌, codes}
use Rattle.pv_words.specs.Paths.{path_text}
use Rattle.pv_opening.specs.Possibility.{TellsPossibility, is_impossible, is_no_more, is_possible}
use Rattle.pv_opening.specs.Response.{with_line}
use Rattle.pv_opening.specs.Returns.{RefusesWith}
use Rattle.pv_opening.specs.declared.status.Status.TheVariants.{Negative}
use Rattle.pv_opening.proofs.Stages.{stops_as}
use Rattle.pvlong.proofs.possibility.respond_told.Goals as goal

pub returns-in_ok-possible_line-in-Possible : goal.returns-in_ok-possible_line-in-Possible
returns-in_ok-possible_line-in-Possible c = λ root g doc tells.
    let h = rw c.in-Possible.is at tells in
    is_possible c.in-Possible.left h.possible h.count c.in_ok-possible_line-in-Possible.ensures

pub returns-in-Impossible : goal.returns-in-Impossible
returns-in-Impossible c = λ root g doc tells.
    let h = rw c.in-Impossible.is at tells in
    let path = c.in-Impossible.path in
    let told : RefusesWith (λ r. r ≡ with_line Negative (codes "impossible " ++ path_text path))
    c.refuse_path.result =
    rw c.places-places.ensures at c.refuse_path.ensures in
    stops_as (λ r. r ≡ with_line Negative (codes "impossible " ++ path_text path))
    (TellsPossibility root g doc)
    c.refuse_path.result (λ r is. is_no_more (is_impossible path h.impossible h.first is)) told
