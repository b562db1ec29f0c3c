use Rattle.std.proofs.Common.{◌≡◌, ◌++◌, codes, refl, Result, Err, Ok}
use Rattle.std.proofs.lemmas.Result.{err_from_is_err_and}
use Rattle.pv_words.specs.Paths.{path_text}
use Rattle.pv_opening.specs.JudgedCounts.{judges_all, judges_none}
use Rattle.pv_opening.specs.Possibility.{AreAllNarrow, RefusesWidth, TellsPossibility}
use Rattle.pv_opening.specs.Possibility.{is_impossible, is_no_more, is_possible, is_too_wide}
use Rattle.pv_opening.specs.Possibility.{width_stage}
use Rattle.pv_opening.specs.Response.{plain_response, with_line}
use Rattle.pv_opening.specs.Returns.{RefusesWith}
use Rattle.pv_opening.specs.Stage.{Responds, short_of_memory}
use Rattle.pv_opening.specs.declared.response.Response.{Response}
use Rattle.pv_opening.specs.declared.status.Status.TheVariants.{Limit, Negative}
use Rattle.pv_opening.specs.declared.stop.Stop.{Stop}
use Rattle.pv_opening.proofs.JudgedLists.{stops_within}
use Rattle.pv_opening.proofs.Stages.{found_behind, refusal_stops, stop_found, stops_as, tells_found}
use Rattle.pv_commands.proofs.check.respond_told.Goals as goal

pub returns-in_ok-possible_line-in-Possible-clause-tells :
    goal.returns-in_ok-possible_line-in-Possible-clause-tells
returns-in_ok-possible_line-in-Possible-clause-tells c = λ root opened tells.
    let h = rw c.in-Possible.is at tells in
    let d = opened.dtd in
    let doc = opened.doc in
    let result : Result Response Stop = Ok c.in_ok-possible_line-in-Possible.field-0 in
    let told : TellsPossibility root d doc
    (plain_response c.in_ok-possible_line-in-Possible.field-0) =
    is_possible c.in-Possible.left h.possible h.count c.in_ok-possible_line-in-Possible.ensures in
    found_behind (width_stage d doc) (λ _. Responds (TellsPossibility root d doc)) tt result
    (h.narrow, refl) (tells_found (TellsPossibility root d doc) result told)

pub returns-in_err-possible_line-in-Possible-clause-tells :
    goal.returns-in_err-possible_line-in-Possible-clause-tells
returns-in_err-possible_line-in-Possible-clause-tells c = λ root opened tells.
    let p = err_from_is_err_and c.from_residual.result c.from_residual.ensures.1 in
    rw (p.1, p.2) (short_of_memory 0 refl refl)

pub returns-in-Impossible-clause-tells : goal.returns-in-Impossible-clause-tells
returns-in-Impossible-clause-tells c = λ root opened tells.
    let h = rw c.in-Impossible.is at tells in
    let d = opened.dtd in
    let doc = opened.doc in
    let path = c.in-Impossible.path in
    let stop = c.refuse_path.result in
    let told : RefusesWith (λ r. r ≡ with_line Negative (codes "impossible " ++ path_text path))
    stop = rw c.places-places.ensures at c.refuse_path.ensures in
    let refused = stops_as (λ r. r ≡ with_line Negative (codes "impossible " ++ path_text path))
    (TellsPossibility root d doc) stop
    (λ r e. is_no_more (is_impossible path h.impossible h.first e)) told in
    found_behind (width_stage d doc) (λ _. Responds (TellsPossibility root d doc)) tt (Err stop)
    (h.narrow, refl) (tells_found (TellsPossibility root d doc) (Err stop) refused)

pub returns-in-TooWide-clause-tells : goal.returns-in-TooWide-clause-tells
returns-in-TooWide-clause-tells c = λ root opened tells.
    let wide = rw c.in-TooWide.is at tells in
    let d = opened.dtd in
    let doc = opened.doc in
    let path = c.in-TooWide.path in
    let stop = c.refuse_path-in-TooWide.result in
    let told : RefusesWith (λ r. r ≡ with_line Limit (codes "limit width " ++ path_text path))
    stop = rw c.places-places-in-TooWide.ensures at c.refuse_path-in-TooWide.ensures in
    let refused = stops_as (λ r. r ≡ with_line Limit (codes "limit width " ++ path_text path))
    (RefusesWidth d doc) stop (λ r e. is_too_wide path wide e) told in
    stop_found (width_stage d doc) (λ _. Responds (TellsPossibility root d doc)) stop
    (λ never. never)
    (refusal_stops {X = Unit {0}} (λ _. AreAllNarrow d doc) (RefusesWidth d doc) stop refused)

pub returns-in_ok-possible_line-in-Possible-clause-counts :
    goal.returns-in_ok-possible_line-in-Possible-clause-counts
returns-in_ok-possible_line-in-Possible-clause-counts c =
    λ root opened before after tells counts. judges_all tt 0
    ((rw c.in-Possible.is at tells).narrow, refl) (rw c.in-Possible.is at counts)

pub returns-in_err-possible_line-in-Possible-clause-counts :
    goal.returns-in_err-possible_line-in-Possible-clause-counts
returns-in_err-possible_line-in-Possible-clause-counts c =
    λ root opened before after tells counts. judges_all tt 0
    ((rw c.in-Possible.is at tells).narrow, refl) (rw c.in-Possible.is at counts)

pub returns-in-Impossible-clause-counts : goal.returns-in-Impossible-clause-counts
returns-in-Impossible-clause-counts c =
    λ root opened before after tells counts. judges_all tt 0
    ((rw c.in-Impossible.is at tells).narrow, refl) (rw c.in-Impossible.is at counts)

pub returns-in-TooWide-clause-counts : goal.returns-in-TooWide-clause-counts
returns-in-TooWide-clause-counts c = λ root opened before after tells counts.
    let wide = rw c.in-TooWide.is at tells in
    let d = opened.dtd in
    let doc = opened.doc in
    let path = c.in-TooWide.path in
    let stop = c.refuse_path-in-TooWide.result in
    let told : RefusesWith (λ r. r ≡ with_line Limit (codes "limit width " ++ path_text path))
    stop = rw c.places-places-in-TooWide.ensures at c.refuse_path-in-TooWide.ensures in
    let refused = stops_as (λ r. r ≡ with_line Limit (codes "limit width " ++ path_text path))
    (RefusesWidth d doc) stop (λ r e. is_too_wide path wide e) told in
    judges_none (stops_within (width_stage d doc) 0 stop
    (refusal_stops {X = Unit {0}} (λ _. AreAllNarrow d doc) (RefusesWidth d doc) stop refused))
    (rw c.in-TooWide.is at counts)
