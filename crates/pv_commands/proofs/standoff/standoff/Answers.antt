use Rattle.std.proofs.Common.{◌∙◌, ℕ, List, Option}
use Rattle.std.proofs.lemmas.Result.{err_from_is_err_and}
use Rattle.pv_standoff.specs.declared.ranges.Range.{Range}
use Rattle.pv_commands.specs.Annotations.{AreTwo, plain_two, two_stage}
use Rattle.pv_opening.specs.Opening.{IsFile}
use Rattle.pv_commands.specs.Standoff.{ranges_file_stage}
use Rattle.pv_commands.proofs.Annotations.{annotation_found, annotation_stopped, can_nest}
use Rattle.pv_opening.proofs.StagePairs.{both_open, first_stops, second_stops}
use Rattle.pv_opening.proofs.Stages.{some_file}
use Rattle.pv_commands.proofs.standoff.standoff.Goals as goal

-- the file of this name
abbrev OfName : List ℕ → Option (List (List ℕ × List ℕ)) → Option (List ℕ) → Type 0
OfName name told file = IsFile told name file

pub returns-in_err-dtd-clause-finds : goal.returns-in_err-dtd-clause-finds
returns-in_err-dtd-clause-finds g c =
    let named = c.args.named.now in
    let third = some_file _ named.ranges.now in
    let p = err_from_is_err_and c.from_residual.result c.from_residual.ensures.1 in
    rw (p.1, p.2)
    (annotation_stopped named.dtd.now named.root.now named.text.now named.ranges.now _ _ _
    c.in_err-dtd.field-0.0
    (first_stops (AreTwo named.dtd.now named.text.now) (OfName named.ranges.now) plain_two two_stage
    (λ (rs : List Range). rs) ranges_file_stage _ _ c.in_err-dtd.field-0.0 third.0 third.1
    c.in_err-dtd.ensures.over))

pub returns-in_err-ranges-clause-finds : goal.returns-in_err-ranges-clause-finds
returns-in_err-ranges-clause-finds g c =
    let named = c.args.named.now in
    let p = err_from_is_err_and c.from_residual-in_err-ranges.result
    c.from_residual-in_err-ranges.ensures.1 in
    rw (p.1, p.2)
    (annotation_stopped named.dtd.now named.root.now named.text.now named.ranges.now _ _ _
    c.in_err-ranges.field-0.0
    (second_stops (AreTwo named.dtd.now named.text.now) (OfName named.ranges.now) plain_two
    two_stage (λ (rs : List Range). rs) ranges_file_stage _ _ _ (c.in_ok-dtd.dtd, c.in_ok-dtd.text)
    c.in_ok-dtd.ensures.over
    c.in_err-ranges.field-0.0 c.in_err-ranges.ensures.over))

pub returns-clause-finds : goal.returns-clause-finds
returns-clause-finds g c =
    let named = c.args.named.now in
    let over = both_open (AreTwo named.dtd.now named.text.now) (OfName named.ranges.now) plain_two
    two_stage (λ (rs : List Range). rs) ranges_file_stage _ _ _
    (c.in_ok-dtd.dtd, c.in_ok-dtd.text) c.in_ok-dtd.ensures.over
    c.in_ok-ranges.ranges c.in_ok-ranges.ensures.over in
    annotation_found named.dtd.now named.root.now named.text.now named.ranges.now _ _ _ _
    ((c.in_ok-dtd.dtd, c.in_ok-dtd.text), c.in_ok-ranges.ranges) c.tell.result over
    c.tell.ensures.finds c.tell.ensures.counts

pub tell-requires-clause-named : goal.tell-requires-clause-named
tell-requires-clause-named g c =
    let named = c.args.named.now in
    let over = both_open (AreTwo named.dtd.now named.text.now) (OfName named.ranges.now) plain_two
    two_stage (λ (rs : List Range). rs) ranges_file_stage _ _ _
    (c.in_ok-dtd.dtd, c.in_ok-dtd.text) c.in_ok-dtd.ensures.over
    c.in_ok-ranges.ranges c.in_ok-ranges.ensures.over in
    λ κs l. (can_nest c.text_law.ensures over.files _ over.fetches over.returns).named

pub tell-requires-clause-few : goal.tell-requires-clause-few
tell-requires-clause-few g c =
    let named = c.args.named.now in
    let over = both_open (AreTwo named.dtd.now named.text.now) (OfName named.ranges.now) plain_two
    two_stage (λ (rs : List Range). rs) ranges_file_stage _ _ _
    (c.in_ok-dtd.dtd, c.in_ok-dtd.text) c.in_ok-dtd.ensures.over
    c.in_ok-ranges.ranges c.in_ok-ranges.ensures.over in
    λ κs l. (can_nest c.text_law.ensures over.files _ over.fetches over.returns).few

pub tell-requires-clause-no_close_mark : goal.tell-requires-clause-no_close_mark
tell-requires-clause-no_close_mark g c =
    let named = c.args.named.now in
    let over = both_open (AreTwo named.dtd.now named.text.now) (OfName named.ranges.now) plain_two
    two_stage (λ (rs : List Range). rs) ranges_file_stage _ _ _
    (c.in_ok-dtd.dtd, c.in_ok-dtd.text) c.in_ok-dtd.ensures.over
    c.in_ok-ranges.ranges c.in_ok-ranges.ensures.over in
    λ κs l. (can_nest c.text_law.ensures over.files _ over.fetches over.returns).no_close_mark

pub returns-in_err-dtd-clause-files : goal.returns-in_err-dtd-clause-files
returns-in_err-dtd-clause-files g c = c.in_err-dtd.ensures.over.same

pub returns-in_err-ranges-clause-files : goal.returns-in_err-ranges-clause-files
returns-in_err-ranges-clause-files g c =
    c.in_err-ranges.ensures.over.same ∙ c.in_ok-dtd.ensures.over.same

pub returns-clause-files : goal.returns-clause-files
returns-clause-files g c = c.in_ok-ranges.ensures.over.same ∙ c.in_ok-dtd.ensures.over.same
