use Rattle.std.proofs.Common.{◌≡◌, ◌++◌, codes, inl, inr}
use Rattle.pv_words.specs.Paths.{path_text}
use Rattle.pv_missing.specs.Verdicts.{IsLive}
use Rattle.pv_missing.specs.Widths.{IsListForVerdict}
use Rattle.pv_tree.specs.Lists.{lists_of}
use Rattle.pv_opening.specs.Response.{with_line}
use Rattle.pv_opening.specs.Returns.{RefusesWith}
use Rattle.pv_opening.specs.declared.status.Status.TheVariants.{Done}
use Rattle.pv_opening.proofs.OnePossibility.{none_first}
use Rattle.pv_opening.proofs.Stages.{stops_as}
use Rattle.pv_many.specs.MissingAnswers.{TellsMissing, is_heavy, is_wide}
use Rattle.pv_many.proofs.missing.withhold.Goals as goal

pub returns-in-Impossible : goal.returns-in-Impossible
returns-in-Impossible c = λ root g doc narrow live cause.
    let stops = rw c.in-Impossible.is at cause in
    absurd (none_first (IsLive g root) (lists_of doc) c.in-Impossible.path live stops.first)

pub returns-in-TooWide : goal.returns-in-TooWide
returns-in-TooWide c = λ root g doc narrow live cause.
    let path = c.in-TooWide.path in
    let stop = c.refuse_path-in-TooWide.result in
    let told : RefusesWith (λ r. r ≡ with_line Done (codes "no wide " ++ path_text path)) stop =
    rw c.places-in-TooWide.ensures at c.refuse_path-in-TooWide.ensures in
    elim (rw c.in-TooWide.is at cause) [
      | inl first ↦ absurd (none_first (IsListForVerdict g) (lists_of doc) path narrow first)
      | inr stops ↦ stops_as (λ r. r ≡ with_line Done (codes "no wide " ++ path_text path))
          (TellsMissing root g doc) stop (λ r e. is_wide path stops e) told
    ]

pub returns-in-TooHeavy : goal.returns-in-TooHeavy
returns-in-TooHeavy c = λ root g doc narrow live cause.
    let heavy = rw c.in-TooHeavy.is at cause in
    stops_as (λ r. r ≡ with_line Done (codes "no heavy")) (TellsMissing root g doc) c.refuse.result
    (λ r e. is_heavy heavy e) c.refuse.ensures
