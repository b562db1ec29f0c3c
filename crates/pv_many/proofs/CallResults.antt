-- What a call did where it went well, and where it didn't.
use Rattle.std.proofs.Common.{Result, Ok, Err, OnErr, OnOk}
use Rattle.pv_opening.specs.Response.{PlainResponse}
use Rattle.pv_opening.specs.Returns.{TellsBy}
use Rattle.pv_opening.specs.declared.response.Response.{Response}
use Rattle.pv_opening.specs.declared.stop.Stop.{Stop}
use Rattle.pv_opening.proofs.Stages.{stops_as}

pub on_ok_as : {X E : Type 0} {P Q : Type 0} (r : Result X E) → (P → Q) → OnOk r P → OnOk r Q
on_ok_as (Ok x) f p = f p
on_ok_as (Err e) f p = tt

pub on_err_as : {X E : Type 0} {P Q : Type 0} (r : Result X E) → (P → Q) → OnErr r P → OnErr r Q
on_err_as (Ok x) f p = tt
on_err_as (Err e) f p = f p

-- what tells one kind of response tells another
pub tells_as : (P Q : PlainResponse → Type 0) (result : Result Response Stop) →
    ((r : PlainResponse) → P r → Q r) → TellsBy P result → TellsBy Q result
tells_as P Q (Ok r) f tells = f _ tells
tells_as P Q (Err stop) f tells = stops_as P Q stop f tells
