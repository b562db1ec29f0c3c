-- What `valid` tells, once its files are fetched.
use Rattle.std.proofs.Common.{ℕ, List, Result, Ok, Err, refl}
use Rattle.pv_dtd.specs.Plain.{PlainDtd}
use Rattle.pv_commands.specs.Returns.{BehindDocument}
use Rattle.pv_commands.specs.Valid.{IsValidCourse}
use Rattle.pv_commands.specs.Validity.{validity_stage}
use Rattle.pv_opening.specs.Response.{plain_response}
use Rattle.pv_opening.specs.Returns.{TakesCourse, Returns}
use Rattle.pv_opening.specs.Stage.{opened, refused, short_of_memory, responded}
use Rattle.pv_opening.specs.declared.response.Response.{Response}
use Rattle.pv_opening.specs.declared.stop.Stop.{Stop}
use Rattle.pv_opening.specs.declared.stop.Stop.TheVariants.{Refused, ShelfFault, NoMemory}

pub told_found : (root : List ℕ) (g : PlainDtd) (bytes : List ℕ) (result : Result Response Stop) →
    Returns plain_response (validity_stage root g bytes) 0 result →
    TakesCourse (BehindDocument IsValidCourse root (g, bytes)) result
told_found root g bytes (Ok response) told =
    opened (record { dtd = g; bytes = bytes; doc = told.0.doc }) 0 _
    (record { is_dtd = refl; are_bytes = refl; is_text = told.0.is_text }, refl)
    (responded (plain_response response) told.0.tells refl) refl
told_found root g bytes (Err (Refused response)) told =
    refused (plain_response response) 0 told refl
told_found root g bytes (Err ShelfFault) told = told
told_found root g bytes (Err NoMemory) told = short_of_memory 0 refl refl
