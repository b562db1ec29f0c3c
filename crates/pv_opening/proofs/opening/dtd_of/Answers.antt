use Rattle.std.proofs.Common.{⊎_elim, ◌≡◌, ℕ, List}
use Rattle.pv_dtd.specs.Kinds.{Kind, parameter, syntax, twice, mixed_twice, nesting, limit}
use Rattle.pv_dtd.specs.Meaning.{faulty, DtdTextMeans}
use Rattle.pv_dtd.specs.Meaning.{is_dtd}
use Rattle.pv_opening.specs.Opening.{RefusesDtd, no_dtd, dtd_refusal, dtd_stage}
use Rattle.pv_opening.specs.Returns.{RefusesWith, StopsBy}
use Rattle.pv_opening.specs.declared.stop.Stop.{Stop}
use Rattle.pv_opening.proofs.Stages.{refusal_stops, stops_as}
use Rattle.pv_opening.proofs.opening.dtd_of.Goals as goal

-- a stop with the response to the text's first fault
refused : (bytes : List ℕ) (kind : Kind) (k : ℕ) (stop : Stop) → DtdTextMeans bytes (faulty kind k) → RefusesWith (λ r. r ≡ dtd_refusal kind k) stop → StopsBy (dtd_stage bytes) 0 stop
refused bytes kind k stop means stops =
    refusal_stops (λ g. DtdTextMeans bytes (is_dtd g)) (RefusesDtd bytes) stop (stops_as (λ r. r ≡ dtd_refusal kind k) (RefusesDtd bytes) stop (λ r e. no_dtd kind k means e) stops)

pub returns-in-Err-Syntax : goal.returns-in-Err-Syntax
returns-in-Err-Syntax c = refused c.args.bytes.now syntax c.in-Err-Syntax.item _ (rw c.in-Err-Syntax.field-0-is at c.in-Err-Syntax.ensures.refused) c.refuse_item.ensures

pub returns-in-Err-Twice : goal.returns-in-Err-Twice
returns-in-Err-Twice c = refused c.args.bytes.now twice c.in-Err-Twice.item _ (rw c.in-Err-Twice.field-0-is at c.in-Err-Twice.ensures.refused) c.refuse_item-in-Err-Twice.ensures

pub returns-in-Err-MixedTwice : goal.returns-in-Err-MixedTwice
returns-in-Err-MixedTwice c = refused c.args.bytes.now mixed_twice c.in-Err-MixedTwice.item _
    (rw c.in-Err-MixedTwice.field-0-is at c.in-Err-MixedTwice.ensures.refused)
    c.refuse_item-in-Err-MixedTwice.ensures

pub returns-in-Err-Parameter : goal.returns-in-Err-Parameter
returns-in-Err-Parameter c = refused c.args.bytes.now parameter c.in-Err-Parameter.item _
    (rw c.in-Err-Parameter.field-0-is at c.in-Err-Parameter.ensures.refused)
    c.refuse_item-in-Err-Parameter.ensures

pub returns-in-Err-Limit : goal.returns-in-Err-Limit
returns-in-Err-Limit c =
    ⊎_elim (λ m. refused c.args.bytes.now nesting c.in-Err-Limit.item _ m c.refuse_item-in-Err-Limit.ensures)
    (λ m. refused c.args.bytes.now limit c.in-Err-Limit.item _ m c.refuse_item-in-Err-Limit.ensures)
    (rw c.in-Err-Limit.field-0-is at c.in-Err-Limit.ensures.refused)
