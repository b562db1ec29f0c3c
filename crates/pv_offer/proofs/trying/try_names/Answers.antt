use denote.Param.Send.{sendable}
use Rattle.std.proofs.Crossing.{crosses}
use Rattle.pv_offer.proofs.SharedDocument.{marked_sync}
use Rattle.std.proofs.Common.{ap, subst, ◌∙◌}
use Rattle.rayon.proofs.ListFacts.{IfOk-then}
use Rattle.rayon.proofs.ToStd.{slice-AllZip}
use Rattle.std.specs.List.{AllZip}
use Rattle.pv_offer.specs.Offers.{TellsOf}
use Rattle.pv_offer.proofs.trying.try_names.Goals as goal

pub returns : goal.returns
returns g c =
    let slice = ap (λ it. it.base.slice.now) c.map.ensures.base ∙ ap (λ it. it.slice.now) c.with_min_len.ensures.base ∙ c.par_iter.ensures in
    IfOk-then c.collect.result _ _ c.collect.ensures (λ v h.
    let chain = h.1 in
    let all = subst (λ f. AllZip (λ z y. TellsOf f.1.now f.2.now z.now y) chain.0 h.0) c.map.ensures.f chain.2 in
    rw h.2 (slice-AllZip chain.0 c.args.names.now (chain.1 ∙ slice) (λ name one. TellsOf c.args.marked.now c.args.ask.now name one) h.0 all))

-- the closure holds the document and what is asked
pub map-requires-send-F : goal.map-requires-send-F
map-requires-send-F g c κs within = search (marked_sync, sendable, crosses) depth 60 fits 30000

pub map-requires-sync-F : goal.map-requires-sync-F
map-requires-sync-F g c κs within = search (marked_sync, sendable, crosses) depth 60 fits 30000

pub collect-requires-send-Self : goal.collect-requires-send-Self
collect-requires-send-Self g c κs within = search (marked_sync, sendable, crosses) depth 60 fits 60000
