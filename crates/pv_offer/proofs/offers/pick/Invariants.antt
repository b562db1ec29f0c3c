use Rattle.std.proofs.Common.{take}
use Rattle.pv_offer.specs.Offers.{IsOffered, Picks}
use Rattle.pv_offer.proofs.offers.pick.Given as goal

abbrev pub invariant-loop-place : goal.invariant-loop-place
invariant-loop-place l = Picks (IsOffered l._marked l._ask) (take l.place l.names) l.offered.items
