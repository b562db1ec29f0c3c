-- A name is productive exactly where some element of this name is good.
use Rattle.std.proofs.Common.{[]}
use Rattle.pv_dtd.specs.Laws.{ProductiveNames}

pub productive_names : ProductiveNames
productive_names g x = (
  (λ p. ([], p.productive.kids, (p.number, p.is_number, p.productive.fits, p.productive.good, tt))),
  (λ p. record { number = p.2.0; is_number = p.2.1; productive = record { kids = p.1; fits = p.2.2; good = p.2.3 } }),
)
