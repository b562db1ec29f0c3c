-- The laws of productive names.
use Rattle.std.proofs.Common.{arith, suc, ℕ, ◌≡◌}
use Rattle.pv_dtd.specs.Plain.{PlainDtd}
use Rattle.pv_dtd.specs.Productive.{IsLeastSize}
use Rattle.pv_productive.specs.Laws.{IsLeastOverNothing, ProductiveDerives, SizeIsWeight}
use Rattle.pv_dtd.specs.Proper.{IsProperDtd}
use Rattle.pv_rules.specs.Rules.{over}
use Rattle.pv_rules.specs.Sites.{content_site}
use Rattle.pv_productive.proofs.GrownHedges.{grown}
use Rattle.pv_productive.proofs.HedgeDerivations.{derived}

pub productive_derives : ProductiveDerives
productive_derives g y r = (
  (λ p. let d = derived g r y p.kids p.fits p.good in (d.0, d.2)),
  (λ d. let c = grown g r d.0 (over (content_site y) 0 0) d.1 in record { kids = c.0; fits = c.1; good = c.2 }),
)

size_to : (g : PlainDtd) (y n : ℕ) → IsProperDtd g → IsLeastSize g y (suc n) → IsLeastOverNothing g y n
size_to g y n r s =
    let d = derived g r y s.kids s.fits s.good in
    let c = grown g r d.0 (over (content_site y) 0 0) d.2 in
    let e : d.0 ≡ n = let a = s.least c.0 c.1 c.2 in let b = c.3 in let z = d.1 in let x = s.is_size in omega arith in
    record {
      derives = rw e at d.2;
      least = λ m h. let k = grown g r m (over (content_site y) 0 0) h in let l = s.least k.0 k.1 k.2 in let z = k.3 in omega arith;
    }

size_from : (g : PlainDtd) (y n : ℕ) → IsProperDtd g → IsLeastOverNothing g y n → IsLeastSize g y (suc n)
size_from g y n r l =
    let c = grown g r n (over (content_site y) 0 0) l.derives in
    record {
      kids = c.0;
      fits = c.1;
      good = c.2;
      is_size = let z = c.3 in omega arith;
      least = λ k f a. let d = derived g r y k f a in let z = l.least d.0 d.2 in let x = d.1 in omega arith;
    }

pub size_is_weight : SizeIsWeight
size_is_weight g y n r = (size_to g y n r, size_from g y n r)
