-- What the sizes of a grammar say of its names.
use Rattle.std.specs.Coded.{le_prop}
use Rattle.std.proofs.Common.{inl, inr, subst, sym, ℕ, ◌<◌, ◌≡◌}
use Rattle.std.proofs.Math.Logic.{∥∥₁_elim, ∥∥₁_map}
use Rattle.std.proofs.lemmas.Bool.{cases_lt}
use Rattle.pv_dtd.specs.Productive.{IsProductive}
use Rattle.pv_productive.specs.PlainForms.{dtd_of}
use Rattle.pv_productive.specs.Sizes.{IsCutSize}
use Rattle.pv_productive.specs.Tables.{no_size, size_at}
use Rattle.pv_productive.specs.declared.grammar.Grammar.{Grammar}
use Rattle.pv_dtd.proofs.ProperDtds.{proper}
use Rattle.pv_productive.proofs.SettledSizes.{size_held}

module _ (g : Grammar) (y v : ℕ) (e : v ≡ size_at g.sizes.items y) where
  pub cut_size : v < no_size → IsCutSize (dtd_of g) y v
  cut_size lt = size_held (dtd_of g) (proper g.layout.dtd) y v (∥∥₁_map g.sized (λ a. subst (IsCutSize (dtd_of g) y) (sym e) (a.some_tree y (rw e at lt))))

  pub productive_sized : v < no_size → IsProductive (dtd_of g) y
  productive_sized lt = (cut_size lt).productive

  pub size_small : IsProductive (dtd_of g) y → v < no_size
  size_small p = ∥∥₁_elim g.sized le_prop (λ a. elim (cases_lt v no_size) [ inl lt ↦ lt | inr ge ↦ absurd (a.no_tree y (rw e at ge) p) ])
