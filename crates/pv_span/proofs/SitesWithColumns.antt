-- A DTD that has a site has columns.
use Rattle.std.specs.Prelude.{IsSome, option_and_then, option_map}
use Rattle.std.proofs.Common.{None, Option, Some, arith, slice_get, ℕ, ◌<◌, ◌≡◌, refl}
use Rattle.std.proofs.lemmas.Option.{slice_get_within}
use Rattle.pv_dtd.specs.Plain.{PlainDtd}
use Rattle.pv_rules.specs.Numbering.{Numbered, numbered_models}
use Rattle.pv_rules.specs.Sites.{HasSite, PlainSite, content_site, name_site, part_site, rest_site}
use Rattle.pv_rules.proofs.Facts.{parts_by_number}
use Rattle.pv_missing.specs.Widths.{columns_of}

module _ (g : PlainDtd) where
  numbered_some : (q : ℕ) (n : Numbered) → slice_get (numbered_models g.models) q ≡ Some n → 0 < columns_of g
  numbered_some q n e = let l = slice_get_within (numbered_models g.models) q n e in let c = (parts_by_number g).counted in omega arith

  part_some : (q : ℕ) (o : Option Numbered) → slice_get (numbered_models g.models) q ≡ o → IsSome (option_map (λ (p : Numbered). p.self) o) → 0 < columns_of g
  part_some q None e s = absurd cc
  part_some q (Some n) e s = numbered_some q n e

  rest_some : (q : ℕ) (o : Option Numbered) → slice_get (numbered_models g.models) q ≡ o → IsSome (option_and_then (λ (p : Numbered). p.rest) o) → 0 < columns_of g
  rest_some q None e s = absurd cc
  rest_some q (Some n) e s = numbered_some q n e

  pub some_columns : (s : PlainSite) → HasSite g s → 0 < columns_of g
  some_columns (name_site x) h = omega arith
  some_columns (content_site x) h = omega arith
  some_columns (part_site q) h = part_some q (slice_get (numbered_models g.models) q) refl h
  some_columns (rest_site q) h = rest_some q (slice_get (numbered_models g.models) q) refl h
