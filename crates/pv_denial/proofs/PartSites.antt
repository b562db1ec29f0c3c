-- The numbers of parts at which there are sites are below the number of parts.
use Rattle.std.specs.Prelude.{IsSome, option_and_then, option_map}
use Rattle.std.proofs.Common.{List, Option, [], arith, length, slice_get, suc, zero, ℕ, ◌<◌, ◌∷◌, ◌≡◌}
use Rattle.pv_dtd.specs.Plain.{PlainDtd, parts_in_models}
use Rattle.pv_rules.specs.Numbering.{Numbered, numbered_models}
use Rattle.pv_rules.specs.PartLaws.{PartsByNumber}
use Rattle.pv_rules.specs.Sites.{HasSite, PlainSite, content_site, name_site, part_site, rest_site}
use Rattle.pv_tables.specs.Tables.{kind_rank, site_number}

below_mapped : {A B : Type 0} (f : A → B) (es : List A) (q : ℕ) → IsSome (option_map f (slice_get es q)) → q < length es
below_mapped f [] q s = absurd cc
below_mapped f (e ∷ es) zero s = omega arith
below_mapped f (e ∷ es) (suc q) s = let l = below_mapped f es q s in omega arith

below_then : {A B : Type 0} (f : A → Option B) (es : List A) (q : ℕ) → IsSome (option_and_then f (slice_get es q)) → q < length es
below_then f [] q s = absurd cc
below_then f (e ∷ es) zero s = omega arith
below_then f (e ∷ es) (suc q) s = let l = below_then f es q s in omega arith

module _ (g : PlainDtd) (law : PartsByNumber g) where
  pub part_within : (s : PlainSite) → HasSite g s → kind_rank s ≡ 2 → site_number s < parts_in_models g.models
  part_within (name_site x) has e = absurd (omega arith)
  part_within (content_site x) has e = absurd (omega arith)
  part_within (part_site q) has e = let l = below_mapped (λ (p : Numbered). p.self) (numbered_models g.models) q has in let c = law.counted in omega arith
  part_within (rest_site q) has e = absurd (omega arith)

  pub rest_within : (s : PlainSite) → HasSite g s → kind_rank s ≡ 3 → site_number s < parts_in_models g.models
  rest_within (name_site x) has e = absurd (omega arith)
  rest_within (content_site x) has e = absurd (omega arith)
  rest_within (part_site q) has e = absurd (omega arith)
  rest_within (rest_site q) has e = let l = below_then (λ (p : Numbered). p.rest) (numbered_models g.models) q has in let c = law.counted in omega arith
