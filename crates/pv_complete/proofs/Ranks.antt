-- What a move leads to is a site of the DTD, of a lower rank.
use Rattle.std.specs.Prelude.{IsSome}
use Rattle.std.proofs.Common.{None, Option, Some, arith, refl, suc, ℕ, ◌+◌, ◌<◌, ◌≡◌}
use Rattle.pv_model.specs.Plain.{PlainPart, PlainParts, part}
use Rattle.pv_dtd.specs.Plain.{PlainDtd, parts_in, parts_in_models}
use Rattle.pv_rules.specs.Numbering.{part_at, rest_at}
use Rattle.pv_rules.specs.Sites.{HasSite, content_site, name_site, part_site, rest_site}
use Rattle.pv_rules.proofs.Facts.{parts_by_number}
use Rattle.pv_rules.proofs.Members.{some_part}
use Rattle.pv_complete.specs.Moves.{site_rank}

module _ (g : PlainDtd) where
  pub part_site_of : (q : ℕ) (p : PlainPart) → part_at g q ≡ Some p → HasSite g (part_site q)
  part_site_of q p e = rw e refl

  pub rest_site_of : (q : ℕ) (ps : PlainParts) → rest_at g q ≡ Some ps → HasSite g (rest_site q)
  rest_site_of q ps e = rw e refl

  -- the numbers of parts are below their count
  pub below : (q : ℕ) (p : PlainPart) → part_at g q ≡ Some p → q < parts_in_models g.models
  below q p e = let w = (parts_by_number g).within q p e in let s = some_part p in omega arith

  -- a part of a higher number is of a lower rank
  pub part_lower : (q r : ℕ) (p : PlainPart) → part_at g q ≡ Some p → q < r → site_rank g (part_site r) < site_rank g (part_site q)
  part_lower q r p e lt = let b = below q p e in omega arith

  pub rest_lower : (q : ℕ) (p : PlainPart) → part_at g q ≡ Some p → site_rank g (rest_site (suc q)) < site_rank g (part_site q)
  rest_lower q p e = let b = below q p e in omega arith

  pub member_lower : (q : ℕ) → site_rank g (part_site q) < site_rank g (rest_site q)
  member_lower q = omega arith

  pub next_lower : (q : ℕ) (p : PlainPart) (ps : PlainParts) → rest_at g q ≡ Some (part p ps) → site_rank g (rest_site (q + parts_in p)) < site_rank g (rest_site q)
  next_lower q p ps e = let b = below q p ((parts_by_number g).member q p ps e) in let s = some_part p in omega arith

  pub part_below_content : (q x : ℕ) → site_rank g (part_site q) < site_rank g (content_site x)
  part_below_content q x = omega arith

  pub name_below_content : (y x : ℕ) → site_rank g (name_site y) < site_rank g (content_site x)
  name_below_content y x = omega arith

  pub name_below_part : (y q : ℕ) → site_rank g (name_site y) < site_rank g (part_site q)
  name_below_part y q = omega arith

  small_case : (q : ℕ) (o : Option PlainPart) → part_at g q ≡ o → IsSome o → q < parts_in_models g.models
  small_case q None e s = absurd cc
  small_case q (Some p) e s = below q p e

  pub small : (q : ℕ) → HasSite g (part_site q) → q < parts_in_models g.models
  small q s = small_case q (part_at g q) refl s
