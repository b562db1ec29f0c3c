-- What is within and after a site is a site of the DTD.
use Rattle.std.proofs.Common.{List, Some, get_or, refl, ℕ, ◌+◌, ◌<◌, ◌≡◌, length}
use Rattle.std.proofs.lemmas.Option.{slice_get-get_or}
use Rattle.pv_model.specs.Plain.{PlainPart, PlainParts, children, mixed, name}
use Rattle.pv_dtd.specs.Plain.{PlainDtd, model_of}
use Rattle.pv_rules.specs.Numbering.{first_part, part_at, rest_at}
use Rattle.pv_rules.specs.Sites.{HasSite, part_site, rest_site}
use Rattle.pv_rules.proofs.Facts.{parts_by_number}

module _ (g : PlainDtd) where
  pub part_has : (q : ℕ) (p : PlainPart) → part_at g q ≡ Some p → HasSite g (part_site q)
  part_has q p e = rw e refl

  pub rest_has : (q : ℕ) (ps : PlainParts) → rest_at g q ≡ Some ps → HasSite g (rest_site q)
  rest_has q ps e = rw e refl

  pub listed_has : (x e : ℕ) (ys : List ℕ) → model_of g x ≡ Some (mixed ys) → e < length ys → HasSite g (part_site (first_part g x + e))
  listed_has x e ys m lt = part_has (first_part g x + e) (name (get_or ys e 0)) ((parts_by_number g).listed x e (get_or ys e 0) ys m (slice_get-get_or ys e 0 lt))

  pub first_has : (x : ℕ) (p : PlainPart) → model_of g x ≡ Some (children p) → HasSite g (part_site (first_part g x))
  first_has x p m = part_has (first_part g x) p ((parts_by_number g).outermost x p m)
