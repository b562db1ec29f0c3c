-- The columns of a DTD: which column each site has, and what stands there.
use Rattle.std.specs.Prelude.{List, None, Option, Some, false, length, slice_get, slice_index_or}
use Rattle.std.specs.Prelude.{suc, true, ℕ, ◌+◌, ◌<◌, ◌≡◌}
use Rattle.pv_model.specs.Plain.{PlainModel, PlainPart, PlainParts, any, children, choice, empty}
use Rattle.pv_model.specs.Plain.{mixed, name, no_parts, opt, part, plus, seq, star}
use Rattle.pv_dtd.specs.Plain.{IsDeclared, PlainDtd, model_of, parts_in}
use Rattle.pv_rules.specs.Numbering.{IsMemberAt, first_part, part_at, rest_at}
use Rattle.pv_rules.specs.Sites.{HasSite, PlainSite, content_site, name_site, part_site, rest_site}
use Rattle.pv_layout.specs.ColumnRules.{IsOneOf}
use Rattle.pv_layout.specs.Forms.{PlainForm, form_at, of_element, of_none, of_nothing, of_one, of_opt}
use Rattle.pv_layout.specs.Forms.{of_plus, of_star, of_two}

-- the columns of elements of names, of their contents, of parts, and of the members of sequences
-- from each on
pub record PlainSites : Type 0 where
  pub names : List ℕ
  pub contents : List ℕ
  pub parts : List ℕ
  pub rests : List ℕ

-- the number of no column
abbrev pub no_column : ℕ
no_column = 4294967295

-- the column of this number in a row, or none
abbrev pub column_at : List ℕ → ℕ → ℕ
column_at numbers k = slice_index_or numbers k no_column

-- the column of a site
abbrev pub column_of : PlainSites → PlainSite → ℕ
column_of m (name_site x) = column_at m.names x
column_of m (content_site x) = column_at m.contents x
column_of m (part_site q) = column_at m.parts q
column_of m (rest_site q) = column_at m.rests q

-- ds are the columns that the numbers of which P holds have
pub record AreColumns (P : ℕ → Type 0) (column : ℕ → ℕ) (ds : List ℕ) : Type 0 where
  pub each : (k : ℕ) → P k → IsOneOf (column k) ds
  pub only : (n d : ℕ) → slice_get ds n ≡ Some d → (k : ℕ) × P k × (d ≡ column k)

-- the members of choice number q
abbrev pub IsMember : ℕ → PlainParts → ℕ → Type 0
IsMember q ps r = (p : PlainPart) × IsMemberAt p r (suc q) ps

-- H c f: the form f stands in column c. What stands in the column c of a site fits what the DTD
-- says of the site.
module _ (g : PlainDtd) (m : PlainSites) (H : ℕ → PlainForm → Type 0) (c : ℕ) where
  -- any number of one of these, with texts
  abbrev pub HoldsMixed : (ℕ → Type 0) → (ℕ → ℕ) → Type 0
  HoldsMixed P column = (d : ℕ) × (ds : List ℕ) × H c (of_star d true) × H d (of_one ds) ×
      AreColumns P column ds

  abbrev pub FitsContent : ℕ → Option PlainModel → Type 0
  FitsContent x None = H c of_none
  FitsContent x (Some empty) = H c of_nothing
  FitsContent x (Some any) = HoldsMixed (IsDeclared g) (column_at m.names)
  FitsContent x (Some (mixed ys)) = HoldsMixed (λ e. e < length ys)
      (λ e. column_at m.parts (first_part g x + e))
  FitsContent x (Some (children p)) = c ≡ column_of m (part_site (first_part g x))

  abbrev pub FitsPart : ℕ → Option PlainPart → Type 0
  FitsPart q None = H c of_none
  FitsPart q (Some (name y)) = c ≡ column_of m (name_site y)
  FitsPart q (Some (seq no_parts)) = ⊥
  FitsPart q (Some (seq (part p ps))) = c ≡ column_of m (rest_site (suc q))
  FitsPart q (Some (choice ps)) = (ds : List ℕ) × H c (of_one ds) ×
      AreColumns (IsMember q ps) (column_at m.parts) ds
  FitsPart q (Some (opt p)) = H c (of_opt (column_of m (part_site (suc q))))
  FitsPart q (Some (star p)) = H c (of_star (column_of m (part_site (suc q))) false)
  FitsPart q (Some (plus p)) = H c (of_plus (column_of m (part_site (suc q))))

  abbrev pub FitsRest : ℕ → Option PlainParts → Type 0
  FitsRest q None = H c of_none
  FitsRest q (Some no_parts) = H c of_none
  FitsRest q (Some (part p no_parts)) = c ≡ column_of m (part_site q)
  FitsRest q (Some (part p (part r ps))) = H c
      (of_two (column_of m (part_site q)) (column_of m (rest_site (q + parts_in p))))

  abbrev pub FitsSite : PlainSite → Type 0
  FitsSite (name_site x) = H c (of_element x (column_of m (content_site x)))
  FitsSite (content_site x) = FitsContent x (model_of g x)
  FitsSite (part_site q) = FitsPart q (part_at g q)
  FitsSite (rest_site q) = FitsRest q (rest_at g q)

-- in the column of each site stands what the DTD says of the site
abbrev pub AreFit : PlainDtd → PlainSites → List PlainForm → Type 0
AreFit g m forms = (s : PlainSite) → HasSite g s →
    FitsSite g m (λ c f. form_at forms c ≡ f) (column_of m s) s
