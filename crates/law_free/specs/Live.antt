-- Sites that derive the empty span: all of theirs may be missing, with what is missing within.
use Rattle.std.specs.Prelude.{List, Some, suc, ℕ, ◌+◌, ◌≡◌}
use Rattle.std.specs.List.{AllByRecursion}
use Rattle.pv_model.specs.Plain.{PlainPart, PlainParts, PlainToken, any, children, choice, empty}
use Rattle.pv_model.specs.Plain.{mixed, name, named, no_parts, opt, other, part, plus, seq, star}
use Rattle.pv_model.specs.Plain.{text}
use Rattle.pv_dtd.specs.Plain.{PlainDtd, model_of, parts_in}
use Rattle.pv_rules.specs.Numbering.{IsMemberAt, first_part, part_at, rest_at}
use Rattle.pv_rules.specs.Sites.{PlainSite, content_site, name_site, part_site, rest_site}

-- A name and a particle are live where what is within is; a sequence where each member is, a choice
-- where one is.
pub data IsLiveSite (g : PlainDtd) : PlainSite → Type 0 where
  live_name : (x : ℕ) → IsLiveSite g (content_site x) → IsLiveSite g (name_site x)
  live_empty : (x : ℕ) → model_of g x ≡ Some empty → IsLiveSite g (content_site x)
  live_mixed : (x : ℕ) (ys : List ℕ) → model_of g x ≡ Some (mixed ys) →
      IsLiveSite g (content_site x)
  live_any : (x : ℕ) → model_of g x ≡ Some any → IsLiveSite g (content_site x)
  live_children : (x : ℕ) (p : PlainPart) → model_of g x ≡ Some (children p) →
      IsLiveSite g (part_site (first_part g x)) → IsLiveSite g (content_site x)
  live_part : (q y : ℕ) → part_at g q ≡ Some (name y) → IsLiveSite g (name_site y) →
      IsLiveSite g (part_site q)
  live_seq : (q : ℕ) (p : PlainPart) (ps : PlainParts) → part_at g q ≡ Some (seq (part p ps)) →
      IsLiveSite g (rest_site (suc q)) → IsLiveSite g (part_site q)
  live_choice : (q r : ℕ) (p : PlainPart) (ps : PlainParts) → part_at g q ≡ Some (choice ps) →
      IsMemberAt p r (suc q) ps → IsLiveSite g (part_site r) → IsLiveSite g (part_site q)
  live_opt : (q : ℕ) (p : PlainPart) → part_at g q ≡ Some (opt p) → IsLiveSite g (part_site q)
  live_star : (q : ℕ) (p : PlainPart) → part_at g q ≡ Some (star p) → IsLiveSite g (part_site q)
  live_plus : (q : ℕ) (p : PlainPart) → part_at g q ≡ Some (plus p) →
      IsLiveSite g (part_site (suc q)) →
      IsLiveSite g (part_site q)
  live_last : (q : ℕ) (p : PlainPart) → rest_at g q ≡ Some (part p no_parts) →
      IsLiveSite g (part_site q) → IsLiveSite g (rest_site q)
  live_rest : (q : ℕ) (p r : PlainPart) (ps : PlainParts) →
      rest_at g q ≡ Some (part p (part r ps)) →
      IsLiveSite g (part_site q) → IsLiveSite g (rest_site (q + parts_in p)) →
      IsLiveSite g (rest_site q)

-- a token that stands for an element of a live name, or for no name of the DTD
abbrev pub IsLiveToken : PlainDtd → PlainToken → Type 0
IsLiveToken g (named y) = IsLiveSite g (name_site y)
IsLiveToken g text = Unit {0}
IsLiveToken g other = Unit {0}

-- each name in the word is live
abbrev pub AreLive : PlainDtd → List PlainToken → Type 0
AreLive g w = AllByRecursion (IsLiveToken g) w
