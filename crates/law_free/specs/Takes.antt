-- Which tokens a site takes: those whose span of one token it derives.
use Rattle.std.specs.Prelude.{List, Some, length, slice_get, suc, ℕ, ◌+◌, ◌<◌, ◌≡◌, ◌≤◌}
use Rattle.pv_model.specs.Plain.{PlainPart, PlainParts, PlainToken, any, children, choice, mixed}
use Rattle.pv_model.specs.Plain.{name, named, no_parts, opt, part, plus, seq, star, text}
use Rattle.pv_dtd.specs.Plain.{IsDeclared, PlainDtd, model_of, parts_in}
use Rattle.pv_rules.specs.Numbering.{IsMemberAt, first_part, part_at, rest_at}
use Rattle.pv_rules.specs.Sites.{PlainSite, content_site, name_site, part_site, rest_site}
use Rattle.law_free.specs.Live.{IsLiveSite}

-- A name takes itself, and what its content takes. A site takes what one within it takes, where
-- those beside that are live.
pub data Takes (g : PlainDtd) (t : PlainToken) : PlainSite → Type 0 where
  takes_kept : (x : ℕ) → t ≡ named x → Takes g t (name_site x)
  takes_missing : (x : ℕ) → Takes g t (content_site x) → Takes g t (name_site x)
  takes_mixed_text : (x : ℕ) (ys : List ℕ) → model_of g x ≡ Some (mixed ys) → t ≡ text →
      Takes g t (content_site x)
  takes_mixed_name : (x e : ℕ) (ys : List ℕ) → model_of g x ≡ Some (mixed ys) → e < length ys →
      Takes g t (part_site (first_part g x + e)) → Takes g t (content_site x)
  takes_any_text : (x : ℕ) → model_of g x ≡ Some any → t ≡ text → Takes g t (content_site x)
  takes_any_name : (x y : ℕ) → model_of g x ≡ Some any → IsDeclared g y → Takes g t (name_site y) →
      Takes g t (content_site x)
  takes_children : (x : ℕ) (p : PlainPart) → model_of g x ≡ Some (children p) →
      Takes g t (part_site (first_part g x)) → Takes g t (content_site x)
  takes_part : (q y : ℕ) → part_at g q ≡ Some (name y) → Takes g t (name_site y) →
      Takes g t (part_site q)
  takes_seq : (q : ℕ) (p : PlainPart) (ps : PlainParts) → part_at g q ≡ Some (seq (part p ps)) →
      Takes g t (rest_site (suc q)) → Takes g t (part_site q)
  takes_choice : (q r : ℕ) (p : PlainPart) (ps : PlainParts) → part_at g q ≡ Some (choice ps) →
      IsMemberAt p r (suc q) ps → Takes g t (part_site r) → Takes g t (part_site q)
  takes_opt : (q : ℕ) (p : PlainPart) → part_at g q ≡ Some (opt p) → Takes g t (part_site (suc q)) →
      Takes g t (part_site q)
  takes_star : (q : ℕ) (p : PlainPart) → part_at g q ≡ Some (star p) →
      Takes g t (part_site (suc q)) → Takes g t (part_site q)
  takes_plus : (q : ℕ) (p : PlainPart) → part_at g q ≡ Some (plus p) →
      Takes g t (part_site (suc q)) → Takes g t (part_site q)
  takes_last : (q : ℕ) (p : PlainPart) → rest_at g q ≡ Some (part p no_parts) →
      Takes g t (part_site q) → Takes g t (rest_site q)
  takes_first : (q : ℕ) (p r : PlainPart) (ps : PlainParts) →
      rest_at g q ≡ Some (part p (part r ps)) →
      Takes g t (part_site q) → IsLiveSite g (rest_site (q + parts_in p)) → Takes g t (rest_site q)
  takes_later : (q : ℕ) (p r : PlainPart) (ps : PlainParts) →
      rest_at g q ≡ Some (part p (part r ps)) →
      IsLiveSite g (part_site q) → Takes g t (rest_site (q + parts_in p)) → Takes g t (rest_site q)

-- the site takes each token of the span
abbrev pub TakesEach : PlainDtd → List PlainToken → PlainSite → ℕ → ℕ → Type 0
TakesEach g w s i j = (k : ℕ) (t : PlainToken) → i ≤ k → k < j → slice_get w k ≡ Some t →
    Takes g t s

-- the second site takes all that the first one takes
abbrev pub TakesAll : PlainDtd → PlainSite → PlainSite → Type 0
TakesAll g s r = (t : PlainToken) → Takes g t s → Takes g t r
