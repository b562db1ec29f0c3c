-- Sites whose tokens may stand in any order and number.
use Rattle.std.specs.Prelude.{List, Some, suc, ℕ, ◌+◌, ◌≡◌}
use Rattle.pv_model.specs.Plain.{PlainPart, PlainParts, any, children, choice, empty, mixed, name}
use Rattle.pv_model.specs.Plain.{named, no_parts, opt, part, plus, seq, star}
use Rattle.pv_dtd.specs.Plain.{PlainDtd, model_of, parts_in}
use Rattle.pv_rules.specs.Numbering.{IsMemberAt, first_part, part_at, rest_at}
use Rattle.pv_rules.specs.Sites.{PlainSite, content_site, name_site, part_site, rest_site}
use Rattle.law_free.specs.Live.{IsLiveSite}
use Rattle.law_free.specs.Takes.{Takes, TakesAll}

-- What repeats is free. A sequence is free by one free member that takes all that the whole takes,
-- the others being live; so is a choice. A name is free by its content, where that takes the name
-- itself. These are the free sites that can be seen from a model.
pub data IsFree (g : PlainDtd) : PlainSite → Type 0 where
  free_empty : (x : ℕ) → model_of g x ≡ Some empty → IsFree g (content_site x)
  free_mixed : (x : ℕ) (ys : List ℕ) → model_of g x ≡ Some (mixed ys) → IsFree g (content_site x)
  free_any : (x : ℕ) → model_of g x ≡ Some any → IsFree g (content_site x)
  free_children : (x : ℕ) (p : PlainPart) → model_of g x ≡ Some (children p) →
      IsFree g (part_site (first_part g x)) → IsFree g (content_site x)
  free_name : (x : ℕ) → IsFree g (content_site x) → Takes g (named x) (content_site x) →
      IsFree g (name_site x)
  free_part : (q y : ℕ) → part_at g q ≡ Some (name y) → IsFree g (name_site y) →
      IsFree g (part_site q)
  free_seq : (q : ℕ) (p : PlainPart) (ps : PlainParts) → part_at g q ≡ Some (seq (part p ps)) →
      IsFree g (rest_site (suc q)) → IsFree g (part_site q)
  free_choice : (q r : ℕ) (p : PlainPart) (ps : PlainParts) → part_at g q ≡ Some (choice ps) →
      IsMemberAt p r (suc q) ps → IsFree g (part_site r) → TakesAll g (part_site q) (part_site r) →
      IsFree g (part_site q)
  free_opt : (q : ℕ) (p : PlainPart) → part_at g q ≡ Some (opt p) → IsFree g (part_site (suc q)) →
      IsFree g (part_site q)
  free_star : (q : ℕ) (p : PlainPart) → part_at g q ≡ Some (star p) → IsFree g (part_site q)
  free_plus : (q : ℕ) (p : PlainPart) → part_at g q ≡ Some (plus p) →
      IsLiveSite g (part_site (suc q)) →
      IsFree g (part_site q)
  free_last : (q : ℕ) (p : PlainPart) → rest_at g q ≡ Some (part p no_parts) →
      IsFree g (part_site q) → IsFree g (rest_site q)
  free_first : (q : ℕ) (p r : PlainPart) (ps : PlainParts) →
      rest_at g q ≡ Some (part p (part r ps)) →
      IsFree g (part_site q) → IsLiveSite g (rest_site (q + parts_in p)) →
      TakesAll g (rest_site q) (part_site q) → IsFree g (rest_site q)
  free_later : (q : ℕ) (p r : PlainPart) (ps : PlainParts) →
      rest_at g q ≡ Some (part p (part r ps)) →
      IsLiveSite g (part_site q) → IsFree g (rest_site (q + parts_in p)) →
      TakesAll g (rest_site q) (rest_site (q + parts_in p)) → IsFree g (rest_site q)
