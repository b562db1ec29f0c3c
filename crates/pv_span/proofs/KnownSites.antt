-- Whether a DTD has a site can be told, so it has one that it is known to have. Where it has none,
-- no word is possible.
use Rattle.std.specs.Prelude.{IsSome, nat_lt}
use Rattle.std.proofs.Common.{Bool, List, None, Option, Some, arith, false, inl, inr, length, refl, suc, true, zero, ℕ, ◌<◌, ◌≡◌, ◌≤◌}
use Rattle.std.proofs.Math.Logic.{∥∥₁_elim}
use Rattle.std.proofs.lemmas.Bool.{lt-ltb, ltb-true}
use Rattle.std.proofs.lemmas.Option.{slice_get_within}
use Rattle.pv_model.specs.Plain.{PlainModel, PlainToken}
use Rattle.pv_dtd.specs.Plain.{PlainDtd, declared, model_of}
use Rattle.pv_dtd.specs.Productive.{IsProductive}
use Rattle.pv_rules.specs.Numbering.{part_at, rest_at}
use Rattle.pv_rules.specs.Sites.{HasSite, PlainSite, content_site, name_site, part_site, rest_site}
use Rattle.pv_productive.specs.PlainForms.{dtd_of}
use Rattle.pv_missing.specs.FilledWords.{StandsFor}
use Rattle.pv_missing.specs.PlainForms.{plain_of}
use Rattle.pv_missing.specs.WordVerdicts.{IsPossibleAt}
use Rattle.pv_span.specs.declared.owners.ListOwner.{ListOwner}

below : (x n : ℕ) → ∥ x < n ∥₁ → (b : Bool) → nat_lt x n ≡ b → x < n
below x n h true e = ltb-true x n e
below x n h false e = absurd (∥∥₁_elim h (λ v. absurd v) (λ l. let k = lt-ltb x n l in cc))

some : {A : Type 0} → (o : Option A) → ∥ IsSome o ∥₁ → IsSome o
some None h = absurd (∥∥₁_elim h (λ v. absurd v) (λ s. absurd cc))
some (Some a) h = refl

pub known_site : (g : PlainDtd) (s : PlainSite) → ∥ HasSite g s ∥₁ → HasSite g s
known_site g (name_site x) h = below x (length g.names) h (nat_lt x (length g.names)) refl
known_site g (content_site x) h = below x (length g.names) h (nat_lt x (length g.names)) refl
known_site g (part_site q) h = some (part_at g q) h
known_site g (rest_site q) h = some (rest_at g q) h

pub owner_has : (o : ListOwner) → HasSite (dtd_of o.layout.now.grammar.now) (plain_of o.of)
owner_has o = known_site (dtd_of o.layout.now.grammar.now) (plain_of o.of) o.has

module _ (g : PlainDtd) (named : declared g ≤ length g.names) (w : List PlainToken) where
  has_name : (x : ℕ) (m : PlainModel) → model_of g x ≡ Some m → x < length g.names
  has_name x m e = let l = slice_get_within g.models x m e in omega arith

  pub productive_name : (x : ℕ) → IsProductive g x → x < length g.names
  productive_name x p = has_name x p.fits.model p.fits.is_model

  stands_for : (d x : ℕ) → StandsFor g d x w → x < length g.names
  stands_for zero x s = productive_name x s.0
  stands_for (suc d) x (inl s) = productive_name x s.0
  stands_for (suc d) x (inr f) = has_name x f.0 f.1

  pub possible_site : (s : PlainSite) → IsPossibleAt g s w → HasSite g s
  possible_site (name_site x) (d, s) = stands_for d x s
  possible_site (content_site x) (d, f) = has_name x f.0 f.1
  possible_site (part_site q) p = absurd p
  possible_site (rest_site q) p = absurd p
