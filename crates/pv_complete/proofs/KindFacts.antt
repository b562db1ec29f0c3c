-- The sites of a kind, by number.
use Rattle.std.specs.Prelude.{IsSome, option_and_then, option_map, slice_get}
use Rattle.std.specs.List.{AllByRecursion}
use Rattle.std.proofs.Common.{List, None, Option, Some, [], arith, length, map, refl, suc, zero, ℕ, ◌++◌, ◌<◌, ◌∷◌, ◌≡◌, ◌≤◌}
use Rattle.pv_model.specs.Plain.{PlainModel, PlainPart, PlainParts, any, children, choice, empty, mixed, name, no_parts, opt, part, plus, seq, star}
use Rattle.pv_dtd.specs.Plain.{PlainDtd, parts_in_models}
use Rattle.pv_rules.specs.Numbering.{Numbered, listed_name, numbered_choices, numbered_members, numbered_model, numbered_models, numbered_particle, rest_at}
use Rattle.pv_rules.specs.Sites.{HasSite, PlainSite, content_site, name_site, part_site, rest_site}
use Rattle.pv_rules.proofs.Facts.{parts_by_number}
use Rattle.pv_rules.proofs.FlatKinds.{IsNoRest}
use Rattle.pv_complete.specs.Kinds.{count_of, rank_of_kind}
use Rattle.pv_tables.specs.Tables.{kind_rank, site_number}
use Rattle.pv_complete.specs.declared.listings.kinds.SiteKind.{SiteKind}
use Rattle.pv_complete.specs.declared.listings.kinds.SiteKind.TheVariants as kind
use Rattle.pv_complete.proofs.Ranks.{small}

-- where there are members of a sequence from one on, that one is there
abbrev HasMember : Numbered → Type 0
HasMember e = e.rest ≡ Some no_parts → ⊥

abbrev AllHaveMember : List Numbered → Type 0
AllHaveMember es = AllByRecursion HasMember es

joined : (a b : List Numbered) → AllHaveMember a → AllHaveMember b → AllHaveMember (a ++ b)
joined [] b f h = h
joined (e ∷ a) b f h = (f.0, joined a b f.1 h)

mutual
  particle_has : (p : PlainPart) (r : Option PlainParts) → (r ≡ Some no_parts → ⊥) → AllHaveMember (numbered_particle p r)
  particle_has (name y) r h = (h, tt)
  particle_has (seq ps) r h = (h, members_have ps)
  particle_has (choice ps) r h = (h, choices_have ps)
  particle_has (opt p) r h = (h, particle_has p None (λ e. cc))
  particle_has (star p) r h = (h, particle_has p None (λ e. cc))
  particle_has (plus p) r h = (h, particle_has p None (λ e. cc))

  members_have : (ps : PlainParts) → AllHaveMember (numbered_members ps)
  members_have no_parts = tt
  members_have (part p ps) = joined (numbered_particle p (Some (part p ps))) (numbered_members ps) (particle_has p (Some (part p ps)) (λ e. cc)) (members_have ps)

  choices_have : (ps : PlainParts) → AllHaveMember (numbered_choices ps)
  choices_have no_parts = tt
  choices_have (part p ps) = joined (numbered_particle p None) (numbered_choices ps) (particle_has p None (λ e. cc)) (choices_have ps)

listed_have : (ys : List ℕ) → AllHaveMember (map listed_name ys)
listed_have [] = tt
listed_have (y ∷ ys) = ((λ e. cc), listed_have ys)

model_has : (m : PlainModel) → AllHaveMember (numbered_model m)
model_has empty = tt
model_has any = tt
model_has (mixed ys) = listed_have ys
model_has (children p) = particle_has p None (λ e. cc)

models_have : (ms : List PlainModel) → AllHaveMember (numbered_models ms)
models_have [] = tt
models_have (m ∷ ms) = joined (numbered_model m) (numbered_models ms) (model_has m) (models_have ms)

member_here : (es : List Numbered) (q : ℕ) → AllHaveMember es → option_and_then (λ (e : Numbered). e.rest) (slice_get es q) ≡ Some no_parts → ⊥
member_here [] q a e = cc
member_here (d ∷ es) zero a e = a.0 e
member_here (d ∷ es) (suc q) a e = member_here es q a.1 e

some_here : (es : List Numbered) (q : ℕ) → q < length es → IsSome (option_map (λ (e : Numbered). e.self) (slice_get es q))
some_here [] q lt = absurd (omega arith)
some_here (d ∷ es) zero lt = refl
some_here (d ∷ es) (suc q) lt = some_here es q (omega arith)

module _ (g : PlainDtd) where
  -- each number below their count is one of a part
  pub has_part : (q : ℕ) → q < parts_in_models g.models → HasSite g (part_site q)
  has_part q lt = some_here (numbered_models g.models) q (let c = (parts_by_number g).counted in omega arith)

  rest_case : (q : ℕ) (o : Option PlainParts) → rest_at g q ≡ o → IsNoRest o → IsSome o → ⊥
  rest_case q None e n s = cc
  rest_case q (Some no_parts) e n s = member_here (numbered_models g.models) q (models_have g.models) e
  rest_case q (Some (part p ps)) e n s = n

  pub no_rest_site : (q : ℕ) → IsNoRest (rest_at g q) → HasSite g (rest_site q) → ⊥
  no_rest_site q n s = rest_case q (rest_at g q) refl n s

  pub none_of_rest : (q : ℕ) → IsNoRest (rest_at g q) → (s : PlainSite) → kind_rank s ≡ 3 → site_number s ≡ q → HasSite g s → ⊥
  none_of_rest q n (content_site x) e f h = omega arith
  none_of_rest q n (name_site x) e f h = omega arith
  none_of_rest q n (part_site r) e f h = omega arith
  none_of_rest q n (rest_site r) e f h = no_rest_site q n (rw f at h)

  rest_part_case : (q : ℕ) (o : Option PlainParts) → rest_at g q ≡ o → IsSome o → q < parts_in_models g.models
  rest_part_case q None e s = absurd cc
  rest_part_case q (Some no_parts) e s = absurd (member_here (numbered_models g.models) q (models_have g.models) e)
  rest_part_case q (Some (part p ps)) e s = small g q (let h = (parts_by_number g).member q p ps e in rw h refl)

  -- from the count on there is no site of the kind
  pub past_end : (k : SiteKind) (s : PlainSite) → kind_rank s ≡ rank_of_kind k → count_of g k ≤ site_number s → HasSite g s → ⊥
  past_end kind.Content (content_site x) e l h = omega arith
  past_end kind.Content (name_site x) e l h = omega arith
  past_end kind.Content (part_site q) e l h = omega arith
  past_end kind.Content (rest_site q) e l h = omega arith
  past_end kind.Name (content_site x) e l h = omega arith
  past_end kind.Name (name_site x) e l h = omega arith
  past_end kind.Name (part_site q) e l h = omega arith
  past_end kind.Name (rest_site q) e l h = omega arith
  past_end kind.Part (content_site x) e l h = omega arith
  past_end kind.Part (name_site x) e l h = omega arith
  past_end kind.Part (part_site q) e l h = let b = small g q h in omega arith
  past_end kind.Part (rest_site q) e l h = omega arith
  past_end kind.Rest (content_site x) e l h = omega arith
  past_end kind.Rest (name_site x) e l h = omega arith
  past_end kind.Rest (part_site q) e l h = omega arith
  past_end kind.Rest (rest_site q) e l h = let b = rest_part_case q (rest_at g q) refl h in omega arith
