-- Columns as they are made.
use Rattle.std.specs.Prelude.{List, length, map, ℕ, ◌+◌, ◌-◌, ◌<◌, ◌≡◌, ◌≤◌}
use Rattle.std.specs.List.{range_with_len}
use Rattle.pv_dtd.specs.Plain.{PlainDtd, model_of, parts_in_models}
use Rattle.pv_rules.specs.Numbering.{part_at, rest_at}
use Rattle.pv_rules.specs.Sites.{HasSite, part_site, rest_site}
use Rattle.pv_layout.specs.Columns.{FitsContent, FitsPart, FitsRest, PlainSites, column_at}
use Rattle.pv_layout.specs.Forms.{PlainForm, form_at, of_element}

-- the form f stands in column c, where the first of these forms stands after the columns of n
-- names
abbrev pub IsMade : ℕ → List PlainForm → ℕ → PlainForm → Type 0
IsMade n forms c f = (n ≤ c) × (c < n + length forms) × (form_at forms (c - n) ≡ f)

-- nothing that was made is lost
abbrev pub KeepsForms : ℕ → List PlainForm → List PlainForm → Type 0
KeepsForms n old new = (c : ℕ) (f : PlainForm) → IsMade n old c f → IsMade n new c f

-- the parts of numbers from q on, and the first k contents, have their columns
pub record AreLaid (g : PlainDtd) (m : PlainSites) (n : ℕ) (forms : List PlainForm) (q k : ℕ) :
    Type 0 where
  pub named : n ≡ length g.names
  pub all_names : length m.names ≡ n
  pub all_parts : length m.parts ≡ parts_in_models g.models
  pub all_rests : length m.rests ≡ parts_in_models g.models
  pub all_contents : length m.contents ≡ k
  pub names : (x : ℕ) → x < n → column_at m.names x ≡ x
  pub parts : (r : ℕ) → q ≤ r → HasSite g (part_site r) →
      FitsPart g m (IsMade n forms) (column_at m.parts r) r (part_at g r)
  pub rests : (r : ℕ) → q ≤ r → HasSite g (rest_site r) →
      FitsRest g m (IsMade n forms) (column_at m.rests r) r (rest_at g r)
  pub contents : (x : ℕ) → x < k →
      FitsContent g m (IsMade n forms) (column_at m.contents x) x (model_of g x)

-- elements of so many names, round these contents
abbrev pub element_forms : List ℕ → ℕ → List PlainForm
element_forms contents n = map (λ x. of_element x (column_at contents x)) (range_with_len 0 n)

-- n names have the columns of their numbers, and nothing else has one
pub record AreBlankSites (m : PlainSites) (n p : ℕ) : Type 0 where
  pub all_names : length m.names ≡ n
  pub all_parts : length m.parts ≡ p
  pub all_rests : length m.rests ≡ p
  pub all_contents : length m.contents ≡ 0
  pub names : (x : ℕ) → x < n → column_at m.names x ≡ x
