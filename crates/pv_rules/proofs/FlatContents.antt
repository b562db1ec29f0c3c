-- The content model of a name, by what is laid out flat for it.
use Rattle.std.proofs.Common.{List, None, Option, Some, ap, arith, length, refl, slice_get}
use Rattle.std.proofs.Common.{ℕ, ◌+◌, ◌<◌, ◌∙◌, ◌≡◌, ◌≤◌}
use Rattle.std.proofs.lemmas.Option.{slice_get_within}
use Rattle.pv_model.specs.Plain.{PlainModel, PlainPart, any, children, empty, mixed}
use Rattle.pv_dtd.specs.Plain.{PlainDtd, model_of, parts_in_models}
use Rattle.pv_rules.specs.Flat.{content_kind_of, flat_contents, one_content}
use Rattle.pv_rules.specs.Numbering.{first_part}
use Rattle.pv_rules.specs.declared.flat.ContentKind.TheVariants as content
use Rattle.pv_rules.specs.declared.flat.FlatContent.{FlatContent}
use Rattle.pv_rules.proofs.Facts.{parts_by_number}
use Rattle.pv_rules.proofs.FlatNumbers.{flat_by_number}

pub empty_kind : (m : PlainModel) → content_kind_of m ≡ content.Empty → m ≡ empty
empty_kind empty e = refl
empty_kind any e = absurd cc
empty_kind (mixed ys) e = absurd cc
empty_kind (children p) e = absurd cc

pub any_kind : (m : PlainModel) → content_kind_of m ≡ content.Any → m ≡ any
any_kind empty e = absurd cc
any_kind any e = refl
any_kind (mixed ys) e = absurd cc
any_kind (children p) e = absurd cc

pub mixed_kind : (m : PlainModel) → content_kind_of m ≡ content.Mixed →
    (ys : List ℕ) × (m ≡ mixed ys)
mixed_kind empty e = absurd cc
mixed_kind any e = absurd cc
mixed_kind (mixed ys) e = (ys, refl)
mixed_kind (children p) e = absurd cc

pub children_kind : (m : PlainModel) → content_kind_of m ≡ content.Children →
    (p : PlainPart) × (m ≡ children p)
children_kind empty e = absurd cc
children_kind any e = absurd cc
children_kind (mixed ys) e = absurd cc
children_kind (children p) e = (p, refl)

module _ (g : PlainDtd) (x : ℕ) where
  some_case : (f : FlatContent) (o : Option PlainModel) → model_of g x ≡ o →
      slice_get (flat_contents 0 g.models) x ≡ Some f →
      (m : PlainModel) × (model_of g x ≡ Some m) × (f ≡ one_content (first_part g x) m)
  some_case f None e h = absurd (let n = (flat_by_number g).no_content x e in cc)
  some_case f (Some m) e h = (m, e, let n = (flat_by_number g).contents x m e in cc)

  none_case : (o : Option PlainModel) → model_of g x ≡ o →
      slice_get (flat_contents 0 g.models) x ≡ None → model_of g x ≡ None
  none_case None e h = e
  none_case (Some m) e h = absurd (let n = (flat_by_number g).contents x m e in cc)

  pub no_content : slice_get (flat_contents 0 g.models) x ≡ None → model_of g x ≡ None
  no_content h = none_case (model_of g x) refl h

  module _ (f : FlatContent) (found : slice_get (flat_contents 0 g.models) x ≡ Some f) where
    -- the content model that a flat one was made of
    pub content_at :
        (m : PlainModel) × (model_of g x ≡ Some m) × (f ≡ one_content (first_part g x) m)
    content_at = some_case f (model_of g x) refl found

    pub empty_at : f.kind ≡ content.Empty → model_of g x ≡ Some empty
    empty_at k =
        let i = content_at.2 in let z = empty_kind content_at.0 (cc) in
        content_at.1 ∙ ap (λ m. Some m) z

    pub any_at : f.kind ≡ content.Any → model_of g x ≡ Some any
    any_at k =
        let i = content_at.2 in let z = any_kind content_at.0 (cc) in
        content_at.1 ∙ ap (λ m. Some m) z

    pub mixed_at : f.kind ≡ content.Mixed → (ys : List ℕ) × (model_of g x ≡ Some (mixed ys)) ×
        (f.first ≡ first_part g x) × (f.end ≡ first_part g x + length ys)
    mixed_at k =
        let i = content_at.2 in let z = mixed_kind content_at.0 (cc) in
        let j : f ≡ one_content (first_part g x) (mixed z.0) =
        i ∙ ap (λ m. one_content (first_part g x) m) z.1 in (
          z.0,
          content_at.1 ∙ ap (λ m. Some m) z.1,
          ap (λ (y : FlatContent). y.first) j,
          ap (λ (y : FlatContent). y.end) j,
        )

    pub children_at : f.kind ≡ content.Children →
        (p : PlainPart) × (model_of g x ≡ Some (children p)) × (f.first ≡ first_part g x)
    children_at k =
        let i = content_at.2 in let z = children_kind content_at.0 (cc) in
        (z.0, content_at.1 ∙ ap (λ m. Some m) z.1, ap (λ (y : FlatContent). y.first) i)

    -- its parts are parts of the DTD
    pub content_within : (x < length g.models) × (f.end ≤ parts_in_models g.models)
    content_within =
        let c = content_at in let i = ap (λ (y : FlatContent). y.end) c.2 in
        let w = (parts_by_number g).content_within x c.0 c.1 in
        (slice_get_within g.models x c.0 c.1, omega arith)
