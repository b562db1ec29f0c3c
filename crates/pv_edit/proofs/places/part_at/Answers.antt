use Rattle.std.proofs.Common.{◌≡◌, arith, ap, ◌∙◌, refl, List, ℕ}
use Rattle.pv_tree.specs.PlainForms.{plain}
use Rattle.pv_edit.specs.Reasons.{kids_at}
use Rattle.pv_edit.specs.Effects.{kid_place}
use Rattle.pv_edit.proofs.ThreeParts.{node_within, parts_of_nodes}
use Rattle.pv_edit.proofs.places.part_at.Goals as goal

pub split_at-requires : goal.split_at-requires
split_at-requires c =
    let root = plain c.args.doc.now.root in
    omega (
      arith,
      node_within c.kids_at.result.now c.path_parts.result.1 c.args.path.now root
          (c.kids_at.ensures ∙ ap (λ (q : List ℕ). kids_at q root) c.requires.parent)
          (c.path_parts.ensures.place ∙ ap kid_place c.places.ensures) c.requires.there,
    )

pub unreachable-requires : goal.unreachable-requires
unreachable-requires c =
    let root = plain c.args.doc.now.root in
    omega (
      arith,
      node_within c.kids_at.result.now c.path_parts.result.1 c.args.path.now root
          (c.kids_at.ensures ∙ ap (λ (q : List ℕ). kids_at q root) c.requires.parent)
          (c.path_parts.ensures.place ∙ ap kid_place c.places.ensures) c.requires.there,
      c.split_at.ensures.back_len,
    )

pub returns : goal.returns
returns c =
    let root = plain c.args.doc.now.root in
    let p : c.path_parts.result.1 ≡ kid_place c.args.path.now = c.path_parts.ensures.place ∙ ap kid_place c.places.ensures in
    let k = c.kids_at.ensures ∙ ap (λ (q : List ℕ). kids_at q root) c.requires.parent in
    rw (← p) (parts_of_nodes c.kids_at.result.now c.split_at.result.0.now c.split_at.result.1.now c.node-item.result _ c.path_parts.result.1 _ k
    c.split_at.ensures.front c.split_at.ensures.back c.node-item.is c.in-len1-up.len_at_least refl
    (omega (
      arith,
      node_within c.kids_at.result.now c.path_parts.result.1 c.args.path.now root k
          p c.requires.there,
    )))
