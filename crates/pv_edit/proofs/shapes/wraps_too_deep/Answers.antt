use Rattle.std.proofs.Common.{◌≡◌, ◌-◌, ◌∙◌, ap, take, drop, length, List, ℕ, arith}
use Rattle.std.specs.Prelude.{nat_lt}
use Rattle.std.specs.List.{between}
use Rattle.pv_tree.specs.Plain.{Tree, depth_of_all, forest_of}
use Rattle.pv_tree.specs.PlainForms.{plain, forest}
use Rattle.pv_tree.specs.declared.nodes.Mark.{Mark}
use Rattle.pv_tree.specs.Marks.{blank_mark}
use Rattle.pv_edit.specs.Reasons.{kids_at}
use Rattle.pv_edit.proofs.FilledKids.{slice_plain}
use Rattle.pv_edit.proofs.ListPlaces.{listed}
use Rattle.pv_edit.proofs.TooDeepChanges.{wrap-deep, range-depth}
use Rattle.pv_edit.proofs.shapes.wraps_too_deep.Goals as goal

pub depth_of_all-inside-requires : goal.depth_of_all-inside-requires
depth_of_all-inside-requires c =
    let root = plain c.args.doc.now.root in
    let e : depth_of_all (forest (take (c.args.to - c.args.from)
    (drop c.args.from c.kids_at.result.now))) ≡ depth_of_all
    (forest_of (between c.args.from c.args.to (kids_at c.args.path.now root))) =
    ap (λ (l : List (Tree Mark)). depth_of_all (forest_of l)) (slice_plain c.args.from c.args.to
    c.kids_at.result.now ∙ ap (between c.args.from c.args.to) c.kids_at.ensures) in
    omega (arith, e, range-depth c.args.path.now root _ c.args.from c.args.to (listed c.args.path.now root c.requires.list) c.requires.order, c.args.doc.now.shallow)

pub returns : goal.returns
returns c =
    let root = plain c.args.doc.now.root in
    let e : depth_of_all (forest (take (c.args.to - c.args.from)
    (drop c.args.from c.kids_at.result.now))) ≡ depth_of_all
    (forest_of (between c.args.from c.args.to (kids_at c.args.path.now root))) =
    ap (λ (l : List (Tree Mark)). depth_of_all (forest_of l)) (slice_plain c.args.from c.args.to
    c.kids_at.result.now ∙ ap (between c.args.from c.args.to) c.kids_at.ensures) in
    ap (λ (n : ℕ). nat_lt 512 n) (omega (arith, ap length c.places.ensures, e, c.depth_of_all-inside.ensures))
    ∙ wrap-deep blank_mark c.args.from c.args.to c.args.name.now c.args.path.now root _ (listed c.args.path.now root c.requires.list) c.requires.order c.requires.top c.args.doc.now.shallow
