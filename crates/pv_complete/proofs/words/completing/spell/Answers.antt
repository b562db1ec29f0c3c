use Rattle.std.proofs.Common.{arith, length, map, ◌≡◌}
use Rattle.std.proofs.lemmas.List.{length-map}
use Rattle.std.proofs.lemmas.Result.{IfOk-weaker}
use Rattle.pv_model.specs.PlainForms.{plain_token}
use Rattle.pv_rules.specs.Rules.{over}
use Rattle.pv_productive.specs.PlainForms.{dtd_of}
use Rattle.pv_missing.specs.PlainForms.{plain_of}
use Rattle.pv_span.proofs.KnownSites.{owner_has}
use Rattle.pv_write.specs.PieceForms.{plain_pieces}
use Rattle.pv_complete.specs.Spelling.{SpellsSpan}
use Rattle.pv_complete.proofs.SpelledWrites.{writes_at}
use Rattle.pv_complete.proofs.words.completing.spell.Goals as goal

pub overflow_cast-spot : goal.overflow_cast-spot
overflow_cast-spot c =
    let l = c.requires.weights.long (plain_of c.args.owner.now.of) (owner_has c.args.owner.now) in let m = simp length-map at l in let s = c.args.spans.now.chart.short in omega arith

pub invariant_of-spot-2-clause-has : goal.invariant_of-spot-2-clause-has
invariant_of-spot-2-clause-has c = ∣ rw c.site-site.ensures (owner_has c.args.owner.now) ∣₁

pub invariant_of-spot-2-clause-span : goal.invariant_of-spot-2-clause-span
invariant_of-spot-2-clause-span c =
    let l = c.requires.weights.long (plain_of c.args.owner.now.of) (owner_has c.args.owner.now) in let m = simp length-map at l in (omega arith, omega arith)

pub invariant_of-spot-2-clause-weighs : goal.invariant_of-spot-2-clause-weighs
invariant_of-spot-2-clause-weighs c =
    let n : length c.args.word.now ≡ length (map plain_token c.args.word.now) = simp length-map in rw (c.site-site.ensures, n) c.requires.told

pub pieces_of-requires : goal.pieces_of-requires
pieces_of-requires c =
    let l = c.requires.weights.long (plain_of c.args.owner.now.of) (owner_has c.args.owner.now) in
    let m = simp length-map at l in let s = c.args.spans.now.chart.short in omega arith

pub returns : goal.returns
returns c =
    let d = dtd_of c.args.owner.now.layout.now.grammar.now in
    let w = map plain_token c.args.word.now in
    let n : length c.args.word.now ≡ length w = simp length-map in
    IfOk-weaker c.pieces_of.result _ _
    (λ pieces is.
    let s : SpellsSpan d w c.args.weight (over (plain_of c.args.owner.now.of) 0 (length w)) (plain_pieces pieces.items) = rw (c.site-site.ensures, n) at is in
    writes_at d c.args.owner.now.of c.args.weight w (plain_pieces pieces.items) s)
    c.pieces_of.ensures
