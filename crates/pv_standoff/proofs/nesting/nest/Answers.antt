use Rattle.std.proofs.Common.{◌≡◌, [], Ok, refl, sym, ◌∙◌, subst}
use Rattle.pv_chars.specs.Texts.{joined}
use Rattle.pv_tree.specs.PlainForms.{plain}
use Rattle.pv_tree.specs.Prolog.{IsProlog, IsEpilog}
use Rattle.pv_standoff.specs.NestOutcomes.{NestMeans}
use Rattle.pv_standoff.specs.Spans.{document_of_root}
use Rattle.pv_standoff.specs.Texts.{SpellsUnits}
use Rattle.pv_standoff.proofs.Facts.{keeps}
use Rattle.pv_standoff.proofs.nesting.nest.Goals as goal

pub invariant_of-result : goal.invariant_of-result
invariant_of-result c =
    let text = c.args.text.now in
    let means = subst (λ z. NestMeans z text c.as_slice.result.now (Ok (document_of_root (plain c.in_ok-root.root)))) c.in_ok-name.ensures c.in_ok-root.ensures.means in
    let means' = subst (λ z. NestMeans c.args.root.now text z (Ok (document_of_root (plain c.in_ok-root.root)))) c.as_slice.ensures means in
    let spells : SpellsUnits (joined text) text = record { are_units = c.in_ok-root.ensures.units; whole = refl; none = c.requires.no_close_mark } in
    let k = keeps c.args.root.now text c.args.ranges.now (plain c.in_ok-root.root) (means'.0).stands c.requires.root c.requires.named c.requires.few spells in
    let before : c.of.result ≡ [] = c.of.ensures ∙ c.new.ensures.items in
    let after : c.of-2.result ≡ [] = c.of-2.ensures ∙ c.new-2.ensures.items in
    record {
      rooted = k.rooted;
      formed = k.formed;
      shallow = means'.1;
      small = k.small;
      named = k.named;
      units = k.units;
      legal = ∣ k.legal ∣₁;
      no_close_mark = k.no_close_mark;
      prolog = ∣ (c.args.root.now, subst (IsProlog c.args.root.now) (sym before) k.prolog) ∣₁;
      epilog = ∣ subst IsEpilog (sym after) k.epilog ∣₁;
    }
