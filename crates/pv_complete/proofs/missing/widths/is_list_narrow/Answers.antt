use Rattle.std.proofs.Common.{ap, length, refl, subst, sym, ◌∙◌, ◌≡◌}
use Rattle.pv_dtd.specs.PlainForms.{plain_dtd}
use Rattle.pv_tree.specs.PlainForms.{forest}
use Rattle.pv_tree.specs.Words.{word_of}
use Rattle.pv_missing.specs.Widths.{FitsWeights}
use Rattle.pv_fresh.proofs.NarrowLists.{few_tokens}
use Rattle.pv_complete.proofs.WideLists.{fits_less, long_as}
use Rattle.pv_complete.proofs.missing.widths.is_list_narrow.Goals as goal

pub returns-then-is_narrow_for_weights : goal.returns-then-is_narrow_for_weights
returns-then-is_narrow_for_weights c =
    let g = plain_dtd c.args.dtd.now in
    let fits : FitsWeights g (length c.args.kids.now) = c.if-is_narrow_for_weights.ensures.0 refl in
    (λ _. fits_less g _ _ (few_tokens g c.args.kids.now) fits, λ _. refl)

pub returns : goal.returns
returns c =
    let g = plain_dtd c.args.dtd.now in
    let long : length c.as_slice.result.now ≡ length (word_of g (forest c.args.kids.now)) =
    ap length c.as_slice.ensures ∙ long_as c.in_ok-tokens.tokens (word_of g (forest c.args.kids.now)) c.in_ok-tokens.ensures in
    (λ t. subst (FitsWeights g) long (c.is_narrow_for_weights-2.ensures.0 t), λ fits. c.is_narrow_for_weights-2.ensures.1 (subst (FitsWeights g) (sym long) fits))
