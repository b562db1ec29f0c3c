use Rattle.std.proofs.Common.{refl, sym, subst}
use Rattle.pv_params.specs.Meaning.{Expands, expanded}
use Rattle.pv_params.proofs.PlainFiles.{unchanged}
use Rattle.pv_params.proofs.expansion.expanded_or_unchanged.Goals as goal

pub returns-then-has_nothing_to_expand-clause-read : goal.returns-then-has_nothing_to_expand-clause-read
returns-then-has_nothing_to_expand-clause-read c = subst (λ text. Expands c.args.bytes.now
    (expanded text)) (sym c.in_ok-from_slice.ensures.items) (unchanged c.args.bytes.now
    (c.if-has_nothing_to_expand.ensures refl))
