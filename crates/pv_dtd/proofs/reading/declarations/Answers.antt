use Rattle.std.proofs.Common.{◌≡◌, ◌<◌, [], length, Some, None, sym, ap, ◌∙◌, inl, arith}
use Rattle.std.proofs.lemmas.Grind.{common_steps}
use Rattle.pv_dtd.specs.ItemReading.{item_at, broken_rule}
use Rattle.pv_dtd.specs.NamedForms.{named_item}
use Rattle.pv_dtd.specs.RuleKinds.{kind_of_rule}
use Rattle.pv_dtd.proofs.ItemsSoFar.{so_far_none, all_read, refers, too_deep, no_item_stands}
use Rattle.pv_dtd.proofs.ItemsSoFar.{item_breaks, few_more, one_more}
use Rattle.pv_dtd.proofs.ReaderAnswers.{tells_rule}
use Rattle.pv_dtd.proofs.reading.declarations.Goals as goal

pub items-init : goal.items-init
items-init c = rw (c.requires.empty, c.new.ensures.items) (so_far_none c.args.bytes.now)

pub returns-then-is_empty : goal.returns-then-is_empty
returns-then-is_empty c =
    let at_end : c.after_space-place.result.now ≡ [] = grind (arith, common_steps) in
    all_read _ _ _ _ _ _ c.items.invariant _ c.after_space-place.ensures.after at_end

pub returns-then-has_parameter : goal.returns-then-has_parameter
returns-then-has_parameter c =
    let some : c.after_space-place.result.now ≡ [] → ⊥ = λ e. grind (arith, common_steps) in
    refers _ _ _ _ _ _ c.items.invariant _ c.after_space-place.ensures.after some (sym c.has_parameter.ensures ∙ c.if-has_parameter.true)

pub returns-then-is_too_deep : goal.returns-then-is_too_deep
returns-then-is_too_deep c =
    let some : c.after_space-place.result.now ≡ [] → ⊥ = λ e. grind (arith, common_steps) in
    inl (too_deep _ _ _ _ _ _ c.items.invariant _ c.after_space-place.ensures.after some (sym c.has_parameter.ensures ∙ c.if-has_parameter.false) (sym c.is_too_deep.ensures ∙ c.if-is_too_deep.true))

pub returns-in_default : goal.returns-in_default
returns-in_default c =
    let some : c.after_space-place.result.now ≡ [] → ⊥ = λ e. grind (arith, common_steps) in
    let none : None ≡ item_at c.is_front.result c.after_space-place.result.now = rw c.in_default.is at c.in_ok-item.ensures.read in
    no_item_stands _ _ _ _ _ _ c.items.invariant _ c.after_space-place.ensures.after some (sym c.has_parameter.ensures ∙ c.if-has_parameter.false) (sym c.is_too_deep.ensures ∙ c.if-is_too_deep.false)
    (none ∙ ap (λ f. item_at f c.after_space-place.result.now) c.is_front.ensures)

pub returns-in-Some-2 : goal.returns-in-Some-2
returns-in-Some-2 c =
    let some : c.after_space-place.result.now ≡ [] → ⊥ = λ e. grind (arith, common_steps) in
    let read : Some (named_item c.in-Some.item, c.in-Some.more.now) ≡ item_at c.is_front.result c.after_space-place.result.now = rw c.in-Some.is at c.in_ok-item.ensures.read in
    let broken : Some (kind_of_rule c.in-Some-2.rule) ≡ broken_rule c.items.names c.items.declared.parts (named_item c.in-Some.item) = rw c.in-Some-2.is at c.in_ok-rule.ensures in
    tells_rule c.args.bytes.now c.in-Some-2.rule c.items.count _ c.refusal.ensures
    (item_breaks _ _ _ _ _ _ c.items.invariant _ c.after_space-place.ensures.after some (sym c.has_parameter.ensures ∙ c.if-has_parameter.false) (sym c.is_too_deep.ensures ∙ c.if-is_too_deep.false)
    _ _ (read ∙ ap (λ f. item_at f c.after_space-place.result.now) c.is_front.ensures) _ broken)

pub add-requires : goal.add-requires
add-requires c =
    let some : c.after_space-place.result.now ≡ [] → ⊥ = λ e. grind (arith, common_steps) in
    let read : Some (named_item c.in-Some.item, c.in-Some.more.now) ≡ item_at c.is_front.result c.after_space-place.result.now = rw c.in-Some.is at c.in_ok-item.ensures.read in
    let kept : None ≡ broken_rule c.items.names c.items.declared.parts (named_item c.in-Some.item) = rw c.in_default-2.is at c.in_ok-rule.ensures in
    few_more _ _ _ _ _ _ c.items.invariant _ c.after_space-place.ensures.after some (sym c.has_parameter.ensures ∙ c.if-has_parameter.false) (sym c.is_too_deep.ensures ∙ c.if-is_too_deep.false)
    _ _ (read ∙ ap (λ f. item_at f c.after_space-place.result.now) c.is_front.ensures) kept

pub items-preserved : goal.items-preserved
items-preserved c =
    let some : c.after_space-place.result.now ≡ [] → ⊥ = λ e. grind (arith, common_steps) in
    let read : Some (named_item c.in-Some.item, c.in-Some.more.now) ≡ item_at c.is_front.result c.after_space-place.result.now = rw c.in-Some.is at c.in_ok-item.ensures.read in
    let shorter : length c.in-Some.more.now < length c.after_space-place.result.now = rw c.in-Some.is at c.in_ok-item.ensures.within in
    let kept : None ≡ broken_rule c.items.names c.items.declared.parts (named_item c.in-Some.item) = rw c.in_default-2.is at c.in_ok-rule.ensures in
    one_more _ _ _ _ _ _ c.items.invariant _ c.after_space-place.ensures.after some (sym c.has_parameter.ensures ∙ c.if-has_parameter.false) (sym c.is_too_deep.ensures ∙ c.if-is_too_deep.false)
    _ _ (read ∙ ap (λ f. item_at f c.after_space-place.result.now) c.is_front.ensures) kept
    _ c.in_ok-add.ensures.names _ c.in_ok-add.ensures.models _ c.in_ok-add.ensures.parts shorter c.after_space-place.ensures.within
