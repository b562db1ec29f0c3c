use Rattle.std.proofs.Common.{true, false, refl, ap, arith}
use Rattle.std.proofs.lemmas.Result.{err_from_is_err_and}
use Rattle.pv_read.specs.PlainItems.{plain_item}
use Rattle.pv_read.proofs.Prologs.{one_more, opens_by, refused_in}
use Rattle.pv_read.proofs.SpannedItems.{opens_nothing}
use Rattle.pv_read.proofs.prolog.root_tag.Goals as goal

pub returns-in_err-item-clause-refused : goal.returns-in_err-item-clause-refused
returns-in_err-item-clause-refused c =
    let from = err_from_is_err_and c.from_residual.result c.from_residual.ensures.1 in
    rw (from.1, from.2) (refused_in c.items.invariant _ c.in_err-item.ensures.refused)

pub returns-in-StartTag-clause-opens : goal.returns-in-StartTag-clause-opens
returns-in-StartTag-clause-opens c =
    let is = ap plain_item c.in-StartTag.is in
    record {
      before = c.items.invariant.before;
      whole = c.items.invariant.whole;
      few = omega (arith, c.items.invariant.few, c.in_ok-item.ensures.within);
      leads = opens_by c.items.invariant (plain_item c.in_ok-item.item) c.in_ok-item.more.now c.in_ok-item.ensures.taken c.in_ok-item.ensures.within false _ _ (λ before. rw is refl);
    }

pub returns-in-EmptyTag-clause-opens : goal.returns-in-EmptyTag-clause-opens
returns-in-EmptyTag-clause-opens c =
    let is = ap plain_item c.in-EmptyTag.is in
    record {
      before = c.items.invariant.before;
      whole = c.items.invariant.whole;
      few = omega (arith, c.items.invariant.few, c.in_ok-item.ensures.within);
      leads = opens_by c.items.invariant (plain_item c.in_ok-item.item) c.in_ok-item.more.now c.in_ok-item.ensures.taken c.in_ok-item.ensures.within true _ _ (λ before. rw is refl);
    }

pub items-preserved : goal.items-preserved
items-preserved c =
    let closed = opens_nothing c.in_ok-item.item c.in_default.not-StartTag c.in_default.not-EmptyTag in
    one_more c.items.invariant (plain_item c.in_ok-item.item) c.in_ok-item.more.now c.in_ok-item.ensures.taken c.in_ok-item.ensures.within _ _ closed c.behind-stage.ensures refl
