use Rattle.std.proofs.Common.{codes, subst}
use Rattle.pv_cache.specs.Moves.{HasGround}
use Rattle.pv_edit.specs.declared.answers.EditAnswer.{EditAnswer}
use Rattle.pv_edit.specs.declared.answers.EditAnswer.TheVariants as answer
use Rattle.pv_offer.specs.Offers.{edit_with}
use Rattle.pv_offer.proofs.EditsOfAnyName.{asked_by, limit_by, shape_by}
use Rattle.pv_offer.proofs.offers.ask_first.Goals as goal

pub returns-in-Ok-clause-asked : goal.returns-in-Ok-clause-asked
returns-in-Ok-clause-asked c =
    let (x, known) = c.in-Ok.ensures.accepted in
    asked_by c.args.marked.now c.args.ask.now x known.is_edited known.within

pub returns-in-Err-Impossible-clause-asked : goal.returns-in-Err-Impossible-clause-asked
returns-in-Err-Impossible-clause-asked c =
    let s = c.args.marked.now in
    let edit = edit_with c.args.ask.now (codes "a") in
    let known : HasGround 0 s.dtd s.root s.doc edit (answer.Impossible c.in-Err-Impossible.field-0-0) =
    subst (λ (a : EditAnswer). HasGround 0 s.dtd s.root s.doc edit a) c.in-Err-Impossible.field-0-is c.in-Err-Impossible.ensures.refused in
    let (x, e, w, v, f) = known in
    asked_by s c.args.ask.now x e w

pub returns-in-Err-Shape-clause-refused : goal.returns-in-Err-Shape-clause-refused
returns-in-Err-Shape-clause-refused c =
    let s = c.args.marked.now in
    let edit = edit_with c.args.ask.now (codes "a") in
    shape_by s c.args.ask.now c.in-Err-Shape.reason
    (subst (λ (a : EditAnswer). HasGround 0 s.dtd s.root s.doc edit a) c.in-Err-Shape.field-0-is c.in-Err-Shape.ensures.refused)

pub returns-in-Err-Limit-clause-refused : goal.returns-in-Err-Limit-clause-refused
returns-in-Err-Limit-clause-refused c =
    let s = c.args.marked.now in
    let edit = edit_with c.args.ask.now (codes "a") in
    limit_by c.renames_law.ensures s c.args.ask.now c.holdable_law.ensures.holdable
    (subst (λ (a : EditAnswer). HasGround 0 s.dtd s.root s.doc edit a) c.in-Err-Limit.field-0-is c.in-Err-Limit.ensures.refused)
