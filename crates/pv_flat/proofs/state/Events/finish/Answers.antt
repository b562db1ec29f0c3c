use Rattle.std.proofs.Common.{◌≡◌, [], sym, subst, refl}
use Rattle.std.proofs.lemmas.Result.{err_from_is_err_and}
use Rattle.pv_flat.specs.ComingEvents.{EventsCome, IsIn, ends_with, open_names}
use Rattle.pv_flat.specs.declared.state.Stage.TheVariants as stage
use Rattle.pv_flat.proofs.RootRefusals.{ends-behind, refused-behind}
use Rattle.pv_flat.proofs.States.{comes-by, refused-advance, same-inside, same-names}
use Rattle.pv_flat.proofs.state.Events.finish.Goals as goal

pub returns-in_err-read_epilog-clause-advances : goal.returns-in_err-read_epilog-clause-advances
returns-in_err-read_epilog-clause-advances c =
    let s = c.args.self.now in
    let none : open_names s ≡ [] = same-names [] s.elements.items c.requires.none in
    let from = err_from_is_err_and c.from_residual.result c.from_residual.ensures.1 in
    rw (from.1, from.2)
    (refused-advance s _ _ c.requires.inside (λ left h. refused-behind s.root s.before.now
    s.rest.now s.count _ (rw c.as_slice.ensures at c.in_err-read_epilog.ensures.refused) left
    (subst (λ ns. IsIn s.before.now ns left) none h))
    (same-inside s _ c.requires.inside c.requires.inside (λ es end. (λ x. x, λ x. x))))

pub returns-clause-advances : goal.returns-clause-advances
returns-clause-advances c =
    let s = c.args.self.now in
    let none : open_names s ≡ [] = same-names [] s.elements.items c.requires.none in (
      λ es end comes.
          subst (λ l. EventsCome s l end) (sym comes.0) (subst (λ x. EventsCome s [] x) (sym comes.1)
          (comes-by s stage.Inside c.requires.inside [] (ends_with s.before.now s.rest.now)
          (λ left h. ends-behind s.root s.before.now s.rest.now s.count (rw c.as_slice.ensures at c.in_ok-read_epilog.ensures.ends) left (subst (λ ns. IsIn s.before.now ns left) none h)))),
      refl,
    )
