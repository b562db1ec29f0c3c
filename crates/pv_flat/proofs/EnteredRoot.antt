-- The root is entered by its tag.
use Rattle.std.proofs.Common.{◌≡◌, ◌-◌, ℕ, suc, List, [], ◌∷◌, length, take, sym, subst, ◌∙◌, true, false}
use Rattle.pv_tree.specs.declared.nodes.Mark.{Mark}
use Rattle.pv_read.specs.Left.{Left}
use Rattle.pv_read.specs.declared.prolog.RootTag.{RootTag}
use Rattle.pv_flat.specs.Plain.{PlainEvent, begin_element, end_element}
use Rattle.pv_flat.specs.ComingEvents.{EventsCome, ComesInside, TextEnd, IsIn, IsOpening, RestComes}
use Rattle.pv_flat.specs.ComingEvents.{open_names}
use Rattle.pv_flat.specs.declared.state.Events.{Events}
use Rattle.pv_flat.specs.declared.state.Stage.TheVariants as stage
use Rattle.pv_flat.proofs.Openings.{before-is, behind-short, behind-start}
use Rattle.pv_flat.proofs.States.{comes-by}

module _ (old new : Events) (tag : RootTag) (o : IsOpening old.root old.bytes.now tag) (fresh : old.stage ≡ stage.Fresh) (root : new.root ≡ old.root)
    (before : new.before.now ≡ take (length old.bytes.now - length tag.from_tag.now) old.bytes.now)
    (rest : new.rest.now ≡ tag.rest.now) (count : new.count ≡ suc tag.count)
    (es : List PlainEvent) (end : TextEnd) (c : ComesInside new es end) where
  there : (names : List (List ℕ)) → open_names new ≡ names → (left : Left Mark) → IsIn new.before.now names left → RestComes old.root (suc tag.count) left tag.rest.now es end
  there names is left h =
      subst (λ x. RestComes x (suc tag.count) left tag.rest.now es end) root
      (subst (λ k. RestComes new.root k left tag.rest.now es end) count
      (subst (λ l. RestComes new.root new.count left l es end) rest
      (c left (subst (λ ns. IsIn new.before.now ns left) (sym is) h))))

  pub entered : tag.is_short ≡ false → open_names new ≡ tag.tag.name.now ∷ [] → EventsCome old (begin_element tag.tag.name.now tag.tag.attrs.now ∷ es) end
  entered long is = comes-by old stage.Fresh fresh _ end (behind-start old.root old.bytes.now tag o
      new.before.now es end long (sym (before ∙ before-is old.root old.bytes.now tag o))
      (there (tag.tag.name.now ∷ []) is))

  pub entered-short : tag.is_short ≡ true → open_names new ≡ [] → EventsCome old (begin_element tag.tag.name.now tag.tag.attrs.now ∷ end_element ∷ es) end
  entered-short short is = comes-by old stage.Fresh fresh _ end (behind-short old.root old.bytes.now
      tag o new.before.now es end short (sym (before ∙ before-is old.root old.bytes.now tag o)) (there [] is))
