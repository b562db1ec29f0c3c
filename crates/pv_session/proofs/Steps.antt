-- A move has one answer, and there is one session after it.
use Rattle.std.proofs.Common.{List, None, Some, [], ap, length, refl, subst, sym, ◌++◌, ◌∙◌, ◌∷◌, ◌≡◌, ℕ}
use Rattle.std.proofs.lemmas.List.{same_from_push}
use Rattle.pv_edit.specs.ChangedLists.{changed_lists, makes, undoes}
use Rattle.pv_edit.specs.Inverses.{inverse_of, doc_back}
use Rattle.pv_edit.specs.Reasons.{Outcome, edit_outcome, gives}
use Rattle.pv_edit.specs.declared.answers.EditAnswer.{EditAnswer}
use Rattle.pv_edit.specs.declared.answers.EditAnswer.TheVariants as refusal
use Rattle.pv_edit.specs.declared.edits.Edit.{Edit}
use Rattle.pv_cache.specs.GroundLaws.{AcceptedHasNoGround, HasOneGround}
use Rattle.pv_cache.specs.Laws.{HasOneBad, HasOneOpen}
use Rattle.pv_cache.specs.Moves.{HasBad, HasOpen}
use Rattle.pv_session.specs.Laws.{HasOneAnswer, StepsHaveOneAnswer}
use Rattle.pv_session.specs.Sessions.{PlainSession, Replays, next_move, stamped_document}
use Rattle.pv_session.specs.Steps.{behind_move, IsEditStep, IsRedoStep, IsUndoStep, PlainAnswer, accepted, is_done, lacks_history, no_past, none_undone, redone, refusal_of, refused, undone}
use Rattle.pv_session.proofs.Ways.{one_replay}
use Rattle.pv_tree.specs.Plain.{PlainDoc}

-- two moves that end alike and changed as many lists
same_done : HasOneOpen → HasOneBad → (s t : PlainSession) (a b : PlainAnswer) (i j m n k l : ℕ) →
    HasOpen (stamped_document s) m → HasOpen (stamped_document t) n →
    HasBad (stamped_document s) k → HasBad (stamped_document t) l → s ≡ t → i ≡ j →
    a ≡ is_done i m k → b ≡ is_done j n l → (a ≡ b) × (s ≡ t)
same_done one_open one_bad s t a b i j m n k l p q u v e c x y =
    let f = one_open (stamped_document t) m n (subst (λ (r : PlainSession). HasOpen (stamped_document r) m) e p) q in
    let g = one_bad (stamped_document t) k l (subst (λ (r : PlainSession). HasBad (stamped_document r) k) e u) v in
    (cc, e)

same_given : (o : Outcome ℕ) (x y : PlainDoc ℕ) → o ≡ gives x → o ≡ gives y → x ≡ y
same_given o x y a b = cc

-- two refusals with one ground
same_refused : (before s t : PlainSession) (a b c : PlainAnswer) → a ≡ c → b ≡ c → s ≡ before → t ≡ before → (a ≡ b) × (s ≡ t)
same_refused before s t a b c e f x y = (e ∙ sym f, x ∙ sym y)

module _ (before : PlainSession) (edit : Edit) where
  abbrev Is : PlainAnswer → PlainSession → Type 0
  Is a s = IsEditStep before edit a s

  told_one : (a b : PlainAnswer) (x y : EditAnswer) → x ≡ y → refusal_of x ≡ Some a → refusal_of y ≡ Some b → a ≡ b
  told_one a b x y e p q = let z : Some a ≡ Some b = sym p ∙ ap refusal_of e ∙ q in cc

  not_told : (a : PlainAnswer) (x : EditAnswer) → refusal_of x ≡ Some a → x ≡ refusal.NoMemory → ⊥
  not_told a x p e = let z : None ≡ Some a = ap refusal_of (sym e) ∙ p in absurd cc

  module _ (one_open : HasOneOpen) (one_bad : HasOneBad) (no_ground : AcceptedHasNoGround ℕ ℕ) (one_ground : HasOneGround ℕ) where
    edit_one : (s t : PlainSession) (a b : PlainAnswer) → Is a s → Is b t → (a ≡ b) × (s ≡ t)
    edit_one s t a b (accepted x m o p e h u q) (accepted y n l r f k v w) =
        let same = same_given _ x y p.is_edited r.is_edited in
        let z : s ≡ t = e ∙ ap
        (λ (d : PlainDoc ℕ).
        record before {
          past = before.past ++ edit ∷ [];
          undone = [];
          moves = next_move before.moves;
          doc = behind_move before (changed_lists (makes edit)) d;
        }) same ∙ sym f in
        same_done one_open one_bad s t a b _ _ m n o l h k u v z refl q w
    edit_one s t a b (accepted x m o p e h u q) (refused y r f k) = absurd (not_told b y f (no_ground 0 0 before.dtd before.root before.doc before.doc edit x y refl p r))
    edit_one s t a b (refused y r f k) (accepted x m o p e h u q) = absurd (not_told a y f (no_ground 0 0 before.dtd before.root before.doc before.doc edit x y refl p r))
    edit_one s t a b (refused x p e f) (refused y r h k) =
        let same = one_ground 0 before.dtd before.root before.doc edit x y p r (not_told a x e) (not_told b y h) in
        (told_one a b x y same e h, f ∙ sym k)

pub not_empty : {A : Type 0} (xs ys : List A) (x : A) → ys ≡ xs ++ x ∷ [] → ys ≡ [] → ⊥
not_empty [] ys x e f = absurd cc
not_empty (y ∷ xs) ys x e f = absurd cc

-- the last edit, and those before it
same_last : (xs ys all : List Edit) (x y : Edit) → all ≡ xs ++ x ∷ [] → all ≡ ys ++ y ∷ [] → (xs ≡ ys) × (x ≡ y)
same_last xs ys all x y e f = same_from_push xs ys x y (sym e ∙ f)

-- the sessions after an undo and a redo
abbrev behind : PlainSession → List Edit → Edit → PlainDoc Unit → PlainSession
behind before past edit doc = record before {
  past = past;
  undone = before.undone ++ edit ∷ [];
  moves = next_move before.moves;
  doc = behind_move before (changed_lists (undoes edit)) (doc_back 0 before.doc (inverse_of doc.root edit));
}

abbrev again : PlainSession → List Edit → Edit → PlainDoc ℕ → PlainSession
again before rest edit edited = record before {
  past = before.past ++ edit ∷ [];
  undone = rest;
  moves = next_move before.moves;
  doc = behind_move before (changed_lists (makes edit)) edited;
}

undo_one : HasOneOpen → HasOneBad → HasOneAnswer IsUndoStep
undo_one one_open one_bad before s t a b (undone x past d m o e r c f h u w) (undone y past' d' n l e' r' c' f' k v w') =
    let same = same_last past past' before.past x y e e' in
    let docs : d ≡ d' = one_replay before.opened d d' past' (subst (λ (p : List Edit). Replays before.opened p d) same.0 r) r' in
    let z : s ≡ t =
    f
    ∙ ap (λ (p : List Edit). behind before p x d) same.0
    ∙ ap (λ (y : Edit). behind before past' y d) same.1
    ∙ ap (behind before past' y) docs
    ∙ sym f' in
    same_done one_open one_bad s t a b _ _ m n o l h k u v z (ap (λ (y : Edit). length (changed_lists (undoes y))) same.1) w w'
undo_one one_open one_bad before s t a b (undone x past d m o e r c f h u w) (no_past e' w' f') = absurd (not_empty past before.past x e e')
undo_one one_open one_bad before s t a b (no_past e' w' f') (undone x past d m o e r c f h u w) = absurd (not_empty past before.past x e e')
undo_one one_open one_bad before s t a b (no_past e w f) (no_past e' w' f') = same_refused before s t a b lacks_history w w' f f'

redo_one : HasOneOpen → HasOneBad → HasOneAnswer IsRedoStep
redo_one one_open one_bad before s t a b (redone x rest d m o e r c f h u w) (redone y rest' d' n l e' r' c' f' k v w') =
    let same = same_last rest rest' before.undone x y e e' in
    let given : edit_outcome 0 before.doc y ≡ gives d = subst (λ (y : Edit). edit_outcome 0 before.doc y ≡ gives d) same.1 r in
    let docs : d ≡ d' = same_given _ d d' given r' in
    let z : s ≡ t =
    f
    ∙ ap (λ (p : List Edit). again before p x d) same.0
    ∙ ap (λ (y : Edit). again before rest' y d) same.1
    ∙ ap (again before rest' y) docs
    ∙ sym f' in
    same_done one_open one_bad s t a b _ _ m n o l h k u v z (ap (λ (y : Edit). length (changed_lists (makes y))) same.1) w w'
redo_one one_open one_bad before s t a b (redone x rest d m o e r c f h u w) (none_undone e' w' f') = absurd (not_empty rest before.undone x e e')
redo_one one_open one_bad before s t a b (none_undone e' w' f') (redone x rest d m o e r c f h u w) = absurd (not_empty rest before.undone x e e')
redo_one one_open one_bad before s t a b (none_undone e w f) (none_undone e' w' f') = same_refused before s t a b lacks_history w w' f f'

pub one_answer : HasOneOpen → HasOneBad → AcceptedHasNoGround ℕ ℕ → HasOneGround ℕ → StepsHaveOneAnswer
one_answer one_open one_bad no_ground one_ground =
    record {
      edit = λ edit before s t a b p q. edit_one before edit one_open one_bad no_ground
          one_ground s t a b p q;
      undo = undo_one one_open one_bad;
      redo = redo_one one_open one_bad;
    }
