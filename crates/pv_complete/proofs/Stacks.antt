-- Stacks of works, move by move.
use Rattle.std.proofs.Common.{List, [], ap, append-nil, append_assoc, refl, suc, sym, ℕ, ◌++◌, ◌∙◌, ◌∷◌, ◌≡◌}
use Rattle.std.proofs.lemmas.List.{same_from_push}
use Rattle.pv_model.specs.Plain.{PlainToken}
use Rattle.pv_dtd.specs.Plain.{PlainDtd}
use Rattle.pv_model.specs.declared.models.NameId.{NameId}
use Rattle.pv_rules.specs.PlainForms.{plain_site}
use Rattle.pv_rules.specs.Rules.{Goal, over}
use Rattle.pv_rules.specs.Sites.{content_site, name_site}
use Rattle.pv_rules.specs.declared.sites.Site.{Site}
use Rattle.pv_rules.specs.declared.sites.Site.TheVariants as site
use Rattle.pv_complete.specs.Moves.{IsMove}
use Rattle.pv_write.specs.PieceForms.{plain_piece, plain_pieces}
use Rattle.pv_write.specs.declared.pieces.Piece.{Piece}
use Rattle.pv_write.specs.Pieces.{PlainPiece, finish, kept, start}
use Rattle.pv_complete.specs.Spelling.{SpellsSpan, spell_kept, spell_new, spell_none, spell_one, spell_text, spell_two}
use Rattle.pv_complete.specs.Works.{Goes, Wants, WantsAll, goal_work, wants_none, wants_top}
use Rattle.pv_complete.specs.declared.words.pieces.Move.TheVariants as move
use Rattle.pv_complete.specs.declared.words.pieces.Work.{Work}
use Rattle.pv_complete.specs.declared.words.pieces.Work.TheVariants as work

module _ (g : PlainDtd) (w : List PlainToken) (t : Goal → ℕ) where
  -- the pieces of the work on top, and of those below
  pub record Top (works : List Work) (top : Work) (rs : List PlainPiece) : Type 0 where
    pub first : List PlainPiece
    pub others : List PlainPiece
    pub is_join : rs ≡ first ++ others
    pub wants : Wants g w t top first
    pub below : WantsAll g w t works others

  top_case : (works all : List Work) (top : Work) (rs : List PlainPiece) → all ≡ works ++ top ∷ [] → WantsAll g w t all rs → Top works top rs
  top_case [] all top rs e wants_none = absurd cc
  top_case (x ∷ works) all top rs e wants_none = absurd cc
  top_case works all top rs e (wants_top others _ o ps qs _ f j want below) =
      let same = same_from_push works others top o (sym e ∙ f) in
      let a = same.0 in let b = same.1 in
      record { first = ps; others = qs; is_join = j; wants = rw b want; below = rw a below }

  pub top_of : (works : List Work) (top : Work) (rs : List PlainPiece) → WantsAll g w t (works ++ top ∷ []) rs → Top works top rs
  top_of works top rs h = top_case works (works ++ top ∷ []) top rs refl h

  pub on_top : (works : List Work) (top : Work) (ps qs : List PlainPiece) → Wants g w t top ps → WantsAll g w t works qs → WantsAll g w t (works ++ top ∷ []) (ps ++ qs)
  on_top works top ps qs a b = wants_top works (works ++ top ∷ []) top ps qs (ps ++ qs) refl refl a b

  nothing_case : (all : List Work) (qs : List PlainPiece) → all ≡ [] → WantsAll g w t all qs → qs ≡ []
  nothing_case all qs e wants_none = refl
  nothing_case all qs e (wants_top [] _ o ps rs _ f j want below) = absurd cc
  nothing_case all qs e (wants_top (x ∷ works) _ o ps rs _ f j want below) = absurd cc

  -- a stack of one goal wants its pieces
  pub one_goal : (s : Site) (i j : ℕ) (ps : List PlainPiece) → WantsAll g w t (goal_work s i j ∷ []) ps → SpellsSpan g w (t (over (plain_site s) i j)) (over (plain_site s) i j) ps
  one_goal s i j ps h =
      let o = top_of [] (goal_work s i j) ps h in
      let z = nothing_case [] o.others refl o.below in
      let e : ps ≡ o.first = o.is_join ∙ ap (λ x. o.first ++ x) z ∙ append-nil o.first in
      rw e o.wants

  -- an end tag
  pub goes_end : (works : List Work) (id : NameId) (before after : List PlainPiece) → after ≡ before ++ finish id.0 ∷ [] → Goes g w t (works ++ work.End id ∷ []) before works after
  goes_end works id before after e ps h =
      (finish id.0 ∷ ps, rw e (append_assoc before (finish id.0 ∷ []) ps), on_top works (work.End id) (finish id.0 ∷ []) ps refl h)

  module _ (works : List Work) (s : Site) (i j : ℕ) (before : List PlainPiece) where
    pub goes_kept : (after : List PlainPiece) → after ≡ before ++ kept ∷ [] → IsMove g w t (plain_site s) i j move.Kept → Goes g w t (works ++ goal_work s i j ∷ []) before works after
    goes_kept after e (x, is, f, at, z) ps h = (
      kept ∷ ps,
      rw e (append_assoc before (kept ∷ []) ps),
      on_top works (goal_work s i j) (kept ∷ []) ps
          (let d : SpellsSpan g w (t (over (name_site x) i (suc i))) (over (name_site x) i (suc i)) (kept ∷ []) = spell_kept (t (over (name_site x) i (suc i))) x i (rw (is, f) at z) at in
          rw (is, f) d) h,
    )

    pub goes_nothing : IsMove g w t (plain_site s) i j move.Nothing → Goes g w t (works ++ goal_work s i j ∷ []) before works before
    goes_nothing (f, m, z) ps h = (
      ps,
      refl,
      on_top works (goal_work s i j) [] ps
          (let d : SpellsSpan g w (t (over (plain_site s) i i)) (over (plain_site s) i i) [] = spell_none (t (over (plain_site s) i i)) i (plain_site s) (rw (← f) at z) m in rw (← f) d) h,
    )

    pub goes_one : (r : Site) → IsMove g w t (plain_site s) i j (move.One r) → Goes g w t (works ++ goal_work s i j ∷ []) before (works ++ goal_work r i j ∷ []) before
    goes_one r (m, has, lt, e) ps h =
        let o = top_of works (goal_work r i j) ps h in (
          ps,
          refl,
          let k = o.is_join in rw k (on_top works (goal_work s i j) o.first o.others
              (rw e (spell_one (t (over (plain_site r) i j)) i j (plain_site s) (plain_site r) o.first m o.wants)) o.below),
        )

    pub goes_text : (after : List PlainPiece) (n : ℕ) → after ≡ before ++ kept ∷ [] → n ≡ suc i → IsMove g w t (plain_site s) i j move.Text →
        Goes g w t (works ++ goal_work s i j ∷ []) before (works ++ goal_work s n j ∷ []) after
    goes_text after n e next (x, is, holds, lt, f, z) ps k =
        let h = rw next at k in
        let o = top_of works (goal_work s (suc i) j) ps h in (
          kept ∷ ps,
          rw e (append_assoc before (kept ∷ []) ps),
          let k = o.is_join in rw k (on_top works (goal_work s i j) (kept ∷ o.first) o.others
              (let u = o.wants in rw z (rw is (spell_text (t (over (content_site x) (suc i) j)) x i j o.first lt f holds (rw is at u)))) o.below),
        )

    pub goes_two : (r q : Site) (k : ℕ) → IsMove g w t (plain_site s) i j (move.Two r k q) →
        Goes g w t (works ++ goal_work s i j ∷ []) before ((works ++ goal_work q k j ∷ []) ++ goal_work r i k ∷ []) before
    goes_two r q k (m, hr, hq, le, lt, low, less, z) ps h =
        let o = top_of (works ++ goal_work q k j ∷ []) (goal_work r i k) ps h in
        let u = top_of works (goal_work q k j) o.others o.below in (
          ps,
          refl,
          let a = o.is_join in let b = u.is_join in
              let c : ps ≡ (o.first ++ u.first) ++ u.others = a ∙ ap (λ x. o.first ++ x) b ∙ sym (append_assoc o.first u.first u.others) in
              rw c (on_top works (goal_work s i j) (o.first ++ u.first) u.others
              (spell_two (t (over (plain_site s) i j)) (t (over (plain_site r) i k))
              (t (over (plain_site q) k j)) i k j (plain_site s) (plain_site r) (plain_site q)
              o.first u.first (o.first ++ u.first) z refl le lt m o.wants u.wants) u.below),
        )

    pub goes_new : (id : NameId) (after : List PlainPiece) → after ≡ before ++ start id.0 ∷ [] → IsMove g w t (plain_site s) i j (move.New id) →
        Goes g w t (works ++ goal_work s i j ∷ []) before ((works ++ work.End id ∷ []) ++ goal_work (site.Content id) i j ∷ []) after
    goes_new id after e (is, has, z) ps h =
        let o = top_of (works ++ work.End id ∷ []) (goal_work (site.Content id) i j) ps h in
        let u = top_of works (work.End id) o.others o.below in (
          start id.0 ∷ ps,
          rw e (append_assoc before (start id.0 ∷ []) ps),
          let a = o.is_join in let b = u.is_join in let f = u.wants in
              let c : start id.0 ∷ ps ≡ (start id.0 ∷ (o.first ++ finish id.0 ∷ [])) ++ u.others =
              ap (λ x. start id.0 ∷ x) (a ∙ ap (λ x. o.first ++ x) (b ∙ ap (λ x. x ++ u.others) f) ∙ sym (append_assoc o.first (finish id.0 ∷ []) u.others)) in
              rw c (on_top works (goal_work s i j) (start id.0 ∷ (o.first ++ finish id.0 ∷ [])) u.others
              (rw is (spell_new (t (over (name_site id.0) i j)) (t (over (content_site id.0) i j)) id.0 i j o.first (start id.0 ∷ (o.first ++ finish id.0 ∷ [])) (rw is at z) refl o.wants)) u.below),
        )

-- a piece more
pub pushed : (old new : List Piece) (p : Piece) → new ≡ old ++ p ∷ [] → plain_pieces new ≡ plain_pieces old ++ plain_piece p ∷ []
pushed old new p e = ap plain_pieces e ∙ joined old
  where
    joined : (ps : List Piece) → plain_pieces (ps ++ p ∷ []) ≡ plain_pieces ps ++ plain_piece p ∷ []
    joined [] = refl
    joined (q ∷ ps) = ap (λ x. plain_piece q ∷ x) (joined ps)
