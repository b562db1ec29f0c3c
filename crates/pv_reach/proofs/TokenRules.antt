-- A rule with a token has no columns after it, or its own.
use Rattle.std.proofs.Common.{List, None, Option, Some, [], ap, inl, inr, subst, sym, ℕ, ◌∙◌, ◌∷◌, ◌≡◌, ◌⊎◌}
use Rattle.pv_model.specs.Plain.{PlainModel, PlainPart, any, children, choice, empty, mixed, name, opt, plus, seq, star}
use Rattle.pv_model.specs.declared.models.Token.{Token}
use Rattle.pv_columns.specs.Marks.{ReadAlone}
use Rattle.pv_columns.specs.declared.rules.ColumnRule.{ColumnRule}
use Rattle.pv_dtd.specs.Plain.{PlainDtd}
use Rattle.pv_reach.specs.Columns.{AreRules, Has, IsAnyRule, IsContentRule, IsPartRule, IsRule, any_column, of_any, of_content, of_part}
use Rattle.pv_reach.specs.Merging.{AreMerged, IsFurtherRule, behind, column_head, column_heads, none, one}
use Rattle.pv_reach.specs.declared.columns.merging.Merging.{Merging}
use Rattle.pv_reach.proofs.StandInColumns.{its_own}

-- these are no columns, or this one alone
abbrev IsAlone : ℕ → List ℕ → Type 0
IsAlone l cs = (cs ≡ []) ⊎ (cs ≡ l ∷ [])

module _ (g : PlainDtd) where
  content_alone : (x : ℕ) (m : PlainModel) (o : Option Token) (cs : List ℕ) (t : Token) → o ≡ Some t → IsContentRule g x m o cs → IsAlone x cs
  content_alone x empty o cs t s (e, f) = inl f
  content_alone x any o cs t s (e, f) = absurd cc
  content_alone x (mixed ys) o cs t s (inl (e, f)) = inl f
  content_alone x (mixed ys) o cs t s (inr (inl (e, f))) = inr f
  content_alone x (mixed ys) o cs t s (inr (inr (k, l, e, f))) = absurd cc
  content_alone x (children p) o cs t s (e, f) = absurd cc

  part_alone : (q : ℕ) (p : PlainPart) (o : Option Token) (cs : List ℕ) (t : Token) → o ≡ Some t → IsPartRule g q p o cs → cs ≡ []
  part_alone q (name y) o cs t s (inl (e, f)) = f
  part_alone q (name y) o cs t s (inr (l, e, f)) = absurd cc
  part_alone q (seq ps) o cs t s (e, f) = absurd cc
  part_alone q (choice ps) o cs t s (p, r, m, e, f) = absurd cc
  part_alone q (opt p) o cs t s (e, f) = absurd cc
  part_alone q (star p) o cs t s (e, f) = absurd cc
  part_alone q (plus p) o cs t s (e, f) = absurd cc

  any_alone : (o : Option Token) (cs : List ℕ) (t : Token) → o ≡ Some t → IsAnyRule g o cs → IsAlone (any_column g) cs
  any_alone o cs t s (inl (e, f)) = inl f
  any_alone o cs t s (inr (inl (e, f))) = inr f
  any_alone o cs t s (inr (inr (y, l, inl (e, f)))) = inr f
  any_alone o cs t s (inr (inr (y, l, inr (e, f)))) = absurd cc

  as_left : (l c : ℕ) (cs : List ℕ) → l ≡ c → IsAlone c cs → IsAlone l cs
  as_left l c cs e a = let P : ℕ → Type 0 = λ v. IsAlone v cs in subst P (sym e) a

  rule_alone : (l : ℕ) (o : Option Token) (cs : List ℕ) (t : Token) → o ≡ Some t → IsRule g l o cs → IsAlone l cs
  rule_alone l o cs t s (of_content x m h e rule) = as_left l x cs e (content_alone x m o cs t s rule)
  rule_alone l o cs t s (of_part q p h e rule) = inl (part_alone q p o cs t s rule)
  rule_alone l o cs t s (of_any x h e rule) = as_left l (any_column g) cs e (any_alone o cs t s rule)

  module _ (rules new : List ColumnRule) (m : Merging) (are : AreRules g rules) (merged : AreMerged rules m new) where
    has_alone : (l : ℕ) (o : Option Token) (cs : List ℕ) (t : Token) → o ≡ Some t → Has rules l o cs → IsAlone l cs
    has_alone l o cs t s h =
        let r = are.sound h.rule h.is_in in
        let a = rule_alone h.rule.left h.rule.token h.rule.columns.items t (h.is_token ∙ s) r in
        let P : ℕ → Type 0 = λ v. IsAlone v h.rule.columns.items in
        let Q : List ℕ → Type 0 = λ v. IsAlone l v in
        subst Q h.are_columns (subst P h.is_left a)

    over_heads : (l c : ℕ) (cs ds : List ℕ) → l ≡ column_head m.heads.items c → cs ≡ column_heads m.heads.items ds → IsAlone c ds → IsAlone l cs
    over_heads l c cs ds e f (inl z) = inl (f ∙ ap (λ v. column_heads m.heads.items v) z)
    over_heads l c cs ds e f (inr z) = inr (f ∙ ap (λ v. column_heads m.heads.items v) z ∙ ap (λ v. v ∷ []) (sym e))

    further_none : (l : ℕ) (o : Option Token) (cs : List ℕ) (width : ℕ) (led : List ℕ) → IsFurtherRule rules width led l o cs → o ≡ None
    further_none l o cs width led (none k lt e n f) = n
    further_none l o cs width led (one k q lt less may e n f) = n
    further_none l o cs width led (behind k lt e n f) = n

    pub read_alone : ReadAlone new
    read_alone = record {
      alone = λ r t con s. elim (merged.only r.left r.token r.columns.items (its_own new r con)) [
        | inl is ↦ over_heads r.left is.left r.columns.items is.columns is.is_left is.are_columns (has_alone is.left r.token is.columns t s is.has)
        | inr is ↦ (let n = further_none r.left r.token r.columns.items _ _ is in absurd cc)
      ];
    }
