-- The rules of a part are laid out.
use Rattle.std.proofs.Common.{List, None, Option, Some, [], ap, arith, inl, inr, refl, subst, suc, sym, ℕ, ◌+◌, ◌<◌, ◌∙◌, ◌∷◌, ◌≡◌, ◌≤◌, ◌⊎◌}
use Rattle.pv_model.specs.Plain.{PlainPart, PlainParts, choice, name, opt, plus, seq, star}
use Rattle.pv_model.specs.declared.models.Token.{Token}
use Rattle.pv_dtd.specs.Plain.{PlainDtd, declared}
use Rattle.pv_rules.specs.Numbering.{IsAfterPart, IsChoiceAt, IsMemberAt, part_at}
use Rattle.pv_rules.proofs.Members.{HavePassed, member_in, passed_all, passed_more, passed_none}
use Rattle.pv_reach.specs.AddedRules.{AddsRule, AreSoundRules, RulesGrow, IsRuleOfPart, LaysOut}
use Rattle.pv_reach.specs.Columns.{Has, IsPartRule, RightSide, member_columns, of_part, part_column, token_of}
use Rattle.pv_columns.specs.declared.rules.ColumnRule.{ColumnRule}
use Rattle.pv_reach.proofs.PushedRules.{adds_as, grow_none, grow_twice, has_as, sound_more}

-- a column without rules
pub laid_none : (g : PlainDtd) (old : List ColumnRule) (l : ℕ) (S : RightSide) → ((o : Option Token) (cs : List ℕ) → S o cs → ⊥) → LaysOut g old old l S
laid_none g old l S never = record { sound = λ s. s; grow = grow_none old; complete = λ o cs s. absurd (never o cs s) }

module _ (g : PlainDtd) (q c : ℕ) (is : c ≡ part_column g q) (p : PlainPart) (at : part_at g q ≡ Some p) where
  abbrev S : RightSide
  S = IsRuleOfPart g q

  -- the part at this number is the one that is known
  its : (o : Option Token) (cs : List ℕ) → S o cs → IsPartRule g q p o cs
  its o cs (n, e, rule) = let z : n ≡ p = cc in let P : PlainPart → Type 0 = λ v. IsPartRule g q v o cs in subst P z rule

  pub laid_one : (old new : List ColumnRule) (o : Option Token) (cs : List ℕ) → IsPartRule g q p o cs → AddsRule old new c o cs →
      ((u : Option Token) (ds : List ℕ) → IsPartRule g q p u ds → (u ≡ o) × (ds ≡ cs)) → LaysOut g old new (part_column g q) S
  laid_one old new o cs rule adds only = go (adds_as old new c (part_column g q) o cs cs is refl adds)
    where
      go : AddsRule old new (part_column g q) o cs → LaysOut g old new (part_column g q) S
      go a = record {
        sound = sound_more g old new (part_column g q) o cs (of_part q p at refl rule) a;
        grow = a.grow;
        complete = λ u ds s. let r = only u ds (its u ds s) in has_as new (part_column g q) (part_column g q) u o ds cs refl r.0 r.1 a.has;
      }

  pub laid_two : (old mid new : List ColumnRule) (o u : Option Token) (cs ds : List ℕ) → IsPartRule g q p o cs → IsPartRule g q p u ds → AddsRule old mid c o cs → AddsRule mid new c u ds →
      ((v : Option Token) (es : List ℕ) → IsPartRule g q p v es → ((v ≡ o) × (es ≡ cs)) ⊎ ((v ≡ u) × (es ≡ ds))) → LaysOut g old new (part_column g q) S
  laid_two old mid new o u cs ds one two a b only =
      go (adds_as old mid c (part_column g q) o cs cs is refl a) (adds_as mid new c (part_column g q) u ds ds is refl b)
    where
      go : AddsRule old mid (part_column g q) o cs → AddsRule mid new (part_column g q) u ds → LaysOut g old new (part_column g q) S
      go a b = record {
        sound = λ s. sound_more g mid new (part_column g q) u ds (of_part q p at refl two) b (sound_more g old mid (part_column g q) o cs (of_part q p at refl one) a s);
        grow = grow_twice old mid new a.grow b.grow;
        complete = λ v es s. elim (only v es (its v es s)) [
          | inl r ↦ has_as new (part_column g q) (part_column g q) v o es cs refl r.0 r.1 (b.grow.keeps (part_column g q) o cs a.has)
          | inr r ↦ has_as new (part_column g q) (part_column g q) v u es ds refl r.0 r.1 b.has
        ];
      }

module _ (g : PlainDtd) (q c : ℕ) (is : c ≡ part_column g q) where
  pub name_two : (y n : ℕ) (old mid new : List ColumnRule) → part_at g q ≡ Some (name y) → n ≡ declared g → y < n → AddsRule old mid c (Some (token_of y)) [] → AddsRule mid new c None (y ∷ []) →
      LaysOut g old new (part_column g q) (IsRuleOfPart g q)
  name_two y n old mid new at e lt a b =
      laid_two g q c is (name y) at old mid new (Some (token_of y)) None [] (y ∷ []) (inl (refl, refl)) (inr (omega arith, refl, refl)) a b
      (λ v es rule. elim rule [ inl r ↦ inl r | inr r ↦ inr (r.1, r.2) ])

  pub name_one : (y n : ℕ) (old new : List ColumnRule) → part_at g q ≡ Some (name y) → n ≡ declared g → n ≤ y → AddsRule old new c (Some (token_of y)) [] →
      LaysOut g old new (part_column g q) (IsRuleOfPart g q)
  name_one y n old new at e le a =
      laid_one g q c is (name y) at old new (Some (token_of y)) [] (inl (refl, refl)) a
      (λ v es rule. elim rule [ inl r ↦ r | inr r ↦ absurd (let l = r.0 in omega arith) ])

  pub seq_laid : (old new : List ColumnRule) (ps : PlainParts) (cs : List ℕ) → part_at g q ≡ Some (seq ps) → cs ≡ member_columns g (suc q) ps → AddsRule old new c None cs →
      LaysOut g old new (part_column g q) (IsRuleOfPart g q)
  seq_laid old new ps cs at e a = laid_one g q c is (seq ps) at old new None cs (refl, e) a (λ v es rule. (rule.0, rule.1 ∙ sym e))

  two_columns : (d b : ℕ) → d ≡ c + 1 → b ≡ c → d ∷ b ∷ [] ≡ part_column g (suc q) ∷ part_column g q ∷ []
  two_columns d b e f = let x : d ≡ part_column g (suc q) = omega arith in let y : b ≡ part_column g q = omega arith in cc

  pub opt_laid : (old mid new : List ColumnRule) (p : PlainPart) → part_at g q ≡ Some (opt p) → AddsRule old mid c None [] → AddsRule mid new c None ((c + 1) ∷ []) →
      LaysOut g old new (part_column g q) (IsRuleOfPart g q)
  opt_laid old mid new p at a b =
      let z : c + 1 ≡ part_column g (suc q) = omega arith in
      laid_two g q c is (opt p) at old mid new None None [] ((c + 1) ∷ []) (refl, inl refl) (refl, inr (ap (λ v. v ∷ []) z)) a b
      (λ v es rule. elim rule.1 [ inl r ↦ inl (rule.0, r) | inr r ↦ inr (rule.0, r ∙ sym (ap (λ v. v ∷ []) z)) ])

  pub star_laid : (old mid new : List ColumnRule) (p : PlainPart) → part_at g q ≡ Some (star p) → AddsRule old mid c None [] → AddsRule mid new c None ((c + 1) ∷ c ∷ []) →
      LaysOut g old new (part_column g q) (IsRuleOfPart g q)
  star_laid old mid new p at a b =
      let z = two_columns (c + 1) c refl refl in
      laid_two g q c is (star p) at old mid new None None [] ((c + 1) ∷ c ∷ []) (refl, inl refl) (refl, inr z) a b
      (λ v es rule. elim rule.1 [ inl r ↦ inl (rule.0, r) | inr r ↦ inr (rule.0, r ∙ sym z) ])

  pub plus_laid : (old mid new : List ColumnRule) (p : PlainPart) → part_at g q ≡ Some (plus p) → AddsRule old mid c None ((c + 1) ∷ []) → AddsRule mid new c None ((c + 1) ∷ c ∷ []) →
      LaysOut g old new (part_column g q) (IsRuleOfPart g q)
  plus_laid old mid new p at a b =
      let y : c + 1 ≡ part_column g (suc q) = omega arith in
      let x = ap (λ v. v ∷ []) y in
      let z = two_columns (c + 1) c refl refl in
      laid_two g q c is (plus p) at old mid new None None ((c + 1) ∷ []) ((c + 1) ∷ c ∷ []) (refl, inl x) (refl, inr z) a b
      (λ v es rule. elim rule.1 [ inl r ↦ inl (rule.0, r ∙ sym x) | inr r ↦ inr (rule.0, r ∙ sym z) ])

-- the members of choice number q before number m have their rules
pub record IsPassed (g : PlainDtd) (q end : ℕ) (old now : List ColumnRule) (m : ℕ) : Type 0 where
  pub sound : AreSoundRules g old → AreSoundRules g now
  pub grow : RulesGrow old now
  pub members : HavePassed g q end (λ r. Has now (part_column g q) None (part_column g r ∷ [])) m

module _ (g : PlainDtd) (q end : ℕ) (ch : IsChoiceAt g q end) (old : List ColumnRule) where
  pub none_laid : (m : ℕ) → m ≡ suc q → IsPassed g q end old old m
  none_laid m e = record { sound = λ s. s; grow = grow_none old; members = passed_none g q end ch _ m e }

  module _ (now : List ColumnRule) (m : ℕ) (l : IsPassed g q end old now m) where
    -- one member more
    pub member_laid : (new : List ColumnRule) (c d : ℕ) → c ≡ part_column g q → d ≡ part_column g m → m < end → (n : ℕ) → IsAfterPart g m n → AddsRule now new c None (d ∷ []) →
        IsPassed g q end old new n
    member_laid new c d is its lt n after adds = go (adds_as now new c (part_column g q) None (d ∷ []) (part_column g m ∷ []) is (ap (λ v. v ∷ []) its) adds)
      where
        a : (p : PlainPart) × IsMemberAt p m (suc q) ch.0
        a = member_in g q m ch.0 ch.1 (l.members.next lt)

        go : AddsRule now new (part_column g q) None (part_column g m ∷ []) → IsPassed g q end old new n
        go b = record {
          sound = λ s. sound_more g now new (part_column g q) None (part_column g m ∷ []) (of_part q (choice ch.0) ch.1 refl (a.0, m, a.1, refl, refl)) b (l.sound s);
          grow = grow_twice old now new l.grow b.grow;
          members = passed_more g q end ch _ m l.members lt n after (λ r. Has new (part_column g q) None (part_column g r ∷ []))
              (λ r h. b.grow.keeps (part_column g q) None (part_column g r ∷ []) h) b.has;
        }

    pub choice_laid : end ≤ m → LaysOut g old now (part_column g q) (IsRuleOfPart g q)
    choice_laid e = record {
      sound = l.sound;
      grow = l.grow;
      complete = λ o cs s. go o cs (its g q (part_column g q) refl (choice ch.0) ch.1 o cs s);
    }
      where
        go : (o : Option Token) (cs : List ℕ) → IsPartRule g q (choice ch.0) o cs → Has now (part_column g q) o cs
        go o cs (p, r, a, f, h) =
            has_as now (part_column g q) (part_column g q) o None cs (part_column g r ∷ []) refl f h (passed_all g q end ch _ m l.members e r (ch.0, p, ch.1, a))
