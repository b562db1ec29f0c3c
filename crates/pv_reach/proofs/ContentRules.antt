-- The rules of a name's content are laid out.
use Rattle.std.proofs.Common.{Err, IfOk, List, None, Ok, Option, Result, Some, [], ap, arith, inl, inr, length, refl, slice_get, subst, suc, sym, ℕ, ◌+◌, ◌-◌, ◌<◌, ◌∙◌, ◌∷◌, ◌≡◌, ◌≤◌, ◌⊎◌}
use Rattle.std.proofs.lemmas.Bool.{cases_lt}
use Rattle.pv_model.specs.Plain.{PlainModel, any, children, empty, mixed}
use Rattle.pv_model.specs.declared.models.Token.{Token}
use Rattle.pv_model.specs.declared.models.Token.TheVariants.{Text}
use Rattle.pv_dtd.specs.Plain.{PlainDtd, model_of, parts_in_model}
use Rattle.pv_rules.specs.Flat.{content_kind_of, flat_contents}
use Rattle.pv_rules.specs.Numbering.{first_part}
use Rattle.pv_rules.specs.declared.flat.ContentKind.TheVariants as content
use Rattle.pv_rules.specs.declared.flat.FlatContent.{FlatContent}
use Rattle.pv_rules.proofs.FlatContents.{any_kind, children_kind, content_at, empty_kind, mixed_kind, no_content}
use Rattle.pv_reach.specs.AddedRules.{AddsRule, AddsListed, AreSoundRules, IsListedRule}
use Rattle.pv_reach.specs.AddedRules.{IsRuleOfContent, LaysOut}
use Rattle.pv_reach.specs.Columns.{Has, IsContentRule, IsRule, any_column, of_content, part_column}
use Rattle.pv_columns.specs.declared.rules.ColumnRule.{ColumnRule}
use Rattle.pv_reach.proofs.PushedRules.{adds_as, grow_none, grow_twice, has_as, sound_more}

pub listed_none : (g : PlainDtd) (old : List ColumnRule) (x first : ℕ) → AddsListed g old old x first first
listed_none g old x first = record { grow = grow_none old; only = λ l o cs h. inl h; listed = λ q a b. absurd (omega arith) }

module _ (g : PlainDtd) (old now new : List ColumnRule) (x first n c : ℕ) (is : c ≡ part_column g n) (le : first ≤ n) (before : AddsListed g old now x first n) where
  wider : (l : ℕ) (o : Option Token) (cs : List ℕ) → IsListedRule g x first n l o cs → IsListedRule g x first (n + 1) l o cs
  wider l o cs (q, a, b, e, f, h) = (q, a, omega arith, e, f, h)

  listed_case : (q : ℕ) → first ≤ q → q < n + 1 → AddsRule now new x None (part_column g n ∷ x ∷ []) → (suc q ≤ n) ⊎ (n ≤ q) → Has new x None (part_column g q ∷ x ∷ [])
  listed_case q a b adds (inl lt) = adds.grow.keeps x None (part_column g q ∷ x ∷ []) (before.listed q a lt)
  listed_case q a b adds (inr ge) =
      let z : n ≡ q = omega arith in let P : ℕ → Type 0 = λ v. Has new x None (part_column g v ∷ x ∷ []) in subst P z adds.has

  pub listed_more : AddsRule now new x None (c ∷ x ∷ []) → AddsListed g old new x first (n + 1)
  listed_more a = go (adds_as now new x x None (c ∷ x ∷ []) (part_column g n ∷ x ∷ []) refl (ap (λ v. v ∷ x ∷ []) is) a)
    where
      go : AddsRule now new x None (part_column g n ∷ x ∷ []) → AddsListed g old new x first (n + 1)
      go adds = record {
        grow = grow_twice old now new before.grow adds.grow;
        only = λ l o cs h. elim (adds.only l o cs h) [
          | inl k ↦ elim (before.only l o cs k) [ inl u ↦ inl u | inr u ↦ inr (wider l o cs u) ]
          | inr r ↦ inr (n, le, omega arith, r.0, r.1, r.2)
        ];
        listed = λ q u v. listed_case q u v adds (cases_lt q n);
      }

module _ (g : PlainDtd) (x : ℕ) (m : PlainModel) (at : model_of g x ≡ Some m) where
  -- the content model of this name is the one that is known
  its : (o : Option Token) (cs : List ℕ) → IsRuleOfContent g x o cs → IsContentRule g x m o cs
  its o cs (n, e, rule) = let z : n ≡ m = cc in let P : PlainModel → Type 0 = λ v. IsContentRule g x v o cs in subst P z rule

  one_laid : (old new : List ColumnRule) (cs : List ℕ) → IsContentRule g x m None cs →
      AddsRule old new x None cs → ((u : Option Token) (ds : List ℕ) → IsContentRule g x m u ds →
      (u ≡ None) × (ds ≡ cs)) →
      LaysOut g old new x (IsRuleOfContent g x)
  one_laid old new cs rule a only = record {
    sound = sound_more g old new x None cs (of_content x m at refl rule) a;
    grow = a.grow;
    complete = λ u ds s. let r = only u ds (its u ds s) in has_as new x x u None ds cs refl r.0 r.1 a.has;
  }

module _ (g : PlainDtd) (x : ℕ) where
  pub empty_laid : (old new : List ColumnRule) (m : PlainModel) → model_of g x ≡ Some m → content_kind_of m ≡ content.Empty → AddsRule old new x None [] → LaysOut g old new x (IsRuleOfContent g x)
  empty_laid old new m at k a = one_laid g x empty (let z = empty_kind m k in rw z at at) old new [] (refl, refl) a (λ u ds r. r)

  pub any_laid : (old new : List ColumnRule) (m : PlainModel) (c : ℕ) → model_of g x ≡ Some m →
      content_kind_of m ≡ content.Any → c ≡ any_column g → AddsRule old new x None (c ∷ []) →
      LaysOut g old new x (IsRuleOfContent g x)
  any_laid old new m c at k e a =
      one_laid g x any (let z = any_kind m k in rw z at at) old new (any_column g ∷ []) (refl, refl) (adds_as old new x x None (c ∷ []) (any_column g ∷ []) refl (ap (λ v. v ∷ []) e) a) (λ u ds r. r)

  pub children_laid : (old new : List ColumnRule) (m : PlainModel) (c : ℕ) → model_of g x ≡ Some m →
      content_kind_of m ≡ content.Children → c ≡ part_column g (first_part g x) →
      AddsRule old new x None (c ∷ []) →
      LaysOut g old new x (IsRuleOfContent g x)
  children_laid old new m c at k e a =
      let z = children_kind m k in
      one_laid g x (children z.0) (let y = z.1 in rw y at at) old new (part_column g (first_part g x) ∷ []) (refl, refl)
      (adds_as old new x x None (c ∷ []) (part_column g (first_part g x) ∷ []) refl (ap (λ v. v ∷ []) e) a) (λ u ds r. r)

  module _ (ys : List ℕ) (at : model_of g x ≡ Some (mixed ys)) (one two new : List ColumnRule)
      (first end : ℕ) (e : first ≡ first_part g x) (f : end ≡ first + length ys)
      (l : AddsListed g two new x first end) where
    listed_sound : AreSoundRules g two → AreSoundRules g new
    listed_sound s = record { holds = λ k o cs h. elim (l.only k o cs h) [ inl u ↦ s.holds k o cs u | inr u ↦ is_listed k o cs u ] }
      where
        is_listed : (k : ℕ) (o : Option Token) (cs : List ℕ) → IsListedRule g x first end k o cs → IsRule g k o cs
        is_listed k o cs (q, a, b, c, d, h) =
            of_content x (mixed ys) at c (inr (inr (q - first_part g x, omega arith, d, h ∙ ap (λ v. part_column g v ∷ x ∷ []) (let z : q ≡ first_part g x + (q - first_part g x) = omega arith in z))))

    listed_complete : (old : List ColumnRule) → AddsRule old one x None [] →
        AddsRule one two x (Some Text) (x ∷ []) → (o : Option Token) (cs : List ℕ) →
        IsContentRule g x (mixed ys) o cs → Has new x o cs
    listed_complete old a b o cs (inl (c, d)) = has_as new x x o None cs [] refl c d (l.grow.keeps x None [] (b.grow.keeps x None [] a.has))
    listed_complete old a b o cs (inr (inl (c, d))) = has_as new x x o (Some Text) cs (x ∷ []) refl c d (l.grow.keeps x (Some Text) (x ∷ []) b.has)
    listed_complete old a b o cs (inr (inr (k, lt, c, d))) =
        has_as new x x o None cs (part_column g (first_part g x + k) ∷ x ∷ []) refl c d (l.listed (first_part g x + k) (omega arith) (omega arith))

    mixed_rules_laid : (old : List ColumnRule) → AddsRule old one x None [] → AddsRule one two x (Some Text) (x ∷ []) → LaysOut g old new x (IsRuleOfContent g x)
    mixed_rules_laid old a b = record {
      sound = λ s. listed_sound
          (sound_more g one two x (Some Text) (x ∷ []) (of_content x (mixed ys) at refl (inr (inl (refl, refl)))) b
          (sound_more g old one x None [] (of_content x (mixed ys) at refl (inl (refl, refl))) a s));
      grow = grow_twice old two new (grow_twice old one two a.grow b.grow) l.grow;
      complete = λ o cs s. listed_complete old a b o cs (its g x (mixed ys) at o cs s);
    }

  pub mixed_laid : (m : PlainModel) (old one two new : List ColumnRule) (first end : ℕ) →
      model_of g x ≡ Some m → content_kind_of m ≡ content.Mixed → first ≡ first_part g x →
      end ≡ first + parts_in_model m →
      AddsRule old one x None [] → AddsRule one two x (Some Text) (x ∷ []) → AddsListed g two new x first end → LaysOut g old new x (IsRuleOfContent g x)
  mixed_laid m old one two new first end at k e f a b l =
      let z = mixed_kind m k in let y = z.1 in
      mixed_rules_laid z.0 (rw y at at) one two new first end e (rw y at f) l old a b

pub if_ok_as : {A E : Type 0} (r : Result A E) (P Q : A → Type 0) → ((a : A) → P a → Q a) → IfOk r P → IfOk r Q
if_ok_as (Ok a) P Q f h = f a h
if_ok_as (Err e) P Q f h = h

-- the content model that a flat one was made of
pub record Made (g : PlainDtd) (x : ℕ) (f : FlatContent) : Type 0 where
  pub model : PlainModel
  pub is_at : model_of g x ≡ Some model
  pub is_kind : content_kind_of model ≡ f.kind
  pub is_first : f.first ≡ first_part g x
  pub is_end : f.end ≡ f.first + parts_in_model model

pub made : (g : PlainDtd) (x : ℕ) (f : FlatContent) →
    slice_get (flat_contents 0 g.models) x ≡ Some f → Made g x f
made g x f e =
    let c = content_at g x f e in
    record {
      model = c.0;
      is_at = c.1;
      is_kind = sym (ap (λ (y : FlatContent). y.kind) c.2);
      is_first = ap (λ (y : FlatContent). y.first) c.2;
      is_end =
          let a = ap (λ (y : FlatContent). y.end) c.2 in
          let b = ap (λ (y : FlatContent). y.first) c.2 in omega arith;
    }

pub unmade : (g : PlainDtd) (x : ℕ) → slice_get (flat_contents 0 g.models) x ≡ None →
    model_of g x ≡ None
unmade g x e = no_content g x e

-- a name without a model has no rules
pub undeclared_laid : (g : PlainDtd) (x : ℕ) (old : List ColumnRule) → model_of g x ≡ None → LaysOut g old old x (IsRuleOfContent g x)
undeclared_laid g x old e = record { sound = λ s. s; grow = grow_none old; complete = λ o cs s. absurd (let z = s.1 in cc) }

pub is_any : (g : PlainDtd) (x : ℕ) (f : FlatContent) → Made g x f → f.kind ≡ content.Any → model_of g x ≡ Some any
is_any g x f m k = let z = any_kind m.model (m.is_kind ∙ k) in rw z at m.is_at

pub is_not_any : (g : PlainDtd) (x : ℕ) (f : FlatContent) → Made g x f → (f.kind ≡ content.Any → ⊥) → model_of g x ≡ Some any → ⊥
is_not_any g x f m not e = not (let z : m.model ≡ any = let a = m.is_at in cc in sym m.is_kind ∙ ap content_kind_of z)
