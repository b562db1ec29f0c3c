-- The rules of names, one after another, and of what ANY allows.
use Rattle.std.proofs.Common.{Contains, List, None, Option, Some, [], ap, arith, get_or, inl, inr, length, refl, slice_get, subst, suc, sym, take, zero, ℕ, ◌++◌, ◌+◌, ◌-◌, ◌<◌, ◌∷◌, ◌≡◌, ◌≤◌, ◌⊎◌}
use Rattle.std.proofs.lemmas.Bool.{cases_lt}
use Rattle.std.proofs.lemmas.List.{take_more}
use Rattle.std.proofs.lemmas.List.Elements.{Contains-append_cases, Contains-append_left, Contains-append_right}
use Rattle.std.proofs.lemmas.Option.{slice_get_within}
use Rattle.pv_model.specs.Plain.{PlainModel, any}
use Rattle.pv_model.specs.declared.models.Token.{Token}
use Rattle.pv_model.specs.declared.models.Token.TheVariants.{Text}
use Rattle.pv_dtd.specs.Plain.{IsDeclared, PlainDtd, declared, model_of, parts_in_model, parts_in_models}
use Rattle.pv_rules.specs.Numbering.{first_part, parts_before}
use Rattle.pv_reach.proofs.FormedDtds.{IsFormedDtd}
use Rattle.pv_reach.specs.AddedRules.{AddsRule, AddsDeclared, AreSoundRules, IsDeclaredRule}
use Rattle.pv_reach.specs.AddedRules.{IsRuleOfAny, IsRuleOfContent, IsRuleOfPart, IsWithinWidth}
use Rattle.pv_reach.specs.AddedRules.{LaysOut, LaysOutNames, LaysOutParts}
use Rattle.pv_reach.specs.Columns.{AreRules, Has, IsAnyRule, IsRule, any_column, of_any, of_content, of_part, part_column, token_of}
use Rattle.pv_columns.specs.declared.rules.ColumnRule.{ColumnRule}
use Rattle.pv_reach.proofs.PushedRules.{adds_as, grow_none, grow_twice, has_as, sound_more}
use Rattle.pv_reach.proofs.ColumnsInRange.{part_number}

pub parts_none : (g : PlainDtd) (old : List ColumnRule) (end : ℕ) → LaysOutParts g old old end end
parts_none g old end = record { sound = λ s. s; grow = grow_none old; parts = λ q a b. absurd (omega arith) }

pub parts_more : (g : PlainDtd) (old now new : List ColumnRule) (n m end : ℕ) → m ≡ n + 1 →
    LaysOutParts g old now m end → LaysOut g now new (part_column g n) (IsRuleOfPart g n) →
    LaysOutParts g old new n end
parts_more g old now new n m end e before l = record {
  sound = λ s. l.sound (before.sound s);
  grow = grow_twice old now new before.grow l.grow;
  parts = λ q a b o cs r. elim (cases_lt n q) [
    | inl lt ↦ l.grow.keeps (part_column g q) o cs (before.parts q (omega arith) b o cs r)
    | inr ge ↦
        let z : n ≡ q = omega arith in
        let P : ℕ → Type 0 = λ v. IsRuleOfPart g v o cs → Has new (part_column g v) o cs in subst P z (l.complete o cs) r
  ];
}

pub name_none : (g : PlainDtd) (old : List ColumnRule) (name : ℕ) → model_of g name ≡ None → LaysOutNames g old old (λ x. x ≡ name)
name_none g old name e = record {
  sound = λ s. s;
  grow = grow_none old;
  contents = λ x i o cs r. absurd (let a = r.1 in let b = rw i at a in cc);
  parts = λ x q i w o cs r. absurd (let a = w.1 in let b = rw i at a in cc);
}

pub name_laid : (g : PlainDtd) (old mid new : List ColumnRule) (name first end : ℕ) (m : PlainModel) → model_of g name ≡ Some m → first ≡ first_part g name → end ≡ first + parts_in_model m →
    LaysOutParts g old mid first end → LaysOut g mid new name (IsRuleOfContent g name) → LaysOutNames g old new (λ x. x ≡ name)
name_laid g old mid new name first end m at e f p l = record {
  sound = λ s. l.sound (p.sound s);
  grow = grow_twice old mid new p.grow l.grow;
  contents = λ x i o cs r. let P : ℕ → Type 0 = λ v. IsRuleOfContent g v o cs → Has new v o cs in subst P (sym i) (l.complete o cs) r;
  parts = λ x q i w o cs r. l.grow.keeps (part_column g q) o cs (let P : ℕ → Type 0 = λ v. IsWithinWidth g v q in here q (subst P i w) o cs r);
}
  where
    here : (q : ℕ) → IsWithinWidth g name q → (o : Option Token) (cs : List ℕ) → IsRuleOfPart g q o cs → Has mid (part_column g q) o cs
    here q (n, h, a, b) o cs r =
        let z : n ≡ m = cc in let y = ap parts_in_model z in
        p.parts q (omega arith) (omega arith) o cs r

pub names_none : (g : PlainDtd) (old : List ColumnRule) (These : ℕ → Type 0) → ((x : ℕ) → These x → ⊥) → LaysOutNames g old old These
names_none g old These never = record { sound = λ s. s; grow = grow_none old; contents = λ x t. absurd (never x t); parts = λ x q t. absurd (never x t) }

pub names_more : (g : PlainDtd) (old now new : List ColumnRule) (These Those : ℕ → Type 0) (name : ℕ) → ((x : ℕ) → Those x → These x ⊎ (x ≡ name)) → LaysOutNames g old now These →
    LaysOutNames g now new (λ x. x ≡ name) → LaysOutNames g old new Those
names_more g old now new These Those name either before l = record {
  sound = λ s. l.sound (before.sound s);
  grow = grow_twice old now new before.grow l.grow;
  contents = λ x t o cs r. elim (either x t) [ inl u ↦ l.grow.keeps x o cs (before.contents x u o cs r) | inr e ↦ l.contents x e o cs r ];
  parts = λ x q t w o cs r. elim (either x t) [ inl u ↦ l.grow.keeps (part_column g q) o cs (before.parts x q u w o cs r) | inr e ↦ l.parts x q e w o cs r ];
}

pub declared_none : (g : PlainDtd) (old : List ColumnRule) → AddsDeclared g old old 0
declared_none g old = record { grow = grow_none old; only = λ l o cs h. inl h; kept = λ y lt. absurd (omega arith); missing = λ y lt. absurd (omega arith) }

module _ (g : PlainDtd) (old now mid new : List ColumnRule) (n c : ℕ) (is : c ≡ any_column g) (before : AddsDeclared g old now n) where
  wider : (l : ℕ) (o : Option Token) (cs : List ℕ) → IsDeclaredRule g n l o cs → IsDeclaredRule g (n + 1) l o cs
  wider l o cs (y, a, b, d) = (y, omega arith, b, d)

  pub declared_more : AddsRule now mid c (Some (token_of n)) (c ∷ []) → AddsRule mid new c None (n ∷ c ∷ []) → AddsDeclared g old new (n + 1)
  declared_more a b =
      go (adds_as now mid c (any_column g) (Some (token_of n)) (c ∷ []) (any_column g ∷ []) is (ap (λ v. v ∷ []) is) a)
      (adds_as mid new c (any_column g) None (n ∷ c ∷ []) (n ∷ any_column g ∷ []) is (ap (λ v. n ∷ v ∷ []) is) b)
    where
      go : AddsRule now mid (any_column g) (Some (token_of n)) (any_column g ∷ []) → AddsRule mid new (any_column g) None (n ∷ any_column g ∷ []) → AddsDeclared g old new (n + 1)
      go a b = record {
        grow = grow_twice old mid new (grow_twice old now mid before.grow a.grow) b.grow;
        only = λ l o cs h. elim (b.only l o cs h) [
          | inr r ↦ inr (n, omega arith, r.0, inr (r.1, r.2))
          | inl k ↦ elim (a.only l o cs k) [
            | inr r ↦ inr (n, omega arith, r.0, inl (r.1, r.2))
            | inl j ↦ elim (before.only l o cs j) [ inl u ↦ inl u | inr u ↦ inr (wider l o cs u) ]
          ]
        ];
        kept = λ y lt. elim (cases_lt y n) [
          | inl less ↦ b.grow.keeps (any_column g) (Some (token_of y)) (any_column g ∷ []) (a.grow.keeps (any_column g) (Some (token_of y)) (any_column g ∷ []) (before.kept y less))
          | inr ge ↦
              let z : n ≡ y = omega arith in
              let P : ℕ → Type 0 = λ v. Has new (any_column g) (Some (token_of v)) (any_column g ∷ []) in
              subst P z (b.grow.keeps (any_column g) (Some (token_of n)) (any_column g ∷ []) a.has)
        ];
        missing = λ y lt. elim (cases_lt y n) [
          | inl less ↦ b.grow.keeps (any_column g) None (y ∷ any_column g ∷ []) (a.grow.keeps (any_column g) None (y ∷ any_column g ∷ []) (before.missing y less))
          | inr ge ↦ let z : n ≡ y = omega arith in let P : ℕ → Type 0 = λ v. Has new (any_column g) None (v ∷ any_column g ∷ []) in subst P z b.has
        ];
      }

module _ (g : PlainDtd) (x : ℕ) (at : model_of g x ≡ Some any) (one two new : List ColumnRule) (l : AddsDeclared g two new (declared g)) where
  declared_sound : AreSoundRules g two → AreSoundRules g new
  declared_sound s = record { holds = λ k o cs h. elim (l.only k o cs h) [ inl u ↦ s.holds k o cs u | inr u ↦ of_any x at u.2 (inr (inr (u.0, u.1, u.3))) ] }

  any_complete : (old : List ColumnRule) → AddsRule old one (any_column g) None [] →
      AddsRule one two (any_column g) (Some Text) (any_column g ∷ []) →
      (o : Option Token) (cs : List ℕ) → IsAnyRule g o cs → Has new (any_column g) o cs
  any_complete old a b o cs (inl (c, d)) = has_as new (any_column g) (any_column g) o None cs [] refl c d (l.grow.keeps (any_column g) None [] (b.grow.keeps (any_column g) None [] a.has))
  any_complete old a b o cs (inr (inl (c, d))) =
      has_as new (any_column g) (any_column g) o (Some Text) cs (any_column g ∷ []) refl c d (l.grow.keeps (any_column g) (Some Text) (any_column g ∷ []) b.has)
  any_complete old a b o cs (inr (inr (y, k, inl (c, d)))) = has_as new (any_column g) (any_column g) o (Some (token_of y)) cs (any_column g ∷ []) refl c d (l.kept y k)
  any_complete old a b o cs (inr (inr (y, k, inr (c, d)))) = has_as new (any_column g) (any_column g) o None cs (y ∷ any_column g ∷ []) refl c d (l.missing y k)

  pub any_laid : (old : List ColumnRule) (c : ℕ) → c ≡ any_column g → AddsRule old one c None [] → AddsRule one two c (Some Text) (c ∷ []) → LaysOut g old new (any_column g) (IsRuleOfAny g)
  any_laid old c is a b =
      go (adds_as old one c (any_column g) None [] [] is refl a) (adds_as one two c (any_column g) (Some Text) (c ∷ []) (any_column g ∷ []) is (ap (λ v. v ∷ []) is) b)
    where
      go : AddsRule old one (any_column g) None [] → AddsRule one two (any_column g) (Some Text) (any_column g ∷ []) → LaysOut g old new (any_column g) (IsRuleOfAny g)
      go a b = record {
        sound = λ s. declared_sound
            (sound_more g one two (any_column g) (Some Text) (any_column g ∷ []) (of_any x at refl (inr (inl (refl, refl)))) b
            (sound_more g old one (any_column g) None [] (of_any x at refl (inl (refl, refl))) a s));
        grow = grow_twice old two new (grow_twice old one two a.grow b.grow) l.grow;
        complete = λ o cs s. any_complete old a b o cs s.2;
      }

-- each part stands within a name's content
in_models : (ms : List PlainModel) (q : ℕ) → q < parts_in_models ms → (x : ℕ) × (m : PlainModel) × (slice_get ms x ≡ Some m) × (parts_before ms x ≤ q) × (q < parts_before ms x + parts_in_model m)
in_models [] q lt = absurd (omega arith)
in_models (m ∷ ms) q lt = elim (cases_lt q (parts_in_model m)) [
  | inl less ↦ (0, m, refl, omega arith, omega arith)
  | inr ge ↦ (let r = in_models ms (q - parts_in_model m) (omega arith) in (suc r.0, r.1, r.2, (let a = r.3 in omega arith), (let a = r.4 in omega arith)))
]

-- all declared names, and any content where some name has it
pub all_laid : (g : PlainDtd) (rules : List ColumnRule) → IsFormedDtd g → AreSoundRules g rules →
    ((x : ℕ) → IsDeclared g x → (o : Option Token) (cs : List ℕ) → IsRuleOfContent g x o cs →
    Has rules x o cs) →
    ((x q : ℕ) → IsDeclared g x → IsWithinWidth g x q → (o : Option Token) (cs : List ℕ) → IsRuleOfPart g q o cs → Has rules (part_column g q) o cs) →
    ((o : Option Token) (cs : List ℕ) → IsRuleOfAny g o cs → Has rules (any_column g) o cs) → AreRules g rules
all_laid g rules formed sound contents parts anys = record {
  sound = λ r con. sound.holds r.left r.token r.columns.items record { rule = r; is_in = con; is_left = refl; is_token = refl; are_columns = refl };
  complete = complete;
}
  where
    complete : (l : ℕ) (o : Option Token) (cs : List ℕ) → IsRule g l o cs → Has rules l o cs
    complete l o cs (of_content x m at e rule) = rw e (contents x (slice_get_within g.models x m at) o cs (m, at, rule))
    complete l o cs (of_part q p at e rule) =
        let w = in_models g.models q (part_number g formed q p at) in
        rw e (parts w.0 q (slice_get_within g.models w.0 w.1 w.2) (w.1, w.2, w.3, w.4) o cs (p, at, rule))
    complete l o cs (of_any x at e rule) = rw e (anys o cs (x, at, rule))

-- without ANY there is nothing to lay out
pub no_any_laid : (g : PlainDtd) (old : List ColumnRule) → ((x : ℕ) → model_of g x ≡ Some any → ⊥) → LaysOut g old old (any_column g) (IsRuleOfAny g)
no_any_laid g old never = record { sound = λ s. s; grow = grow_none old; complete = λ o cs s. absurd (never s.0 s.1) }

-- one more name of a list
pub either_name : (names : List ℕ) (i : ℕ) → i < length names → (x : ℕ) → Contains (take (i + 1) names) x → Contains (take i names) x ⊎ (x ≡ get_or names i 0)
either_name names i lt x con =
    let P : List ℕ → Type 0 = λ v. Contains v x in
    elim (Contains-append_cases (take i names) (get_or names i 0 ∷ []) x (subst P (take_more names i 0 lt) con)) [ inl c ↦ inl c | inr c ↦ inr (alone (get_or names i 0) x c) ]
  where
    same : (y z : ℕ) (k : ℕ) → k < 1 → get_or (y ∷ []) k z ≡ z → z ≡ y
    same y z zero less e = sym e
    same y z (suc k) less e = absurd (omega arith)

    alone : (y z : ℕ) → Contains (y ∷ []) z → z ≡ y
    alone y z c = same y z c.0 c.1 c.2

pub one_more_name : (old new : List ℕ) (n : ℕ) → new ≡ old ++ (n ∷ []) → ((x : ℕ) → x < n → Contains old x) → (x : ℕ) → x < n + 1 → Contains new x
one_more_name old new n e below x lt = rw e (elim (cases_lt x n) [
  | inl less ↦ Contains-append_left old (n ∷ []) x (below x less)
  | inr ge ↦ (let z : x ≡ n = omega arith in Contains-append_right old (n ∷ []) x (0, omega arith, sym z))
])

pub laid_names : (g : PlainDtd) (old mid new : List ColumnRule) → old ≡ [] → IsFormedDtd g → LaysOutNames g old mid (IsDeclared g) →
    LaysOut g mid new (any_column g) (IsRuleOfAny g) → AreRules g new
laid_names g old mid new e formed l a =
    all_laid g new formed (a.sound (l.sound (rw e record { holds = λ k o cs h. absurd (nothing k o cs h) })))
    (λ x d o cs r. a.grow.keeps x o cs (l.contents x d o cs r))
    (λ x q d w o cs r. a.grow.keeps (part_column g q) o cs (l.parts x q d w o cs r))
    a.complete
  where
    nothing : (k : ℕ) (o : Option Token) (cs : List ℕ) → Has [] k o cs → ⊥
    nothing k o cs h = let c = h.is_in.1 in omega arith
