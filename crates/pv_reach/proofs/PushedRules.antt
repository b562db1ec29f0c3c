-- One more rule in a list.
use Rattle.std.proofs.Common.{◌≡◌, ◌<◌, ◌⊎◌, ℕ, zero, suc, List, [], ◌∷◌, ◌++◌, Option, Contains, get_or, refl, sym, subst, ◌∙◌, arith, inl, inr}
use Rattle.std.proofs.lemmas.List.Elements.{Contains-append_left, Contains-append_right, Contains-append_cases}
use Rattle.pv_model.specs.declared.models.Token.{Token}
use Rattle.pv_columns.specs.declared.rules.ColumnRule.{ColumnRule}
use Rattle.pv_dtd.specs.Plain.{PlainDtd}
use Rattle.pv_reach.specs.Columns.{IsRule, Has}
use Rattle.pv_reach.specs.AddedRules.{AreSoundRules, RulesGrow, AddsRule}

pub has_as : (rules : List ColumnRule) (l k : ℕ) (o u : Option Token) (cs ds : List ℕ) → l ≡ k → o ≡ u → cs ≡ ds → Has rules k u ds → Has rules l o cs
has_as rules l k o u cs ds a b c h = record { rule = h.rule; is_in = h.is_in; is_left = h.is_left ∙ sym a; is_token = h.is_token ∙ sym b; are_columns = h.are_columns ∙ sym c }

pub push_has : (xs : List ColumnRule) (r : ColumnRule) → Has (xs ++ (r ∷ [])) r.left r.token r.columns.items
push_has xs r = record { rule = r; is_in = Contains-append_right xs (r ∷ []) r (0, omega arith, refl); is_left = refl; is_token = refl; are_columns = refl }

pub push_grow : (xs : List ColumnRule) (r : ColumnRule) → RulesGrow xs (xs ++ (r ∷ []))
push_grow xs r = record {
  keeps = λ l o cs h. record { rule = h.rule; is_in = Contains-append_left xs (r ∷ []) h.rule h.is_in; is_left = h.is_left; is_token = h.is_token; are_columns = h.are_columns };
}

only_one : (r s : ColumnRule) (i : ℕ) → i < 1 → get_or (r ∷ []) i s ≡ s → r ≡ s
only_one r s zero lt e = e
only_one r s (suc i) lt e = absurd (omega arith)

pub push_only : (xs : List ColumnRule) (r : ColumnRule) (l : ℕ) (o : Option Token) (cs : List ℕ) → Has (xs ++ (r ∷ [])) l o cs → Has xs l o cs ⊎ ((l ≡ r.left) × (o ≡ r.token) × (cs ≡ r.columns.items))
push_only xs r l o cs h = go (Contains-append_cases xs (r ∷ []) h.rule h.is_in)
  where
    go : (Contains xs h.rule ⊎ Contains (r ∷ []) h.rule) → Has xs l o cs ⊎ ((l ≡ r.left) × (o ≡ r.token) × (cs ≡ r.columns.items))
    go (inl c) = inl record { rule = h.rule; is_in = c; is_left = h.is_left; is_token = h.is_token; are_columns = h.are_columns }
    go (inr c) =
        let e : r ≡ h.rule = only_one r h.rule c.0 c.1 c.2 in
        inr (rw e (sym h.is_left), rw e (sym h.is_token), rw e (sym h.are_columns))

pub sound_more : (g : PlainDtd) (old new : List ColumnRule) (left : ℕ) (token : Option Token)
    (columns : List ℕ) → IsRule g left token columns → AddsRule old new left token columns →
    AreSoundRules g old → AreSoundRules g new
sound_more g old new left token columns rule adds sound = record {
  holds = λ l o cs h. elim (adds.only l o cs h) [ inl q ↦ sound.holds l o cs q | inr q ↦ rw (q.0, q.1, q.2) rule ];
}

pub grow_twice : (a b c : List ColumnRule) → RulesGrow a b → RulesGrow b c → RulesGrow a c
grow_twice a b c f g = record { keeps = λ l o cs h. g.keeps l o cs (f.keeps l o cs h) }

pub grow_none : (a : List ColumnRule) → RulesGrow a a
grow_none a = record { keeps = λ l o cs h. h }

pub added : (old new : List ColumnRule) (r : ColumnRule) (columns : List ℕ) → new ≡ old ++ (r ∷ []) → r.columns.items ≡ columns → AddsRule old new r.left r.token columns
added old new r columns e f =
    let P : List ColumnRule → Type 0 = λ x. AddsRule old x r.left r.token r.columns.items in
    let Q : List ℕ → Type 0 = λ x. AddsRule old new r.left r.token x in
    subst Q f (subst P (sym e) record { has = push_has old r; grow = push_grow old r; only = push_only old r })

pub adds_as : (old new : List ColumnRule) (l k : ℕ) (o : Option Token) (cs ds : List ℕ) → l ≡ k → cs ≡ ds → AddsRule old new l o cs → AddsRule old new k o ds
adds_as old new l k o cs ds e f a =
    let P : ℕ → Type 0 = λ v. AddsRule old new v o cs in
    let Q : List ℕ → Type 0 = λ v. AddsRule old new k o v in
    subst Q f (subst P e a)
