-- One more name, in each form of a laid-out particle.
use Rattle.std.proofs.Common.{◌≡◌, ℕ, Bool, true, false, not, ◌&&◌, ◌||◌, ◌==◌, List, [], ◌∷◌, ◌++◌, length, IsTrue, refl, sym, ap, ◌∙◌, subst, arith, append_assoc, eqb-true, if◌then◌else◌}
use Rattle.std.proofs.Common.{Err, IfOk, Ok, OnOk, Result}
use Rattle.pv_model.specs.Layouts.{PlainLayout, one, in_order, either, optional, repeated}
use Rattle.pv_model.specs.Layouts.{places_of, ends, reached, Advances, AdvancesFrom, IsSplit}
use Rattle.pv_model.proofs.LayoutPlaces.{Advances-nothing, reached-before, reached-from, places_of-before, places_of-from, AreFrom-place}

-- some list isn't empty
abbrev pub has_some : List ℕ → Bool
has_some ks = not (length ks == 0)

has_some-place : (b : Bool) (k : ℕ) → has_some (if b then k ∷ [] else []) ≡ b
has_some-place true k = refl
has_some-place false k = refl

pub AdvancesFrom-passed : (g : PlainLayout) (e : Bool) (y : ℕ) (before called old : List ℕ) (was is : Bool) → before ≡ [] → (IsTrue e → called ≡ []) → was ≡ false → is ≡ false →
    AdvancesFrom g e y before called old old was is
AdvancesFrom-passed g e y before called old was is r c w i = record {
  from = λ a b m n q p. rw (w, i) (Advances-nothing g e y m old (sym q ∙ r) (λ t. sym p ∙ c t));
}

pub AdvancesFrom-one : (place x : ℕ) (e : Bool) (y : ℕ) (before called old new : List ℕ) (ends was is : Bool) → was ≡ has_some before → is ≡ ends →
    ends ≡ (e && x == y) → new ≡ old ++ (if ends then place ∷ [] else []) → AdvancesFrom (one place x) e y before called old new was is
AdvancesFrom-one place x e y before called old new ends was is w same i next = record {
  from = λ a b m n q p. record {
    before = w ∙ ap has_some q ∙ has_some-place m place;
    now = same ∙ i;
    next = next ∙ ap (λ t. old ++ (if t then place ∷ [] else [])) i;
  };
}

module _ (middle : ℕ) (g h : PlainLayout) (e : Bool) (y : ℕ) (before called before1 before2 called1 called2 old mid new : List ℕ) (w1 i1 w2 i2 w i : Bool)
    (split : IsSplit middle before before1 before2) (split2 : IsSplit middle called called1 called2) (first : AdvancesFrom g e y before1 called1 old mid w1 i1) where
  pub AdvancesFrom-in_order : (f s e2 : Bool) → e2 ≡ (w1 || e && f) → AdvancesFrom h e2 y before2 called2 mid new w2 i2 → w ≡ (w2 || w1 && s) → i ≡ (i2 || i1 && s) →
      AdvancesFrom (in_order middle f s g h) e y before called old new w i
  AdvancesFrom-in_order f s e2 enters second was is = record {
    from = λ a b m n q p.
        let r = split (reached g m.0) (reached h m.1) q (reached-before g a middle n.2 m.0) (reached-from h middle b n.3 m.1) in
        let c = split2 (places_of g y) (places_of h y) p (places_of-before g a middle n.2 y) (places_of-from h middle b n.3 y) in
        let one = first.from a middle m.0 n.2 r.0 c.0 in
        let enters2 : e2 ≡ (ends g m.0 || e && f) = enters ∙ ap (λ t. t || e && f) one.before in
        let P : Bool → Type 0 = λ t. Advances h t y m.1 mid new w2 i2 in
        let two = subst P enters2 (second.from middle b m.1 n.3 r.1 c.1) in
        record {
          before = was ∙ rw (two.before, one.before);
          now = is ∙ rw (two.now, one.now);
          next = two.next ∙ rw (one.next, append_assoc);
        };
  }

  pub AdvancesFrom-either : AdvancesFrom h e y before2 called2 mid new w2 i2 → w ≡ (w1 || w2) → i ≡ (i1 || i2) → AdvancesFrom (either middle g h) e y before called old new w i
  AdvancesFrom-either second was is = record {
    from = λ a b m n q p.
        let r = split (reached g m.0) (reached h m.1) q (reached-before g a middle n.0 m.0) (reached-from h middle b n.1 m.1) in
        let c = split2 (places_of g y) (places_of h y) p (places_of-before g a middle n.0 y) (places_of-from h middle b n.1 y) in
        let one = first.from a middle m.0 n.0 r.0 c.0 in
        let two = second.from middle b m.1 n.1 r.1 c.1 in
        record {
          before = was ∙ rw (two.before, one.before);
          now = is ∙ rw (two.now, one.now);
          next = two.next ∙ rw (one.next, append_assoc);
        };
  }

pub AdvancesFrom-optional : (g : PlainLayout) (e : Bool) (y : ℕ) (before called old new : List ℕ) (was is : Bool) → AdvancesFrom g e y before called old new was is →
    AdvancesFrom (optional g) e y before called old new was is
AdvancesFrom-optional g e y before called old new was is h = record {
  from = λ a b m n q p.
      let one = h.from a b m n q p in
      record { before = one.before; now = one.now; next = one.next };
}

pub AdvancesFrom-repeated : (place : ℕ) (g : PlainLayout) (e : Bool) (y : ℕ) (before called inner own old mid new : List ℕ) (w1 i1 w was is e2 : Bool) → IsSplit place before inner own →
    w ≡ was → was ≡ has_some own → e2 ≡ (e || was) → AdvancesFrom g e2 y inner called old mid w1 i1 → new ≡ mid ++ (if i1 then place ∷ [] else []) → is ≡ i1 →
    AdvancesFrom (repeated place g) e y before called old new w is
AdvancesFrom-repeated place g e y before called inner own old mid new w1 i1 w was is e2 split same some enters round next ended = record {
  from = λ a b m n q p.
      let r = split (reached g m) (if ends g m then place ∷ [] else []) q (reached-before g a place n.0 m) (AreFrom-place (ends g m) place place (omega arith)) in
      let was2 : was ≡ ends g m = some ∙ ap has_some r.1 ∙ has_some-place (ends g m) place in
      let enters2 : e2 ≡ (e || ends g m) = enters ∙ ap (λ t. e || t) was2 in
      let P : Bool → Type 0 = λ t. Advances g t y m old mid w1 i1 in
      let one = subst P enters2 (round.from a place m n.0 r.0 p) in
      record {
        before = same ∙ was2;
        now = ended ∙ one.now;
        next = next ∙ rw (one.now, one.next, append_assoc);
      };
}

-- a list without elements
pub none_where : (ks : List ℕ) (b : Bool) → b ≡ (length ks == 0) → b ≡ true → ks ≡ []
none_where [] b e h = refl
none_where (k ∷ ks) b e h = absurd (omega (arith, eqb-true (length (k ∷ ks)) 0 (sym e ∙ h)))

-- what two clauses say of a result
pub ok_by : {A B : Type 0} (r : Result A B) (P R : A → Type 0) (Q : Type 0) → IfOk r P → OnOk r Q →
    ((x : A) → P x → Q → R x) → IfOk r R
ok_by (Ok x) P R Q h q f = f x h q
ok_by (Err e) P R Q h q f = tt
