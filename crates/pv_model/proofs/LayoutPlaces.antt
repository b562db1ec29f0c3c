-- The places that a word has reached, and what one more name makes of them.
use Rattle.std.proofs.Common.{◌≡◌, ℕ, ◌≤◌, ◌<◌, Bool, true, false, ◌&&◌, ◌||◌, ◌==◌, inl, inr, List, [], ◌∷◌, ◌++◌, IsTrue, refl, sym, ap, ◌∙◌, arith, if◌then◌else◌}
use Rattle.std.proofs.lemmas.List.{append-nil}
use Rattle.pv_model.specs.Layouts.{PlainLayout, nothing, blank, one, in_order, either, optional, repeated, IsNumbered, places_of, Reach, ends, after, reached, Advances, AreBefore, AreFrom}
use Rattle.pv_model.proofs.LayoutWords.{GoesOn}

-- two lists that join to nothing
pub first_none : (xs ys : List ℕ) → xs ++ ys ≡ [] → xs ≡ []
first_none [] ys e = refl
first_none (x ∷ xs) ys e = absurd cc

pub second_none : (xs ys : List ℕ) → xs ++ ys ≡ [] → ys ≡ []
second_none [] ys e = e
second_none (x ∷ xs) ys e = absurd cc

-- a place that is there or not
place_none : (b : Bool) (k : ℕ) → (if b then k ∷ [] else []) ≡ [] → b ≡ false
place_none true k e = absurd cc
place_none false k e = refl

none_place : (b : Bool) (k : ℕ) → b ≡ false → (if b then k ∷ [] else []) ≡ []
none_place true k e = absurd cc
none_place false k e = refl

-- where nothing is reached, nothing ends and nothing goes on
pub nothing_ends : (g : PlainLayout) (m : Reach g) → reached g m ≡ [] → ends g m ≡ false
nothing_ends nothing m e = refl
nothing_ends blank m e = refl
nothing_ends (one place y) m e = place_none m place e
nothing_ends (in_order middle f s g h) m e =
    let first = nothing_ends g m.0 (first_none (reached g m.0) (reached h m.1) e) in
    let second = nothing_ends h m.1 (second_none (reached g m.0) (reached h m.1) e) in
    rw (first, second)
nothing_ends (either middle g h) m e =
    let first = nothing_ends g m.0 (first_none (reached g m.0) (reached h m.1) e) in
    let second = nothing_ends h m.1 (second_none (reached g m.0) (reached h m.1) e) in
    rw (first, second)
nothing_ends (optional g) m e = nothing_ends g m e
nothing_ends (repeated place g) m e = nothing_ends g m (first_none (reached g m) (if ends g m then place ∷ [] else []) e)

pub nothing_goes_on : (g : PlainLayout) (m : Reach g) (w : List ℕ) → reached g m ≡ [] → GoesOn g m w → ⊥
nothing_goes_on nothing m w e c = c
nothing_goes_on blank m w e c = c
nothing_goes_on (one place y) m w e c = let no = place_none m place e in let yes = c.0 in absurd cc
nothing_goes_on (in_order middle f s g h) m w e c = elim c [
  | inl x ↦ nothing_goes_on g m.0 x.0 (first_none (reached g m.0) (reached h m.1) e) x.3
  | inr x ↦ nothing_goes_on h m.1 w (second_none (reached g m.0) (reached h m.1) e) x
]
nothing_goes_on (either middle g h) m w e c = elim c [
  | inl x ↦ nothing_goes_on g m.0 w (first_none (reached g m.0) (reached h m.1) e) x
  | inr x ↦ nothing_goes_on h m.1 w (second_none (reached g m.0) (reached h m.1) e) x
]
nothing_goes_on (optional g) m w e c = nothing_goes_on g m w e c
nothing_goes_on (repeated place g) m w e c = nothing_goes_on g m c.0 (first_none (reached g m) (if ends g m then place ∷ [] else []) e) c.3

-- and a name that can't begin the particle, or isn't in it, reaches nothing
none_after : (e : Bool) (x y k : ℕ) → (IsTrue e → (if x == y then k ∷ [] else []) ≡ []) → (if e && x == y then k ∷ [] else []) ≡ []
none_after true x y k h = h refl
none_after false x y k h = refl

entered_by : (e f n : Bool) → n ≡ false → IsTrue (n || e && f) → IsTrue e
entered_by true f n q h = refl
entered_by false f true q h = absurd cc
entered_by false f false q h = absurd cc

entered_only : (e n : Bool) → n ≡ false → IsTrue (e || n) → IsTrue e
entered_only true n q h = refl
entered_only false true q h = absurd cc
entered_only false false q h = absurd cc

pub nothing_after : (g : PlainLayout) (e : Bool) (y : ℕ) (m : Reach g) → reached g m ≡ [] → (IsTrue e → places_of g y ≡ []) → reached g (after g e y m) ≡ []
nothing_after nothing e y m r c = refl
nothing_after blank e y m r c = refl
nothing_after (one place x) e y m r c = none_after e x y place c
nothing_after (in_order middle f s g h) e y m r c =
    let none = first_none (reached g m.0) (reached h m.1) r in
    let first = nothing_after g e y m.0 none (λ t. first_none (places_of g y) (places_of h y) (c t)) in
    let second = nothing_after h (ends g m.0 || e && f) y m.1 (second_none (reached g m.0) (reached h m.1) r)
    (λ t. second_none (places_of g y) (places_of h y) (c (entered_by e f (ends g m.0) (nothing_ends g m.0 none) t))) in
    rw (first, second)
nothing_after (either middle g h) e y m r c =
    let first = nothing_after g e y m.0 (first_none (reached g m.0) (reached h m.1) r) (λ t. first_none (places_of g y) (places_of h y) (c t)) in
    let second = nothing_after h e y m.1 (second_none (reached g m.0) (reached h m.1) r) (λ t. second_none (places_of g y) (places_of h y) (c t)) in
    rw (first, second)
nothing_after (optional g) e y m r c = nothing_after g e y m r c
nothing_after (repeated place g) e y m r c =
    let none = first_none (reached g m) (if ends g m then place ∷ [] else []) r in
    let inner = nothing_after g (e || ends g m) y m none (λ t. c (entered_only e (ends g m) (nothing_ends g m none) t)) in
    let no_end = none_place (ends g (after g (e || ends g m) y m)) place (nothing_ends g (after g (e || ends g m) y m) inner) in
    rw (inner, no_end)

pub Advances-nothing : (g : PlainLayout) (e : Bool) (y : ℕ) (m : Reach g) (old : List ℕ) → reached g m ≡ [] → (IsTrue e → places_of g y ≡ []) → Advances g e y m old old false false
Advances-nothing g e y m old r c =
    let none = nothing_after g e y m r c in
    record {
      before = sym (nothing_ends g m r);
      now = sym (nothing_ends g (after g e y m) none);
      next = sym (ap (λ l. old ++ l) none ∙ append-nil old);
    }

-- before the first name
abbrev pub unreached : (g : PlainLayout) → Reach g
unreached nothing = tt
unreached blank = tt
unreached (one place y) = false
unreached (in_order middle f s g h) = (unreached g, unreached h)
unreached (either middle g h) = (unreached g, unreached h)
unreached (optional g) = unreached g
unreached (repeated place g) = unreached g

pub reached-unreached : (g : PlainLayout) → reached g (unreached g) ≡ []
reached-unreached nothing = refl
reached-unreached blank = refl
reached-unreached (one place y) = refl
reached-unreached (in_order middle f s g h) = rw (reached-unreached g, reached-unreached h)
reached-unreached (either middle g h) = rw (reached-unreached g, reached-unreached h)
reached-unreached (optional g) = reached-unreached g
reached-unreached (repeated place g) =
    let none = none_place (ends g (unreached g)) place (nothing_ends g (unreached g) (reached-unreached g)) in
    rw (reached-unreached g, none)

-- places in order
pub IsNumbered-≤ : (g : PlainLayout) (a b : ℕ) → IsNumbered g a b → a ≤ b
IsNumbered-≤ nothing a b n = omega arith
IsNumbered-≤ blank a b n = omega arith
IsNumbered-≤ (one place y) a b n = omega arith
IsNumbered-≤ (in_order middle f s g h) a b n = omega (arith, IsNumbered-≤ g a middle n.2, IsNumbered-≤ h middle b n.3)
IsNumbered-≤ (either middle g h) a b n = omega (arith, IsNumbered-≤ g a middle n.0, IsNumbered-≤ h middle b n.1)
IsNumbered-≤ (optional g) a b n = IsNumbered-≤ g a b n
IsNumbered-≤ (repeated place g) a b n = omega (arith, IsNumbered-≤ g a place n.0, n.1)

AreBefore-more : (a b : ℕ) (ks : List ℕ) → a ≤ b → AreBefore a ks → AreBefore b ks
AreBefore-more a b [] l h = tt
AreBefore-more a b (k ∷ ks) l h = (omega (arith, h.0), AreBefore-more a b ks l h.1)

AreFrom-less : (a b : ℕ) (ks : List ℕ) → a ≤ b → AreFrom b ks → AreFrom a ks
AreFrom-less a b [] l h = tt
AreFrom-less a b (k ∷ ks) l h = (omega (arith, h.0), AreFrom-less a b ks l h.1)

AreBefore-append : (b : ℕ) (xs ys : List ℕ) → AreBefore b xs → AreBefore b ys → AreBefore b (xs ++ ys)
AreBefore-append b [] ys h k = k
AreBefore-append b (x ∷ xs) ys h k = (h.0, AreBefore-append b xs ys h.1 k)

AreFrom-append : (a : ℕ) (xs ys : List ℕ) → AreFrom a xs → AreFrom a ys → AreFrom a (xs ++ ys)
AreFrom-append a [] ys h k = k
AreFrom-append a (x ∷ xs) ys h k = (h.0, AreFrom-append a xs ys h.1 k)

AreBefore-place : (t : Bool) (k b : ℕ) → k < b → AreBefore b (if t then k ∷ [] else [])
AreBefore-place true k b l = (l, tt)
AreBefore-place false k b l = tt

pub AreFrom-place : (t : Bool) (k a : ℕ) → a ≤ k → AreFrom a (if t then k ∷ [] else [])
AreFrom-place true k a l = (l, tt)
AreFrom-place false k a l = tt

pub reached-before : (g : PlainLayout) (a b : ℕ) → IsNumbered g a b → (m : Reach g) → AreBefore b (reached g m)
reached-before nothing a b n m = tt
reached-before blank a b n m = tt
reached-before (one place y) a b n m = AreBefore-place m place b (omega arith)
reached-before (in_order middle f s g h) a b n m =
    AreBefore-append b (reached g m.0) (reached h m.1) (AreBefore-more middle b (reached g m.0) (IsNumbered-≤ h middle b n.3) (reached-before g a middle n.2 m.0))
    (reached-before h middle b n.3 m.1)
reached-before (either middle g h) a b n m =
    AreBefore-append b (reached g m.0) (reached h m.1) (AreBefore-more middle b (reached g m.0) (IsNumbered-≤ h middle b n.1) (reached-before g a middle n.0 m.0))
    (reached-before h middle b n.1 m.1)
reached-before (optional g) a b n m = reached-before g a b n m
reached-before (repeated place g) a b n m =
    AreBefore-append b (reached g m) (if ends g m then place ∷ [] else [])
    (AreBefore-more place b (reached g m) (omega (arith, n.1)) (reached-before g a place n.0 m)) (AreBefore-place (ends g m) place b (omega (arith, n.1)))

pub reached-from : (g : PlainLayout) (a b : ℕ) → IsNumbered g a b → (m : Reach g) → AreFrom a (reached g m)
reached-from nothing a b n m = tt
reached-from blank a b n m = tt
reached-from (one place y) a b n m = AreFrom-place m place a (omega arith)
reached-from (in_order middle f s g h) a b n m =
    AreFrom-append a (reached g m.0) (reached h m.1) (reached-from g a middle n.2 m.0)
    (AreFrom-less a middle (reached h m.1) (IsNumbered-≤ g a middle n.2) (reached-from h middle b n.3 m.1))
reached-from (either middle g h) a b n m =
    AreFrom-append a (reached g m.0) (reached h m.1) (reached-from g a middle n.0 m.0)
    (AreFrom-less a middle (reached h m.1) (IsNumbered-≤ g a middle n.0) (reached-from h middle b n.1 m.1))
reached-from (optional g) a b n m = reached-from g a b n m
reached-from (repeated place g) a b n m =
    AreFrom-append a (reached g m) (if ends g m then place ∷ [] else []) (reached-from g a place n.0 m)
    (AreFrom-place (ends g m) place a (IsNumbered-≤ g a place n.0))

pub places_of-before : (g : PlainLayout) (a b : ℕ) → IsNumbered g a b → (y : ℕ) → AreBefore b (places_of g y)
places_of-before nothing a b n y = tt
places_of-before blank a b n y = tt
places_of-before (one place x) a b n y = AreBefore-place (x == y) place b (omega arith)
places_of-before (in_order middle f s g h) a b n y =
    AreBefore-append b (places_of g y) (places_of h y) (AreBefore-more middle b (places_of g y) (IsNumbered-≤ h middle b n.3) (places_of-before g a middle n.2 y))
    (places_of-before h middle b n.3 y)
places_of-before (either middle g h) a b n y =
    AreBefore-append b (places_of g y) (places_of h y) (AreBefore-more middle b (places_of g y) (IsNumbered-≤ h middle b n.1) (places_of-before g a middle n.0 y))
    (places_of-before h middle b n.1 y)
places_of-before (optional g) a b n y = places_of-before g a b n y
places_of-before (repeated place g) a b n y = AreBefore-more place b (places_of g y) (omega (arith, n.1)) (places_of-before g a place n.0 y)

pub places_of-from : (g : PlainLayout) (a b : ℕ) → IsNumbered g a b → (y : ℕ) → AreFrom a (places_of g y)
places_of-from nothing a b n y = tt
places_of-from blank a b n y = tt
places_of-from (one place x) a b n y = AreFrom-place (x == y) place a (omega arith)
places_of-from (in_order middle f s g h) a b n y =
    AreFrom-append a (places_of g y) (places_of h y) (places_of-from g a middle n.2 y)
    (AreFrom-less a middle (places_of h y) (IsNumbered-≤ g a middle n.2) (places_of-from h middle b n.3 y))
places_of-from (either middle g h) a b n y =
    AreFrom-append a (places_of g y) (places_of h y) (places_of-from g a middle n.0 y)
    (AreFrom-less a middle (places_of h y) (IsNumbered-≤ g a middle n.0) (places_of-from h middle b n.1 y))
places_of-from (optional g) a b n y = places_of-from g a b n y
places_of-from (repeated place g) a b n y = places_of-from g a place n.0 y
