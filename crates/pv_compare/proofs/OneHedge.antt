-- Events with texts cut into bytes are those of one hedge only.
use Rattle.std.proofs.Common.{List, [], append_assoc, ap, refl, subst, sym, map, ℕ, ◌++◌, ◌∙◌, ◌∷◌, ◌≡◌, append-nil}
use Rattle.std.proofs.lemmas.List.{map-append}
use Rattle.pv_chars.specs.Units.{AllUnits, IsUnit, units_in}
use Rattle.pv_dtd.specs.Hedge.{Hedge, Leaf, cdata, data_unit, done, elem, leaf, misc, white}
use Rattle.pv_flat.specs.Plain.{PlainEvent, begin_element, cdata_here, end_element, misc_here, text_here}
use Rattle.pv_chars.specs.Laws.{UnitsAreDetermined}
use Rattle.pv_chars.specs.Texts.{joined}
use Rattle.pv_tree.specs.View.{spread, unit_leaf}
use Rattle.pv_compare.specs.LeftOut.{bytewise}
use Rattle.pv_compare.proofs.LeftOutHedges.{leaf_event, shown}

pub bytewise-append : (es fs : List PlainEvent) → bytewise (es ++ fs) ≡ bytewise es ++ bytewise fs
bytewise-append [] fs = refl
bytewise-append (begin_element x t ∷ es) fs = ap (λ l. begin_element x t ∷ l) (bytewise-append es fs)
bytewise-append (end_element ∷ es) fs = ap (λ l. end_element ∷ l) (bytewise-append es fs)
bytewise-append (text_here b ∷ es) fs = ap (λ l. map (λ c. text_here (c ∷ [])) b ++ l) (bytewise-append es fs) ∙ sym (append_assoc (map (λ c. text_here (c ∷ [])) b) (bytewise es) (bytewise fs))
bytewise-append (cdata_here b ∷ es) fs = ap (λ l. cdata_here b ∷ l) (bytewise-append es fs)
bytewise-append (misc_here b ∷ es) fs = ap (λ l. misc_here b ∷ l) (bytewise-append es fs)

-- a unit stands as what it is
abbrev pub IsUnitLeaf : Leaf → Type 0
IsUnitLeaf (white u) = IsUnit u × (unit_leaf u ≡ white u)
IsUnitLeaf (data_unit u) = IsUnit u × (unit_leaf u ≡ data_unit u)
IsUnitLeaf (cdata b) = Unit {0}
IsUnitLeaf (misc b) = Unit {0}

abbrev pub HasUnitLeaves : Hedge → Type 0
HasUnitLeaves done = Unit {0}
HasUnitLeaves (leaf l h) = IsUnitLeaf l × HasUnitLeaves h
HasUnitLeaves (elem x t k h) = HasUnitLeaves k × HasUnitLeaves h

-- the bytes as texts
abbrev pub texts : List ℕ → List PlainEvent
texts bytes = map (λ b. text_here (b ∷ [])) bytes

-- no text stands at the front
abbrev NoText : List PlainEvent → Type 0
NoText [] = Unit {0}
NoText (begin_element x t ∷ es) = Unit {0}
NoText (end_element ∷ es) = Unit {0}
NoText (text_here b ∷ es) = ⊥
NoText (cdata_here b ∷ es) = Unit {0}
NoText (misc_here b ∷ es) = Unit {0}

-- nothing stands there, or an element ends
abbrev Ends : List PlainEvent → Type 0
Ends [] = Unit {0}
Ends (begin_element x t ∷ es) = ⊥
Ends (end_element ∷ es) = Unit {0}
Ends (text_here b ∷ es) = ⊥
Ends (cdata_here b ∷ es) = ⊥
Ends (misc_here b ∷ es) = ⊥

ends-no-text : (r : List PlainEvent) → Ends r → NoText r
ends-no-text [] e = tt
ends-no-text (begin_element x t ∷ es) e = absurd e
ends-no-text (end_element ∷ es) e = tt
ends-no-text (text_here b ∷ es) e = absurd e
ends-no-text (cdata_here b ∷ es) e = absurd e
ends-no-text (misc_here b ∷ es) e = absurd e

no-text-at : (b : List ℕ) (es fs : List PlainEvent) → fs ≡ text_here b ∷ es → NoText fs → ⊥
no-text-at b es fs e n = subst NoText e n

-- texts up to something else are told apart
split-texts : (a b : List ℕ) (xs ys : List PlainEvent) → NoText xs → NoText ys → texts a ++ xs ≡ texts b ++ ys → (a ≡ b) × (xs ≡ ys)
split-texts [] [] xs ys n m e = (refl, e)
split-texts [] (c ∷ b) xs ys n m e = absurd (no-text-at (c ∷ []) (texts b ++ ys) xs e n)
split-texts (c ∷ a) [] xs ys n m e = absurd (no-text-at (c ∷ []) (texts a ++ xs) ys (sym e) m)
split-texts (c ∷ a) (d ∷ b) xs ys n m e =
    let rest : texts a ++ xs ≡ texts b ++ ys = cc in
    let first : c ≡ d = cc in
    let r = split-texts a b xs ys n m rest in
    (ap (λ l. c ∷ l) r.0 ∙ ap (λ k. k ∷ b) first, r.1)

-- no unit stands at the front of the hedge
abbrev IsPlain : Hedge → Type 0
IsPlain done = Unit {0}
IsPlain (leaf (white u) h) = ⊥
IsPlain (leaf (data_unit u) h) = ⊥
IsPlain (leaf (cdata b) h) = Unit {0}
IsPlain (leaf (misc b) h) = Unit {0}
IsPlain (elem x t k h) = Unit {0}

plain-no-text : (h : Hedge) (r : List PlainEvent) → IsPlain h → Ends r → NoText (bytewise (shown h) ++ r)
plain-no-text done r p e = ends-no-text r e
plain-no-text (leaf (white u) h) r p e = absurd p
plain-no-text (leaf (data_unit u) h) r p e = absurd p
plain-no-text (leaf (cdata b) h) r p e = tt
plain-no-text (leaf (misc b) h) r p e = tt
plain-no-text (elem x t k h) r p e = tt

joined-push : (us : List (List ℕ)) (u : List ℕ) → joined (us ++ u ∷ []) ≡ joined us ++ u
joined-push [] u = append-nil u
joined-push (v ∷ us) u = ap (λ l. v ++ l) (joined-push us u) ∙ sym (append_assoc v (joined us) u)

units-push : (us : List (List ℕ)) (u : List ℕ) → AllUnits us → IsUnit u → AllUnits (us ++ u ∷ [])
units-push [] u all is = (is, tt)
units-push (v ∷ us) u (first, all) is = (first, units-push us u all is)

spread-push : (us : List (List ℕ)) (u : List ℕ) (h : Hedge) → spread (us ++ u ∷ []) h ≡ spread us (leaf (unit_leaf u) h)
spread-push [] u h = refl
spread-push (v ∷ us) u h = ap (leaf (unit_leaf v)) (spread-push us u h)

-- a unit goes to those before it
texts-push : (us : List (List ℕ)) (u : List ℕ) (es r : List PlainEvent) → texts (joined (us ++ u ∷ [])) ++ (es ++ r) ≡ texts (joined us) ++ ((texts u ++ es) ++ r)
texts-push us u es r =
    ap (λ b. texts b ++ (es ++ r)) (joined-push us u)
    ∙ ap (λ l. l ++ (es ++ r)) (map-append (λ b. text_here (b ∷ [])) (joined us) u)
    ∙ append_assoc (texts (joined us)) (texts u) (es ++ r)
    ∙ ap (λ l. texts (joined us) ++ l) (sym (append_assoc (texts u) es r))

-- the first hedge after some units, and the second after others, where their events are the same
abbrev Same : Hedge → Type 0
Same h = (us : List (List ℕ)) → AllUnits us → HasUnitLeaves h → (vs : List (List ℕ)) (g : Hedge) → AllUnits vs → HasUnitLeaves g → (r s : List PlainEvent) → Ends r → Ends s →
    texts (joined us) ++ (bytewise (shown h) ++ r) ≡ texts (joined vs) ++ (bytewise (shown g) ++ s) → (spread us h ≡ spread vs g) × (r ≡ s)

same-unit : (l : Leaf) (u : List ℕ) (h : Hedge) → leaf_event l ≡ text_here u → unit_leaf u ≡ l → IsUnit u → Same h → Same (leaf l h)
same-unit l u h event is unit below us all (here, leaves) vs g also other r s ends stop e =
    let front : bytewise (shown (leaf l h)) ≡ texts u ++ bytewise (shown h) = ap (λ f. bytewise (f ∷ shown h)) event in
    let moved = texts-push us u (bytewise (shown h)) r ∙ ap (λ b. texts (joined us) ++ (b ++ r)) (sym front) ∙ e in
    let found = below (us ++ u ∷ []) (units-push us u all unit) leaves vs g also other r s ends stop moved in
    (ap (λ m. spread us (leaf m h)) (sym is) ∙ sym (spread-push us u h) ∙ found.0, found.1)

-- what stands after the units of a hedge
record Behind (us vs : List (List ℕ)) (g : Hedge) (xs s : List PlainEvent) : Type 0 where
  hedge : Hedge
  plain : IsPlain hedge
  leaves : HasUnitLeaves hedge
  is_spread : spread vs g ≡ spread us hedge
  same : xs ≡ bytewise (shown hedge) ++ s

module _ (determined : UnitsAreDetermined) where
  same-units : (us vs : List (List ℕ)) → AllUnits us → AllUnits vs → joined us ≡ joined vs → us ≡ vs
  same-units us vs a b e = sym (determined us a) ∙ ap units_in e ∙ determined vs b

  here-behind : (us vs : List (List ℕ)) (g : Hedge) (xs s : List PlainEvent) → AllUnits us →
      AllUnits vs → IsPlain g → HasUnitLeaves g → NoText xs → Ends s → texts (joined us)
      ++ xs ≡ texts (joined vs) ++ (bytewise (shown g) ++ s) → Behind us vs g xs s
  here-behind us vs g xs s all also plain leaves none ends e =
      let r = split-texts (joined us) (joined vs) xs (bytewise (shown g) ++ s) none (plain-no-text g s plain ends) e in
      record { hedge = g; plain = plain; leaves = leaves; is_spread = ap (λ l. spread l g) (sym (same-units us vs all also r.0)); same = r.1 }

  abbrev FindsBehind : Hedge → Type 0
  FindsBehind g = (us vs : List (List ℕ)) (xs s : List PlainEvent) → AllUnits us → AllUnits vs →
      HasUnitLeaves g → NoText xs → Ends s → texts (joined us) ++ xs ≡ texts (joined vs)
      ++ (bytewise (shown g) ++ s) → Behind us vs g xs s

  unit-behind : (l : Leaf) (u : List ℕ) (g : Hedge) → leaf_event l ≡ text_here u → unit_leaf u ≡ l → IsUnit u → FindsBehind g → FindsBehind (leaf l g)
  unit-behind l u g event is unit below us vs xs s all also (here, leaves) none ends e =
      let front : bytewise (shown (leaf l g)) ≡ texts u ++ bytewise (shown g) = ap (λ f. bytewise (f ∷ shown g)) event in
      let moved = e ∙ ap (λ b. texts (joined vs) ++ (b ++ s)) front ∙ sym (texts-push vs u (bytewise (shown g)) s) in
      let b = below us (vs ++ u ∷ []) xs s all (units-push vs u also unit) leaves none ends moved in
      record { hedge = b.hedge; plain = b.plain; leaves = b.leaves; is_spread = ap (λ m. spread vs (leaf m g)) (sym is) ∙ sym (spread-push vs u g) ∙ b.is_spread; same = b.same }

  behind : (g : Hedge) → FindsBehind g
  behind done us vs xs s all also leaves none ends e = here-behind us vs done xs s all also tt leaves none ends e
  behind (leaf (white u) g) us vs xs s all also leaves none ends e = unit-behind (white u) u g refl leaves.0.1 leaves.0.0 (behind g) us vs xs s all also leaves none ends e
  behind (leaf (data_unit u) g) us vs xs s all also leaves none ends e = unit-behind (data_unit u) u g refl leaves.0.1 leaves.0.0 (behind g) us vs xs s all also leaves none ends e
  behind (leaf (cdata b) g) us vs xs s all also leaves none ends e = here-behind us vs (leaf (cdata b) g) xs s all also tt leaves none ends e
  behind (leaf (misc b) g) us vs xs s all also leaves none ends e = here-behind us vs (leaf (misc b) g) xs s all also tt leaves none ends e
  behind (elem x t k g) us vs xs s all also leaves none ends e = here-behind us vs (elem x t k g) xs s all also tt leaves none ends e

  -- hedges with no unit at their front
  abbrev SamePlain : Hedge → Type 0
  SamePlain h = (g : Hedge) → IsPlain g → HasUnitLeaves h → HasUnitLeaves g → (r s : List PlainEvent) → Ends r → Ends s → bytewise (shown h) ++ r ≡ bytewise (shown g) ++ s → (h ≡ g) × (r ≡ s)

  same-plain : (h : Hedge) → IsPlain h → SamePlain h → Same h
  same-plain h plain below us all leaves vs g also other r s ends stop e =
      let b = behind g us vs (bytewise (shown h) ++ r) s all also other (plain-no-text h r plain ends) stop e in
      let found = below b.hedge b.plain leaves b.leaves r s ends stop b.same in
      (ap (spread us) found.0 ∙ sym b.is_spread, found.1)

  done-plain : SamePlain done
  done-plain done p a b r s ends stop e = (refl, e)
  done-plain (leaf (white u) g) p a b r s ends stop e = absurd p
  done-plain (leaf (data_unit u) g) p a b r s ends stop e = absurd p
  done-plain (leaf (cdata c) g) p a b r s ends stop e = absurd (subst Ends e ends)
  done-plain (leaf (misc c) g) p a b r s ends stop e = absurd (subst Ends e ends)
  done-plain (elem x t k g) p a b r s ends stop e = absurd (subst Ends e ends)

  cdata-plain : (c : List ℕ) (h : Hedge) → Same h → SamePlain (leaf (cdata c) h)
  cdata-plain c h below done p a b r s ends stop e = absurd (subst Ends (sym e) stop)
  cdata-plain c h below (leaf (white u) g) p a b r s ends stop e = absurd p
  cdata-plain c h below (leaf (data_unit u) g) p a b r s ends stop e = absurd p
  cdata-plain c h below (leaf (cdata d) g) p a b r s ends stop e =
      let first : c ≡ d = cc in
      let found = below [] tt a.1 [] g tt b.1 r s ends stop cc in
      (ap (λ l. leaf (cdata l) h) first ∙ ap (leaf (cdata d)) found.0, found.1)
  cdata-plain c h below (leaf (misc d) g) p a b r s ends stop e = absurd (cc)
  cdata-plain c h below (elem x t k g) p a b r s ends stop e = absurd (cc)

  misc-plain : (c : List ℕ) (h : Hedge) → Same h → SamePlain (leaf (misc c) h)
  misc-plain c h below done p a b r s ends stop e = absurd (subst Ends (sym e) stop)
  misc-plain c h below (leaf (white u) g) p a b r s ends stop e = absurd p
  misc-plain c h below (leaf (data_unit u) g) p a b r s ends stop e = absurd p
  misc-plain c h below (leaf (cdata d) g) p a b r s ends stop e = absurd (cc)
  misc-plain c h below (leaf (misc d) g) p a b r s ends stop e =
      let first : c ≡ d = cc in
      let found = below [] tt a.1 [] g tt b.1 r s ends stop cc in
      (ap (λ l. leaf (misc l) h) first ∙ ap (leaf (misc d)) found.0, found.1)
  misc-plain c h below (elem x t k g) p a b r s ends stop e = absurd (cc)

  inside-is : (x t : List ℕ) (k h : Hedge) (r : List PlainEvent) → bytewise (shown (elem x t k h)) ++ r ≡ begin_element x t ∷ (bytewise (shown k) ++ (end_element ∷ (bytewise (shown h) ++ r)))
  inside-is x t k h r = ap (λ l. begin_element x t ∷ (l ++ r)) (bytewise-append (shown k)
      (end_element ∷ shown h)) ∙ ap (λ l. begin_element x t ∷ l) (append_assoc (bytewise (shown k))
      (end_element ∷ bytewise (shown h)) r)

  elem-plain : (x t : List ℕ) (k h : Hedge) → Same k → Same h → SamePlain (elem x t k h)
  elem-plain x t k h inner below done p a b r s ends stop e = absurd (subst Ends (sym e) stop)
  elem-plain x t k h inner below (leaf (white u) g) p a b r s ends stop e = absurd p
  elem-plain x t k h inner below (leaf (data_unit u) g) p a b r s ends stop e = absurd p
  elem-plain x t k h inner below (leaf (cdata d) g) p a b r s ends stop e = absurd (cc)
  elem-plain x t k h inner below (leaf (misc d) g) p a b r s ends stop e = absurd (cc)
  elem-plain x t k h inner below (elem y u l g) p a b r s ends stop e =
      let all = sym (inside-is x t k h r) ∙ e ∙ inside-is y u l g s in
      let name : x ≡ y = cc in
      let attrs : t ≡ u = cc in
      let kids = inner [] tt a.0 [] l tt b.0 (end_element ∷ (bytewise (shown h) ++ r)) (end_element ∷ (bytewise (shown g) ++ s)) tt tt cc in
      let rest : bytewise (shown h) ++ r ≡ bytewise (shown g) ++ s = let f = kids.1 in cc in
      let found = below [] tt a.1 [] g tt b.1 r s ends stop rest in
      (ap (λ n. elem n t k h) name ∙ ap (λ n. elem y n k h) attrs ∙ ap (λ n. elem y u n h) kids.0 ∙ ap (elem y u l) found.0, found.1)

  same : (h : Hedge) → Same h
  same done = same-plain done tt done-plain
  same (leaf (white u) h) = λ us all leaves. same-unit (white u) u h refl leaves.0.1 leaves.0.0 (same h) us all leaves
  same (leaf (data_unit u) h) = λ us all leaves. same-unit (data_unit u) u h refl leaves.0.1 leaves.0.0 (same h) us all leaves
  same (leaf (cdata b) h) = same-plain (leaf (cdata b) h) tt (cdata-plain b h (same h))
  same (leaf (misc b) h) = same-plain (leaf (misc b) h) tt (misc-plain b h (same h))
  same (elem x t k h) = same-plain (elem x t k h) tt (elem-plain x t k h (same k) (same h))

  pub one-hedge : (h g : Hedge) → HasUnitLeaves h → HasUnitLeaves g → bytewise (shown h) ≡ bytewise (shown g) → h ≡ g
  one-hedge h g a b e = (same h [] tt a [] g tt b [] [] tt tt (append-nil (bytewise (shown h)) ∙ e ∙ sym (append-nil (bytewise (shown g))))).0
