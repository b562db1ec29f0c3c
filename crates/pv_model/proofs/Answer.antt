-- A walk over the tokens answers whether the particle has the word.
use Rattle.std.proofs.Common.{◌≡◌, ℕ, Bool, true, false, ◌⊎◌, inl, inr, ◌↔◌, List, [], ◌∷◌, map, IsTrue, if◌then◌else◌, refl, ap, subst}
use Rattle.pv_model.specs.Plain.{PlainPart, PlainToken, named, text, other}
use Rattle.pv_model.specs.Models.{Matches}
use Rattle.pv_model.specs.Positions.{may_be_empty, unreached_positions, any_reached, reads}
use Rattle.pv_model.proofs.ReachedPositions.{Positions, Continues, ends, after, unreached}
use Rattle.pv_model.proofs.EmptyWords.{may_be_empty-means, ends-means}
use Rattle.pv_model.proofs.PositionsAfterName.{after-means}
use Rattle.pv_model.proofs.PositionLists.{list_of, is_end_after-is, positions_after-is}
use Rattle.pv_model.proofs.UnreachedPositions.{nothing_continues, none_reached_continues, unreached-list}

-- what is left of the word is one of the particle, which is entered or has these positions
abbrev Left : (p : PlainPart) → Bool → Positions p → List ℕ → Type 0
Left p e m w = (IsTrue e × Matches p w) ⊎ Continues p m w

abbrev AnyLeft : (p : PlainPart) → Bool → Positions p → List PlainToken → Type 0
AnyLeft p e m u = (w : List ℕ) × (u ≡ map named w) × Left p e m w

none_left : (p : PlainPart) (e : Bool) (m : Positions p) (w : List ℕ) → [] ≡ map named w → Left p e m w → Left p e m []
none_left p e m [] q l = l
none_left p e m (x ∷ w) q l = absurd cc

-- the first token is a name
first_name : (p : PlainPart) (e : Bool) (m : Positions p) (y : ℕ) (u : List PlainToken) (w : List ℕ) → named y ∷ u ≡ map named w → Left p e m w →
    (v : List ℕ) × (u ≡ map named v) × Left p e m (y ∷ v)
first_name p e m y u [] q l = absurd cc
first_name p e m y u (x ∷ w) q l =
    let same : x ≡ y = cc in
    let rest : u ≡ map named w = cc in
    let P : ℕ → Type 0 = λ z. Left p e m (z ∷ w) in
    (w, rest, subst P same l)

no_name : (t : PlainToken) (u : List PlainToken) (w : List ℕ) → ((y : ℕ) → t ≡ named y → ⊥) → t ∷ u ≡ map named w → ⊥
no_name t u [] n q = cc
no_name t u (x ∷ w) n q = n x cc

-- a name, where the answer for the tokens after it is known
goes_on : (p : PlainPart) (e : Bool) (y : ℕ) (m : Positions p) (u : List PlainToken) (some : Bool) → any_reached (list_of p (after p e y m)) ≡ some → {b : Bool} →
    IsTrue b ↔ AnyLeft p false (after p e y m) u → IsTrue (if some then b else false) ↔ AnyLeft p e m (named y ∷ u)
goes_on p e y m u true some rest = (
  (λ h. let l = rest.0 h in (y ∷ l.0, ap (λ z. named y ∷ z) l.1, elim l.2 [ inl n ↦ let f = n.0 in absurd cc | inr k ↦ (after-means p e y m l.0).0 k ])),
  (λ l. let f = first_name p e m y u l.0 l.1 l.2 in rest.1 (f.0, f.1, inr ((after-means p e y m f.0).1 f.2))),
)
goes_on p e y m u false none rest = (
  (λ h. absurd cc),
  (λ l. let f = first_name p e m y u l.0 l.1 l.2 in absurd (none_reached_continues p (after p e y m) f.0 none ((after-means p e y m f.0).1 f.2))),
)

reads-means : (p : PlainPart) (e : Bool) (m : Positions p) (ended : Bool) (u : List PlainToken) → IsTrue ended ↔ Left p e m [] →
    IsTrue (reads p e ended (list_of p m) u) ↔ AnyLeft p e m u
reads-means p e m ended [] at_end = (λ h. ([], refl, at_end.0 h), λ l. at_end.1 (none_left p e m l.0 l.1 l.2))
reads-means p e m ended (named y ∷ u) at_end =
    let next : IsTrue (ends p (after p e y m)) ↔ Left p false (after p e y m) [] =
    (λ h. inr ((ends-means p (after p e y m)).0 h), λ l. elim l [ inl n ↦ let f = n.0 in absurd cc | inr k ↦ (ends-means p (after p e y m)).1 k ]) in
    let rest = reads-means p false (after p e y m) (ends p (after p e y m)) u next in
    rw (is_end_after-is p e y m, positions_after-is p e y m) (goes_on p e y m u (any_reached (list_of p (after p e y m))) refl rest)
reads-means p e m ended (text ∷ u) at_end = (λ h. absurd cc, λ l. absurd (no_name text u l.0 (λ y q. cc) l.1))
reads-means p e m ended (other ∷ u) at_end = (λ h. absurd cc, λ l. absurd (no_name other u l.0 (λ y q. cc) l.1))

-- from the start
pub read-means : (p : PlainPart) (u : List PlainToken) → IsTrue (reads p true (may_be_empty p) (unreached_positions p) u) ↔ ((w : List ℕ) × (u ≡ map named w) × Matches p w)
read-means p u =
    let only : (w : List ℕ) → Left p true (unreached p) w → Matches p w = λ w l. elim l [ inl both ↦ both.1 | inr k ↦ absurd (nothing_continues p w k) ] in
    let at_end : IsTrue (may_be_empty p) ↔ Left p true (unreached p) [] = (λ h. inl (refl, (may_be_empty-means p).0 h), λ l. (may_be_empty-means p).1 (only [] l)) in
    let all = reads-means p true (unreached p) (may_be_empty p) u at_end in
    rw (← (unreached-list p)) (
      (λ h. let l = all.0 h in (l.0, l.1, only l.0 l.2)),
      (λ s. all.1 (s.0, s.1, inl (refl, s.2))),
    )
