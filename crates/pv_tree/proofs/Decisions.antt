-- What can be decided of bytes: a fact that merely holds is then had.
use Rattle.std.proofs.Common.{◌≡◌, ℕ, zero, suc, ◌≤◌, ◌⊎◌, inl, inr, List, [], ◌∷◌, ◌++◌, Bool, true, false, length, length-append, IsTrue, refl, sym, ap, subst, ◌∙◌, arith}
use Rattle.std.proofs.Math.Logic.{∥∥₁_elim}
use Rattle.std.proofs.lemmas.Slice.Eq.{bytes_eq-Decides}
use Rattle.std.specs.List.{AllByRecursion}
use Rattle.std.specs.Str.{bytes_eq}
use Rattle.pv_chars.specs.Fronts.{ContainsBytes}
use Rattle.pv_chars.specs.Texts.{joined}
use Rattle.pv_tree.specs.Attributes.{AreMadeOf}

pub had : {A : Type 0} → Dec A → ∥ A ∥₁ → A
had (yes a) h = a
had (no n) h = absurd (∥∥₁_elim h (λ x. absurd x) n)

pub decided_by : {A B : Type 0} → (A → B) → (B → A) → Dec A → Dec B
decided_by f g (yes a) = yes (f a)
decided_by f g (no n) = no (λ b. n (g b))

pub both : {A B : Type 0} → Dec A → Dec B → Dec (A × B)
both (yes a) (yes b) = yes (a, b)
both (yes a) (no n) = no (λ p. n p.1)
both (no n) d = no (λ p. n p.0)

in_neither : {A B : Type 0} → (A → ⊥) → (B → ⊥) → A ⊎ B → ⊥
in_neither n m (inl a) = n a
in_neither n m (inr b) = m b

pub either : {A B : Type 0} → Dec A → Dec B → Dec (A ⊎ B)
either (yes a) d = yes (inl a)
either (no n) (yes b) = yes (inr b)
either (no n) (no m) = no (in_neither n m)

pub never : {A : Type 0} → Dec A → Dec (A → ⊥)
never (yes a) = no (λ f. f a)
never (no n) = yes n

pub is_true : (b : Bool) → Dec (IsTrue b)
is_true true = yes refl
is_true false = no (λ e. cc)

same_by : (bytes other : List ℕ) (b : Bool) → bytes_eq bytes other ≡ b → Dec (bytes ≡ other)
same_by bytes other true e = yes ((bytes_eq-Decides bytes other).0 e)
same_by bytes other false e = no (λ same. let is = (bytes_eq-Decides bytes other).1 same in cc)

pub are_same : (bytes other : List ℕ) → Dec (bytes ≡ other)
are_same bytes other = same_by bytes other (bytes_eq bytes other) refl

-- ---- bytes in two parts
-- A part of one kind stands in front of one of another.
pub record Parts (P Q : List ℕ → Type 0) (bytes : List ℕ) : Type 0 where
  pub front : List ℕ
  pub back : List ℕ
  pub is_front : P front
  pub is_back : Q back
  pub whole : bytes ≡ front ++ back

none_in_front : (P Q : List ℕ → Type 0) → P [] × Q [] → Parts P Q []
none_in_front P Q h = record { front = []; back = []; is_front = h.0; is_back = h.1; whole = refl }

nothing_in_parts : (P Q : List ℕ → Type 0) (front back : List ℕ) → P front → Q back → [] ≡ front ++ back → P [] × Q []
nothing_in_parts P Q [] back p q e = (p, subst Q (sym e) q)
nothing_in_parts P Q (x ∷ xs) back p q e = absurd cc

abbrev Behind : (List ℕ → Type 0) → ℕ → List ℕ → Type 0
Behind P b bytes = P (b ∷ bytes)

some_in_front : (P Q : List ℕ → Type 0) (b : ℕ) (bs : List ℕ) → (P [] × Q (b ∷ bs)) ⊎ Parts (Behind P b) Q bs → Parts P Q (b ∷ bs)
some_in_front P Q b bs (inl h) = record { front = []; back = b ∷ bs; is_front = h.0; is_back = h.1; whole = refl }
some_in_front P Q b bs (inr h) = record { front = b ∷ h.front; back = h.back; is_front = h.is_front; is_back = h.is_back; whole = ap (λ l. b ∷ l) h.whole }

some_in_parts : (P Q : List ℕ → Type 0) (b : ℕ) (bs front back : List ℕ) → P front → Q back → b ∷ bs ≡ front ++ back → (P [] × Q (b ∷ bs)) ⊎ Parts (Behind P b) Q bs
some_in_parts P Q b bs [] back p q e = inl (p, subst Q (sym e) q)
some_in_parts P Q b bs (x ∷ xs) back p q e =
    let first : x ≡ b = cc in
    let rest : bs ≡ xs ++ back = cc in
    inr record { front = xs; back = back; is_front = subst (λ (y : ℕ). P (y ∷ xs)) first p; is_back = q; whole = rest }

pub in_parts : (P Q : List ℕ → Type 0) → ((l : List ℕ) → Dec (P l)) → ((l : List ℕ) → Dec (Q l)) → (bytes : List ℕ) → Dec (Parts P Q bytes)
in_parts P Q p q [] = decided_by (none_in_front P Q) (λ h. nothing_in_parts P Q h.front h.back h.is_front h.is_back h.whole) (both (p []) (q []))
in_parts P Q p q (b ∷ bs) =
    decided_by (some_in_front P Q b bs) (λ h. some_in_parts P Q b bs h.front h.back h.is_front h.is_back h.whole)
    (either (both (p []) (q (b ∷ bs))) (in_parts (Behind P b) Q (λ l. p (b ∷ l)) q bs))

-- ---- bytes that hold others
abbrev Anything : List ℕ → Type 0
Anything l = Unit {0}

abbrev Begun : List ℕ → List ℕ → Type 0
Begun part bytes = Parts (λ l. l ≡ part) Anything bytes

to_held : (part bytes : List ℕ) → Parts Anything (Begun part) bytes → ContainsBytes bytes part
to_held part bytes h = record { before = h.front; after = h.is_back.back; whole = h.whole ∙ ap (λ l. h.front ++ l) (h.is_back.whole ∙ ap (λ l. l ++ h.is_back.back) h.is_back.is_front) }

from_held : (part bytes : List ℕ) → ContainsBytes bytes part → Parts Anything (Begun part) bytes
from_held part bytes h =
    record {
      front = h.before;
      back = part ++ h.after;
      is_front = tt;
      is_back = record { front = part; back = h.after; is_front = refl; is_back = tt; whole = refl };
      whole = h.whole;
    }

pub holds : (part bytes : List ℕ) → Dec (ContainsBytes bytes part)
holds part bytes = decided_by (to_held part bytes) (from_held part bytes) (in_parts Anything (Begun part) (λ l. yes tt) (in_parts (λ l. l ≡ part) Anything (λ l. are_same l part) (λ l. yes tt)) bytes)

-- ---- bytes that are made of pieces
abbrev MadeOf : (List ℕ → Type 0) → ℕ → List ℕ → Type 0
MadeOf P zero bytes = bytes ≡ []
MadeOf P (suc n) bytes = (bytes ≡ []) ⊎ Parts P (MadeOf P n) bytes

made_of : (P : List ℕ → Type 0) → ((l : List ℕ) → Dec (P l)) → (n : ℕ) (bytes : List ℕ) → Dec (MadeOf P n bytes)
made_of P p zero bytes = are_same bytes []
made_of P p (suc n) bytes = either (are_same bytes []) (in_parts P (MadeOf P n) p (made_of P p n) bytes)

to_made : (P : List ℕ → Type 0) (n : ℕ) (bytes : List ℕ) → MadeOf P n bytes → AreMadeOf P bytes
to_made P zero bytes e = record { pieces = []; are_pieces = tt; whole = e }
to_made P (suc n) bytes (inl e) = record { pieces = []; are_pieces = tt; whole = e }
to_made P (suc n) bytes (inr h) =
    let below = to_made P n h.back h.is_back in
    record { pieces = h.front ∷ below.pieces; are_pieces = (h.is_front, below.are_pieces); whole = h.whole ∙ ap (λ l. h.front ++ l) below.whole }

none_made : (P : List ℕ → Type 0) (n : ℕ) (bytes : List ℕ) → bytes ≡ [] → MadeOf P n bytes
none_made P zero bytes e = e
none_made P (suc n) bytes e = inl e

from_pieces : (P : List ℕ → Type 0) (pieces : List (List ℕ)) (n : ℕ) (bytes : List ℕ) → AllByRecursion P pieces → bytes ≡ joined pieces → length bytes ≤ n → MadeOf P n bytes
from_pieces P [] n bytes all e few = none_made P n bytes e
from_pieces P ([] ∷ ps) n bytes all e few = from_pieces P ps n bytes all.1 e few
from_pieces P ((x ∷ xs) ∷ ps) zero bytes all e few = let long = ap length e in absurd (omega arith)
from_pieces P ((x ∷ xs) ∷ ps) (suc n) bytes all e few =
    let long = ap length e in
    let both = length-append xs (joined ps) in
    inr record { front = x ∷ xs; back = joined ps; is_front = all.0; is_back = from_pieces P ps n (joined ps) all.1 refl (omega arith); whole = e }

pub made : (P : List ℕ → Type 0) → ((l : List ℕ) → Dec (P l)) → (bytes : List ℕ) → Dec (AreMadeOf P bytes)
made P p bytes = decided_by (to_made P (length bytes) bytes) (λ h. from_pieces P h.pieces (length bytes) bytes h.are_pieces h.whole (omega arith)) (made_of P p (length bytes) bytes)
