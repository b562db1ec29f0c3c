-- Bounds on the number of missing elements.
use Rattle.std.proofs.Common.{List, Some, [], ap, arith, inl, inr, map, refl, slice_get, subst, suc, zero, ℕ, ◌++◌, ◌+◌, ◌∙◌, ◌∷◌, ◌≡◌, ◌≤◌}
use Rattle.std.specs.List.{AllByRecursion}
use Rattle.std.proofs.lemmas.Option.{slice_get-get_or}
use Rattle.pv_model.specs.Plain.{PlainModel, PlainPart, PlainParts, PlainToken, any, children, choice, empty, mixed, name, named, no_parts, opt, other, part, plus, seq, star, text}
use Rattle.pv_model.specs.Models.{Allows, IsOfMixed, Matches, MatchesAll, MatchesSome, Rounds, no_round, round}
use Rattle.pv_dtd.specs.Plain.{PlainDtd, declared, model_of, names_in, names_in_all}
use Rattle.pv_missing.specs.Covers.{Covers, IsPossibleWith, cover_kept, cover_new, cover_none}
use Rattle.pv_missing.specs.Covers.{cover_text}
use Rattle.pv_dtd.specs.Productive.{IsProductive}

-- a word without names, and how many names a word has of each number, by weights
abbrev pub worth : (ℕ → ℕ) → List PlainToken → ℕ
worth f [] = 0
worth f (named y ∷ w) = f y + worth f w
worth f (text ∷ w) = worth f w
worth f (other ∷ w) = worth f w

pub worth-join : (f : ℕ → ℕ) (u w : List PlainToken) → worth f (u ++ w) ≡ worth f u + worth f w
worth-join f [] w = omega arith
worth-join f (named y ∷ u) w = omega (arith, worth-join f u w)
worth-join f (text ∷ u) w = worth-join f u w
worth-join f (other ∷ u) w = worth-join f u w

-- where nothing has a weight a word has none
pub no_worth : (u : List PlainToken) → worth (λ _. 0) u ≡ 0
no_worth [] = refl
no_worth (named y ∷ u) = omega (arith, no_worth u)
no_worth (text ∷ u) = no_worth u
no_worth (other ∷ u) = no_worth u

-- what a missing element of each number may gain is at most 1
abbrev pub Gains : PlainDtd → (ℕ → ℕ) → (ℕ → ℕ) → Type 0
Gains g a b = (y : ℕ) (m : PlainModel) (v : List PlainToken) → model_of g y ≡ Some m → Allows (declared g) m v → a y + worth b v ≤ suc (b y + worth a v)

pub gained : (g : PlainDtd) (a b : ℕ → ℕ) → Gains g a b → (n : ℕ) (u w : List PlainToken) → Covers g n u w → worth a u + worth b w ≤ n + (worth b u + worth a w)
gained g a b f n u w (cover_none _ z) = omega arith
gained g a b f n u w (cover_text _ u' w' c) = gained g a b f n u' w' c
gained g a b f n u w (cover_kept _ y u' w' p c) = omega (arith, gained g a b f n u' w' c)
gained g a b f n u w (cover_new _ p q y m v u' w1 w2 _ e j is ok c d) =
    let j1 = ap (worth a) j ∙ worth-join a w1 w2 in let j2 = ap (worth b) j ∙ worth-join b w1 w2 in
    omega (arith, e, j1, j2, gained g a b f p v w1 c, gained g a b f q u' w2 d, f y m v is ok)

-- where nothing is missing the words are the same
pub zero_same : (g : PlainDtd) (n : ℕ) (u w : List PlainToken) → Covers g n u w → n ≡ 0 → u ≡ w
zero_same g n u w (cover_none _ z) e = refl
zero_same g n u w (cover_text _ u' w' c) e = ap (◌∷◌ text) (zero_same g n u' w' c e)
zero_same g n u w (cover_kept _ y u' w' p c) e = ap (◌∷◌ (named y)) (zero_same g n u' w' c e)
zero_same g n u w (cover_new _ p q y m v u' w1 w2 _ f j is ok c d) e = absurd (omega arith)

-- the first element that is wanted is there, or it is missing
pub data NameCase (g : PlainDtd) (n y : ℕ) (u w : List PlainToken) : Type 0 where
  is_kept : (w' : List PlainToken) → w ≡ named y ∷ w' → IsProductive g y → Covers g n u w' → NameCase g n y u w
  is_new : (a b : ℕ) (m : PlainModel) (v w1 w2 : List PlainToken) → n ≡ suc (a + b) → w ≡ w1 ++ w2 → model_of g y ≡ Some m → Allows (declared g) m v →
      Covers g a v w1 → Covers g b u w2 → NameCase g n y u w

moved_cover : (g : PlainDtd) (n : ℕ) (u v w : List PlainToken) → u ≡ v → Covers g n u w → Covers g n v w
moved_cover g n u v w e c = subst (λ x. Covers g n x w) e c

name_case_at : (g : PlainDtd) (n : ℕ) (u0 w : List PlainToken) → Covers g n u0 w → (y : ℕ) (u : List PlainToken) → u0 ≡ named y ∷ u → NameCase g n y u w
name_case_at g n u0 w (cover_none _ z) y u e = absurd cc
name_case_at g n u0 w (cover_text _ u' w' c) y u e = absurd cc
name_case_at g n u0 w (cover_kept _ z u' w' p c) y u e =
    let i : z ≡ y = cc in is_kept w' (ap (λ x. named x ∷ w') i) (rw i at p) (moved_cover g n u' u w' (cc) c)
name_case_at g n u0 w (cover_new _ a b z m v u' w1 w2 _ f j is ok c d) y u e =
    let i : z ≡ y = cc in is_new a b m v w1 w2 f j (rw i at is) ok c (moved_cover g b u' u w2 (cc) d)

pub name_case : (g : PlainDtd) (n y : ℕ) (u w : List PlainToken) → Covers g n (named y ∷ u) w → NameCase g n y u w
name_case g n y u w c = name_case_at g n (named y ∷ u) w c y u refl

-- a possible word by the model that its owner has
pub record Opened (g : PlainDtd) (m : PlainModel) (n : ℕ) (w : List PlainToken) : Type 0 where
  pub whole : List PlainToken
  pub allowed : Allows (declared g) m whole
  pub covers : Covers g n whole w

pub opened : (g : PlainDtd) (x n : ℕ) (m : PlainModel) (w : List PlainToken) → model_of g x ≡ Some m → IsPossibleWith g x n w → Opened g m n w
opened g x n m w e p = record { whole = p.whole; allowed = let f = p.is_model in let i : p.model ≡ m = cc in subst (λ k. Allows (declared g) k p.whole) i p.allowed; covers = p.covers }

-- no name
abbrev pub AreTexts : List PlainToken → Type 0
AreTexts [] = Unit {0}
AreTexts (named y ∷ u) = ⊥
AreTexts (text ∷ u) = AreTexts u
AreTexts (other ∷ u) = ⊥

pub texts_same : (g : PlainDtd) (n : ℕ) (u w : List PlainToken) → Covers g n u w → AreTexts u → AreTexts w
texts_same g n u w (cover_none _ z) t = tt
texts_same g n u w (cover_text _ u' w' c) t = texts_same g n u' w' c t
texts_same g n u w (cover_kept _ y u' w' p c) t = absurd t
texts_same g n u w (cover_new _ p q y m v u' w1 w2 _ f j is ok c d) t = absurd t

-- a model of data alone allows texts
pub mixed_texts : (u : List PlainToken) → AllByRecursion (IsOfMixed []) u → AreTexts u
mixed_texts [] a = tt
mixed_texts (named y ∷ u) a = absurd (let p = a.0.1 in omega arith)
mixed_texts (text ∷ u) a = mixed_texts u a.1
mixed_texts (other ∷ u) a = absurd a.0

-- each name in the word has this property
abbrev pub IsTokenOf : (ℕ → Type 0) → PlainToken → Type 0
IsTokenOf P (named y) = P y
IsTokenOf P text = Unit {0}
IsTokenOf P other = Unit {0}

all_append : {A : Type 0} (P : A → Type 0) (u v : List A) → AllByRecursion P u → AllByRecursion P v → AllByRecursion P (u ++ v)
all_append P [] v a b = b
all_append P (x ∷ u) v a b = (a.0, all_append P u v a.1 b)

all_parted : {A : Type 0} (P : A → Type 0) (u v : List A) → AllByRecursion P (u ++ v) → AllByRecursion P u × AllByRecursion P v
all_parted P [] v a = (tt, a)
all_parted P (x ∷ u) v a = let q = all_parted P u v a.1 in ((a.0, q.0), q.1)

module _ (P : ℕ → Type 0) where
  rounds_of : (R : List ℕ → Type 0) → ((u : List ℕ) → R u → AllByRecursion P u) → (w : List ℕ) → Rounds R w → AllByRecursion P w
  rounds_of R f w no_round = tt
  rounds_of R f w (round u v _ e r s) = rw e (all_append P u v (f u r) (rounds_of R f v s))

  -- the words of a particle have no names but its own
  mutual
    pub words_of : (p : PlainPart) → AllByRecursion P (names_in p) → (w : List ℕ) → Matches p w → AllByRecursion P w
    words_of (name y) a w e = rw e a
    words_of (seq ps) a w m = words_of_all ps a w m
    words_of (choice ps) a w m = words_of_some ps a w m
    words_of (opt p) a w (inl e) = rw e tt
    words_of (opt p) a w (inr m) = words_of p a w m
    words_of (star p) a w m = rounds_of (Matches p) (λ u r. words_of p a u r) w m
    words_of (plus p) a w (u, v, e, m, r) = rw e (all_append P u v (words_of p a u m) (rounds_of (Matches p) (λ x s. words_of p a x s) v r))

    words_of_all : (ps : PlainParts) → AllByRecursion P (names_in_all ps) → (w : List ℕ) → MatchesAll ps w → AllByRecursion P w
    words_of_all no_parts a w e = rw e tt
    words_of_all (part p ps) a w (u, v, e, m, n) = let q = all_parted P (names_in p) (names_in_all ps) a in
        rw e (all_append P u v (words_of p q.0 u m) (words_of_all ps q.1 v n))

    words_of_some : (ps : PlainParts) → AllByRecursion P (names_in_all ps) → (w : List ℕ) → MatchesSome ps w → AllByRecursion P w
    words_of_some no_parts a w m = absurd m
    words_of_some (part p ps) a w (inl m) = words_of p (all_parted P (names_in p) (names_in_all ps) a).0 w m
    words_of_some (part p ps) a w (inr m) = words_of_some ps (all_parted P (names_in p) (names_in_all ps) a).1 w m

  -- the model isn't ANY, and its names have the property
  abbrev pub IsModelOf : PlainModel → Type 0
  IsModelOf empty = Unit {0}
  IsModelOf any = ⊥
  IsModelOf (mixed ys) = AllByRecursion P ys
  IsModelOf (children p) = AllByRecursion P (names_in p)

  listed_of : (ys : List ℕ) (y e : ℕ) → AllByRecursion P ys → slice_get ys e ≡ Some y → P y
  listed_of [] y e a f = absurd cc
  listed_of (z ∷ ys) y zero a f = let i : z ≡ y = cc in rw i at a.0
  listed_of (z ∷ ys) y (suc e) a f = listed_of ys y e a.1 f

  mixed_of : (ys : List ℕ) (v : List PlainToken) → AllByRecursion P ys → AllByRecursion (IsOfMixed ys) v → AllByRecursion (IsTokenOf P) v
  mixed_of ys [] a m = tt
  mixed_of ys (named y ∷ v) a m = let c = m.0 in (listed_of ys y c.0 a (slice_get-get_or ys c.0 y c.1 ∙ ap Some c.2), mixed_of ys v a m.1)
  mixed_of ys (text ∷ v) a m = (tt, mixed_of ys v a m.1)
  mixed_of ys (other ∷ v) a m = absurd m.0

  named_of : (w : List ℕ) → AllByRecursion P w → AllByRecursion (IsTokenOf P) (map named w)
  named_of [] a = tt
  named_of (y ∷ w) a = (a.0, named_of w a.1)

  allowed_of : (d : ℕ) (m : PlainModel) (v : List PlainToken) → IsModelOf m → Allows d m v → AllByRecursion (IsTokenOf P) v
  allowed_of d empty v a o = rw o tt
  allowed_of d any v a o = absurd a
  allowed_of d (mixed ys) v a o = mixed_of ys v a o
  allowed_of d (children p) v a (w, e, m) = rw e (named_of w (words_of p a w m))

  -- what stands for names with the property has no other names, where it holds of all that their models name
  pub covered_of : (g : PlainDtd) → ((y : ℕ) (m : PlainModel) → P y → model_of g y ≡ Some m → IsModelOf m) → (n : ℕ) (u w : List PlainToken) → Covers g n u w →
      AllByRecursion (IsTokenOf P) u → AllByRecursion (IsTokenOf P) w
  covered_of g f n u w (cover_none _ z) a = tt
  covered_of g f n u w (cover_text _ u' w' c) a = (tt, covered_of g f n u' w' c a.1)
  covered_of g f n u w (cover_kept _ y u' w' p c) a = (a.0, covered_of g f n u' w' c a.1)
  covered_of g f n u w (cover_new _ p q y m v u' w1 w2 _ e j is ok c d) a =
      rw j (all_append (IsTokenOf P) w1 w2 (covered_of g f p v w1 c (allowed_of (declared g) m v (f y m a.0 is) ok)) (covered_of g f q u' w2 d a.1))
