-- How many elements are missing in words of the DTD of sections, at least.
use Rattle.std.proofs.Common.{List, Some, [], ap, arith, inl, inr, map, refl, subst, suc, sym, zero, ℕ, ◌++◌, ◌+◌, ◌∙◌, ◌∷◌, ◌≡◌, ◌≤◌}
use Rattle.std.specs.List.{AllByRecursion}
use Rattle.pv_model.specs.Plain.{PlainModel, PlainToken, empty, mixed, named, other, text}
use Rattle.pv_model.specs.Models.{Allows}
use Rattle.pv_dtd.specs.Plain.{model_of}
use Rattle.pv_missing.specs.Covers.{Covers, IsPossibleRootWith, IsPossibleWith}
use Rattle.law_missing.specs.Dtds.{doc_model, item_model, list_model, sec_model, sections_dtd}
use Rattle.law_missing.proofs.Bounds.{AreTexts, IsModelOf, IsTokenOf, NameCase, Opened, covered_of, gained, is_kept, is_new, mixed_texts, name_case, no_worth, opened, texts_same, worth, zero_same}
use Rattle.pv_missing.proofs.CoversToInsertions.{covers-none, empty_join}
use Rattle.law_missing.proofs.Sections.{IsParagraphOrList, SecWords, doc_words, no_title, sec_words, with_title}
use Rattle.pv_missing.proofs.SpanDerivations.{all_at}

-- a missing head holds texts alone, and so nothing of a word that begins with a name
head_texts : (a : ℕ) (m : PlainModel) (v w1 : List PlainToken) → model_of sections_dtd 1 ≡ Some m → Allows 9 m v → Covers sections_dtd a v w1 → AreTexts w1
head_texts a m v w1 e ok c = let i : m ≡ mixed [] = cc in
    texts_same sections_dtd a v w1 c (mixed_texts v (subst (λ k. Allows 9 k v) i ok))

no_texts_front : (y : ℕ) (w w1 w2 : List PlainToken) → named y ∷ w ≡ w1 ++ w2 → AreTexts w1 → w2 ≡ named y ∷ w
no_texts_front y w [] w2 e t = sym e
no_texts_front y w (named z ∷ w1) w2 e t = absurd t
no_texts_front y w (text ∷ w1) w2 e t = absurd cc
no_texts_front y w (other ∷ w1) w2 e t = absurd cc

-- The word of a doc is a head's, and then one of secs.
after_case : (n y : ℕ) (b : List ℕ) (w : List PlainToken) → (y ≡ 1 → ⊥) → AllByRecursion (λ x. x ≡ 2) b → NameCase sections_dtd n 1 (named 2 ∷ map named b) (named y ∷ w) →
    (k : ℕ) × (Covers sections_dtd k (named 2 ∷ map named b) (named y ∷ w)) × (suc k ≤ n)
after_case n y b w ne a (is_kept w' e p c) = absurd (ne cc)
after_case n y b w ne a (is_new p q m v w1 w2 e j is ok c d) =
    let i = no_texts_front y w w1 w2 j (head_texts p m v w1 is ok c) in (q, rw i at d, omega (arith, e))

doc_case : (n y : ℕ) (w : List PlainToken) → (y ≡ 1 → ⊥) → (o : Opened sections_dtd doc_model n (named y ∷ w)) →
    (b : List ℕ) × AllByRecursion (λ x. x ≡ 2) b × ((k : ℕ) × (Covers sections_dtd k (named 2 ∷ map named b) (named y ∷ w)) × (suc k ≤ n))
doc_case n y w ne o = let f = doc_words o.allowed.0 o.allowed.2 in (
  f.0,
  f.2,
  after_case n y f.0 w ne f.2 (name_case sections_dtd n 1 (named 2 ∷ map named f.0) (named y ∷ w)
      (rw (o.allowed.1 ∙ ap (map named) f.1) at o.covers)),
)

pub doc_bound : (n y : ℕ) (w : List PlainToken) → (y ≡ 1 → ⊥) → IsPossibleWith sections_dtd 0 n (named y ∷ w) → (k : ℕ) →
    ((b : List ℕ) → AllByRecursion (λ x. x ≡ 2) b → (j : ℕ) → Covers sections_dtd j (map named b) (named y ∷ w) → k ≤ j) → suc k ≤ n
doc_bound n y w ne p k least = let c = doc_case n y w ne (opened sections_dtd 0 n doc_model (named y ∷ w) refl p) in
    let l = least (2 ∷ c.0) (refl, c.1) c.2.0 c.2.1 in omega (arith, l, c.2.2)

first_number : (y z : ℕ) (w w' : List PlainToken) → named y ∷ w ≡ named z ∷ w' → y ≡ z
first_number y z w w' e = cc

-- secs with an em, or with a title after a paragraph
not_p : (y z : ℕ) → IsParagraphOrList y → y ≡ z → (z ≡ 4 → ⊥) → (z ≡ 7 → ⊥) → ⊥
not_p y z (inl f) i a b = a (sym i ∙ f)
not_p y z (inr f) i a b = b (sym i ∙ f)

not_em : (ws : List ℕ) → SecWords ws → map named ws ≡ named 5 ∷ [] → ⊥
not_em [] s e = absurd cc
not_em (y ∷ ws) (no_title a) e = not_p y 5 a.0 (cc) (λ h. omega (arith, h)) (λ h. omega (arith, h))
not_em (y ∷ ws) (with_title b f a) e = let i : y ≡ 3 = cc in let j : y ≡ 5 = cc in absurd (omega (arith, i, j))

not_late_title : (ws : List ℕ) → SecWords ws → map named ws ≡ named 4 ∷ named 3 ∷ [] → ⊥
not_late_title [] s e = absurd cc
not_late_title (y ∷ []) s e = absurd cc
not_late_title (y ∷ z ∷ ws) (no_title a) e = not_p z 3 a.1.0 (cc) (λ h. omega (arith, h)) (λ h. omega (arith, h))
not_late_title (y ∷ z ∷ ws) (with_title b f a) e = let i : y ≡ 3 = cc in let j : y ≡ 4 = cc in absurd (omega (arith, i, j))

-- a missing sec that holds all of this word misses something itself
sec_some : (a : ℕ) (m : PlainModel) (v w : List PlainToken) → model_of sections_dtd 2 ≡ Some m → Allows 9 m v → Covers sections_dtd a v w →
    ((ws : List ℕ) → SecWords ws → map named ws ≡ w → ⊥) → 1 ≤ a
sec_some zero m v w e ok c never = let i : m ≡ sec_model = cc in let o : Allows 9 sec_model v = subst (λ k. Allows 9 k v) i ok in
    absurd (never o.0 (sec_words o.0 o.2) (sym o.1 ∙ zero_same sections_dtd 0 v w c refl))
sec_some (suc a) m v w e ok c never = omega arith

-- all the names are those of secs, so that the word isn't theirs
not_secs : (y : ℕ) (ys : List ℕ) → AllByRecursion (λ x. x ≡ 2) ys → map named ys ≡ named y ∷ [] → (y ≡ 2 → ⊥) → ⊥
not_secs y [] a e n = absurd cc
not_secs y (z ∷ ys) a e n = let i : z ≡ y = cc in n (sym i ∙ a.0)

some_secs : (y n : ℕ) (ys : List ℕ) → AllByRecursion (λ x. x ≡ 2) ys → Covers sections_dtd n (map named ys) (named y ∷ []) → (y ≡ 2 → ⊥) → 1 ≤ n
some_secs y zero ys a c n = absurd (not_secs y ys a (zero_same sections_dtd 0 (map named ys) (named y ∷ []) c refl) n)
some_secs y (suc k) ys a c n = omega arith

moved : (y n : ℕ) (u w : List PlainToken) → y ≡ 2 → Covers sections_dtd n (named y ∷ u) w → Covers sections_dtd n (named 2 ∷ u) w
moved y n u w e c = subst (λ z. Covers sections_dtd n (named z ∷ u) w) e c

em_split : (n : ℕ) (ys : List ℕ) (k : ℕ) (a : ℕ) (m : PlainModel) (v w1 w2 : List PlainToken) → n ≡ suc (a + k) → named 5 ∷ [] ≡ w1 ++ w2 → model_of sections_dtd 2 ≡ Some m →
    Allows 9 m v → Covers sections_dtd a v w1 → (w2 ≡ named 5 ∷ [] → 2 ≤ k) → 2 ≤ n
em_split n ys k a m v [] w2 e j is ok c next = omega (arith, e, next (sym j))
em_split n ys k a m v (t ∷ w1) w2 e j is ok c next =
    let i : t ≡ named 5 = cc in let z = empty_join w1 w2 cc in
    let s = sec_some a m v (named 5 ∷ []) is ok (rw (i, z.0) at c) not_em in omega (arith, e, s)

em_case : (n : ℕ) (ys : List ℕ) → NameCase sections_dtd n 2 (map named ys) (named 5 ∷ []) → ((j : ℕ) → Covers sections_dtd j (map named ys) (named 5 ∷ []) → 2 ≤ j) → 2 ≤ n
em_case n ys (is_kept w' e p c) next = absurd (omega (arith, first_number 5 2 [] w' e))
em_case n ys (is_new a b m v w1 w2 e j is ok c d) next = em_split n ys b a m v w1 w2 e j is ok c (λ i. next b (rw i at d))

secs_em : (ys : List ℕ) → AllByRecursion (λ x. x ≡ 2) ys → (n : ℕ) → Covers sections_dtd n (map named ys) (named 5 ∷ []) → 2 ≤ n
secs_em [] a n c = absurd (let e = covers-none sections_dtd n (named 5 ∷ []) c in cc)
secs_em (y ∷ ys) a n c = em_case n ys (name_case sections_dtd n 2 (map named ys) (named 5 ∷ []) (moved y n (map named ys) (named 5 ∷ []) a.0 c)) (λ j d. secs_em ys a.1 j d)

pub em_bound : (n : ℕ) → IsPossibleWith sections_dtd 0 n (named 5 ∷ []) → 3 ≤ n
em_bound n p = doc_bound n 5 [] (λ e. omega (arith, e)) p 2 (λ b a j c. secs_em b a j c)

title_split : (n : ℕ) (ys : List ℕ) (k : ℕ) (a : ℕ) (m : PlainModel) (v w1 w2 : List PlainToken) → n ≡ suc (a + k) → named 4 ∷ named 3 ∷ [] ≡ w1 ++ w2 →
    model_of sections_dtd 2 ≡ Some m → Allows 9 m v → Covers sections_dtd a v w1 → (w2 ≡ named 4 ∷ named 3 ∷ [] → 2 ≤ k) → (w2 ≡ named 3 ∷ [] → 1 ≤ k) → 2 ≤ n
title_split n ys k a m v [] w2 e j is ok c all one = omega (arith, e, all (sym j))
title_split n ys k a m v (s ∷ []) w2 e j is ok c all one = let i : w2 ≡ named 3 ∷ [] = cc in omega (arith, e, one i)
title_split n ys k a m v (s ∷ t ∷ w1) w2 e j is ok c all one =
    let i : s ≡ named 4 = cc in let h : t ≡ named 3 = cc in let z = empty_join w1 w2 cc in
    let l = sec_some a m v (named 4 ∷ named 3 ∷ []) is ok (rw (i, h, z.0) at c) not_late_title in omega (arith, e, l)

title_case : (n : ℕ) (ys : List ℕ) → AllByRecursion (λ x. x ≡ 2) ys → NameCase sections_dtd n 2 (map named ys) (named 4 ∷ named 3 ∷ []) →
    ((j : ℕ) → Covers sections_dtd j (map named ys) (named 4 ∷ named 3 ∷ []) → 2 ≤ j) → 2 ≤ n
title_case n ys s (is_kept w' e p c) next = absurd (omega (arith, first_number 4 2 (named 3 ∷ []) w' e))
title_case n ys s (is_new a b m v w1 w2 e j is ok c d) next =
    title_split n ys b a m v w1 w2 e j is ok c (λ i. next b (rw i at d)) (λ i. some_secs 3 b ys s (rw i at d) (λ h. omega (arith, h)))

secs_title : (ys : List ℕ) → AllByRecursion (λ x. x ≡ 2) ys → (n : ℕ) → Covers sections_dtd n (map named ys) (named 4 ∷ named 3 ∷ []) → 2 ≤ n
secs_title [] a n c = absurd (let e = covers-none sections_dtd n (named 4 ∷ named 3 ∷ []) c in cc)
secs_title (y ∷ ys) a n c =
    title_case n ys a.1 (name_case sections_dtd n 2 (map named ys) (named 4 ∷ named 3 ∷ []) (moved y n (map named ys) (named 4 ∷ named 3 ∷ []) a.0 c)) (λ j d. secs_title ys a.1 j d)

pub title_bound : (n : ℕ) → IsPossibleWith sections_dtd 0 n (named 4 ∷ named 3 ∷ []) → 3 ≤ n
title_bound n p = doc_bound n 4 (named 3 ∷ []) (λ e. omega (arith, e)) p 2 (λ b a j c. secs_title b a j c)

-- a word of no names misses the head and a sec
pub doc_two_bound : (n : ℕ) (w : List PlainToken) → worth (λ _. 1) w ≡ 0 → IsPossibleWith sections_dtd 0 n w → 2 ≤ n
doc_two_bound n w z p = let o = opened sections_dtd 0 n doc_model w refl p in let f = doc_words o.allowed.0 o.allowed.2 in
    let e : o.whole ≡ named 1 ∷ named 2 ∷ map named f.0 = o.allowed.1 ∙ ap (map named) f.1 in
    let q = gained sections_dtd (λ _. 1) (λ _. 0) (λ y m v i a. one_gains v) n o.whole w o.covers in
    let r = ap (worth (λ _. 1)) e in omega (arith, q, r, z, no_worth w, no_worth o.whole)
  where
    one_gains : (v : List PlainToken) → 1 + worth (λ _. 0) v ≤ suc (0 + worth (λ _. 1) v)
    one_gains v = omega (arith, no_worth v)

-- nothing but a head itself has a head, and a doc
after_head : (y : ℕ) (m : PlainModel) → 2 ≤ y → model_of sections_dtd y ≡ Some m → IsModelOf (λ x. 2 ≤ x) m
after_head zero m le e = absurd (omega arith)
after_head (suc zero) m le e = absurd (omega arith)
after_head (suc (suc y)) m le e =
    all_at (IsModelOf (λ x. 2 ≤ x)) (sec_model ∷ mixed [] ∷ mixed (5 ∷ 6 ∷ []) ∷ mixed (5 ∷ []) ∷ empty ∷ list_model ∷ item_model ∷ []) y m
    ((omega arith, (omega arith, (omega arith, tt))), (tt, ((omega arith, (omega arith, tt)), ((omega arith, tt), (tt, ((omega arith, (omega arith, tt)), ((omega arith, tt), tt))))))) e

all_secs : (b : List ℕ) → AllByRecursion (λ x. x ≡ 2) b → AllByRecursion (IsTokenOf (λ x. 2 ≤ x)) (map named b)
all_secs [] a = tt
all_secs (y ∷ b) a = (omega (arith, a.0), all_secs b a.1)

pub no_late_head : (n : ℕ) → IsPossibleWith sections_dtd 0 n (named 2 ∷ named 1 ∷ []) → ⊥
no_late_head n p =
    let l = doc_bound n 2 (named 1 ∷ []) (λ e. omega (arith, e)) p n (λ b a j c. absurd
    (let q = covered_of (λ x. 2 ≤ x) sections_dtd after_head j (map named b)
    (named 2 ∷ named 1 ∷ []) c (all_secs b a) in
    let z = q.1.0 in omega (arith, z))) in
    omega (arith, l)

-- the text after a head, in secs
no_first_text : (w : List PlainToken) (ws : List ℕ) → map named ws ≡ text ∷ w → ⊥
no_first_text w [] e = cc
no_first_text w (y ∷ ws) e = cc

text_split : (n k a : ℕ) (m : PlainModel) (v w1 w2 : List PlainToken) → n ≡ suc (a + k) → text ∷ [] ≡ w1 ++ w2 → model_of sections_dtd 2 ≡ Some m →
    Allows 9 m v → Covers sections_dtd a v w1 → (w2 ≡ text ∷ [] → 2 ≤ k) → 2 ≤ n
text_split n k a m v [] w2 e j is ok c next = omega (arith, e, next (sym j))
text_split n k a m v (t ∷ w1) w2 e j is ok c next =
    let i : t ≡ text = cc in let z = empty_join w1 w2 cc in
    let s = sec_some a m v (text ∷ []) is ok (rw (i, z.0) at c) (λ ws s f. no_first_text [] ws f) in omega (arith, e, s)

text_case : (n : ℕ) (ys : List ℕ) → NameCase sections_dtd n 2 (map named ys) (text ∷ []) → ((j : ℕ) → Covers sections_dtd j (map named ys) (text ∷ []) → 2 ≤ j) → 2 ≤ n
text_case n ys (is_kept w' e p c) next = absurd cc
text_case n ys (is_new a b m v w1 w2 e j is ok c d) next = text_split n b a m v w1 w2 e j is ok c (λ i. next b (rw i at d))

secs_text : (ys : List ℕ) → AllByRecursion (λ x. x ≡ 2) ys → (n : ℕ) → Covers sections_dtd n (map named ys) (text ∷ []) → 2 ≤ n
secs_text [] a n c = absurd (let e = covers-none sections_dtd n (text ∷ []) c in cc)
secs_text (y ∷ ys) a n c = text_case n ys (name_case sections_dtd n 2 (map named ys) (text ∷ []) (moved y n (map named ys) (text ∷ []) a.0 c)) (λ j d. secs_text ys a.1 j d)

head_text_case : (n : ℕ) (b : List ℕ) → AllByRecursion (λ x. x ≡ 2) b → NameCase sections_dtd n 1 (named 2 ∷ map named b) (named 1 ∷ text ∷ []) → 2 ≤ n
head_text_case n b a (is_kept w' e p c) = let i : w' ≡ text ∷ [] = cc in secs_text (2 ∷ b) (refl, a) n (rw i at c)
head_text_case n b a (is_new p q m v w1 w2 e j is ok c d) =
    let i = no_texts_front 1 (text ∷ []) w1 w2 j (head_texts p m v w1 is ok c) in
    let l = covered_of (λ x. 2 ≤ x) sections_dtd after_head q (named 2 ∷ map named b) (named 1 ∷ text ∷ []) (rw i at d) (omega arith, all_secs b a) in
    let z = l.0 in absurd (omega (arith, z))

pub head_text_bound : (n : ℕ) → IsPossibleWith sections_dtd 0 n (named 1 ∷ text ∷ []) → 2 ≤ n
head_text_bound n p = let o = opened sections_dtd 0 n doc_model (named 1 ∷ text ∷ []) refl p in let f = doc_words o.allowed.0 o.allowed.2 in
    head_text_case n f.0 f.2 (name_case sections_dtd n 1 (named 2 ∷ map named f.0) (named 1 ∷ text ∷ [])
    (rw (o.allowed.1 ∙ ap (map named) f.1) at o.covers))

-- a paragraph above the root misses a doc, a head and a sec
abbrev pub root_worth : ℕ → ℕ
root_worth zero = 3
root_worth (suc zero) = 1
root_worth (suc (suc zero)) = 1
root_worth (suc (suc (suc y))) = 0

doc_worth : (v : List PlainToken) → Allows 9 doc_model v → 2 ≤ worth root_worth v
doc_worth v (ws, e, m) = let f = doc_words ws m in let i : v ≡ named 1 ∷ named 2 ∷ map named f.0 = e ∙ ap (map named) f.1 in
    let j = ap (worth root_worth) i in omega (arith, j)

root_gains : (y : ℕ) (m : PlainModel) (v : List PlainToken) → model_of sections_dtd y ≡ Some m → Allows 9 m v → root_worth y ≤ suc (worth root_worth v)
root_gains zero m v e ok = let i : m ≡ doc_model = cc in let l = doc_worth v (subst (λ k. Allows 9 k v) i ok) in omega (arith, l)
root_gains (suc zero) m v e ok = omega arith
root_gains (suc (suc zero)) m v e ok = omega arith
root_gains (suc (suc (suc y))) m v e ok = omega arith

pub root_bound : (n : ℕ) → IsPossibleRootWith sections_dtd 0 n (named 4 ∷ []) → 3 ≤ n
root_bound n c =
    let q = gained sections_dtd root_worth (λ _. 0) (λ y m v e ok. let r = root_gains y m v e ok in omega (arith, r, no_worth v)) n (named 0 ∷ []) (named 4 ∷ []) c in
    omega (arith, q)

-- a sec with texts misses a paragraph
pub sec_bound : (n : ℕ) (w : List PlainToken) → IsPossibleWith sections_dtd 2 n (text ∷ w) → 1 ≤ n
sec_bound n w p = let o = opened sections_dtd 2 n sec_model (text ∷ w) refl p in
    sec_some n sec_model o.whole (text ∷ w) refl o.allowed o.covers (λ ws s e. no_first_text w ws e)
