-- Texts may be left out, doubled and merged; names may be left out.
use Rattle.std.proofs.Common.{List, Some, [], ap, map, refl, suc, ℕ, ◌++◌, ◌+◌, ◌∙◌, ◌∷◌, ◌≡◌}
use Rattle.std.specs.List.{AllByRecursion}
use Rattle.pv_model.specs.Plain.{PlainModel, PlainToken, any, children, empty, mixed, named, text}
use Rattle.pv_model.specs.Models.{Allows, IsOfAny, IsOfMixed}
use Rattle.pv_dtd.specs.Plain.{PlainDtd, declared, model_of}
use Rattle.pv_missing.specs.Covers.{Covers, IsPossibleWith, cover_kept, cover_new, cover_none}
use Rattle.pv_missing.specs.Covers.{cover_text}
use Rattle.pv_dtd.specs.Productive.{IsProductive}
use Rattle.pv_missing.proofs.Repeats.{Texts, texts_again, texts_drop, texts_keep, texts_none}

-- texts that are as good as the old ones pass a test of each token
pub all_texts : (P : PlainToken → Type 0) → P text → (u u' : List PlainToken) → Texts u u' → AllByRecursion P u → AllByRecursion P u'
all_texts P t u u' texts_none a = a
all_texts P t u u' (texts_keep _ w w' r) a = (a.0, all_texts P t w w' r a.1)
all_texts P t u u' (texts_drop w w' r) a = all_texts P t w w' r a.1
all_texts P t u u' (texts_again w w' r) a = (t, all_texts P t (text ∷ w) w' r a)

-- where there is no text, nothing changes
pub no_texts : (u u' : List PlainToken) → Texts u u' → (w : List ℕ) → u ≡ map named w → u' ≡ u
no_texts u u' texts_none w e = refl
no_texts u u' (texts_keep t v v' r) [] e = absurd cc
no_texts u u' (texts_keep t v v' r) (y ∷ w) e = let p = no_texts v v' r w (cc) in cc
no_texts u u' (texts_drop v v' r) [] e = absurd cc
no_texts u u' (texts_drop v v' r) (y ∷ w) e = absurd cc
no_texts u u' (texts_again v v' r) [] e = absurd cc
no_texts u u' (texts_again v v' r) (y ∷ w) e = absurd cc

pub no_texts_empty : (u u' : List PlainToken) → Texts u u' → u ≡ [] → u' ≡ []
no_texts_empty u u' r e = no_texts u u' r [] e ∙ e

pub allows_texts : (g : PlainDtd) (m : PlainModel) (u u' : List PlainToken) → Texts u u' → Allows (declared g) m u → Allows (declared g) m u'
allows_texts g empty u u' r a = no_texts_empty u u' r a
allows_texts g any u u' r a = all_texts (IsOfAny (declared g)) tt u u' r a
allows_texts g (mixed ys) u u' r a = all_texts (IsOfMixed ys) tt u u' r a
allows_texts g (children p) u u' r (w, e, m) = (w, no_texts u u' r w e ∙ e, m)

-- a joined word is changed in its two parts
pub record Halves (w1 w2 w' : List PlainToken) : Type 0 where
  pub front : List PlainToken
  pub back : List PlainToken
  pub is_join : w' ≡ front ++ back
  pub left : Texts w1 front
  pub right : Texts w2 back

keep_halves : (t : PlainToken) (x1 w2 v' : List PlainToken) → Halves x1 w2 v' → Halves (t ∷ x1) w2 (t ∷ v')
keep_halves t x1 w2 v' h = record {
  front = t ∷ h.front;
  back = h.back;
  is_join = ap (◌∷◌ t) h.is_join;
  left = texts_keep t x1 h.front h.left;
  right = h.right;
}

drop_halves : (x1 w2 v' : List PlainToken) → Halves x1 w2 v' → Halves (text ∷ x1) w2 v'
drop_halves x1 w2 v' h = record {
  front = h.front;
  back = h.back;
  is_join = h.is_join;
  left = texts_drop x1 h.front h.left;
  right = h.right;
}

again_halves : (x1 w2 v' : List PlainToken) → Halves (text ∷ x1) w2 v' → Halves (text ∷ x1) w2 (text ∷ v')
again_halves x1 w2 v' h = record {
  front = text ∷ h.front;
  back = h.back;
  is_join = ap (◌∷◌ text) h.is_join;
  left = texts_again x1 h.front h.left;
  right = h.right;
}

halves : (w w' : List PlainToken) → Texts w w' → (w1 w2 : List PlainToken) → w ≡ w1 ++ w2 → Halves w1 w2 w'
halves w w' r [] w2 e = record { front = []; back = w'; is_join = refl; left = texts_none; right = rw e at r }
halves w w' texts_none (t ∷ x1) w2 e = absurd cc
halves w w' (texts_keep t v v' r) (s ∷ x1) w2 e = let p : t ≡ s = cc in rw p (keep_halves s x1 w2 v' (halves v v' r x1 w2 cc))
halves w w' (texts_drop v v' r) (s ∷ x1) w2 e = let p : s ≡ text = cc in rw p (drop_halves x1 w2 v' (halves v v' r x1 w2 cc))
halves w w' (texts_again v v' r) (s ∷ x1) w2 e = let p : s ≡ text = cc in rw p (again_halves x1 w2 v' (halves (text ∷ v) v' r (text ∷ x1) w2 cc))

module _ (g : PlainDtd) where
  pub record Retexted (n : ℕ) (u w' : List PlainToken) : Type 0 where
    pub whole : List PlainToken
    pub texts : Texts u whole
    pub covers : Covers g n whole w'

  keep_step : (n : ℕ) (u w' : List PlainToken) → Retexted n u w' → Retexted n (text ∷ u) (text ∷ w')
  keep_step n u w' r = record { whole = text ∷ r.whole; texts = texts_keep text u r.whole r.texts; covers = cover_text n r.whole w' r.covers }

  drop_step : (n : ℕ) (u w' : List PlainToken) → Retexted n u w' → Retexted n (text ∷ u) w'
  drop_step n u w' r = record { whole = r.whole; texts = texts_drop u r.whole r.texts; covers = r.covers }

  again_step : (n : ℕ) (u w' : List PlainToken) → Retexted n (text ∷ u) w' → Retexted n (text ∷ u) (text ∷ w')
  again_step n u w' r = record { whole = text ∷ r.whole; texts = texts_again u r.whole r.texts; covers = cover_text n r.whole w' r.covers }

  text_case : (n : ℕ) (u w v v' : List PlainToken) → Texts v v' → v ≡ text ∷ w → ((x : List PlainToken) → Texts w x → Retexted n u x) → Retexted n (text ∷ u) v'
  text_case n u w v v' texts_none e next = absurd cc
  text_case n u w v v' (texts_keep t x x' r) e next =
      let p : t ≡ text = cc in let q : x ≡ w = cc in rw p (keep_step n u x' (next x' (rw q at r)))
  text_case n u w v v' (texts_drop x x' r) e next = let q : x ≡ w = cc in drop_step n u x' (next x' (rw q at r))
  text_case n u w v v' (texts_again x x' r) e next = again_step n u x' (text_case n u w (text ∷ x) x' r e next)

  name_case : (n y : ℕ) (u w v v' : List PlainToken) → IsProductive g y → Texts v v' → v ≡ named y ∷ w → ((x : List PlainToken) → Texts w x → Retexted n u x) → Retexted n (named y ∷ u) v'
  name_case n y u w v v' p texts_none e next = absurd cc
  name_case n y u w v v' p (texts_keep t x x' r) e next = let q : t ≡ named y = cc in let s : x ≡ w = cc in rw q (go (next x' (rw s at r)))
    where
      go : Retexted n u x' → Retexted n (named y ∷ u) (named y ∷ x')
      go r = record { whole = named y ∷ r.whole; texts = texts_keep (named y) u r.whole r.texts; covers = cover_kept n y r.whole x' p r.covers }
  name_case n y u w v v' p (texts_drop x x' r) e next = absurd cc
  name_case n y u w v v' p (texts_again x x' r) e next = absurd cc

  new_case : (n a b y : ℕ) (m : PlainModel) (v u w1 w2 w' : List PlainToken) → n ≡ suc (a + b) → model_of g y ≡ Some m → Allows (declared g) m v → (h : Halves w1 w2 w') →
      Retexted a v h.front → Retexted b u h.back → Retexted n (named y ∷ u) w'
  new_case n a b y m v u w1 w2 w' e is ok h r s = record {
    whole = named y ∷ s.whole;
    texts = texts_keep (named y) u s.whole s.texts;
    covers = cover_new n a b y m r.whole s.whole h.front h.back w' e h.is_join is (allows_texts g m v r.whole r.texts ok) r.covers s.covers;
  }

  pub retext : (n : ℕ) (u w : List PlainToken) → Covers g n u w → (w' : List PlainToken) → Texts w w' → Retexted n u w'
  retext n u w (cover_none _ z) w' r = record { whole = []; texts = texts_none; covers = rw (no_texts [] w' r [] refl) (cover_none n z) }
  retext n u w (cover_text _ u' x c) w' r = text_case n u' x w w' r refl (λ x' s. retext n u' x c x' s)
  retext n u w (cover_kept _ y u' x p c) w' r = name_case n y u' x w w' p r refl (λ x' s. retext n u' x c x' s)
  retext n u w (cover_new _ a b y m v u' w1 w2 _ e j is ok c d) w' r = go (λ x s. retext a v w1 c x s) (λ x s. retext b u' w2 d x s) (halves w w' r w1 w2 j)
    where
      go : ((x : List PlainToken) → Texts w1 x → Retexted a v x) → ((x : List PlainToken) → Texts w2 x → Retexted b u' x) → Halves w1 w2 w' → Retexted n (named y ∷ u') w'
      go f b' h = new_case n a b y m v u' w1 w2 w' e is ok h (f h.front h.left) (b' h.back h.right)

  -- a possible word stays possible, and as heavy, where texts are left out or repeated
  pub possible_texts : (x n : ℕ) (w w' : List PlainToken) → Texts w w' → IsPossibleWith g x n w → IsPossibleWith g x n w'
  possible_texts x n w w' r p = go (retext n p.whole w p.covers w' r)
    where
      go : Retexted n p.whole w' → IsPossibleWith g x n w'
      go s = record { model = p.model; is_model = p.is_model; whole = s.whole; allowed = allows_texts g p.model p.whole s.whole s.texts p.allowed; covers = s.covers }
