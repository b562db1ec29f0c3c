-- Names may be left out too, since a productive name may stand with no content of the word; what is possible has a productive owner.
use Rattle.std.proofs.Common.{List, Some, [], ap, refl, suc, ℕ, ◌++◌, ◌+◌, ◌∷◌, ◌≡◌}
use Rattle.pv_model.specs.Plain.{PlainModel, PlainToken, named, other, text}
use Rattle.pv_model.specs.Models.{Allows}
use Rattle.pv_dtd.specs.Plain.{PlainDtd, declared, model_of, spelling_of}
use Rattle.pv_dtd.specs.Hedge.{AreGood, Hedge, cdata, data_unit, done, elem, elements, leaf, misc, white, word}
use Rattle.pv_missing.specs.Covers.{Covers, IsPossibleWith, cover_kept, cover_new, cover_none}
use Rattle.pv_missing.specs.Covers.{cover_text}
use Rattle.pv_dtd.specs.Proper.{IsProperDtd}
use Rattle.pv_dtd.specs.Productive.{IsProductive}
use Rattle.pv_missing.proofs.CoversToInsertions.{allows-empty}
use Rattle.pv_dtd.proofs.ProperDtds.{spelled}
use Rattle.pv_missing.proofs.Repeats.{Omits, Texts, omit_drop, omit_keep, omit_none, texts_drop, texts_keep, texts_none}
use Rattle.pv_missing.proofs.Texts.{allows_texts}

-- the word with no texts
abbrev pub names : List PlainToken → List PlainToken
names [] = []
names (named y ∷ u) = named y ∷ names u
names (text ∷ u) = names u
names (other ∷ u) = other ∷ names u

pub names_texts : (u : List PlainToken) → Texts u (names u)
names_texts [] = texts_none
names_texts (named y ∷ u) = texts_keep (named y) u (names u) (names_texts u)
names_texts (text ∷ u) = texts_drop u (names u) (names_texts u)
names_texts (other ∷ u) = texts_keep other u (names u) (names_texts u)

pub Texts_refl : (u : List PlainToken) → Texts u u
Texts_refl [] = texts_none
Texts_refl (t ∷ u) = texts_keep t u u (Texts_refl u)

module _ (g : PlainDtd) where
  -- what is good may be missing as a whole, but for its texts
  pub good_covers : (h : Hedge) → AreGood g h → Covers g (elements h) (names (word g h)) []
  good_covers done a = cover_none 0 refl
  good_covers (leaf (white b) h) a = good_covers h a
  good_covers (leaf (data_unit b) h) a = good_covers h a
  good_covers (leaf (cdata b) h) a = good_covers h a
  good_covers (leaf (misc b) h) a = good_covers h a
  good_covers (elem x t k h) (y, is, f, a, b) =
      rw is (cover_new (suc (elements k + elements h)) (elements k) (elements h) y f.model (names (word g k)) (names (word g h)) [] [] [] refl refl f.is_model
      (allows_texts g f.model (word g k) (names (word g k)) (names_texts (word g k)) f.allowed) (good_covers k a) (good_covers h b))

  -- an element of a productive name may be missing with no content of the word
  pub missing_name : (n y : ℕ) (u w : List PlainToken) → (p : IsProductive g y) → Covers g n u w → Covers g (suc (elements p.kids + n)) (named y ∷ u) w
  missing_name n y u w p c =
      let f = p.fits in
      cover_new (suc (elements p.kids + n)) (elements p.kids) n y f.model (names (word g p.kids)) u [] w w refl refl f.is_model
      (allows_texts g f.model (word g p.kids) (names (word g p.kids)) (names_texts (word g p.kids)) f.allowed) (good_covers p.kids p.good) c

  pub record Lessened (u w' : List PlainToken) : Type 0 where
    pub n : ℕ
    pub whole : List PlainToken
    pub texts : Texts u whole
    pub covers : Covers g n whole w'

  record HalvesOut (w1 w2 w' : List PlainToken) : Type 0 where
    pub front : List PlainToken
    pub back : List PlainToken
    pub is_join : w' ≡ front ++ back
    pub left : Omits w1 front
    pub right : Omits w2 back

  keep_halves : (t : PlainToken) (x1 w2 v' : List PlainToken) → HalvesOut x1 w2 v' → HalvesOut (t ∷ x1) w2 (t ∷ v')
  keep_halves t x1 w2 v' h = record {
    front = t ∷ h.front;
    back = h.back;
    is_join = ap (◌∷◌ t) h.is_join;
    left = omit_keep t x1 h.front h.left;
    right = h.right;
  }

  drop_halves : (t : PlainToken) (x1 w2 v' : List PlainToken) → HalvesOut x1 w2 v' → HalvesOut (t ∷ x1) w2 v'
  drop_halves t x1 w2 v' h = record {
    front = h.front;
    back = h.back;
    is_join = h.is_join;
    left = omit_drop t x1 h.front h.left;
    right = h.right;
  }

  halves : (w w' : List PlainToken) → Omits w w' → (w1 w2 : List PlainToken) → w ≡ w1 ++ w2 → HalvesOut w1 w2 w'
  halves w w' r [] w2 e = record { front = []; back = w'; is_join = refl; left = omit_none; right = rw e at r }
  halves w w' omit_none (t ∷ x1) w2 e = absurd cc
  halves w w' (omit_keep t v v' r) (s ∷ x1) w2 e = let p : t ≡ s = cc in rw p (keep_halves s x1 w2 v' (halves v v' r x1 w2 cc))
  halves w w' (omit_drop t v v' r) (s ∷ x1) w2 e = drop_halves s x1 w2 v' (halves v v' r x1 w2 cc)

  text_case : (u w v v' : List PlainToken) → Omits v v' → v ≡ text ∷ w → ((x : List PlainToken) → Omits w x → Lessened u x) → Lessened (text ∷ u) v'
  text_case u w v v' omit_none e next = absurd cc
  text_case u w v v' (omit_keep t x x' r) e next = let p : t ≡ text = cc in let q : x ≡ w = cc in rw p (go (next x' (rw q at r)))
    where
      go : Lessened u x' → Lessened (text ∷ u) (text ∷ x')
      go s = record { n = s.n; whole = text ∷ s.whole; texts = texts_keep text u s.whole s.texts; covers = cover_text s.n s.whole x' s.covers }
  text_case u w v v' (omit_drop t x x' r) e next = let q : x ≡ w = cc in go (next v' (rw q at r))
    where
      go : Lessened u v' → Lessened (text ∷ u) v'
      go s = record { n = s.n; whole = s.whole; texts = texts_drop u s.whole s.texts; covers = s.covers }

  name_case : (y : ℕ) (u w v v' : List PlainToken) → IsProductive g y → Omits v v' → v ≡ named y ∷ w → ((x : List PlainToken) → Omits w x → Lessened u x) → Lessened (named y ∷ u) v'
  name_case y u w v v' p omit_none e next = absurd cc
  name_case y u w v v' p (omit_keep t x x' r) e next = let f : t ≡ named y = cc in let q : x ≡ w = cc in rw f (go (next x' (rw q at r)))
    where
      go : Lessened u x' → Lessened (named y ∷ u) (named y ∷ x')
      go s = record { n = s.n; whole = named y ∷ s.whole; texts = texts_keep (named y) u s.whole s.texts; covers = cover_kept s.n y s.whole x' p s.covers }
  name_case y u w v v' p (omit_drop t x x' r) e next = let q : x ≡ w = cc in go (next v' (rw q at r))
    where
      go : Lessened u v' → Lessened (named y ∷ u) v'
      go s = record {
        n = suc (elements p.kids + s.n);
        whole = named y ∷ s.whole;
        texts = texts_keep (named y) u s.whole s.texts;
        covers = missing_name s.n y s.whole v' p s.covers;
      }

  new_case : (y : ℕ) (m : PlainModel) (v u w1 w2 w' : List PlainToken) → model_of g y ≡ Some m → Allows (declared g) m v → (h : HalvesOut w1 w2 w') →
      Lessened v h.front → Lessened u h.back → Lessened (named y ∷ u) w'
  new_case y m v u w1 w2 w' is ok h r s = record {
    n = suc (r.n + s.n);
    whole = named y ∷ s.whole;
    texts = texts_keep (named y) u s.whole s.texts;
    covers = cover_new (suc (r.n + s.n)) r.n s.n y m r.whole s.whole h.front h.back w' refl h.is_join is (allows_texts g m v r.whole r.texts ok) r.covers s.covers;
  }

  pub none_left : (v v' : List PlainToken) → Omits v v' → v ≡ [] → v' ≡ []
  none_left v v' omit_none e = refl
  none_left v v' (omit_keep t x x' r) e = absurd cc
  none_left v v' (omit_drop t x x' r) e = absurd cc

  pub lessen : (n : ℕ) (u w : List PlainToken) → Covers g n u w → (w' : List PlainToken) → Omits w w' → Lessened u w'
  lessen n u w (cover_none _ z) w' r = record { n = 0; whole = []; texts = texts_none; covers = rw (none_left [] w' r refl) (cover_none 0 refl) }
  lessen n u w (cover_text _ u' x c) w' r = text_case u' x w w' r refl (λ x' s. lessen n u' x c x' s)
  lessen n u w (cover_kept _ y u' x p c) w' r = name_case y u' x w w' p r refl (λ x' s. lessen n u' x c x' s)
  lessen n u w (cover_new _ a b y m v u' w1 w2 _ e j is ok c d) w' r = go (λ x s. lessen a v w1 c x s) (λ x s. lessen b u' w2 d x s) (halves w w' r w1 w2 j)
    where
      go : ((x : List PlainToken) → Omits w1 x → Lessened v x) → ((x : List PlainToken) → Omits w2 x → Lessened u' x) → HalvesOut w1 w2 w' → Lessened (named y ∷ u') w'
      go f b' h = new_case y m v u' w1 w2 w' is ok h (f h.front h.left) (b' h.back h.right)

  -- a possible word stays possible where tokens are left out
  pub possible_part : (x n : ℕ) (w w' : List PlainToken) → Omits w w' → IsPossibleWith g x n w → (k : ℕ) × IsPossibleWith g x k w'
  possible_part x n w w' r p = go (lessen n p.whole w p.covers w' r)
    where
      go : Lessened p.whole w' → (k : ℕ) × IsPossibleWith g x k w'
      go s = (s.n, record { model = p.model; is_model = p.is_model; whole = s.whole; allowed = allows_texts g p.model p.whole s.whole s.texts p.allowed; covers = s.covers })

  -- a hedge of good elements for what is covered
  pub record Built (u : List PlainToken) : Type 0 where
    pub hedge : Hedge
    pub good : AreGood g hedge
    pub is_word : word g hedge ≡ u
    pub none : u ≡ [] → hedge ≡ done

  text_built : (u : List PlainToken) → Built u → Built (text ∷ u)
  text_built u b = record { hedge = leaf (data_unit []) b.hedge; good = b.good; is_word = ap (◌∷◌ text) b.is_word; none = λ e. absurd cc }

  -- a productive name has a model, so that it has a spelling
  kept_built : IsProperDtd g → (y : ℕ) (u : List PlainToken) → IsProductive g y → Built u → Built (named y ∷ u)
  kept_built proper y u p b = record {
    hedge = elem (spelling_of g y) [] p.kids b.hedge;
    good = (y, spelled g proper y p.fits.model p.fits.is_model, p.fits, p.good, b.good);
    is_word = let f = b.is_word in let q = spelled g proper y p.fits.model p.fits.is_model in simp q (ap (◌∷◌ (named y)) f);
    none = λ e. absurd cc;
  }

  new_productive : (y : ℕ) (m : PlainModel) (v : List PlainToken) → model_of g y ≡ Some m → Allows (declared g) m v → Built v → IsProductive g y
  new_productive y m v is ok b = record {
    kids = b.hedge;
    fits = record { model = m; is_model = is; no_kids = λ z. b.none (allows-empty g m v z ok); allowed = rw b.is_word ok };
    good = b.good;
  }

  pub built : IsProperDtd g → (n : ℕ) (u w : List PlainToken) → Covers g n u w → Built u
  built proper n u w (cover_none _ z) = record { hedge = done; good = tt; is_word = refl; none = λ _. refl }
  built proper n u w (cover_text _ u' x c) = text_built u' (built proper n u' x c)
  built proper n u w (cover_kept _ y u' x p c) = kept_built proper y u' p (built proper n u' x c)
  built proper n u w (cover_new _ a b y m v u' w1 w2 _ e j is ok c d) = kept_built proper y u' (new_productive y m v is ok (built proper a v w1 c)) (built proper b u' w2 d)

  pub possible_productive : IsProperDtd g → (x n : ℕ) (w : List PlainToken) → IsPossibleWith g x n w → IsProductive g x
  possible_productive proper x n w p = new_productive x p.model p.whole p.is_model p.allowed (built proper n p.whole w p.covers)
