-- One level: a cover of the word is an insertion at this level, and the other way round.
use Rattle.std.proofs.Common.{List, None, Option, Some, [], ap, arith, refl, subst, suc, sym, ℕ, ◌++◌, ◌+◌, ◌∙◌, ◌∷◌, ◌≡◌}
use Rattle.pv_model.specs.Plain.{PlainModel, PlainToken, empty, named, text}
use Rattle.pv_model.specs.Models.{Allows}
use Rattle.pv_dtd.specs.Plain.{PlainDtd, declared, model_of, number_of, spelling_of}
use Rattle.pv_dtd.specs.Hedge.{Fits, Hedge, Leaf, cdata, data_unit, done, elem, leaf, misc, token, white, word}
use Rattle.pv_missing.specs.Covers.{Covers, cover_kept, cover_new, cover_none, cover_text}
use Rattle.pv_dtd.specs.Proper.{IsProperDtd}
use Rattle.pv_missing.specs.Extensions.{join}
use Rattle.pv_missing.specs.Levels.{Inserts, insert_done, insert_kept, insert_leaf, insert_new}
use Rattle.pv_missing.proofs.KeptElements.{CanKeep}
use Rattle.pv_missing.proofs.Hedges.{Cut, cut}
use Rattle.pv_dtd.proofs.ProperDtds.{spelled}

-- a join without tokens has none on either side
pub empty_join : (a b : List PlainToken) → [] ≡ a ++ b → (a ≡ []) × (b ≡ [])
empty_join [] b e = (refl, sym e)
empty_join (t ∷ a) b e = absurd cc

-- a token is of a name only where the number is that name's
pub token-name : (o : Option ℕ) (y : ℕ) → token o ≡ named y → o ≡ Some y
token-name (Some z) y e = cc
token-name None y e = absurd cc

token-text : (o : Option ℕ) → token o ≡ text → ⊥
token-text (Some z) e = cc
token-text None e = cc

-- only the empty word covers the empty word
pub covers-none : (g : PlainDtd) (n : ℕ) (w : List PlainToken) → Covers g n [] w → w ≡ []
covers-none g n w (cover_none _ e) = refl

-- what the owner wants is empty where its model is
pub allows-empty : (g : PlainDtd) (m : PlainModel) (u : List PlainToken) → m ≡ empty → Allows (declared g) m u → u ≡ []
allows-empty g m u e a = let P : PlainModel → Type 0 = λ x. Allows (declared g) x u in subst P e a

module _ (g : PlainDtd) (Kept : ℕ → List ℕ → List ℕ → Hedge → Hedge → Type 0) where
  pub record Grown (n : ℕ) (h : Hedge) (u : List PlainToken) : Type 0 where
    pub hedge : Hedge
    pub grows : Inserts g Kept n h hedge
    pub is_word : word g hedge ≡ u
    pub none : h ≡ done → u ≡ [] → hedge ≡ done

  -- both parts of a joined hedge can be kept
  pub record Split (c : ℕ) (a b : Hedge) : Type 0 where
    pub left : ℕ
    pub right : ℕ
    pub is_sum : c ≡ left + right
    pub front : CanKeep Kept left a
    pub back : CanKeep Kept right b

  pub CanKeep-split : (c : ℕ) (a b : Hedge) → CanKeep Kept c (join a b) → Split c a b
  CanKeep-split c done b h = record { left = 0; right = c; is_sum = omega arith; front = refl; back = h }
  CanKeep-split c (leaf l a) b h = go (CanKeep-split c a b h)
    where
      go : Split c a b → Split c (leaf l a) b
      go s = record { left = s.left; right = s.right; is_sum = s.is_sum; front = s.front; back = s.back }
  CanKeep-split c (elem x t k a) b h = go (CanKeep-split h.1 a b h.5)
    where
      go : Split h.1 a b → Split c (elem x t k a) b
      go s = record {
        left = h.0 + s.left;
        right = s.right;
        is_sum = let e = h.2 in let f = s.is_sum in omega arith;
        front = (h.0, s.left, refl, h.3, h.4, s.front);
        back = s.back;
      }

  pub CanKeep-join : (c d : ℕ) (a b : Hedge) → CanKeep Kept c a → CanKeep Kept d b → CanKeep Kept (c + d) (join a b)
  CanKeep-join c d done b h i = let e : d ≡ c + d = omega arith in let P : ℕ → Type 0 = λ n. CanKeep Kept n b in subst P e i
  CanKeep-join c d (leaf l a) b h i = CanKeep-join c d a b h i
  CanKeep-join c d (elem x t k a) b h i =
      (h.0, h.1 + d, let e = h.2 in omega arith, h.3, h.4, CanKeep-join h.1 d a b h.5 i)

  -- a leaf that is no token goes along
  along : (n : ℕ) (l : Leaf) (h : Hedge) (u : List PlainToken) → ((v : Hedge) → word g (leaf l v) ≡ word g v) → Grown n h u → Grown n (leaf l h) u
  along n l h u same r = record {
    hedge = leaf l r.hedge;
    grows = insert_leaf n l h r.hedge r.grows;
    is_word = same r.hedge ∙ r.is_word;
    none = λ e _. absurd cc;
  }

  -- a leaf that is a token is kept
  kept_text : (n : ℕ) (l : Leaf) (h : Hedge) (u : List PlainToken) → ((v : Hedge) → word g (leaf l v) ≡ text ∷ word g v) → Grown n h u → Grown n (leaf l h) (text ∷ u)
  kept_text n l h u same r = record {
    hedge = leaf l r.hedge;
    grows = insert_leaf n l h r.hedge r.grows;
    is_word = same r.hedge ∙ ap (◌∷◌ text) r.is_word;
    none = λ e _. absurd cc;
  }

  -- at the end nothing but leaves that are no tokens is left
  none_step : (c : ℕ) (h : Hedge) → word g h ≡ [] → CanKeep Kept c h → Grown c h []
  none_step c done e i = record { hedge = done; grows = insert_done c i; is_word = refl; none = λ _ _. refl }
  none_step c (leaf (white b) h) e i = along c (white b) h [] (λ v. refl) (none_step c h e i)
  none_step c (leaf (misc b) h) e i = along c (misc b) h [] (λ v. refl) (none_step c h e i)
  none_step c (leaf (data_unit b) h) e i = absurd cc
  none_step c (leaf (cdata b) h) e i = absurd cc
  none_step c (elem x t k h) e i = absurd cc

  text_step : (n c : ℕ) (h : Hedge) (u w : List PlainToken) → word g h ≡ text ∷ w → CanKeep Kept c h →
      ((r : Hedge) → word g r ≡ w → CanKeep Kept c r → Grown (n + c) r u) → Grown (n + c) h (text ∷ u)
  text_step n c done u w e i next = absurd cc
  text_step n c (leaf (white b) h) u w e i next = along (n + c) (white b) h (text ∷ u) (λ v. refl) (text_step n c h u w e i next)
  text_step n c (leaf (misc b) h) u w e i next = along (n + c) (misc b) h (text ∷ u) (λ v. refl) (text_step n c h u w e i next)
  text_step n c (leaf (data_unit b) h) u w e i next = kept_text (n + c) (data_unit b) h u (λ v. refl) (next h (cc) i)
  text_step n c (leaf (cdata b) h) u w e i next = kept_text (n + c) (cdata b) h u (λ v. refl) (next h (cc) i)
  text_step n c (elem x t k h) u w e i next = absurd (token-text (number_of g x) cc)

  kept_step : (n c y : ℕ) (h : Hedge) (u w : List PlainToken) → word g h ≡ named y ∷ w → CanKeep Kept c h →
      ((d : ℕ) (r : Hedge) → word g r ≡ w → CanKeep Kept d r → Grown (n + d) r u) → Grown (n + c) h (named y ∷ u)
  kept_step n c y done u w e i next = absurd cc
  kept_step n c y (leaf (white b) h) u w e i next = along (n + c) (white b) h (named y ∷ u) (λ v. refl) (kept_step n c y h u w e i next)
  kept_step n c y (leaf (misc b) h) u w e i next = along (n + c) (misc b) h (named y ∷ u) (λ v. refl) (kept_step n c y h u w e i next)
  kept_step n c y (leaf (data_unit b) h) u w e i next = absurd cc
  kept_step n c y (leaf (cdata b) h) u w e i next = absurd cc
  kept_step n c y (elem x t k h) u w e i next = go (next i.1 h (cc) i.5)
    where
      go : Grown (n + i.1) h u → Grown (n + c) (elem x t k h) (named y ∷ u)
      go r = record {
        hedge = elem x t i.3 r.hedge;
        grows = insert_kept (n + c) i.0 (n + i.1) x t k i.3 h r.hedge (let s = i.2 in omega arith) i.4 r.grows;
        is_word = let f = r.is_word in cc;
        none = λ f _. absurd cc;
      }

  -- an inserted element round the front of the hedge
  new_step : IsProperDtd g → (n a b c y : ℕ) (m : PlainModel) (v u : List PlainToken) (h h1 h2 : Hedge) → n ≡ suc (a + b) → h ≡ join h1 h2 → (v ≡ [] → h1 ≡ done) →
      model_of g y ≡ Some m → Allows (declared g) m v → (s : Split c h1 h2) → Grown (a + s.left) h1 v → Grown (b + s.right) h2 u → Grown (n + c) h (named y ∷ u)
  new_step proper n a b c y m v u h h1 h2 e j none is ok s front back = record {
    hedge = elem (spelling_of g y) [] front.hedge back.hedge;
    grows = insert_new (n + c) (a + s.left) (b + s.right) (spelling_of g y) y h h1 h2 front.hedge back.hedge (let f = s.is_sum in omega arith) j
        (spelled g proper y m is) fits front.grows back.grows;
    is_word = let f = back.is_word in let q = spelled g proper y m is in simp q (ap (◌∷◌ (named y)) f);
    none = λ f z. absurd cc;
  }
    where
      fits : Fits g y front.hedge
      fits = record {
        model = m;
        is_model = is;
        no_kids = λ z. let nil = allows-empty g m v z ok in front.none (none nil) nil;
        allowed = rw front.is_word ok;
      }

  -- the missing elements of a cover are inserted
  pub grow : IsProperDtd g → (n c : ℕ) (u w : List PlainToken) (h : Hedge) → Covers g n u w → word g h ≡ w → CanKeep Kept c h → Grown (n + c) h u
  grow proper n c u w h (cover_none _ z) e i = let s : n + c ≡ c = omega arith in rw s (none_step c h e i)
  grow proper n c u w h (cover_text _ u' w' d) e i = text_step n c h u' w' e i (λ r f j. grow proper n c u' w' r d f j)
  grow proper n c u w h (cover_kept _ y u' w' p d) e i = kept_step n c y h u' w' e i (λ k r f j. grow proper n k u' w' r d f j)
  grow proper n c u w h (cover_new _ a b y m v u' w1 w2 _ s cut_at is ok d1 d2) e i =
      go (λ f l j k. grow proper a l v w1 f d1 j k) (λ r l j k. grow proper b l u' w2 r d2 j k) (cut g h w1 w2 (e ∙ cut_at))
    where
      go : ((f : Hedge) (l : ℕ) → word g f ≡ w1 → CanKeep Kept l f → Grown (a + l) f v) →
          ((r : Hedge) (l : ℕ) → word g r ≡ w2 → CanKeep Kept l r → Grown (b + l) r u') → Cut g h w1 w2 → Grown (n + c) h (named y ∷ u')
      go front back r =
          let t = CanKeep-split c r.front r.back (let P : Hedge → Type 0 = λ x. CanKeep Kept c x in subst P r.is_join i) in
          new_step proper n a b c y m v u' h r.front r.back s r.is_join (λ z. r.none (covers-none g a w1 (rw z at d1))) is ok t
          (front r.front t.left r.front_word t.front) (back r.back t.right r.back_word t.back)
