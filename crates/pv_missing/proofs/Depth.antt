-- Depths and finite derivations say the same.
use Rattle.std.proofs.Common.{List, Some, [], ap, append-nil, append_assoc, arith, inl, inr, refl, suc, sym, zero, ℕ, ◌++◌, ◌+◌, ◌∙◌, ◌∷◌, ◌≡◌}
use Rattle.pv_model.specs.Plain.{PlainModel, PlainToken, named, other, text}
use Rattle.pv_model.specs.Models.{Allows}
use Rattle.pv_dtd.specs.Plain.{PlainDtd, declared, model_of}
use Rattle.pv_missing.specs.Covers.{Covers, IsPossibleWith, cover_kept, cover_new, cover_none}
use Rattle.pv_missing.specs.Covers.{cover_text}
use Rattle.pv_missing.specs.FilledWords.{Fills, Pieces, StandsFor}
use Rattle.pv_dtd.specs.Productive.{IsProductive}

module _ (g : PlainDtd) where
  -- a cover of one thing and a cover of the next are a cover of both
  pub covers-join : (n a b : ℕ) (u1 u2 w1 w2 : List PlainToken) → n ≡ a + b → Covers g a u1 w1 → Covers g b u2 w2 → Covers g n (u1 ++ u2) (w1 ++ w2)
  covers-join n a b u1 u2 w1 w2 e (cover_none _ z) d = let s : n ≡ b = omega arith in rw s d
  covers-join n a b u1 u2 w1 w2 e (cover_text _ u w c) d = cover_text n (u ++ u2) (w ++ w2) (covers-join n a b u u2 w w2 e c d)
  covers-join n a b u1 u2 w1 w2 e (cover_kept _ y u w p c) d = cover_kept n y (u ++ u2) (w ++ w2) p (covers-join n a b u u2 w w2 e c d)
  covers-join n a b u1 u2 w1 w2 e (cover_new _ p q y m v u x1 x2 _ s j is ok c1 c2) d =
      cover_new n p (q + b) y m v (u ++ u2) x1 (x2 ++ w2) (w1 ++ w2) (omega arith)
      (ap (λ x. x ++ w2) j ∙ append_assoc x1 x2 w2) is ok c1 (covers-join (q + b) q b u u2 x2 w2 refl c2 d)

  pub record Covered (u w : List PlainToken) : Type 0 where
    pub n : ℕ
    pub covers : Covers g n u w

  name_step : (y : ℕ) (u w1 w2 w : List PlainToken) → w ≡ w1 ++ w2 → Covered (named y ∷ []) w1 → Covered u w2 → Covered (named y ∷ u) w
  name_step y u w1 w2 w e c d = record {
    n = c.n + d.n;
    covers = rw e (covers-join (c.n + d.n) c.n d.n (named y ∷ []) u w1 w2 refl c.covers d.covers);
  }

  text_step : (u w1 w : List PlainToken) → w ≡ text ∷ w1 → Covered u w1 → Covered (text ∷ u) w
  text_step u w1 w e d = record { n = d.n; covers = rw e (cover_text d.n u w1 d.covers) }

  pieces_cover : (R : ℕ → List PlainToken → Type 0) → ((y : ℕ) (w : List PlainToken) → R y w → Covered (named y ∷ []) w) →
      (u w : List PlainToken) → Pieces R u w → Covered u w
  pieces_cover R each [] w e = record { n = 0; covers = rw e (cover_none 0 refl) }
  pieces_cover R each (named y ∷ u) w (w1, w2, e, r, p) = name_step y u w1 w2 w e (each y w1 r) (pieces_cover R each u w2 p)
  pieces_cover R each (text ∷ u) w (w2, e, p) = text_step u w2 w e (pieces_cover R each u w2 p)
  pieces_cover R each (other ∷ u) w p = absurd p

  kept_cover : (y : ℕ) (w : List PlainToken) → IsProductive g y × (w ≡ named y ∷ []) → Covered (named y ∷ []) w
  kept_cover y w (p, e) = record { n = 0; covers = rw e (cover_kept 0 y [] [] p (cover_none 0 refl)) }

  new_cover : (y : ℕ) (m : PlainModel) (v w : List PlainToken) → model_of g y ≡ Some m → Allows (declared g) m v → Covered v w → Covered (named y ∷ []) w
  new_cover y m v w is ok c = record {
    n = suc c.n;
    covers = cover_new (suc c.n) c.n 0 y m v [] w [] w (omega arith) (sym (append-nil w)) is ok c.covers (cover_none 0 refl);
  }

  pub stands_for_covers : (d y : ℕ) (w : List PlainToken) → StandsFor g d y w → Covered (named y ∷ []) w
  stands_for_covers zero y w h = kept_cover y w h
  stands_for_covers (suc d) y w (inl h) = kept_cover y w h
  stands_for_covers (suc d) y w (inr (m, is, u, ok, p)) = new_cover y m u w is ok (pieces_cover (StandsFor g d) (λ z v h. stands_for_covers d z v h) u w p)

  -- more depth does no harm
  pieces_more : (R S : ℕ → List PlainToken → Type 0) → ((y : ℕ) (w : List PlainToken) → R y w → S y w) → (u w : List PlainToken) → Pieces R u w → Pieces S u w
  pieces_more R S up [] w e = e
  pieces_more R S up (named y ∷ u) w (w1, w2, e, r, p) = (w1, w2, e, up y w1 r, pieces_more R S up u w2 p)
  pieces_more R S up (text ∷ u) w (w2, e, p) = (w2, e, pieces_more R S up u w2 p)
  pieces_more R S up (other ∷ u) w p = p

  stands_suc : (d y : ℕ) (w : List PlainToken) → StandsFor g d y w → StandsFor g (suc d) y w
  stands_suc zero y w h = inl h
  stands_suc (suc d) y w (inl h) = inl h
  stands_suc (suc d) y w (inr (m, is, u, ok, p)) = inr (m, is, u, ok, pieces_more (StandsFor g d) (StandsFor g (suc d)) (λ z v h. stands_suc d z v h) u w p)

  stands_more : (k d y : ℕ) (w : List PlainToken) → StandsFor g d y w → StandsFor g (k + d) y w
  stands_more zero d y w h = let e : 0 + d ≡ d = omega arith in rw e h
  stands_more (suc k) d y w h = let e : suc k + d ≡ suc (k + d) = omega arith in rw e (stands_suc (k + d) y w (stands_more k d y w h))

  pub record Deep (u w : List PlainToken) : Type 0 where
    pub depth : ℕ
    pub pieces : Pieces (StandsFor g depth) u w

  kept_deep : (y : ℕ) (u w : List PlainToken) → IsProductive g y → Deep u w → Deep (named y ∷ u) (named y ∷ w)
  kept_deep y u w p d = record { depth = d.depth; pieces = (named y ∷ [], w, refl, stands_kept d.depth, d.pieces) }
    where
      stands_kept : (d : ℕ) → StandsFor g d y (named y ∷ [])
      stands_kept zero = (p, refl)
      stands_kept (suc k) = inl (p, refl)

  new_deep : (y : ℕ) (m : PlainModel) (v u w1 w2 w : List PlainToken) → w ≡ w1 ++ w2 → model_of g y ≡ Some m → Allows (declared g) m v → Deep v w1 → Deep u w2 → Deep (named y ∷ u) w
  new_deep y m v u w1 w2 w e is ok c d = record {
    depth = d.depth + suc c.depth;
    pieces = (
      w1,
      w2,
      e,
      stands_more d.depth (suc c.depth) y w1 (inr (m, is, v, ok, c.pieces)),
      pieces_more (StandsFor g d.depth) (StandsFor g (d.depth + suc c.depth))
          (λ z x h. let s : d.depth + suc c.depth ≡ suc c.depth + d.depth = omega arith in rw s
          (stands_more (suc c.depth) d.depth z x h)) u w2 d.pieces,
    );
  }

  text_deep : (u w : List PlainToken) → Deep u w → Deep (text ∷ u) (text ∷ w)
  text_deep u w d = record { depth = d.depth; pieces = (w, refl, d.pieces) }

  pub cover_deep : (n : ℕ) (u w : List PlainToken) → Covers g n u w → Deep u w
  cover_deep n u w (cover_none _ z) = record { depth = 0; pieces = refl }
  cover_deep n u w (cover_text _ u' w' c) = text_deep u' w' (cover_deep n u' w' c)
  cover_deep n u w (cover_kept _ y u' w' p c) = kept_deep y u' w' p (cover_deep n u' w' c)
  cover_deep n u w (cover_new _ a b y m v u' w1 w2 _ s j is ok c d) = new_deep y m v u' w1 w2 w j is ok (cover_deep a v w1 c) (cover_deep b u' w2 d)

  pub fills_possible : (d x : ℕ) (w : List PlainToken) → Fills g d x w → (n : ℕ) × IsPossibleWith g x n w
  fills_possible d x w (m, is, u, ok, p) = go (pieces_cover (StandsFor g d) (λ y v h. stands_for_covers d y v h) u w p)
    where
      go : Covered u w → (n : ℕ) × IsPossibleWith g x n w
      go c = (c.n, record { model = m; is_model = is; whole = u; allowed = ok; covers = c.covers })

  pub possible_fills : (x n : ℕ) (w : List PlainToken) → IsPossibleWith g x n w → (d : ℕ) × Fills g d x w
  possible_fills x n w p = go (cover_deep n p.whole w p.covers)
    where
      go : Deep p.whole w → (d : ℕ) × Fills g d x w
      go c = (c.depth, (p.model, p.is_model, p.whole, p.allowed, c.pieces))
