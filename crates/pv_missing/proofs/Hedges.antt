-- Cutting hedges.
use Rattle.std.proofs.Common.{List, [], ap, arith, refl, ◌++◌, ◌+◌, ◌∷◌, ◌≡◌}
use Rattle.pv_model.specs.Plain.{PlainToken, text}
use Rattle.pv_dtd.specs.Plain.{PlainDtd, number_of}
use Rattle.pv_dtd.specs.Hedge.{Hedge, Leaf, cdata, data_unit, done, elem, elements, leaf, misc, token, white, word}
use Rattle.pv_missing.specs.Extensions.{join}

pub word-join : (g : PlainDtd) (a b : Hedge) → word g (join a b) ≡ word g a ++ word g b
word-join g done b = refl
word-join g (leaf (white c) a) b = word-join g a b
word-join g (leaf (data_unit c) a) b = ap (◌∷◌ text) (word-join g a b)
word-join g (leaf (cdata c) a) b = ap (◌∷◌ text) (word-join g a b)
word-join g (leaf (misc c) a) b = word-join g a b
word-join g (elem x t k a) b = ap (◌∷◌ (token (number_of g x))) (word-join g a b)

pub elements-join : (a b : Hedge) → elements (join a b) ≡ elements a + elements b
elements-join done b = omega arith
elements-join (leaf l a) b = elements-join a b
elements-join (elem x t k a) b = omega (arith, elements-join a b)

-- the hedge is cut where its word is, and the first part is empty where its word is
pub record Cut (g : PlainDtd) (h : Hedge) (w1 w2 : List PlainToken) : Type 0 where
  pub front : Hedge
  pub back : Hedge
  pub is_join : h ≡ join front back
  pub front_word : word g front ≡ w1
  pub back_word : word g back ≡ w2
  pub none : w1 ≡ [] → front ≡ done

cut_leaf : (g : PlainDtd) (l : Leaf) (h : Hedge) (t : PlainToken) (w1 w2 v1 : List PlainToken) →
    ((f : Hedge) → word g f ≡ v1 → word g (leaf l f) ≡ t ∷ w1) → Cut g h v1 w2 → Cut g (leaf l h) (t ∷ w1) w2
cut_leaf g l h t w1 w2 v1 up c = record {
  front = leaf l c.front;
  back = c.back;
  is_join = ap (leaf l) c.is_join;
  front_word = up c.front c.front_word;
  back_word = c.back_word;
  none = λ e. absurd cc;
}

pub cut : (g : PlainDtd) (h : Hedge) (w1 w2 : List PlainToken) → word g h ≡ w1 ++ w2 → Cut g h w1 w2
cut g h [] w2 e = record { front = done; back = h; is_join = refl; front_word = refl; back_word = e; none = λ _. refl }
cut g done (t ∷ w1) w2 e = absurd cc
cut g (leaf (white b) h) (t ∷ w1) w2 e = cut_leaf g (white b) h t w1 w2 (t ∷ w1) (λ f i. i) (cut g h (t ∷ w1) w2 e)
cut g (leaf (misc b) h) (t ∷ w1) w2 e = cut_leaf g (misc b) h t w1 w2 (t ∷ w1) (λ f i. i) (cut g h (t ∷ w1) w2 e)
cut g (leaf (data_unit b) h) (t ∷ w1) w2 e = cut_leaf g (data_unit b) h t w1 w2 w1 (λ f i. cc) (cut g h w1 w2 cc)
cut g (leaf (cdata b) h) (t ∷ w1) w2 e = cut_leaf g (cdata b) h t w1 w2 w1 (λ f i. cc) (cut g h w1 w2 cc)
cut g (elem x a k h) (t ∷ w1) w2 e = go (cut g h w1 w2 cc)
  where
    go : Cut g h w1 w2 → Cut g (elem x a k h) (t ∷ w1) w2
    go c = record {
      front = elem x a k c.front;
      back = c.back;
      is_join = ap (elem x a k) c.is_join;
      front_word = let i = c.front_word in cc;
      back_word = c.back_word;
      none = λ e. absurd cc;
    }
