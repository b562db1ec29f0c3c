-- Insertion at every level is insertion at one level, where kept elements may be changed inside.
use Rattle.std.proofs.Common.{List, Some, [], ap, arith, refl, suc, ℕ, ◌+◌, ◌∙◌, ◌≡◌}
use Rattle.pv_dtd.specs.Plain.{PlainDtd, number_of}
use Rattle.pv_dtd.specs.Hedge.{AreGood, Fits, Hedge, Leaf, elem, elements, leaf}
use Rattle.pv_missing.specs.Extensions.{Extends, both_done, join, new_element, same_element}
use Rattle.pv_missing.specs.Extensions.{same_leaf}
use Rattle.pv_dtd.specs.Productive.{IsProductiveName}
use Rattle.pv_missing.specs.DocumentLaws.{LevelsAgree}
use Rattle.pv_missing.specs.Levels.{Inserts, IsCompleted, IsGoodExtension, insert_done, insert_kept, insert_leaf, insert_new}
use Rattle.pv_missing.proofs.Hedges.{elements-join}

pub IsCompleted-productive : (g : PlainDtd) (a : ℕ) (x t : List ℕ) (k k' : Hedge) → IsCompleted g a x t k k' → IsProductiveName g x
IsCompleted-productive g a x t k k' r = record {
  number = r.y;
  is_number = r.is_number;
  productive = record { kids = k'; fits = r.fits; good = r.inside.good };
}

pub record GrowsBy (g : PlainDtd) (h h' : Hedge) : Type 0 where
  pub n : ℕ
  pub grows : Inserts g (IsCompleted g) n h h'
  pub count : elements h' ≡ n + elements h

module _ (g : PlainDtd) where
  kept_step : (x t : List ℕ) (k k' h h' : Hedge) → Extends k k' → (y : ℕ) → number_of g x ≡ Some y → Fits g y k' → AreGood g k' → GrowsBy g k k' → GrowsBy g h h' →
      GrowsBy g (elem x t k h) (elem x t k' h')
  kept_step x t k k' h h' e y is f good r s = record {
    n = r.n + s.n;
    grows = insert_kept (r.n + s.n) r.n s.n x t k k' h h' refl
        (record { y = y; is_number = is; fits = f; inside = record { extends = e; good = good; count = r.count } }) s.grows;
    count = let p = r.count in let q = s.count in omega arith;
  }

  new_step : (x : List ℕ) (h h1 h2 k' h' : Hedge) → h ≡ join h1 h2 → (y : ℕ) → number_of g x ≡ Some y → Fits g y k' → GrowsBy g h1 k' → GrowsBy g h2 h' →
      GrowsBy g h (elem x [] k' h')
  new_step x h h1 h2 k' h' e y is f r s = record {
    n = suc (r.n + s.n);
    grows = insert_new (suc (r.n + s.n)) r.n s.n x y h h1 h2 k' h' refl e is f r.grows s.grows;
    count = let p = r.count in let q = s.count in let j = ap elements e ∙ elements-join h1 h2 in omega arith;
  }

  leaf_step : (l : Leaf) (h h' : Hedge) → GrowsBy g h h' → GrowsBy g (leaf l h) (leaf l h')
  leaf_step l h h' r = record { n = r.n; grows = insert_leaf r.n l h h' r.grows; count = r.count }

  pub ext_grows : (h h' : Hedge) → Extends h h' → AreGood g h' → GrowsBy g h h'
  ext_grows h h' both_done a = record { n = 0; grows = insert_done 0 refl; count = omega arith }
  ext_grows h h' (same_leaf l r r' e) a = leaf_step l r r' (ext_grows r r' e a)
  ext_grows h h' (same_element x t k k' r r' e f) a =
      kept_step x t k k' r r' e a.0 a.1 a.2 a.3 (ext_grows k k' e a.3) (ext_grows r r' f a.4)
  ext_grows h h' (new_element x _ h1 h2 k' r' j e f) a =
      new_step x h h1 h2 k' r' j a.0 a.1 a.2 (ext_grows h1 k' e a.3) (ext_grows h2 r' f a.4)

  kept_ext : (n a b : ℕ) (x t : List ℕ) (k k' h h' : Hedge) → n ≡ a + b → IsCompleted g a x t k k' → IsGoodExtension g b h h' → IsGoodExtension g n (elem x t k h) (elem x t k' h')
  kept_ext n a b x t k k' h h' e r s = record {
    extends = same_element x t k k' h h' r.inside.extends s.extends;
    good = (r.y, r.is_number, r.fits, r.inside.good, s.good);
    count = let p = r.inside.count in let q = s.count in omega arith;
  }

  new_ext : (n a b : ℕ) (x : List ℕ) (y : ℕ) (h h1 h2 k' h' : Hedge) → n ≡ suc (a + b) → h ≡ join h1 h2 → number_of g x ≡ Some y → Fits g y k' →
      IsGoodExtension g a h1 k' → IsGoodExtension g b h2 h' → IsGoodExtension g n h (elem x [] k' h')
  new_ext n a b x y h h1 h2 k' h' e j is f r s = record {
    extends = new_element x h h1 h2 k' h' j r.extends s.extends;
    good = (y, is, f, r.good, s.good);
    count = let p = r.count in let q = s.count in let t = ap elements j ∙ elements-join h1 h2 in omega arith;
  }

  leaf_ext : (n : ℕ) (l : Leaf) (h h' : Hedge) → IsGoodExtension g n h h' → IsGoodExtension g n (leaf l h) (leaf l h')
  leaf_ext n l h h' s = record { extends = same_leaf l h h' s.extends; good = s.good; count = s.count }

  pub grows_ext : (n : ℕ) (h h' : Hedge) → Inserts g (IsCompleted g) n h h' → IsGoodExtension g n h h'
  grows_ext n h h' (insert_done _ z) = record { extends = both_done; good = tt; count = omega arith }
  grows_ext n h h' (insert_leaf _ l r r' e) = leaf_ext n l r r' (grows_ext n r r' e)
  grows_ext n h h' (insert_kept _ a b x t k k' r r' e p q) = kept_ext n a b x t k k' r r' e p (grows_ext b r r' q)
  grows_ext n h h' (insert_new _ a b x y _ h1 h2 k' r' e j is f p q) = new_ext n a b x y h h1 h2 k' r' e j is f (grows_ext a h1 k' p) (grows_ext b h2 r' q)

-- a good extension is one that is made level by level, by as many elements
pub levels_agree : LevelsAgree
levels_agree g n h h' = (
  (λ i. grows_ext g n h h' i),
  (λ e. let r = ext_grows g h h' e.extends e.good in let c : r.n ≡ n = let p = r.count in let q = e.count in omega arith in rw c at r.grows),
)
