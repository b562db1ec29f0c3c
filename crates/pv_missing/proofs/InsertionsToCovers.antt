-- One level, the other way: an insertion at this level is a cover of the word.
use Rattle.std.proofs.Common.{List, Some, [], ap, arith, refl, subst, suc, sym, ℕ, ◌+◌, ◌∙◌, ◌≡◌}
use Rattle.pv_model.specs.Plain.{PlainToken}
use Rattle.pv_dtd.specs.Plain.{PlainDtd, number_of}
use Rattle.pv_dtd.specs.Hedge.{Fits, Hedge, Leaf, cdata, data_unit, elem, leaf, leaf_word, misc, white, word}
use Rattle.pv_missing.specs.Covers.{Covers, cover_kept, cover_new, cover_none, cover_text}
use Rattle.pv_missing.specs.Extensions.{join}
use Rattle.pv_dtd.specs.Productive.{IsProductiveName}
use Rattle.pv_missing.specs.Levels.{Inserts, insert_done, insert_kept, insert_leaf, insert_new}
use Rattle.pv_missing.proofs.KeptElements.{CanKeep}
use Rattle.pv_missing.proofs.CoversToInsertions.{CanKeep-join}
use Rattle.pv_missing.proofs.Hedges.{word-join}

module _ (g : PlainDtd) (Kept : ℕ → List ℕ → List ℕ → Hedge → Hedge → Type 0)
    (keeps : (a : ℕ) (x t : List ℕ) (k k' : Hedge) → Kept a x t k k' → IsProductiveName g x) where
  pub record Shrunk (n : ℕ) (h h' : Hedge) : Type 0 where
    pub missing : ℕ
    pub within : ℕ
    pub is_sum : n ≡ missing + within
    pub covers : Covers g missing (word g h') (word g h)
    pub keeping : CanKeep Kept within h

  leaf_covers : (n : ℕ) (l : Leaf) (u w : List PlainToken) → Covers g n u w → Covers g n (leaf_word l u) (leaf_word l w)
  leaf_covers n (white b) u w d = d
  leaf_covers n (data_unit b) u w d = cover_text n u w d
  leaf_covers n (cdata b) u w d = cover_text n u w d
  leaf_covers n (misc b) u w d = d

  leaf_step : (n : ℕ) (l : Leaf) (h h' : Hedge) → Shrunk n h h' → Shrunk n (leaf l h) (leaf l h')
  leaf_step n l h h' s = record {
    missing = s.missing;
    within = s.within;
    is_sum = s.is_sum;
    covers = leaf_covers s.missing l (word g h') (word g h) s.covers;
    keeping = s.keeping;
  }

  kept_step : (n a b : ℕ) (x t : List ℕ) (k k' h h' : Hedge) → n ≡ a + b → Kept a x t k k' → Shrunk b h h' → Shrunk n (elem x t k h) (elem x t k' h')
  kept_step n a b x t k k' h h' e p s = record {
    missing = s.missing;
    within = a + s.within;
    is_sum = let f = s.is_sum in omega arith;
    covers = let q = keeps a x t k k' p in rw q.is_number (cover_kept s.missing q.number (word g h') (word g h) q.productive s.covers);
    keeping = (a, s.within, refl, k', p, s.keeping);
  }

  new_step : (n a b : ℕ) (x : List ℕ) (y : ℕ) (h h1 h2 k' h' : Hedge) → n ≡ suc (a + b) → h ≡ join h1 h2 → number_of g x ≡ Some y → Fits g y k' →
      Shrunk a h1 k' → Shrunk b h2 h' → Shrunk n h (elem x [] k' h')
  new_step n a b x y h h1 h2 k' h' e j is f s t = record {
    missing = suc (s.missing + t.missing);
    within = s.within + t.within;
    is_sum = let p = s.is_sum in let q = t.is_sum in omega arith;
    covers = rw is (cover_new (suc (s.missing + t.missing)) s.missing t.missing y f.model (word g k') (word g h') (word g h1) (word g h2) (word g h)
        refl (ap (word g) j ∙ word-join g h1 h2) f.is_model f.allowed s.covers t.covers);
    keeping = let P : Hedge → Type 0 = λ r. CanKeep Kept (s.within + t.within) r in
        subst P (sym j) (CanKeep-join g Kept s.within t.within h1 h2 s.keeping t.keeping);
  }

  pub shrink : (n : ℕ) (h h' : Hedge) → Inserts g Kept n h h' → Shrunk n h h'
  shrink n h h' (insert_done _ z) = record { missing = 0; within = 0; is_sum = omega arith; covers = cover_none 0 refl; keeping = refl }
  shrink n h h' (insert_leaf _ l a a' r) = leaf_step n l a a' (shrink n a a' r)
  shrink n h h' (insert_kept _ a b x t k k' r r' e p q) = kept_step n a b x t k k' r r' e p (shrink b r r' q)
  shrink n h h' (insert_new _ a b x y _ h1 h2 k' r' e j is f p q) = new_step n a b x y h h1 h2 k' r' e j is f (shrink a h1 k' p) (shrink b h2 r' q)
