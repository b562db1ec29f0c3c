-- Locality: a document is potentially valid exactly where no list is impossible, and the numbers add up.
use Rattle.std.proofs.Common.{List, Some, [], ap, arith, refl, ℕ, ◌+◌, ◌∙◌, ◌∷◌, ◌≡◌}
use Rattle.pv_model.specs.Plain.{named}
use Rattle.pv_dtd.specs.Plain.{PlainDtd, number_of}
use Rattle.pv_dtd.specs.Hedge.{AreGood, Fits, Hedge, IsValid, done, elem, leaf, token, word}
use Rattle.pv_missing.specs.Completions.{HasCompletion}
use Rattle.pv_dtd.specs.Proper.{IsProperDtd}
use Rattle.pv_missing.specs.Extensions.{Extends, both_done, join, new_element, same_element}
use Rattle.pv_missing.specs.Extensions.{same_leaf}
use Rattle.pv_missing.specs.Levels.{IsCompleted, IsGoodExtension}
use Rattle.pv_missing.proofs.InsertionLevels.{GrowsBy, IsCompleted-productive, ext_grows, grows_ext}
use Rattle.pv_missing.proofs.KeptElements.{CanKeep}
use Rattle.pv_missing.proofs.CoversToInsertions.{Grown, allows-empty, grow, token-name}
use Rattle.pv_missing.proofs.HedgeLists.{AllLive, HedgeLocality, IsLiveHedge, NoneImpossible}
use Rattle.pv_dtd.proofs.ProperDtds.{one_name}
use Rattle.pv_missing.proofs.InsertionsToCovers.{Shrunk, shrink}

-- nothing extends to nothing but itself
ext_into_done : (h h' : Hedge) → Extends h h' → h' ≡ done → h ≡ done
ext_into_done h h' both_done e = refl
ext_into_done h h' (same_leaf l r r' f) e = absurd cc
ext_into_done h h' (same_element x t k k' r r' f f') e = absurd cc
ext_into_done h h' (new_element x _ h1 h2 k' r' j f f') e = absurd cc

module _ (g : PlainDtd) where
  -- a live list, whose elements can be kept, is made to fit
  fit : (x t : List ℕ) (k h : Hedge) (n y a b c : ℕ) → n ≡ a + (b + c) → number_of g x ≡ Some y → (l : IsLiveHedge g y a k) →
      Grown g (IsCompleted g) (a + b) k l.possible.whole → CanKeep (IsCompleted g) c h → CanKeep (IsCompleted g) n (elem x t k h)
  fit x t k h n y a b c e is l r i = (a + b, c, omega arith, r.hedge, keeps, i)
    where
      good : IsGoodExtension g (a + b) k r.hedge
      good = grows_ext g (a + b) k r.hedge r.grows

      fits : Fits g y r.hedge
      fits = record {
        model = l.possible.model;
        is_model = l.possible.is_model;
        no_kids = λ z. r.none (l.no_kids (let m = l.possible.is_model in cc)) (allows-empty g l.possible.model l.possible.whole z l.possible.allowed);
        allowed = rw r.is_word l.possible.allowed;
      }

      keeps : IsCompleted g (a + b) x t k r.hedge
      keeps = record { y = y; is_number = is; fits = fits; inside = good }

  pub lists_keep : IsProperDtd g → (n : ℕ) (h : Hedge) → AllLive g n h → CanKeep (IsCompleted g) n h
  lists_keep proper n done e = e
  lists_keep proper n (leaf l h) e = lists_keep proper n h e
  lists_keep proper n (elem x t k h) (y, a, b, c, s, is, l, inside, rest) =
      fit x t k h n y a b c s is l (grow g (IsCompleted g) proper a b l.possible.whole (word g k) k l.possible.covers refl (lists_keep proper b k inside)) (lists_keep proper c h rest)

  -- an element that can be kept has a live list
  pub record Lists (n : ℕ) (y : ℕ) (k : Hedge) : Type 0 where
    pub missing : ℕ
    pub within : ℕ
    pub is_sum : n ≡ missing + within
    pub live : IsLiveHedge g y missing k
    pub keeping : CanKeep (IsCompleted g) within k

  list_of : (n : ℕ) (x t : List ℕ) (k k' : Hedge) (r : IsCompleted g n x t k k') → Lists n r.y k
  list_of n x t k k' r = record {
    missing = s.missing;
    within = s.within;
    is_sum = let p = s.is_sum in let q = by.count in let o = r.inside.count in omega arith;
    live = record {
      productive = record { kids = k'; fits = r.fits; good = r.inside.good };
      no_kids = λ z. ext_into_done k k' r.inside.extends (r.fits.no_kids (let m = r.fits.is_model in cc));
      possible = record { model = r.fits.model; is_model = r.fits.is_model; whole = word g k'; allowed = r.fits.allowed; covers = s.covers };
    };
    keeping = s.keeping;
  }
    where
      by : GrowsBy g k k'
      by = ext_grows g k k' r.inside.extends r.inside.good

      s : Shrunk g (IsCompleted g) (IsCompleted-productive g) by.n k k'
      s = shrink g (IsCompleted g) (IsCompleted-productive g) by.n k k' by.grows

  pub keep_lists : (n : ℕ) (h : Hedge) → CanKeep (IsCompleted g) n h → AllLive g n h
  keep_lists n done e = e
  keep_lists n (leaf l h) e = keep_lists n h e
  keep_lists n (elem x t k h) (a, b, s, k', keeps, rest) = go (λ m i. keep_lists m k i) (keep_lists b h rest) (list_of a x t k k' keeps)
    where
      go : ((m : ℕ) → CanKeep (IsCompleted g) m k → AllLive g m k) → AllLive g b h → Lists a keeps.y k → AllLive g n (elem x t k h)
      go inner r l = (keeps.y, l.missing, l.within, b, let p = l.is_sum in omega arith, keeps.is_number, l.live, inner l.within l.keeping, r)

-- no leaf stands directly in the hedge
abbrev NoLeaf : Hedge → Type 0
NoLeaf done = Unit {0}
NoLeaf (leaf l h) = ⊥
NoLeaf (elem x t k h) = NoLeaf h

NoLeaf-back : (a b : Hedge) → NoLeaf (join a b) → NoLeaf b
NoLeaf-back done b n = n
NoLeaf-back (leaf l a) b n = absurd n
NoLeaf-back (elem x t k a) b n = NoLeaf-back a b n

NoLeaf-ext : (h h' : Hedge) → Extends h h' → NoLeaf h → NoLeaf h'
NoLeaf-ext h h' both_done n = n
NoLeaf-ext h h' (same_leaf l r r' e) n = n
NoLeaf-ext h h' (same_element x t k k' r r' e f) n = NoLeaf-ext r r' f n
NoLeaf-ext h h' (new_element x _ h1 h2 k' r' j e f) n = NoLeaf-ext h2 r' f (NoLeaf-back h1 h2 (rw j at n))

no_word : (g : PlainDtd) (h : Hedge) → NoLeaf h → word g h ≡ [] → h ≡ done
no_word g done n e = refl
no_word g (leaf l h) n e = absurd n
no_word g (elem x t k h) n e = absurd cc

-- one element of this name
is_root : (g : PlainDtd) (root : List ℕ) (y : ℕ) (h : Hedge) → number_of g root ≡ Some y → NoLeaf h → word g h ≡ named y ∷ [] → AreGood g h → IsValid g root h
is_root g root y done is n e good = absurd cc
is_root g root y (leaf l h) is n e good = absurd n
is_root g root y (elem x t k h) is n e good = record {
  attrs = t;
  kids = k;
  is_root = let o = no_word g h n (cc) in let p = one_name g x root y (token-name (number_of g x) y (cc)) is in cc;
  good = good;
}

module _ (g : PlainDtd) (root x t : List ℕ) (k : Hedge) (n : ℕ) where
  down : HasCompletion g root n (elem x t k done) → NoneImpossible g root n (elem x t k done)
  down c = record {
    number = top.0;
    is_number = top.1;
    above = s.missing;
    below = s.within;
    is_sum = let p = s.is_sum in let q = by.count in let o = c.inserted in omega arith;
    document = rw head at s.covers;
    lists = keep_lists g s.within (elem x t k done) s.keeping;
  }
    where
      by : GrowsBy g (elem x t k done) c.hedge
      by = ext_grows g (elem x t k done) c.hedge c.extends c.valid.good

      s : Shrunk g (IsCompleted g) (IsCompleted-productive g) by.n (elem x t k done) c.hedge
      s = shrink g (IsCompleted g) (IsCompleted-productive g) by.n (elem x t k done) c.hedge by.grows

      top : AreGood g (elem root c.valid.attrs c.valid.kids done)
      top = rw c.valid.is_root at c.valid.good

      head : word g c.hedge ≡ named top.0 ∷ []
      head = let e = ap (word g) c.valid.is_root in let f = top.1 in e ∙ ap (λ o. token o ∷ []) f

  up : IsProperDtd g → NoneImpossible g root n (elem x t k done) → HasCompletion g root n (elem x t k done)
  up proper c = record {
    hedge = r.hedge;
    extends = good.extends;
    valid = is_root g root c.number r.hedge c.is_number (NoLeaf-ext (elem x t k done) r.hedge good.extends tt) r.is_word good.good;
    inserted = let p = good.count in let q = c.is_sum in omega arith;
  }
    where
      r : Grown g (IsCompleted g) (c.above + c.below) (elem x t k done) (named c.number ∷ [])
      r = grow g (IsCompleted g) proper c.above c.below (named c.number ∷ []) (word g (elem x t k done)) (elem x t k done) c.document refl
          (lists_keep g proper c.below (elem x t k done) c.lists)

      good : IsGoodExtension g (c.above + c.below) (elem x t k done) r.hedge
      good = grows_ext g (c.above + c.below) (elem x t k done) r.hedge r.grows

pub locality : HedgeLocality
locality g root x t k n proper = (down g root x t k n, up g root x t k n proper)
