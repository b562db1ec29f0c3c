-- Least sizes are what is missing in nothing; and tokens may be left out at every site.
use Rattle.std.proofs.Common.{List, Some, [], ap, arith, refl, suc, sym, ℕ, ◌+◌, ◌∙◌, ◌∷◌, ◌≡◌}
use Rattle.pv_model.specs.Plain.{PlainModel, PlainToken, named}
use Rattle.pv_model.specs.Models.{Allows}
use Rattle.pv_dtd.specs.Plain.{PlainDtd, declared, model_of, spelling_of}
use Rattle.pv_dtd.specs.Hedge.{AreGood, Fits, Hedge, done, elem, elements, word}
use Rattle.pv_missing.specs.Covers.{Covers, IsLeastInNothing, IsPossibleWith, cover_kept, cover_new}
use Rattle.pv_missing.specs.Covers.{cover_none, cover_text}
use Rattle.pv_dtd.specs.Proper.{IsProperDtd}
use Rattle.pv_dtd.specs.Productive.{IsLeastSize}
use Rattle.pv_missing.specs.WordLaws.{SizeIsMissing}
use Rattle.pv_missing.proofs.CoversToInsertions.{allows-empty, empty_join}
use Rattle.pv_missing.proofs.LeftOutNames.{good_covers, names, names_texts}
use Rattle.pv_dtd.proofs.ProperDtds.{spelled}
use Rattle.pv_missing.proofs.Texts.{allows_texts}

module _ (g : PlainDtd) where
  record Sized (n : ℕ) (u : List PlainToken) : Type 0 where
    pub hedge : Hedge
    pub good : AreGood g hedge
    pub is_word : word g hedge ≡ u
    pub none : u ≡ [] → hedge ≡ done
    pub size : elements hedge ≡ n

  new_sized : IsProperDtd g → (n a b y : ℕ) (m : PlainModel) (v u : List PlainToken) → n ≡ suc (a + b) → model_of g y ≡ Some m → Allows (declared g) m v → Sized a v → Sized b u → Sized n (named y ∷ u)
  new_sized proper n a b y m v u e is ok s t = record {
    hedge = elem (spelling_of g y) [] s.hedge t.hedge;
    good = (y, spelled g proper y m is, record { model = m; is_model = is; no_kids = λ z. s.none (allows-empty g m v z ok); allowed = rw s.is_word ok }, s.good, t.good);
    is_word = let f = t.is_word in let q = spelled g proper y m is in simp q (ap (◌∷◌ (named y)) f);
    none = λ z. absurd cc;
    size = let p = s.size in let q = t.size in omega arith;
  }

  sized : IsProperDtd g → (n : ℕ) (u w : List PlainToken) → Covers g n u w → w ≡ [] → Sized n u
  sized proper n u w (cover_none _ z) e = record { hedge = done; good = tt; is_word = refl; none = λ _. refl; size = omega arith }
  sized proper n u w (cover_text _ u' x c) e = absurd cc
  sized proper n u w (cover_kept _ y u' x p c) e = absurd cc
  sized proper n u w (cover_new _ a b y m v u' w1 w2 _ s j is ok c d) e = let q = empty_join w1 w2 (sym e ∙ j) in
      new_sized proper n a b y m v u' s is ok (sized proper a v w1 c q.0) (sized proper b u' w2 d q.1)

  sized_fits : (x n : ℕ) (p : IsPossibleWith g x n []) → Sized n p.whole → (k : Hedge) × Fits g x k × AreGood g k × (elements k ≡ n)
  sized_fits x n p s = (
    s.hedge,
    record { model = p.model; is_model = p.is_model; no_kids = λ z. s.none (allows-empty g p.model p.whole z p.allowed); allowed = rw s.is_word p.allowed },
    s.good,
    s.size,
  )

  pub fits_possible : (x : ℕ) (k : Hedge) → Fits g x k → AreGood g k → IsPossibleWith g x (elements k) []
  fits_possible x k f a = record {
    model = f.model;
    is_model = f.is_model;
    whole = names (word g k);
    allowed = allows_texts g f.model (word g k) (names (word g k)) (names_texts (word g k)) f.allowed;
    covers = good_covers g k a;
  }

size_to : (g : PlainDtd) (x n : ℕ) → IsProperDtd g → IsLeastSize g x (suc n) → IsLeastInNothing g x n
size_to g x n proper s = (
  (let e : elements s.kids ≡ n = let p = s.is_size in omega arith in rw e at (fits_possible g x s.kids s.fits s.good)),
  (λ m p. let q = sized_fits g x m p (sized g proper m p.whole [] p.covers refl) in let l = s.least q.0 q.1 q.2 in let f = q.3 in omega arith),
)

size_from : (g : PlainDtd) (x n : ℕ) → IsProperDtd g → IsLeastInNothing g x n → IsLeastSize g x (suc n)
size_from g x n proper l = let q = sized_fits g x n l.0 (sized g proper n l.0.whole [] l.0.covers refl) in
    record {
      kids = q.0;
      fits = q.1;
      good = q.2;
      is_size = let f = q.3 in omega arith;
      least = λ k f a. let p = l.1 (elements k) (fits_possible g x k f a) in omega arith;
    }

pub size_is_missing : SizeIsMissing
size_is_missing g x n proper = (size_to g x n proper, size_from g x n proper)
