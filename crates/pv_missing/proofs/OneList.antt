-- The law of one list, in both directions, and that names that aren't productive count for nothing.
use Rattle.std.proofs.Common.{List, Some, [], ap, arith, refl, sym, ℕ, ◌++◌, ◌+◌, ◌↔◌, ◌∙◌, ◌∷◌, ◌≡◌}
use Rattle.std.specs.List.{AllByRecursion}
use Rattle.pv_model.specs.Plain.{PlainModel, PlainToken, empty, named, other, text}
use Rattle.pv_dtd.specs.Plain.{PlainDtd, model_of}
use Rattle.pv_dtd.specs.Hedge.{Hedge, cdata, data_unit, done, elem, elements, leaf, misc, white, word}
use Rattle.pv_missing.specs.Covers.{Covers, IsPossibleWith, cover_kept, cover_new, cover_none}
use Rattle.pv_missing.specs.Covers.{cover_text}
use Rattle.pv_dtd.specs.Proper.{IsProperDtd}
use Rattle.pv_missing.specs.Extensions.{Extends, both_done, join, new_element, same_element}
use Rattle.pv_missing.specs.Extensions.{same_leaf}
use Rattle.pv_missing.specs.ListLaws.{HereExtends, OneList, RootList}
use Rattle.pv_missing.specs.LiveWords.{AreProductiveTokens, IsLiveWord, live_name, live_none, live_other, live_text, live_unproductive}
use Rattle.pv_dtd.specs.Productive.{AreProductive, IsProductive, IsProductiveName}
use Rattle.pv_missing.specs.WordLaws.{LiveAgrees}
use Rattle.pv_missing.specs.Levels.{CanFit, CanFitRoot, Inserts, Stays, insert_done, insert_kept, insert_leaf, insert_new}
use Rattle.pv_missing.proofs.KeptElements.{CanKeep}
use Rattle.pv_missing.proofs.CoversToInsertions.{Grown, allows-empty, grow}
use Rattle.pv_missing.proofs.Hedges.{elements-join}
use Rattle.pv_missing.proofs.InsertionsToCovers.{Shrunk, shrink}

-- each element may stay as it is, at no cost
pub stays_keep : (h : Hedge) → CanKeep Stays 0 h
stays_keep done = refl
stays_keep (leaf l h) = stays_keep h
stays_keep (elem x t k h) = (0, 0, refl, k, (refl, refl), stays_keep h)

-- and that is all that it costs
pub stays_cost : (c : ℕ) (h : Hedge) → CanKeep Stays c h → c ≡ 0
stays_cost c done e = e
stays_cost c (leaf l h) i = stays_cost c h i
stays_cost c (elem x t k h) (a, b, s, k', r, i) = let p = r.0 in let q = stays_cost b h i in omega arith

abbrev pub StaysLive : PlainDtd → ℕ → List ℕ → List ℕ → Hedge → Hedge → Type 0
StaysLive g n x t k k' = Stays n x t k k' × IsProductiveName g x

productive_front : (g : PlainDtd) (a b : Hedge) → AreProductive g (join a b) → AreProductive g a × AreProductive g b
productive_front g done b p = (tt, p)
productive_front g (leaf l a) b p = productive_front g a b p
productive_front g (elem x t k a) b p = let q = productive_front g a b p.1 in ((p.0, q.0), q.1)

pub with_live : (g : PlainDtd) (n : ℕ) (h h' : Hedge) → Inserts g Stays n h h' → AreProductive g h → Inserts g (StaysLive g) n h h'
with_live g n h h' (insert_done _ z) p = insert_done n z
with_live g n h h' (insert_leaf _ l r r' e) p = insert_leaf n l r r' (with_live g n r r' e p)
with_live g n h h' (insert_kept _ a b x t k k' r r' e s f) p = insert_kept n a b x t k k' r r' e (s, p.0) (with_live g b r r' f p.1)
with_live g n h h' (insert_new _ a b x y _ h1 h2 k' r' e j is f d1 d2) p =
    let q = productive_front g h1 h2 (rw j at p) in
    insert_new n a b x y h h1 h2 k' r' e j is f (with_live g a h1 k' d1 q.0) (with_live g b h2 r' d2 q.1)

pub without_live : (g : PlainDtd) (c : ℕ) (h : Hedge) → CanKeep (StaysLive g) c h → CanKeep Stays c h
without_live g c done e = e
without_live g c (leaf l h) i = without_live g c h i
without_live g c (elem x t k h) (a, b, s, k', r, i) = (a, b, s, k', r.0, without_live g b h i)

-- the live word of productive names is the word
pub live_same : (g : PlainDtd) (w live : List PlainToken) → IsLiveWord g w live → AreProductiveTokens g w → live ≡ w
live_same g w live live_none p = refl
live_same g w live (live_name y v v' q r) p = ap (◌∷◌ (named y)) (live_same g v v' r p.1)
live_same g w live (live_unproductive y v v' q r) p = absurd (q p.0)
live_same g w live (live_text v v' r) p = ap (◌∷◌ text) (live_same g v v' r p.1)
live_same g w live (live_other v v' r) p = ap (◌∷◌ other) (live_same g v v' r p.1)

pub productive_tokens : (g : PlainDtd) (h : Hedge) → AreProductive g h → AreProductiveTokens g (word g h)
productive_tokens g done p = tt
productive_tokens g (leaf (white b) h) p = productive_tokens g h p
productive_tokens g (leaf (data_unit b) h) p = (tt, productive_tokens g h p)
productive_tokens g (leaf (cdata b) h) p = (tt, productive_tokens g h p)
productive_tokens g (leaf (misc b) h) p = productive_tokens g h p
productive_tokens g (elem x t k h) p = let e = p.0.is_number in rw e (p.0.productive, productive_tokens g h p.1)

one_list_up : (g : PlainDtd) (x n : ℕ) (m : PlainModel) (h : Hedge) → model_of g x ≡ Some m → (m ≡ empty → h ≡ done) → (p : IsPossibleWith g x n (word g h)) →
    Grown g Stays (n + 0) h p.whole → CanFit g m n h
one_list_up g x n m h is none p r = record {
  hedge = r.hedge;
  inserts = let e : n + 0 ≡ n = omega arith in rw e at r.grows;
  no_kids = λ z. r.none (none z) (allows-empty g p.model p.whole (same ∙ z) p.allowed);
  allowed = rw r.is_word (rw same at p.allowed);
}
  where
    same : p.model ≡ m
    same = let q = p.is_model in cc

one_list_down : (g : PlainDtd) (x n : ℕ) (m : PlainModel) (h : Hedge) → model_of g x ≡ Some m → (f : CanFit g m n h) →
    Shrunk g (StaysLive g) (λ a x t k k' r. r.1) n h f.hedge → IsPossibleWith g x n (word g h)
one_list_down g x n m h is f s = record {
  model = m;
  is_model = is;
  whole = word g f.hedge;
  allowed = f.allowed;
  covers = let c = stays_cost s.within h (without_live g s.within h s.keeping) in let d = s.is_sum in let e : n ≡ s.missing = omega arith in rw e s.covers;
}

one_word : (g : PlainDtd) (x n : ℕ) (m : PlainModel) (h : Hedge) → IsProperDtd g → model_of g x ≡ Some m → (m ≡ empty → h ≡ done) → AreProductive g h →
    IsPossibleWith g x n (word g h) ↔ CanFit g m n h
one_word g x n m h proper is none p = (
  (λ q. one_list_up g x n m h is none q (grow g Stays proper n 0 q.whole (word g h) h q.covers refl (stays_keep h))),
  (λ f. one_list_down g x n m h is f (shrink g (StaysLive g) (λ a x t k k' r. r.1) n h f.hedge (with_live g n h f.hedge f.inserts p))),
)

pub one_list : OneList
one_list g x n m h live proper is none p l = rw (live_same g (word g h) live l (productive_tokens g h p)) (one_word g x n m h proper is none p)

root_up : (g : PlainDtd) (y n : ℕ) (h : Hedge) → Grown g Stays (n + 0) h (named y ∷ []) → CanFitRoot g y n h
root_up g y n h r = record {
  hedge = r.hedge;
  inserts = let e : n + 0 ≡ n = omega arith in rw e at r.grows;
  is_root = r.is_word;
}

root_down : (g : PlainDtd) (y n : ℕ) (h : Hedge) → (f : CanFitRoot g y n h) → Shrunk g (StaysLive g) (λ a x t k k' r. r.1) n h f.hedge →
    Covers g n (named y ∷ []) (word g h)
root_down g y n h f s =
    let c = stays_cost s.within h (without_live g s.within h s.keeping) in let d = s.is_sum in let e : n ≡ s.missing = omega arith in
    rw e (rw f.is_root at s.covers)

root_word : (g : PlainDtd) (y n : ℕ) (h : Hedge) → IsProperDtd g → AreProductive g h → Covers g n (named y ∷ []) (word g h) ↔ CanFitRoot g y n h
root_word g y n h proper p = (
  (λ c. root_up g y n h (grow g Stays proper n 0 (named y ∷ []) (word g h) h c refl (stays_keep h))),
  (λ f. root_down g y n h f (shrink g (StaysLive g) (λ a x t k k' r. r.1) n h f.hedge (with_live g n h f.hedge f.inserts p))),
)

pub root_list : RootList
root_list g y n h live proper p l = rw (live_same g (word g h) live l (productive_tokens g h p)) (root_word g y n h proper p)

pub extends_refl : (h : Hedge) → Extends h h
extends_refl done = both_done
extends_refl (leaf l h) = same_leaf l h h (extends_refl h)
extends_refl (elem x t k h) = same_element x t k k h h (extends_refl k) (extends_refl h)

-- what is inserted at one level is an extension
pub here_extends : HereExtends
here_extends g n h h' (insert_done _ z) = (both_done, omega arith)
here_extends g n h h' (insert_leaf _ l r r' e) = let p = here_extends g n r r' e in (same_leaf l r r' p.0, p.1)
here_extends g n h h' (insert_kept _ a b x t k k' r r' s q e) = let p = here_extends g b r r' e in let z = q.0 in let i = q.1 in
    rw i (same_element x t k k r r' (extends_refl k) p.0, omega (arith, p.1))
here_extends g n h h' (insert_new _ a b x y _ h1 h2 k' r' e j is f d1 d2) =
    let p = here_extends g a h1 k' d1 in let q = here_extends g b h2 r' d2 in let s = ap elements j ∙ elements-join h1 h2 in
    (new_element x h h1 h2 k' r' j p.0 q.0, omega (arith, p.1, q.1))

-- a token that can be covered
abbrev pub IsCoverable : PlainDtd → PlainToken → Type 0
IsCoverable g (named y) = IsProductive g y
IsCoverable g text = Unit {0}
IsCoverable g other = ⊥

all_join : (P : PlainToken → Type 0) (a b : List PlainToken) → AllByRecursion P a → AllByRecursion P b → AllByRecursion P (a ++ b)
all_join P [] b p q = q
all_join P (t ∷ a) b p q = (p.0, all_join P a b p.1 q)

pub covered_by_productive : (g : PlainDtd) (n : ℕ) (u w : List PlainToken) → Covers g n u w → AllByRecursion (IsCoverable g) w
covered_by_productive g n u w (cover_none _ z) = tt
covered_by_productive g n u w (cover_text _ u' x c) = (tt, covered_by_productive g n u' x c)
covered_by_productive g n u w (cover_kept _ y u' x p c) = (p, covered_by_productive g n u' x c)
covered_by_productive g n u w (cover_new _ a b y m v u' w1 w2 _ e j is ok c d) =
    rw j (all_join (IsCoverable g) w1 w2 (covered_by_productive g a v w1 c) (covered_by_productive g b u' w2 d))

coverable_same : (g : PlainDtd) (w w' : List PlainToken) → IsLiveWord g w w' → AllByRecursion (IsCoverable g) w → w' ≡ w
coverable_same g w w' live_none a = refl
coverable_same g w w' (live_name y x x' p r) a = ap (◌∷◌ (named y)) (coverable_same g x x' r a.1)
coverable_same g w w' (live_unproductive y x x' p r) a = absurd (p a.0)
coverable_same g w w' (live_text x x' r) a = ap (◌∷◌ text) (coverable_same g x x' r a.1)
coverable_same g w w' (live_other x x' r) a = absurd a.0

pub same_coverable : (g : PlainDtd) (w w' : List PlainToken) → IsLiveWord g w w' → AllByRecursion (IsCoverable g) w' → w' ≡ w
same_coverable g w w' live_none a = refl
same_coverable g w w' (live_name y x x' p r) a = ap (◌∷◌ (named y)) (same_coverable g x x' r a.1)
same_coverable g w w' (live_unproductive y x x' p r) a = absurd a.0
same_coverable g w w' (live_text x x' r) a = ap (◌∷◌ text) (same_coverable g x x' r a.1)
same_coverable g w w' (live_other x x' r) a = absurd a.0

pub live_covers : (g : PlainDtd) (n : ℕ) (u w w' : List PlainToken) → IsLiveWord g w w' → Covers g n u w ↔ Covers g n u w'
live_covers g n u w w' r = (
  (λ c. rw (coverable_same g w w' r (covered_by_productive g n u w c)) c),
  (λ c. rw (sym (same_coverable g w w' r (covered_by_productive g n u w' c))) c),
)

-- where all of it can be covered, a word is its own live word
pub coverable_live : (g : PlainDtd) (w : List PlainToken) → AllByRecursion (IsCoverable g) w → IsLiveWord g w w
coverable_live g [] a = live_none
coverable_live g (named y ∷ w) a = live_name y w w a.0 (coverable_live g w a.1)
coverable_live g (text ∷ w) a = live_text w w (coverable_live g w a.1)
coverable_live g (other ∷ w) a = absurd a.0

pub covered_live : (g : PlainDtd) (n : ℕ) (u w : List PlainToken) → Covers g n u w → IsLiveWord g w w
covered_live g n u w c = coverable_live g w (covered_by_productive g n u w c)

-- another word that can be covered as this one can
pub with_word : (g : PlainDtd) (x n : ℕ) (w v : List PlainToken) → ((u : List PlainToken) → Covers g n u w → Covers g n u v) → IsPossibleWith g x n w → IsPossibleWith g x n v
with_word g x n w v f p = record { model = p.model; is_model = p.is_model; whole = p.whole; allowed = p.allowed; covers = f p.whole p.covers }

pub live_agrees : LiveAgrees
live_agrees g x n w live l = (
  ((λ p. with_word g x n w live (λ u. (live_covers g n u w live l).0) p), (λ p. with_word g x n live w (λ u. (live_covers g n u w live l).1) p)),
  live_covers g n (named x ∷ []) w live l,
)

coverable_names : (g : PlainDtd) (w : List PlainToken) → AllByRecursion (IsCoverable g) w → AreProductiveTokens g w
coverable_names g [] a = tt
coverable_names g (named y ∷ w) a = (a.0, coverable_names g w a.1)
coverable_names g (text ∷ w) a = (tt, coverable_names g w a.1)
coverable_names g (other ∷ w) a = (tt, coverable_names g w a.1)

pub covered_names : (g : PlainDtd) (n : ℕ) (u w : List PlainToken) → Covers g n u w → AreProductiveTokens g w
covered_names g n u w c = coverable_names g w (covered_by_productive g n u w c)
