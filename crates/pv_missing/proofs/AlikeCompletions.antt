-- White units, misc and cuts in texts change nothing.
use Rattle.std.proofs.Common.{List, Some, refl, ℕ, ◌∷◌, ◌≡◌}
use Rattle.pv_model.specs.Plain.{PlainToken, text}
use Rattle.pv_dtd.specs.Plain.{PlainDtd, number_of}
use Rattle.pv_dtd.specs.Hedge.{Hedge, Leaf, cdata, data_unit, done, elem, leaf, leaf_word, misc, token, white, word}
use Rattle.pv_missing.proofs.AlikeHedges.{Alike, IsBlank, IsEmptyName, IsText, Unchanged, alike_blank, alike_done, alike_elem, alike_leaf, alike_merge, alike_text, alike_white}
use Rattle.pv_missing.proofs.HedgeLists.{AllLive, IsLiveHedge, NoneImpossible}
use Rattle.pv_missing.proofs.Locality.{locality}
use Rattle.pv_missing.proofs.Repeats.{Texts, texts_again, texts_drop, texts_keep, texts_none}
use Rattle.pv_missing.proofs.Texts.{possible_texts}

blank_word : (l : Leaf) (u : List PlainToken) → IsBlank l → leaf_word l u ≡ u
blank_word (white b) u i = refl
blank_word (data_unit b) u i = absurd i
blank_word (cdata b) u i = absurd i
blank_word (misc b) u i = refl

text_word : (l : Leaf) (u : List PlainToken) → IsText l → leaf_word l u ≡ text ∷ u
text_word (white b) u i = absurd i
text_word (data_unit b) u i = refl
text_word (cdata b) u i = refl
text_word (misc b) u i = absurd i

leaf_texts : (l : Leaf) (u v : List PlainToken) → Texts u v → Texts (leaf_word l u) (leaf_word l v)
leaf_texts (white b) u v r = r
leaf_texts (data_unit b) u v r = texts_keep text u v r
leaf_texts (cdata b) u v r = texts_keep text u v r
leaf_texts (misc b) u v r = r

pub alike_to : (g : PlainDtd) (h h2 : Hedge) → Alike g h h2 → Texts (word g h) (word g h2)
alike_to g h h2 alike_done = texts_none
alike_to g h h2 (alike_leaf l a b r) = leaf_texts l (word g a) (word g b) (alike_to g a b r)
alike_to g h h2 (alike_text l m a b i j r) =
    rw (text_word l (word g a) i, text_word m (word g b) j) (texts_keep text (word g a) (word g b) (alike_to g a b r))
alike_to g h h2 (alike_elem x t k k2 a b e r s) = texts_keep (token (number_of g x)) (word g a) (word g b) (alike_to g a b s)
alike_to g h h2 (alike_white l m a b i j r) = rw (blank_word l (word g a) i, blank_word m (word g b) j) (alike_to g a b r)
alike_to g h h2 (alike_blank l a b i r) = rw (blank_word l (word g a) i) (alike_to g a h2 r)
alike_to g h h2 (alike_merge l m a b i j r) = rw (text_word l (word g a) i) (texts_drop (word g a) (word g (leaf m b)) (alike_to g a (leaf m b) r))

pub alike_from : (g : PlainDtd) (h h2 : Hedge) → Alike g h h2 → Texts (word g h2) (word g h)
alike_from g h h2 alike_done = texts_none
alike_from g h h2 (alike_leaf l a b r) = leaf_texts l (word g b) (word g a) (alike_from g a b r)
alike_from g h h2 (alike_text l m a b i j r) =
    rw (text_word l (word g a) i, text_word m (word g b) j) (texts_keep text (word g b) (word g a) (alike_from g a b r))
alike_from g h h2 (alike_elem x t k k2 a b e r s) = texts_keep (token (number_of g x)) (word g b) (word g a) (alike_from g a b s)
alike_from g h h2 (alike_white l m a b i j r) = rw (blank_word l (word g a) i, blank_word m (word g b) j) (alike_from g a b r)
alike_from g h h2 (alike_blank l a b i r) = rw (blank_word l (word g a) i) (alike_from g a h2 r)
alike_from g h h2 (alike_merge l m a b i j r) =
    let s : Texts (text ∷ word g b) (word g a) = rw (text_word m (word g b) j) at (alike_from g a (leaf m b) r) in
    rw (text_word l (word g a) i, text_word m (word g b) j) (texts_again (word g b) (word g a) s)

module _ (g : PlainDtd) where
  live_to : (x : List ℕ) (y n : ℕ) (k k2 : Hedge) → number_of g x ≡ Some y → (IsEmptyName g x → k ≡ done → k2 ≡ done) → Texts (word g k) (word g k2) → IsLiveHedge g y n k → IsLiveHedge g y n k2
  live_to x y n k k2 is e r l = record {
    productive = l.productive;
    no_kids = λ z. e (y, is, z) (l.no_kids z);
    possible = possible_texts g y n (word g k) (word g k2) r l.possible;
  }

  lists_to : (h h2 : Hedge) → Alike g h h2 → (n : ℕ) → AllLive g n h → AllLive g n h2
  lists_to h h2 alike_done n p = p
  lists_to h h2 (alike_leaf l a b r) n p = lists_to a b r n p
  lists_to h h2 (alike_text l m a b i j r) n p = lists_to a b r n p
  lists_to h h2 (alike_elem x t k k2 a b e r s) n (y, c, d, f, q, is, l, inside, rest) =
      (y, c, d, f, q, is, live_to x y c k k2 is (λ z. (e z).0) (alike_to g k k2 r) l, lists_to k k2 r d inside, lists_to a b s f rest)
  lists_to h h2 (alike_white l m a b i j r) n p = lists_to a b r n p
  lists_to h h2 (alike_blank l a b i r) n p = lists_to a h2 r n p
  lists_to h h2 (alike_merge l m a b i j r) n p = lists_to a (leaf m b) r n p

  lists_from : (h h2 : Hedge) → Alike g h h2 → (n : ℕ) → AllLive g n h2 → AllLive g n h
  lists_from h h2 alike_done n p = p
  lists_from h h2 (alike_leaf l a b r) n p = lists_from a b r n p
  lists_from h h2 (alike_text l m a b i j r) n p = lists_from a b r n p
  lists_from h h2 (alike_elem x t k k2 a b e r s) n (y, c, d, f, q, is, l, inside, rest) =
      (y, c, d, f, q, is, live_to x y c k2 k is (λ z. (e z).1) (alike_from g k k2 r) l, lists_from k k2 r d inside, lists_from a b s f rest)
  lists_from h h2 (alike_white l m a b i j r) n p = lists_from a b r n p
  lists_from h h2 (alike_blank l a b i r) n p = lists_from a h2 r n p
  lists_from h h2 (alike_merge l m a b i j r) n p = lists_from a (leaf m b) r n p

none_changed : (g : PlainDtd) (root x t : List ℕ) (k k2 : Hedge) (n : ℕ) → ((m : ℕ) → AllLive g m (elem x t k done) → AllLive g m (elem x t k2 done)) →
    NoneImpossible g root n (elem x t k done) → NoneImpossible g root n (elem x t k2 done)
none_changed g root x t k k2 n f p = record {
  number = p.number;
  is_number = p.is_number;
  above = p.above;
  below = p.below;
  is_sum = p.is_sum;
  document = p.document;
  lists = f p.below p.lists;
}

pub unchanged : Unchanged
unchanged g root x t k k2 n proper e r = (
  (λ c. (locality g root x t k2 n proper).1 (none_changed g root x t k k2 n (lists_to g (elem x t k done) (elem x t k2 done) whole) ((locality g root x t k n proper).0 c))),
  (λ c. (locality g root x t k n proper).1 (none_changed g root x t k2 k n (lists_from g (elem x t k done) (elem x t k2 done) whole) ((locality g root x t k2 n proper).0 c))),
)
  where
    whole : Alike g (elem x t k done) (elem x t k2 done)
    whole = alike_elem x t k k2 done done e r alike_done
