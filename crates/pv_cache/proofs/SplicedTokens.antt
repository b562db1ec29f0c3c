-- The tokens of lists of nodes, some of which give way to others.
use Rattle.std.proofs.Common.{◌≡◌, ◌∙◌, ap, sym, refl, ℕ, zero, suc, ◌≤◌, Bool, true, false}
use Rattle.std.proofs.Common.{if◌then◌else◌, List, [], ◌∷◌, ◌++◌, length, take, drop, map, arith}
use Rattle.std.proofs.lemmas.List.{drop-map, length-map, map-append, take-map}
use Rattle.pv_chars.specs.Texts.{has_data}
use Rattle.pv_dtd.specs.Hedge.{token}
use Rattle.pv_dtd.specs.Plain.{PlainDtd, number_of}
use Rattle.pv_missing.specs.WordVerdicts.{has_no_trees}
use Rattle.pv_model.specs.Plain.{PlainToken, text}
use Rattle.pv_model.specs.PlainForms.{plain_token}
use Rattle.pv_tree.specs.Plain.{Tree, cdata_node, element, forest_of, misc_node, text_node}
use Rattle.pv_tree.specs.Words.{word_of}
use Rattle.pv_tree.specs.declared.nodes.Mark.{Mark}
use Rattle.pv_cache.specs.ChangedWords.{AreListTokens, IsSpliced}
use Rattle.pv_cache.specs.ShownKids.{number_shown, shown_of}
use Rattle.pv_tree.specs.Heads.{has_token, head_of}
use Rattle.pv_cache.specs.declared.words.ListTokens.{ListTokens}
use Rattle.pv_cache.proofs.JoinedWords.{word-joined}

abbrev word-in : PlainDtd → List (Tree Mark) → List PlainToken
word-in g ts = word_of g (forest_of ts)

abbrev shown-in : List (Tree Mark) → List Bool
shown-in ts = shown_of (forest_of ts)

-- ---- numbers of tokens
pub number-front : (n : ℕ) (s : List Bool) → number_shown (take n s) ≤ number_shown s
number-front zero s = omega arith
number-front (suc n) [] = omega arith
number-front (suc n) (true ∷ s) = let h = number-front n s in omega arith
number-front (suc n) (false ∷ s) = let h = number-front n s in omega arith

pub number-order : (m n : ℕ) (s : List Bool) → m ≤ n →
    number_shown (take m s) ≤ number_shown (take n s)
number-order zero n s h = omega arith
number-order (suc m) zero s h = absurd (omega arith)
number-order (suc m) (suc n) [] h = omega arith
number-order (suc m) (suc n) (true ∷ s) h = let k = number-order m n s (omega arith) in omega arith
number-order (suc m) (suc n) (false ∷ s) h = let k = number-order m n s (omega arith) in omega arith

pub number-within : (s : List Bool) → number_shown s ≤ length s
number-within [] = omega arith
number-within (true ∷ s) = let h = number-within s in omega arith
number-within (false ∷ s) = let h = number-within s in omega arith

many-data : (b : Bool) (s : List Bool) (u : List PlainToken) → number_shown s ≡ length u →
    number_shown (b ∷ s) ≡ length (if b then text ∷ u else u)
many-data true s u h = omega arith
many-data false s u h = h

pub as-many : (g : PlainDtd) (ts : List (Tree Mark)) →
    number_shown (shown-in ts) ≡ length (word-in g ts)
as-many g [] = refl
as-many g (element x a e k m ∷ ts) = let h = as-many g ts in omega arith
as-many g (text_node us ∷ ts) = many-data (has_data us) (shown-in ts) (word-in g ts) (as-many g ts)
as-many g (cdata_node b ∷ ts) = let h = as-many g ts in omega arith
as-many g (misc_node b ∷ ts) = as-many g ts

pub shown-length : (ts : List (Tree Mark)) → length (shown-in ts) ≡ length ts
shown-length [] = refl
shown-length (t ∷ ts) = let h = shown-length ts in omega arith

-- ---- which kids have one
shown-joined : (xs ys : List (Tree Mark)) → shown-in (xs ++ ys) ≡ shown-in xs ++ shown-in ys
shown-joined [] ys = refl
shown-joined (x ∷ xs) ys = ap (λ (s : List Bool). has_token (head_of x) ∷ s) (shown-joined xs ys)

front-shown : (n : ℕ) (ts : List (Tree Mark)) → take n (shown-in ts) ≡ shown-in (take n ts)
front-shown zero ts = refl
front-shown (suc n) [] = refl
front-shown (suc n) (t ∷ ts) = ap (λ (s : List Bool). has_token (head_of t) ∷ s) (front-shown n ts)

back-shown : (n : ℕ) (ts : List (Tree Mark)) → drop n (shown-in ts) ≡ shown-in (drop n ts)
back-shown zero ts = refl
back-shown (suc n) [] = refl
back-shown (suc n) (t ∷ ts) = back-shown n ts

pub shown-spliced : (ts new : List (Tree Mark)) (from to : ℕ) →
    take from (shown-in ts) ++ (shown-in new ++ drop to (shown-in ts))
    ≡ shown-in (take from ts ++ (new ++ drop to ts))
shown-spliced ts new from to =
    ap (λ (s : List Bool). s ++ (shown-in new ++ drop to (shown-in ts))) (front-shown from ts)
    ∙ ap (λ (s : List Bool). shown-in (take from ts) ++ (shown-in new ++ s)) (back-shown to ts)
    ∙ ap (λ (s : List Bool). shown-in (take from ts) ++ s) (sym (shown-joined new (drop to ts)))
    ∙ sym (shown-joined (take from ts) (new ++ drop to ts))

-- ---- their tokens
front-data : (b : Bool) (s : List Bool) (n : ℕ) (w v : List PlainToken) →
    take (number_shown (take n s)) w ≡ v →
    take (number_shown (take (suc n) (b ∷ s))) (if b then text ∷ w else w)
    ≡ (if b then text ∷ v else v)
front-data true s n w v h = ap (λ (u : List PlainToken). text ∷ u) h
front-data false s n w v h = h

back-data : (b : Bool) (s : List Bool) (n : ℕ) (w v : List PlainToken) →
    drop (number_shown (take n s)) w ≡ v →
    drop (number_shown (take (suc n) (b ∷ s))) (if b then text ∷ w else w) ≡ v
back-data true s n w v h = h
back-data false s n w v h = h

module _ (g : PlainDtd) where
  front-tokens : (n : ℕ) (ts : List (Tree Mark)) →
      take (number_shown (take n (shown-in ts))) (word-in g ts) ≡ word-in g (take n ts)
  front-tokens zero ts = refl
  front-tokens (suc n) [] = refl
  front-tokens (suc n) (element x a e k m ∷ ts) =
      ap (λ (u : List PlainToken). token (number_of g x) ∷ u) (front-tokens n ts)
  front-tokens (suc n) (text_node us ∷ ts) =
      front-data (has_data us) (shown-in ts) n (word-in g ts) (word-in g (take n ts))
      (front-tokens n ts)
  front-tokens (suc n) (cdata_node b ∷ ts) =
      ap (λ (u : List PlainToken). text ∷ u) (front-tokens n ts)
  front-tokens (suc n) (misc_node b ∷ ts) = front-tokens n ts

  back-tokens : (n : ℕ) (ts : List (Tree Mark)) →
      drop (number_shown (take n (shown-in ts))) (word-in g ts) ≡ word-in g (drop n ts)
  back-tokens zero ts = refl
  back-tokens (suc n) [] = refl
  back-tokens (suc n) (element x a e k m ∷ ts) = back-tokens n ts
  back-tokens (suc n) (text_node us ∷ ts) =
      back-data (has_data us) (shown-in ts) n (word-in g ts) (word-in g (drop n ts))
      (back-tokens n ts)
  back-tokens (suc n) (cdata_node b ∷ ts) = back-tokens n ts
  back-tokens (suc n) (misc_node b ∷ ts) = back-tokens n ts

  tokens-spliced : (ts new : List (Tree Mark)) (from to : ℕ) →
      take (number_shown (take from (shown-in ts))) (word-in g ts)
      ++ (word-in g new ++ drop (number_shown (take to (shown-in ts))) (word-in g ts))
      ≡ word-in g (take from ts ++ (new ++ drop to ts))
  tokens-spliced ts new from to =
      ap (λ (u : List PlainToken).
      u ++ (word-in g new ++ drop (number_shown (take to (shown-in ts))) (word-in g ts)))
      (front-tokens from ts)
      ∙ ap (λ (u : List PlainToken). word-in g (take from ts) ++ (word-in g new ++ u))
      (back-tokens to ts)
      ∙ ap (λ (u : List PlainToken). word-in g (take from ts) ++ u)
      (sym (word-joined g new (drop to ts)))
      ∙ sym (word-joined g (take from ts) (new ++ drop to ts))

  module _ (ts : List (Tree Mark)) (before : ListTokens)
      (b : AreListTokens g (forest_of ts) before) where
    -- a place of the list is one of what is kept
    pub tokens-long : length before.shown.items ≡ length ts
    tokens-long = ap length b.shown ∙ shown-length ts

    pub tokens-counted : number_shown before.shown.items ≡ length before.word.tokens.items
    tokens-counted =
        ap number_shown b.shown ∙ as-many g ts ∙ sym (ap length b.word.tokens)
        ∙ length-map before.word.tokens.items plain_token

    module _ (new : List (Tree Mark)) (middle : ListTokens)
        (m : AreListTokens g (forest_of new) middle) (from to : ℕ) (bare : Bool)
        (after : ListTokens) (s : IsSpliced before from to middle bare after) where
      abbrev p : ℕ
      p = number_shown (take from before.shown.items)

      abbrev q : ℕ
      q = number_shown (take to before.shown.items)

      after-tokens : map plain_token after.word.tokens.items
          ≡ word-in g (take from ts ++ (new ++ drop to ts))
      after-tokens =
          ap (map plain_token) s.tokens
          ∙ map-append plain_token (take p before.word.tokens.items)
          (middle.word.tokens.items ++ drop q before.word.tokens.items)
          ∙ ap (λ (u : List PlainToken). map plain_token (take p before.word.tokens.items) ++ u)
          (map-append plain_token middle.word.tokens.items (drop q before.word.tokens.items))
          ∙ ap (λ (u : List PlainToken).
          u ++ (map plain_token middle.word.tokens.items ++ map plain_token
          (drop q before.word.tokens.items)))
          (sym (take-map plain_token p before.word.tokens.items))
          ∙ ap (λ (u : List PlainToken).
          take p (map plain_token before.word.tokens.items)
          ++ (map plain_token middle.word.tokens.items ++ u))
          (sym (drop-map plain_token q before.word.tokens.items))
          ∙ ap (λ (u : List PlainToken).
          take p u ++ (map plain_token middle.word.tokens.items ++ drop q u)) b.word.tokens
          ∙ ap (λ (u : List PlainToken).
          take p (word-in g ts) ++ (u ++ drop q (word-in g ts))) m.word.tokens
          ∙ ap (λ (l : List Bool).
          take (number_shown (take from l)) (word-in g ts)
          ++ (word-in g new ++ drop (number_shown (take to l)) (word-in g ts))) b.shown
          ∙ tokens-spliced ts new from to

      after-shown : after.shown.items ≡ shown-in (take from ts ++ (new ++ drop to ts))
      after-shown =
          s.shown
          ∙ ap (λ (l : List Bool). take from l ++ (middle.shown.items ++ drop to l)) b.shown
          ∙ ap (λ (l : List Bool). take from (shown-in ts) ++ (l ++ drop to (shown-in ts))) m.shown
          ∙ shown-spliced ts new from to

      -- the tokens of the list in which others came
      pub are-spliced : bare ≡ has_no_trees (forest_of (take from ts ++ (new ++ drop to ts))) →
          AreListTokens g (forest_of (take from ts ++ (new ++ drop to ts))) after
      are-spliced e =
          record {
            word = record { tokens = after-tokens; bare = s.is_bare ∙ e };
            shown = after-shown;
          }
