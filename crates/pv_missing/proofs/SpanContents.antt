-- What stands at a span of a word, and how it is cut where its word or its span is.
use Rattle.std.proofs.Common.{List, Some, [], ap, append_assoc, arith, drop, length, length-append, refl, slice_get, suc, sym, take, ℕ, ◌++◌, ◌+◌, ◌-◌, ◌<◌, ◌∙◌, ◌∷◌, ◌≡◌, ◌≢◌, ◌≤◌}
use Rattle.std.proofs.lemmas.List.{length-take-le, take-append-drop}
use Rattle.pv_model.specs.Plain.{PlainToken, named, text}

-- v stands in w from i up to j
pub record Stands (w : List PlainToken) (i j : ℕ) (v : List PlainToken) : Type 0 where
  pub front : List PlainToken
  pub back : List PlainToken
  pub is_word : w ≡ front ++ (v ++ back)
  pub starts : length front ≡ i
  pub ends : j ≡ i + length v

get_at : (a v : List PlainToken) → slice_get (a ++ v) (length a) ≡ slice_get v 0
get_at [] v = refl
get_at (t ∷ a) v = get_at a v

no_length : (v : List PlainToken) → length v ≡ 0 → v ≡ []
no_length [] e = refl
no_length (t ∷ v) e = absurd (omega arith)

pub some_length : (v : List PlainToken) → v ≢ [] → 0 < length v
some_length [] ne = absurd (ne refl)
some_length (t ∷ v) ne = omega arith

module _ (w : List PlainToken) where
  -- nothing stands in an empty span
  pub nothing : (i j : ℕ) (v : List PlainToken) → Stands w i j v → i ≡ j → v ≡ []
  nothing i j v s e = no_length v (let p = s.ends in omega arith)

  -- the first token of a span
  pub first : (i j : ℕ) (t : PlainToken) (v : List PlainToken) → Stands w i j (t ∷ v) → slice_get w i ≡ Some t
  first i j t v s = rw (s.is_word, ← s.starts) (get_at s.front ((t ∷ v) ++ s.back))

  pub rest : (i j : ℕ) (t : PlainToken) (v : List PlainToken) → Stands w i j (t ∷ v) → Stands w (suc i) j v
  rest i j t v s = record {
    front = s.front ++ (t ∷ []);
    back = s.back;
    is_word = s.is_word ∙ sym (append_assoc s.front (t ∷ []) (v ++ s.back));
    starts = let p = s.starts in omega (arith, length-append s.front (t ∷ []));
    ends = let p = s.ends in omega arith;
  }

  -- what stands is cut where its word is
  pub left : (i j : ℕ) (u v : List PlainToken) → Stands w i j (u ++ v) → Stands w i (i + length u) u
  left i j u v s = record { front = s.front; back = v ++ s.back; is_word = rw (← append_assoc u v s.back) s.is_word; starts = s.starts; ends = refl }

  pub right : (i j : ℕ) (u v : List PlainToken) → Stands w i j (u ++ v) → Stands w (i + length u) j v
  right i j u v s = record {
    front = s.front ++ u;
    back = s.back;
    is_word = rw (append_assoc s.front u (v ++ s.back), ← append_assoc u v s.back) s.is_word;
    starts = let p = s.starts in omega (arith, length-append s.front u);
    ends = let p = s.ends in omega (arith, length-append u v);
  }

  -- and where its span is
  pub record CutAt (i k j : ℕ) (v : List PlainToken) : Type 0 where
    pub one : List PlainToken
    pub two : List PlainToken
    pub is_join : v ≡ one ++ two
    pub first_stands : Stands w i k one
    pub second_stands : Stands w k j two

  pub cut_at : (i k j : ℕ) (v : List PlainToken) → Stands w i j v → i ≤ k → k ≤ j → CutAt i k j v
  cut_at i k j v s le lt = record {
    one = take (k - i) v;
    two = drop (k - i) v;
    is_join = sym (take-append-drop (k - i) v);
    first_stands = rw e at (left i j (take (k - i) v) (drop (k - i) v) whole);
    second_stands = rw e at (right i j (take (k - i) v) (drop (k - i) v) whole);
  }
    where
      whole : Stands w i j (take (k - i) v ++ drop (k - i) v)
      whole = rw (take-append-drop (k - i) v) s

      e : i + length (take (k - i) v) ≡ k
      e = let p = s.ends in omega (arith, length-take-le (k - i) v (omega arith))

  pub one_token : (i j x : ℕ) (v : List PlainToken) → Stands w i j v → j ≡ suc i → slice_get w i ≡ Some (named x) → v ≡ named x ∷ []
  one_token i j x [] s e f = absurd (let p = s.ends in omega arith)
  one_token i j x (t ∷ v) s e f =
      let p = first i j t v s in let q : t ≡ named x = cc in let r : v ≡ [] = no_length v (let o = s.ends in omega arith) in cc

  pub front_text : (i j : ℕ) (v : List PlainToken) → Stands w i j v → i < j → slice_get w i ≡ Some text → (v' : List PlainToken) × (v ≡ text ∷ v') × Stands w (suc i) j v'
  front_text i j [] s lt f = absurd (let p = s.ends in omega arith)
  front_text i j (t ∷ v) s lt f = let p = first i j t v s in let q : t ≡ text = cc in (v, ap (λ x. x ∷ v) q, rest i j t v s)

  pub some_in : (i k : ℕ) (v : List PlainToken) → Stands w i k v → i < k → v ≢ []
  some_in i k v s lt e = let p = s.ends in let q = ap length e in omega arith

-- what stands in w at a word that equals a join
pub cut_left : (w : List PlainToken) (i j : ℕ) (v a b : List PlainToken) → v ≡ a ++ b → Stands w i j v → Stands w i (i + length a) a
cut_left w i j v a b e s = left w i j a b (rw e at s)

pub cut_right : (w : List PlainToken) (i j : ℕ) (v a b : List PlainToken) → v ≡ a ++ b → Stands w i j v → Stands w (i + length a) j b
cut_right w i j v a b e s = right w i j a b (rw e at s)

pub same_end : (w : List PlainToken) (i j : ℕ) (v : List PlainToken) → v ≡ [] → Stands w i j v → i ≡ j
same_end w i j v e s = let p = s.ends in let q = ap length e in omega arith
