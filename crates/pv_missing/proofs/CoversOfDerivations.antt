-- A derivation over a word whose names are productive is a cover of the same weight.
use Rattle.std.proofs.Common.{List, Some, [], append-nil, arith, inl, inr, map, refl, suc, sym, ℕ, ◌++◌, ◌+◌, ◌∷◌, ◌≡◌}
use Rattle.std.specs.List.{AllByRecursion}
use Rattle.pv_model.specs.Plain.{PlainPart, PlainParts, PlainToken, any, children, choice, empty, mixed, name, named, no_parts, opt, part, plus, seq, star, text}
use Rattle.pv_model.specs.Models.{IsOfAny, IsOfMixed, Matches, MatchesAll, MatchesSome, Rounds, no_round, round}
use Rattle.pv_dtd.specs.Plain.{PlainDtd, declared, model_of}
use Rattle.pv_missing.specs.LiveWords.{AreProductiveTokens, IsProductiveToken}
use Rattle.pv_missing.specs.Covers.{Covers, IsPossibleWith, cover_kept, cover_new, cover_none}
use Rattle.pv_missing.specs.Covers.{cover_text}
use Rattle.pv_missing.proofs.Depth.{covers-join}
use Rattle.pv_missing.proofs.CoverWeights.{map_join}
use Rattle.pv_missing.proofs.WordDerivations.{IsMember, Symbol, in_front, behind, of_content, of_name, of_part, of_rest, DerivesWord, word_any_name}
use Rattle.pv_missing.proofs.WordDerivations.{word_any_none, word_any_text, word_children_part, word_empty_none, word_kept, word_missing}
use Rattle.pv_missing.proofs.WordDerivations.{word_mixed_name, word_mixed_none, word_mixed_text, word_opt_none, word_opt_one, word_part_choice}
use Rattle.pv_missing.proofs.WordDerivations.{word_part_name, word_part_seq, word_plus_more, word_plus_one, word_rest_last, word_rest_then}
use Rattle.pv_missing.proofs.WordDerivations.{word_star_more, word_star_none}

-- covered by a word of this language
pub record CoveredBy (g : PlainDtd) (L : List ℕ → Type 0) (n : ℕ) (w : List PlainToken) : Type 0 where
  pub names : List ℕ
  pub is_word : L names
  pub covers : Covers g n (map named names) w

abbrev pub SymbolCovers : PlainDtd → ℕ → Symbol → List PlainToken → Type 0
SymbolCovers g n (of_name x) w = Covers g n (named x ∷ []) w
SymbolCovers g n (of_content x) w = IsPossibleWith g x n w
SymbolCovers g n (of_part p) w = CoveredBy g (Matches p) n w
SymbolCovers g n (of_rest ps) w = CoveredBy g (MatchesAll ps) n w

split : (P : PlainToken → Type 0) (a b : List PlainToken) → AllByRecursion P (a ++ b) → AllByRecursion P a × AllByRecursion P b
split P [] b p = (tt, p)
split P (t ∷ a) b p = let q = split P a b p.1 in ((p.0, q.0), q.1)

some_member : (p : PlainPart) (ps : PlainParts) (us : List ℕ) → IsMember p ps → Matches p us → MatchesSome ps us
some_member p ps us (in_front qs) m = inl m
some_member p ps us (behind q qs i) m = inr (some_member p qs us i m)

plus_rounds : (p : PlainPart) (us : List ℕ) → Matches (plus p) us → Rounds (Matches p) us
plus_rounds p us (u, v, e, m, r) = round u v us e m r

module _ (g : PlainDtd) where
  none_covered : (L : List ℕ → Type 0) (n : ℕ) (w : List PlainToken) → L [] → n ≡ 0 → w ≡ [] → CoveredBy g L n w
  none_covered L n w l z e = record { names = []; is_word = l; covers = rw e (cover_none n z) }

  both : (L M K : List ℕ → Type 0) → ((u v : List ℕ) → L u → M v → K (u ++ v)) → (n a b : ℕ) (u v w : List PlainToken) → n ≡ a + b → w ≡ u ++ v →
      CoveredBy g L a u → CoveredBy g M b v → CoveredBy g K n w
  both L M K f n a b u v w e j c d = record {
    names = c.names ++ d.names;
    is_word = f c.names d.names c.is_word d.is_word;
    covers = rw (j, map_join c.names d.names) (covers-join g n a b (map named c.names) (map named d.names) u v e c.covers d.covers);
  }

  lift : (L M : List ℕ → Type 0) → ((u : List ℕ) → L u → M u) → (n : ℕ) (w : List PlainToken) → CoveredBy g L n w → CoveredBy g M n w
  lift L M f n w c = record { names = c.names; is_word = f c.names c.is_word; covers = c.covers }

  new_name : (n a x : ℕ) (w : List PlainToken) → n ≡ suc a → IsPossibleWith g x a w → Covers g n (named x ∷ []) w
  new_name n a x w e p = cover_new n a 0 x p.model p.whole [] w [] w (omega arith) (sym (append-nil w)) p.is_model p.allowed p.covers (cover_none 0 refl)

  -- one more thing in front, where the model lets a thing of this kind come at any place
  front_any : (x n : ℕ) (w u0 v0 v : List PlainToken) (a b : ℕ) → model_of g x ≡ Some any →
      n ≡ a + b → w ≡ v0 ++ v → Covers g a u0 v0 → AllByRecursion (IsOfAny (declared g)) u0 →
      IsPossibleWith g x b v → IsPossibleWith g x n w
  front_any x n w u0 v0 v a b is e j c ok p = record {
    model = any;
    is_model = is;
    whole = u0 ++ p.whole;
    allowed = let q : p.model ≡ any = let r = p.is_model in cc in join u0 p.whole ok (rw q at p.allowed);
    covers = rw j (covers-join g n a b u0 p.whole v0 v e c p.covers);
  }
    where
      join : (s t : List PlainToken) → AllByRecursion (IsOfAny (declared g)) s → AllByRecursion (IsOfAny (declared g)) t → AllByRecursion (IsOfAny (declared g)) (s ++ t)
      join [] t i k = k
      join (z ∷ s) t i k = (i.0, join s t i.1 k)

  front_mixed : (x n : ℕ) (ys : List ℕ) (w u0 v0 v : List PlainToken) (a b : ℕ) →
      model_of g x ≡ Some (mixed ys) → n ≡ a + b → w ≡ v0 ++ v → Covers g a u0 v0 →
      AllByRecursion (IsOfMixed ys) u0 → IsPossibleWith g x b v → IsPossibleWith g x n w
  front_mixed x n ys w u0 v0 v a b is e j c ok p = record {
    model = mixed ys;
    is_model = is;
    whole = u0 ++ p.whole;
    allowed = let q : p.model ≡ mixed ys = let r = p.is_model in cc in join u0 p.whole ok (rw q at p.allowed);
    covers = rw j (covers-join g n a b u0 p.whole v0 v e c p.covers);
  }
    where
      join : (s t : List PlainToken) → AllByRecursion (IsOfMixed ys) s → AllByRecursion (IsOfMixed ys) t → AllByRecursion (IsOfMixed ys) (s ++ t)
      join [] t i k = k
      join (z ∷ s) t i k = (i.0, join s t i.1 k)

  one_name : (n y : ℕ) (w : List PlainToken) → CoveredBy g (Matches (name y)) n w → Covers g n (named y ∷ []) w
  one_name n y w c = let e = c.is_word in rw e at c.covers

  from_children : (n x : ℕ) (c : PlainPart) (w : List PlainToken) → model_of g x ≡ Some (children c) → CoveredBy g (Matches c) n w → IsPossibleWith g x n w
  from_children n x c w m r = record { model = children c; is_model = m; whole = map named r.names; allowed = (r.names, refl, r.is_word); covers = r.covers }

  pub sound : (n : ℕ) (s : Symbol) (w : List PlainToken) → DerivesWord g n s w → AreProductiveTokens g w → SymbolCovers g n s w
  sound n s w (word_kept _ x _ z e) p = let q : AreProductiveTokens g (named x ∷ []) = rw e at p in rw e (cover_kept n x [] [] q.0 (cover_none n z))
  sound n s w (word_missing _ a x _ e d) p = new_name n a x w e (sound a (of_content x) w d p)
  sound n s w (word_empty_none _ x _ m z e) p = record { model = empty; is_model = m; whole = []; allowed = refl; covers = rw e (cover_none n z) }
  sound n s w (word_mixed_none _ x ys _ m z e) p = record { model = mixed ys; is_model = m; whole = []; allowed = tt; covers = rw e (cover_none n z) }
  sound n s w (word_mixed_text _ x ys v _ m e d) p = let q : AreProductiveTokens g (text ∷ v) = rw e at p in
      front_mixed x n ys w (text ∷ []) (text ∷ []) v 0 n m (omega arith) e (cover_text 0 [] [] (cover_none 0 refl)) (tt, tt) (sound n (of_content x) v d q.1)
  sound n s w (word_mixed_name _ a b x y ys u v _ m i z e ne d f) p = let q = split (IsProductiveToken g) u v (rw e at p) in
      front_mixed x n ys w (named y ∷ []) u v a b m z e (one_name a y u (sound a (of_part (name y)) u d q.0)) (i, tt) (sound b (of_content x) v f q.1)
  sound n s w (word_any_none _ x _ m z e) p = record { model = any; is_model = m; whole = []; allowed = tt; covers = rw e (cover_none n z) }
  sound n s w (word_any_text _ x v _ m e d) p = let q : AreProductiveTokens g (text ∷ v) = rw e at p in
      front_any x n w (text ∷ []) (text ∷ []) v 0 n m (omega arith) e (cover_text 0 [] [] (cover_none 0 refl)) (tt, tt) (sound n (of_content x) v d q.1)
  sound n s w (word_any_name _ a b x y u v _ m i z e ne d f) p = let q = split (IsProductiveToken g) u v (rw e at p) in
      front_any x n w (named y ∷ []) u v a b m z e (sound a (of_name y) u d q.0) (i, tt) (sound b (of_content x) v f q.1)
  sound n s w (word_children_part _ x c _ m d) p = from_children n x c w m (sound n (of_part c) w d p)
  sound n s w (word_part_name _ y _ d) p = record { names = y ∷ []; is_word = refl; covers = sound n (of_name y) w d p }
  sound n s w (word_part_seq _ ps _ d) p = lift (MatchesAll ps) (Matches (seq ps)) (λ u i. i) n w (sound n (of_rest ps) w d p)
  sound n s w (word_part_choice _ c ps _ i d) p = lift (Matches c) (Matches (choice ps)) (λ u m. some_member c ps u i m) n w (sound n (of_part c) w d p)
  sound n s w (word_opt_none _ c _ z e) p = none_covered (Matches (opt c)) n w (inl refl) z e
  sound n s w (word_opt_one _ c _ d) p = lift (Matches c) (Matches (opt c)) (λ u m. inr m) n w (sound n (of_part c) w d p)
  sound n s w (word_star_none _ c _ z e) p = none_covered (Matches (star c)) n w no_round z e
  sound n s w (word_star_more _ a b c u v _ z e ne d f) p = let q = split (IsProductiveToken g) u v (rw e at p) in
      both (Matches c) (Matches (star c)) (Matches (star c)) (λ x y i j. round x y (x ++ y) refl i j) n a b u v w z e (sound a (of_part c) u d q.0) (sound b (of_part (star c)) v f q.1)
  sound n s w (word_plus_one _ c _ d) p = lift (Matches c) (Matches (plus c)) (λ u m. (u, [], sym (append-nil u), m, no_round)) n w (sound n (of_part c) w d p)
  sound n s w (word_plus_more _ a b c u v _ z e ne nf d f) p = let q = split (IsProductiveToken g) u v (rw e at p) in
      both (Matches c) (Matches (plus c)) (Matches (plus c)) (λ x y i j. (x, y, refl, i, plus_rounds c y j)) n a b u v w z e (sound a (of_part c) u d q.0) (sound b (of_part (plus c)) v f q.1)
  sound n s w (word_rest_last _ c _ d) p = lift (Matches c) (MatchesAll (part c no_parts)) (λ u m. (u, [], sym (append-nil u), m, refl)) n w (sound n (of_part c) w d p)
  sound n s w (word_rest_then _ a b c r ps u v _ z e d f) p = let q = split (IsProductiveToken g) u v (rw e at p) in
      both (Matches c) (MatchesAll (part r ps)) (MatchesAll (part c (part r ps))) (λ x y i j. (x, y, refl, i, j)) n a b u v w z e (sound a (of_part c) u d q.0) (sound b (of_rest (part r ps)) v f q.1)
