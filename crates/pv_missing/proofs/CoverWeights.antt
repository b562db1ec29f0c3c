-- Covers give derivations of no more weight.
use Rattle.std.specs.Prelude.{Contains}
use Rattle.std.proofs.Common.{List, Some, [], ap, append-nil, append_assoc, arith, inl, inr, map, refl, suc, sym, ℕ, ◌++◌, ◌+◌, ◌∙◌, ◌∷◌, ◌≡◌, ◌≢◌, ◌≤◌, ◌⊎◌}
use Rattle.std.specs.List.{AllByRecursion}
use Rattle.pv_model.specs.Plain.{PlainModel, PlainPart, PlainParts, PlainToken, any, children, choice, empty, mixed, name, named, no_parts, opt, part, plus, seq, star, text}
use Rattle.pv_model.specs.Models.{Allows, IsOfAny, IsOfMixed, Matches, MatchesAll, MatchesSome, Rounds, no_round, round}
use Rattle.pv_dtd.specs.Plain.{IsDeclared, PlainDtd, declared, model_of}
use Rattle.pv_missing.specs.Covers.{Covers, IsPossibleWith, cover_kept, cover_new, cover_none}
use Rattle.pv_missing.specs.Covers.{cover_text}
use Rattle.pv_dtd.specs.Proper.{AreFullParts, IsFull}
use Rattle.pv_missing.proofs.WordDerivations.{IsMember, Symbol, in_front, behind, of_content, of_name, of_part, of_rest, AreFull, AtMost, DerivesWord}
use Rattle.pv_missing.proofs.WordDerivations.{word_any_name, word_any_none, word_any_text, word_children_part, word_empty_none, word_kept}
use Rattle.pv_missing.proofs.WordDerivations.{word_missing, word_mixed_name, word_mixed_none, word_mixed_text, word_opt_none, word_opt_one}
use Rattle.pv_missing.proofs.WordDerivations.{word_part_choice, word_part_name, word_part_seq, word_plus_more, word_plus_one, word_rest_last}
use Rattle.pv_missing.proofs.WordDerivations.{word_rest_then, word_star_more, word_star_none}

pub map_join : (a b : List ℕ) → map named (a ++ b) ≡ map named a ++ map named b
map_join [] b = refl
map_join (x ∷ a) b = ap (◌∷◌ (named x)) (map_join a b)

-- a word cut for u, with a derivation for each name
pub data Pieced (g : PlainDtd) : ℕ → List PlainToken → List PlainToken → Type 0 where
  pieced_none : (n : ℕ) → n ≡ 0 → Pieced g n [] []
  pieced_text : (n : ℕ) (u w : List PlainToken) → Pieced g n u w → Pieced g n (text ∷ u) (text ∷ w)
  pieced_name : (n a b y : ℕ) (u w1 w2 w : List PlainToken) → n ≡ a + b → w ≡ w1 ++ w2 → DerivesWord g a (of_name y) w1 → Pieced g b u w2 → Pieced g n (named y ∷ u) w

module _ (g : PlainDtd) where
  record Cut (n : ℕ) (u1 u2 w : List PlainToken) : Type 0 where
    pub left : ℕ
    pub right : ℕ
    pub front : List PlainToken
    pub back : List PlainToken
    pub is_sum : n ≡ left + right
    pub is_join : w ≡ front ++ back
    pub first : Pieced g left u1 front
    pub second : Pieced g right u2 back

  cut_text : (n : ℕ) (u1 u2 w : List PlainToken) → Cut n u1 u2 w → Cut n (text ∷ u1) u2 (text ∷ w)
  cut_text n u1 u2 w c = record {
    left = c.left;
    right = c.right;
    front = text ∷ c.front;
    back = c.back;
    is_sum = c.is_sum;
    is_join = ap (◌∷◌ text) c.is_join;
    first = pieced_text c.left u1 c.front c.first;
    second = c.second;
  }

  cut_name : (n a b y : ℕ) (u1 u2 w1 w2 w : List PlainToken) → n ≡ a + b → w ≡ w1 ++ w2 → DerivesWord g a (of_name y) w1 → Cut b u1 u2 w2 → Cut n (named y ∷ u1) u2 w
  cut_name n a b y u1 u2 w1 w2 w e j d c = record {
    left = a + c.left;
    right = c.right;
    front = w1 ++ c.front;
    back = c.back;
    is_sum = let s = c.is_sum in omega arith;
    is_join = j ∙ ap (λ x. w1 ++ x) c.is_join ∙ sym (append_assoc w1 c.front c.back);
    first = pieced_name (a + c.left) a c.left y u1 w1 c.front (w1 ++ c.front) refl refl d c.first;
    second = c.second;
  }

  pieced_cut : (n : ℕ) (u w : List PlainToken) → Pieced g n u w → (u1 u2 : List PlainToken) → u ≡ u1 ++ u2 → Cut n u1 u2 w
  pieced_cut n u w p [] u2 e = record {
    left = 0;
    right = n;
    front = [];
    back = w;
    is_sum = omega arith;
    is_join = refl;
    first = pieced_none 0 refl;
    second = rw e at p;
  }
  pieced_cut n u w (pieced_none _ z) (t ∷ u1) u2 e = absurd cc
  pieced_cut n u w (pieced_text _ v x p) (t ∷ u1) u2 e = let q : t ≡ text = cc in rw q (cut_text n u1 u2 x (pieced_cut n v x p u1 u2 cc))
  pieced_cut n u w (pieced_name _ a b y v w1 w2 _ z j d p) (t ∷ u1) u2 e =
      let q : t ≡ named y = cc in rw q (cut_name n a b y u1 u2 w1 w2 w z j d (pieced_cut b v w2 p u1 u2 cc))

  pieced_end : (n : ℕ) (u w : List PlainToken) → Pieced g n u w → u ≡ [] → (n ≡ 0) × (w ≡ [])
  pieced_end n u w (pieced_none _ z) e = (z, refl)
  pieced_end n u w (pieced_text _ v x p) e = absurd cc
  pieced_end n u w (pieced_name _ a b y v w1 w2 _ z j d p) e = absurd cc

  -- the piece of a single name
  single : (n y : ℕ) (w : List PlainToken) → Pieced g n (named y ∷ []) w → DerivesWord g n (of_name y) w
  single n y w (pieced_name _ a b _ _ w1 w2 _ z j d p) =
      let q = pieced_end b [] w2 p refl in
      let e : n ≡ a = let r = q.0 in omega arith in
      let f : w ≡ w1 = j ∙ ap (λ x. w1 ++ x) q.1 ∙ append-nil w1 in
      rw (e, f) d

  more : (a n : ℕ) (s : Symbol) (w : List PlainToken) → a ≤ n → AtMost g a s w → AtMost g n s w
  more a n s w le m = record { weight = m.weight; is_most = let i = m.is_most in omega arith; derives = m.derives }

  star_step : (n a b : ℕ) (p : PlainPart) (u v w : List PlainToken) → n ≡ a + b → w ≡ u ++ v → AtMost g a (of_part p) u → AtMost g b (of_part (star p)) v → AtMost g n (of_part (star p)) w
  star_step n a b p [] v w e j c d = rw j (more b n (of_part (star p)) v (omega arith) d)
  star_step n a b p (t ∷ u) v w e j c d = record {
    weight = c.weight + d.weight;
    is_most = let q = c.is_most in let r = d.is_most in omega arith;
    derives = word_star_more (c.weight + d.weight) c.weight d.weight p (t ∷ u) v w refl j (λ z. cc) c.derives d.derives;
  }

  plus_step : (n a b : ℕ) (p : PlainPart) (u v w : List PlainToken) → n ≡ a + b → w ≡ u ++ v → AtMost g a (of_part p) u → (v ≡ []) ⊎ AtMost g b (of_part (plus p)) v → AtMost g n (of_part (plus p)) w
  plus_step n a b p u v w e j c (inl z) = let q : w ≡ u = j ∙ ap (λ x. u ++ x) z ∙ append-nil u in rw q (record {
    weight = c.weight;
    is_most = let i = c.is_most in omega arith;
    derives = word_plus_one c.weight p u c.derives;
  })
  plus_step n a b p [] v w e j c (inr d) = rw j (more b n (of_part (plus p)) v (omega arith) d)
  plus_step n a b p (t ∷ u) [] w e j c (inr d) = let q : w ≡ t ∷ u = j ∙ append-nil (t ∷ u) in rw q (record {
    weight = c.weight;
    is_most = let i = c.is_most in omega arith;
    derives = word_plus_one c.weight p (t ∷ u) c.derives;
  })
  plus_step n a b p (t ∷ u) (s ∷ v) w e j c (inr d) = record {
    weight = c.weight + d.weight;
    is_most = let q = c.is_most in let r = d.is_most in omega arith;
    derives = word_plus_more (c.weight + d.weight) c.weight d.weight p (t ∷ u) (s ∷ v) w refl j (λ z. cc) (λ z. cc) c.derives d.derives;
  }

  abbrev Each : PlainPart → Type 0
  Each p = (n : ℕ) (us : List ℕ) (w : List PlainToken) → Matches p us → Pieced g n (map named us) w → AtMost g n (of_part p) w

  stars : (p : PlainPart) → Each p → (n : ℕ) (us : List ℕ) (w : List PlainToken) → Rounds (Matches p) us → Pieced g n (map named us) w → AtMost g n (of_part (star p)) w
  stars p each n us w no_round q = let e = pieced_end n [] w q refl in record {
    weight = n;
    is_most = omega arith;
    derives = word_star_none n p w e.0 e.1;
  }
  stars p each n us w (round u v _ e m r) q =
      let c = pieced_cut n (map named us) w q (map named u) (map named v) (ap (map named) e ∙ map_join u v) in
      star_step n c.left c.right p c.front c.back w c.is_sum c.is_join (each c.left u c.front m c.first) (stars p each c.right v c.back r c.second)

  pluses : (p : PlainPart) → Each p → (n : ℕ) (us : List ℕ) (w : List PlainToken) → Rounds (Matches p) us → Pieced g n (map named us) w → (w ≡ []) ⊎ AtMost g n (of_part (plus p)) w
  pluses p each n us w no_round q = let e = pieced_end n [] w q refl in inl e.1
  pluses p each n us w (round u v _ e m r) q =
      let c = pieced_cut n (map named us) w q (map named u) (map named v) (ap (map named) e ∙ map_join u v) in
      inr (plus_step n c.left c.right p c.front c.back w c.is_sum c.is_join (each c.left u c.front m c.first) (pluses p each c.right v c.back r c.second))

  pub record SomeMember (n : ℕ) (ps : PlainParts) (w : List PlainToken) : Type 0 where
    pub member : PlainPart
    pub is_member : IsMember member ps
    pub most : AtMost g n (of_part member) w

  one_more : (n : ℕ) (p : PlainPart) (ps : PlainParts) (w : List PlainToken) → SomeMember n ps w → SomeMember n (part p ps) w
  one_more n p ps w s = record { member = s.member; is_member = behind p ps s.is_member; most = s.most }

  up : (n : ℕ) (s t : Symbol) (w : List PlainToken) → ((k : ℕ) → DerivesWord g k s w → DerivesWord g k t w) → AtMost g n s w → AtMost g n t w
  up n s t w f m = record { weight = m.weight; is_most = m.is_most; derives = f m.weight m.derives }

  rest_step : (n a b : ℕ) (p q : PlainPart) (ps : PlainParts) (u v w : List PlainToken) → n ≡ a + b → w ≡ u ++ v →
      AtMost g a (of_part p) u → AtMost g b (of_rest (part q ps)) v → AtMost g n (of_rest (part p (part q ps))) w
  rest_step n a b p q ps u v w e j c d = record {
    weight = c.weight + d.weight;
    is_most = let i = c.is_most in let r = d.is_most in omega arith;
    derives = word_rest_then (c.weight + d.weight) c.weight d.weight p q ps u v w refl j c.derives d.derives;
  }

  abbrev EachRest : PlainParts → Type 0
  EachRest ps = (n : ℕ) (us : List ℕ) (w : List PlainToken) → MatchesAll ps us → Pieced g n (map named us) w → AtMost g n (of_rest ps) w

  rest_cons : (p : PlainPart) (ps : PlainParts) → Each p → (ps ≢ no_parts → EachRest ps) → EachRest (part p ps)
  rest_cons p no_parts each next n us w (u, v, e, m, z) q =
      let s : us ≡ u = e ∙ ap (λ x. u ++ x) z ∙ append-nil u in
      up n (of_part p) (of_rest (part p no_parts)) w (λ k d. word_rest_last k p w d) (each n u w m (rw s at q))
  rest_cons p (part r ps) each next n us w (u, v, e, m, ms) q =
      let c = pieced_cut n (map named us) w q (map named u) (map named v) (ap (map named) e ∙ map_join u v) in
      rest_step n c.left c.right p r ps c.front c.back w c.is_sum c.is_join (each c.left u c.front m c.first)
      (next (λ z. cc) c.right v c.back ms c.second)

  name_case : (n y : ℕ) (us : List ℕ) (w : List PlainToken) → us ≡ y ∷ [] → Pieced g n (map named us) w → AtMost g n (of_part (name y)) w
  name_case n y us w e q = record { weight = n; is_most = omega arith; derives = word_part_name n y w (single n y w (rw e at q)) }

  opt_case : (n : ℕ) (p : PlainPart) (us : List ℕ) (w : List PlainToken) → Each p → (us ≡ []) ⊎ Matches p us → Pieced g n (map named us) w → AtMost g n (of_part (opt p)) w
  opt_case n p us w each (inl z) q = let e = pieced_end n (map named us) w q (ap (map named) z) in record {
    weight = n;
    is_most = omega arith;
    derives = word_opt_none n p w e.0 e.1;
  }
  opt_case n p us w each (inr m) q = up n (of_part p) (of_part (opt p)) w (λ k d. word_opt_one k p w d) (each n us w m q)

  plus_case : (n : ℕ) (p : PlainPart) (us : List ℕ) (w : List PlainToken) → Each p →
      (u v : List ℕ) → us ≡ u ++ v → Matches p u → Rounds (Matches p) v →
      Pieced g n (map named us) w → AtMost g n (of_part (plus p)) w
  plus_case n p us w each u v e m r q =
      let c = pieced_cut n (map named us) w q (map named u) (map named v) (ap (map named) e ∙ map_join u v) in
      plus_step n c.left c.right p c.front c.back w c.is_sum c.is_join (each c.left u c.front m c.first) (pluses p each c.right v c.back r c.second)

  choice_case : (n : ℕ) (ps : PlainParts) (w : List PlainToken) → SomeMember n ps w → AtMost g n (of_part (choice ps)) w
  choice_case n ps w s = up n (of_part s.member) (of_part (choice ps)) w (λ k d. word_part_choice k s.member ps w s.is_member d) s.most

  some_case : (n : ℕ) (p : PlainPart) (ps : PlainParts) (us : List ℕ) (w : List PlainToken) → Each p → ((MatchesSome ps us) → SomeMember n ps w) →
      Matches p us ⊎ MatchesSome ps us → Pieced g n (map named us) w → SomeMember n (part p ps) w
  some_case n p ps us w each next (inl m) q = record { member = p; is_member = in_front ps; most = each n us w m q }
  some_case n p ps us w each next (inr m) q = one_more n p ps w (next m)

  mutual
    pub part_derives : (p : PlainPart) → IsFull p → Each p
    part_derives (name y) f n us w e q = name_case n y us w e q
    part_derives (seq ps) f n us w m q = up n (of_rest ps) (of_part (seq ps)) w (λ k d. word_part_seq k ps w d) (rest_derives ps f.1 f.0 n us w m q)
    part_derives (choice ps) f n us w m q = choice_case n ps w (some_derives ps f n us w m q)
    part_derives (opt p) f n us w m q = opt_case n p us w (part_derives p f) m q
    part_derives (star p) f n us w m q = stars p (part_derives p f) n us w m q
    part_derives (plus p) f n us w (u, v, e, m, r) q = plus_case n p us w (part_derives p f) u v e m r q

    pub rest_derives : (ps : PlainParts) → AreFullParts ps → ps ≢ no_parts → EachRest ps
    rest_derives no_parts f ne n us w m q = absurd (ne refl)
    rest_derives (part p ps) f ne n us w m q = rest_cons p ps (part_derives p f.0) (rest_derives ps f.1) n us w m q

    pub some_derives : (ps : PlainParts) → AreFullParts ps → (n : ℕ) (us : List ℕ) (w : List PlainToken) → MatchesSome ps us → Pieced g n (map named us) w → SomeMember n ps w
    some_derives no_parts f n us w m q = absurd m
    some_derives (part p ps) f n us w m q = some_case n p ps us w (part_derives p f.0) (λ i. some_derives ps f.1 n us w i q) m q

  mixed_step : (n a b x y : ℕ) (ys : List ℕ) (u v w : List PlainToken) → model_of g x ≡ Some (mixed ys) → Contains ys y → n ≡ a + b → w ≡ u ++ v →
      DerivesWord g a (of_name y) u → AtMost g b (of_content x) v → AtMost g n (of_content x) w
  mixed_step n a b x y ys [] v w is i e j d m = rw j (more b n (of_content x) v (omega arith) m)
  mixed_step n a b x y ys (t ∷ u) v w is i e j d m = record {
    weight = a + m.weight;
    is_most = let q = m.is_most in omega arith;
    derives = word_mixed_name (a + m.weight) a m.weight x y ys (t ∷ u) v w is i refl j (λ z. cc) (word_part_name a y (t ∷ u) d) m.derives;
  }

  any_step : (n a b x y : ℕ) (u v w : List PlainToken) → model_of g x ≡ Some any → IsDeclared g y → n ≡ a + b → w ≡ u ++ v →
      DerivesWord g a (of_name y) u → AtMost g b (of_content x) v → AtMost g n (of_content x) w
  any_step n a b x y [] v w is i e j d m = rw j (more b n (of_content x) v (omega arith) m)
  any_step n a b x y (t ∷ u) v w is i e j d m = record {
    weight = a + m.weight;
    is_most = let q = m.is_most in omega arith;
    derives = word_any_name (a + m.weight) a m.weight x y (t ∷ u) v w is i refl j (λ z. cc) d m.derives;
  }

  mixed_text_step : (n x : ℕ) (ys : List ℕ) (w : List PlainToken) → model_of g x ≡ Some (mixed ys) → AtMost g n (of_content x) w → AtMost g n (of_content x) (text ∷ w)
  mixed_text_step n x ys w is m = record { weight = m.weight; is_most = m.is_most; derives = word_mixed_text m.weight x ys w (text ∷ w) is refl m.derives }

  any_text_step : (n x : ℕ) (w : List PlainToken) → model_of g x ≡ Some any → AtMost g n (of_content x) w → AtMost g n (of_content x) (text ∷ w)
  any_text_step n x w is m = record { weight = m.weight; is_most = m.is_most; derives = word_any_text m.weight x w (text ∷ w) is refl m.derives }

  mixed_derives : (x : ℕ) (ys : List ℕ) → model_of g x ≡ Some (mixed ys) → (n : ℕ) (u w : List PlainToken) → Pieced g n u w → AllByRecursion (IsOfMixed ys) u → AtMost g n (of_content x) w
  mixed_derives x ys is n u w (pieced_none _ z) a = record { weight = n; is_most = omega arith; derives = word_mixed_none n x ys [] is z refl }
  mixed_derives x ys is n u w (pieced_text _ v s p) a = mixed_text_step n x ys s is (mixed_derives x ys is n v s p a.1)
  mixed_derives x ys is n u w (pieced_name _ b c y v w1 w2 _ e j d p) a = mixed_step n b c x y ys w1 w2 w is a.0 e j d (mixed_derives x ys is c v w2 p a.1)

  any_derives : (x : ℕ) → model_of g x ≡ Some any → (n : ℕ) (u w : List PlainToken) → Pieced g n u w → AllByRecursion (IsOfAny (declared g)) u → AtMost g n (of_content x) w
  any_derives x is n u w (pieced_none _ z) a = record { weight = n; is_most = omega arith; derives = word_any_none n x [] is z refl }
  any_derives x is n u w (pieced_text _ v s p) a = any_text_step n x s is (any_derives x is n v s p a.1)
  any_derives x is n u w (pieced_name _ b c y v w1 w2 _ e j d p) a = any_step n b c x y w1 w2 w is a.0 e j d (any_derives x is c v w2 p a.1)

  pub content_derives : AreFull g → (x : ℕ) (m : PlainModel) → model_of g x ≡ Some m → (n : ℕ) (u w : List PlainToken) → Allows (declared g) m u → Pieced g n u w → AtMost g n (of_content x) w
  content_derives full x empty is n u w a p = let e = pieced_end n u w p a in record { weight = n; is_most = omega arith; derives = word_empty_none n x w is e.0 e.1 }
  content_derives full x any is n u w a p = any_derives x is n u w p a
  content_derives full x (mixed ys) is n u w a p = mixed_derives x ys is n u w p a
  content_derives full x (children q) is n u w (us, e, m) p =
      up n (of_part q) (of_content x) w (λ k d. word_children_part k x q w is d) (part_derives q (full x q is) n us w m (rw e at p))

  pub record PiecedMost (n : ℕ) (u w : List PlainToken) : Type 0 where
    pub weight : ℕ
    pub is_most : weight ≤ n
    pub pieces : Pieced g weight u w

  text_piece : (n : ℕ) (u w : List PlainToken) → PiecedMost n u w → PiecedMost n (text ∷ u) (text ∷ w)
  text_piece n u w p = record { weight = p.weight; is_most = p.is_most; pieces = pieced_text p.weight u w p.pieces }

  kept_piece : (n y : ℕ) (u w : List PlainToken) → PiecedMost n u w → PiecedMost n (named y ∷ u) (named y ∷ w)
  kept_piece n y u w p = record {
    weight = p.weight;
    is_most = p.is_most;
    pieces = pieced_name p.weight 0 p.weight y u (named y ∷ []) w (named y ∷ w) (omega arith) refl (word_kept 0 y (named y ∷ []) refl refl) p.pieces;
  }

  new_piece : (n a b y : ℕ) (u w1 w2 w : List PlainToken) → n ≡ suc (a + b) → w ≡ w1 ++ w2 → AtMost g a (of_content y) w1 → PiecedMost b u w2 → PiecedMost n (named y ∷ u) w
  new_piece n a b y u w1 w2 w e j c p = record {
    weight = suc (c.weight + p.weight);
    is_most = let q = c.is_most in let r = p.is_most in omega arith;
    pieces = pieced_name (suc (c.weight + p.weight)) (suc c.weight) p.weight y u w1 w2 w (omega arith) j (word_missing (suc c.weight) c.weight y w1 refl c.derives) p.pieces;
  }

  content_of : AreFull g → (a y : ℕ) (m : PlainModel) (v w : List PlainToken) → model_of g y ≡ Some m → Allows (declared g) m v → PiecedMost a v w → AtMost g a (of_content y) w
  content_of full a y m v w is ok p = more p.weight a (of_content y) w p.is_most (content_derives full y m is p.weight v w ok p.pieces)

  pub cover_pieced : AreFull g → (n : ℕ) (u w : List PlainToken) → Covers g n u w → PiecedMost n u w
  cover_pieced full n u w (cover_none _ z) = record { weight = 0; is_most = omega arith; pieces = pieced_none 0 refl }
  cover_pieced full n u w (cover_text _ v x c) = text_piece n v x (cover_pieced full n v x c)
  cover_pieced full n u w (cover_kept _ y v x p c) = kept_piece n y v x (cover_pieced full n v x c)
  cover_pieced full n u w (cover_new _ a b y m v x w1 w2 _ e j is ok c d) =
      new_piece n a b y x w1 w2 w e j (content_of full a y m v w1 is ok (cover_pieced full a v w1 c)) (cover_pieced full b x w2 d)

  -- what is possible has a derivation of no more weight
  pub possible_derives : AreFull g → (x n : ℕ) (w : List PlainToken) → IsPossibleWith g x n w → AtMost g n (of_content x) w
  possible_derives full x n w p = content_of full n x p.model p.whole w p.is_model p.allowed (cover_pieced full n p.whole w p.covers)

  pub root_derives : AreFull g → (x n : ℕ) (w : List PlainToken) → Covers g n (named x ∷ []) w → AtMost g n (of_name x) w
  root_derives full x n w c = let p = cover_pieced full n (named x ∷ []) w c in
      record { weight = p.weight; is_most = p.is_most; derives = single p.weight x w p.pieces }
