-- What has a derivation over no tokens has a hedge of good elements, as many as the derivation weighs.
use Rattle.std.proofs.Common.{List, Some, [], ap, append-nil, append_assoc, arith, inl, inr, map, refl, suc, sym, ℕ, ◌++◌, ◌+◌, ◌∙◌, ◌∷◌, ◌≡◌}
use Rattle.std.proofs.lemmas.List.{map-append}
use Rattle.pv_model.specs.Plain.{PlainPart, PlainParts, any, children, choice, empty, mixed, name, named, no_parts, opt, part, plus, seq, star}
use Rattle.pv_model.specs.Models.{Matches, MatchesAll, MatchesSome, no_round}
use Rattle.pv_dtd.specs.Plain.{PlainDtd, spelling_of}
use Rattle.pv_dtd.specs.Hedge.{AreGood, Fits, Hedge, done, elem, elements, word}
use Rattle.pv_rules.specs.Derivations.{Derives}
use Rattle.pv_rules.specs.Numbering.{IsMemberAt, first_part, here, later, part_at, rest_at}
use Rattle.pv_rules.specs.Rules.{Goal, Rule, any_name, any_none, any_text, children_part, empty_none, kept, missing, mixed_name, mixed_none}
use Rattle.pv_rules.specs.Rules.{mixed_text, opt_none, opt_one, over, part_choice, part_name, part_seq, plus_more, plus_one, rest_last, rest_then}
use Rattle.pv_rules.specs.Rules.{star_more, star_none}
use Rattle.pv_rules.specs.Sites.{PlainSite, content_site, name_site, part_site, rest_site}
use Rattle.pv_rules.proofs.DerivationLaws.{HaveAll, passed}
use Rattle.pv_rules.proofs.Facts.{parts_by_number}
use Rattle.pv_dtd.specs.Proper.{IsProperDtd}
use Rattle.pv_dtd.proofs.ProperDtds.{spelled}

module _ (g : PlainDtd) (proper : IsProperDtd g) where
  -- good elements of these names, n elements in all, can be put before each hedge
  pub record Put (n : ℕ) (u : List ℕ) (h : Hedge) : Type 0 where
    pub hedge : Hedge
    pub good : AreGood g hedge
    pub is_word : word g hedge ≡ map named u ++ word g h
    pub size : elements hedge ≡ n + elements h

  abbrev pub CanPut : ℕ → List ℕ → Type 0
  CanPut n u = (h : Hedge) → AreGood g h → Put n u h

  -- good content with n elements
  abbrev pub Content : ℕ → ℕ → Type 0
  Content y n = (k : Hedge) × Fits g y k × AreGood g k × (n ≡ elements k)

  abbrev pub Grown : PlainSite → ℕ → Type 0
  Grown (name_site y) n = (m : ℕ) × (n ≡ suc m) × Content y m
  Grown (content_site y) n = Content y n
  Grown (part_site q) n = (p : PlainPart) × (part_at g q ≡ Some p) × (u : List ℕ) × Matches p u × CanPut n u
  Grown (rest_site q) n = (ps : PlainParts) × (rest_at g q ≡ Some ps) × (u : List ℕ) × MatchesAll ps u × CanPut n u

  abbrev pub IsGrown : ℕ → Goal → Type 0
  IsGrown n x = Grown x.site n

  put_nothing : CanPut 0 []
  put_nothing h a = record { hedge = h; good = a; is_word = refl; size = omega arith }

  put_both : (n m : ℕ) (u v : List ℕ) → CanPut n u → CanPut m v → CanPut (n + m) (u ++ v)
  put_both n m u v f s h a =
      let t = s h a in let r = f t.hedge t.good in
      record {
        hedge = r.hedge;
        good = r.good;
        is_word = rw (map-append named u v, append_assoc (map named u) (map named v) (word g h)) (r.is_word ∙ ap (λ x. map named u ++ x) t.is_word);
        size = let p = r.size in let q = t.size in omega arith;
      }

  put_element : (y n : ℕ) → Content y n → CanPut (suc n) (y ∷ [])
  put_element y n (k, f, a, e) h b =
      let s = spelled g proper y f.model f.is_model in
      record {
        hedge = elem (spelling_of g y) [] k h;
        good = (y, s, f, a, b);
        is_word = rw s refl;
        size = omega arith;
      }

  same_number : (n m : ℕ) (u : List ℕ) → n ≡ m → CanPut n u → CanPut m u
  same_number n m u e f = rw (← e) f

  member_matches : (p : PlainPart) (r q : ℕ) (ps : PlainParts) (u : List ℕ) → IsMemberAt p r q ps → Matches p u → MatchesSome ps u
  member_matches p r q ps u (here _ qs e) m = inl m
  member_matches p r q ps u (later _ o qs a) m = inr (member_matches p r _ qs u a m)

  same_part : (q : ℕ) (p o : PlainPart) → part_at g q ≡ Some p → part_at g q ≡ Some o → p ≡ o
  same_part q p o e f = cc

  same_rest : (q : ℕ) (p o : PlainParts) → rest_at g q ≡ Some p → rest_at g q ≡ Some o → p ≡ o
  same_rest q p o e f = cc

  -- what stands at a known part
  at_part : (q n : ℕ) (p : PlainPart) → part_at g q ≡ Some p → Grown (part_site q) n → (u : List ℕ) × Matches p u × CanPut n u
  at_part q n p e (o, f, u, m, c) = let i = same_part q o p f e in (u, rw i at m, c)

  at_rest : (q n : ℕ) (ps : PlainParts) → rest_at g q ≡ Some ps → Grown (rest_site q) n → (u : List ℕ) × MatchesAll ps u × CanPut n u
  at_rest q n ps e (o, f, u, m, c) = let i = same_rest q o ps f e in (u, rw i at m, c)

  abbrev All : ℕ → List Goal → Type 0
  All m xs = HaveAll IsGrown m xs

  step : (s : PlainSite) (i j c m : ℕ) (xs : List Goal) → Rule g [] (over s i j) c xs → All m xs → Grown s (c + m)
  step s i j c m xs (kept x _ f) a = absurd cc
  step s i j c m xs (missing x _ _ l) (n, b, e, h, z) = (m, omega arith, (h.0, h.1, h.2, let f = h.3 in omega arith))
  step s i j c m xs (empty_none x _ l e) a = (done, record { model = empty; is_model = e; no_kids = λ _. refl; allowed = refl }, tt, omega arith)
  step s i j c m xs (mixed_none x _ ys l e) a = (done, record { model = mixed ys; is_model = e; no_kids = λ _. refl; allowed = tt }, tt, omega arith)
  step s i j c m xs (mixed_text x _ _ ys p l e f) a = absurd cc
  step s i j c m xs (mixed_name x e _ k _ ys p q l d f) a = absurd (omega arith)
  step s i j c m xs (any_none x _ l e) a = (done, record { model = any; is_model = e; no_kids = λ _. refl; allowed = tt }, tt, omega arith)
  step s i j c m xs (any_text x _ _ p l e f) a = absurd cc
  step s i j c m xs (any_name x y _ k _ p q l e d) a = absurd (omega arith)
  step s i j c m xs (children_part x _ _ p l e) (n, b, d, h, z) =
      let t = at_part (first_part g x) n p ((parts_by_number g).outermost x p e) h in let r = t.2 done tt in (
        r.hedge,
        record { model = children p; is_model = e; no_kids = λ f. absurd cc; allowed = (t.0, r.is_word ∙ append-nil (map named t.0), t.1) },
        r.good,
        let f = r.size in omega arith,
      )
  step s i j c m xs (part_name q y _ _ l e) (n, b, d, h, z) =
      (name y, e, y ∷ [], refl, same_number (suc h.0) (c + m) (y ∷ []) (let f = h.1 in omega arith) (put_element y h.0 h.2))
  step s i j c m xs (part_seq q _ _ p ps l e) (n, b, d, h, z) =
      let t = at_rest (suc q) n (part p ps) ((parts_by_number g).in_seq q p ps e) h in
      (seq (part p ps), e, t.0, t.1, same_number n (c + m) t.0 (omega arith) t.2)
  step s i j c m xs (part_choice q r _ _ p ps l e k) (n, b, d, h, z) =
      let t = at_part r n p ((parts_by_number g).in_choice q r p ps e k) h in
      (choice ps, e, t.0, member_matches p r (suc q) ps t.0 k t.1, same_number n (c + m) t.0 (omega arith) t.2)
  step s i j c m xs (opt_none q _ p l e) a = (opt p, e, [], inl refl, same_number 0 (c + m) [] (omega arith) put_nothing)
  step s i j c m xs (opt_one q _ _ p l e) (n, b, d, h, z) =
      let t = at_part (suc q) n p ((parts_by_number g).in_opt q p e) h in (opt p, e, t.0, inr t.1, same_number n (c + m) t.0 (omega arith) t.2)
  step s i j c m xs (star_none q _ p l e) a = (star p, e, [], no_round, same_number 0 (c + m) [] (omega arith) put_nothing)
  step s i j c m xs (star_more q _ k _ p x y l e) a = absurd (omega arith)
  step s i j c m xs (plus_one q _ _ p l e) (n, b, d, h, z) =
      let t = at_part (suc q) n p ((parts_by_number g).in_plus q p e) h in
      (plus p, e, t.0, (t.0, [], sym (append-nil t.0), t.1, no_round), same_number n (c + m) t.0 (omega arith) t.2)
  step s i j c m xs (plus_more q _ k _ p x y l e) a = absurd (omega arith)
  step s i j c m xs (rest_last q _ _ p l e) (n, b, d, h, z) =
      let t = at_part q n p ((parts_by_number g).member q p no_parts e) h in
      (part p no_parts, e, t.0, (t.0, [], sym (append-nil t.0), t.1, refl), same_number n (c + m) t.0 (omega arith) t.2)
  step s i j c m xs (rest_then q _ k _ p r ps x y l e) (n, b, d, h, (n', b', d', h', z)) =
      let t = at_part q n p ((parts_by_number g).member q p (part r ps) e) h in
      let w = at_rest _ n' (part r ps) ((parts_by_number g).next q p r ps e) h' in
      (part p (part r ps), e, t.0 ++ w.0, (t.0, w.0, refl, t.1, w.1), same_number (n + n') (c + m) (t.0 ++ w.0) (omega arith) (put_both n n' t.0 w.0 t.2 w.2))

  step_goal : (x : Goal) (c m : ℕ) (xs : List Goal) → Rule g [] x c xs → All m xs → IsGrown (c + m) x
  step_goal x c m xs r a = step x.site x.from x.to c m xs r a

  pub grown : (n : ℕ) (x : Goal) → Derives (Rule g []) n x → Grown x.site n
  grown n x d = passed (Rule g []) IsGrown step_goal n x d
