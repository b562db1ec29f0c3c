-- What pieces spell is a completion of the word.
use Rattle.std.specs.Prelude.{Contains}
use Rattle.std.proofs.Common.{List, Some, [], ap, append-nil, append_assoc, arith, get_or, inl, inr, length, map, refl, slice_get, suc, sym, ℕ, ◌++◌, ◌+◌, ◌<◌, ◌∙◌, ◌∷◌, ◌≡◌}
use Rattle.std.proofs.lemmas.Option.{slice_get-get_or}
use Rattle.std.specs.List.{AllByRecursion}
use Rattle.pv_model.specs.Plain.{PlainPart, PlainParts, PlainToken, any, children, choice, empty, mixed, name, named, no_parts, opt, part, plus, seq, star, text}
use Rattle.pv_model.specs.Models.{IsOfAny, IsOfMixed, Matches, MatchesAll, MatchesSome, Rounds, no_round, round}
use Rattle.pv_dtd.specs.Plain.{PlainDtd, declared, model_of, parts_in}
use Rattle.pv_rules.specs.Numbering.{IsMemberAt, here, later, part_at, rest_at}
use Rattle.pv_rules.specs.Rules.{over}
use Rattle.pv_rules.specs.Sites.{PlainSite, content_site, name_site, part_site, rest_site}
use Rattle.pv_rules.proofs.Facts.{parts_by_number}
use Rattle.pv_missing.proofs.CoverWeights.{map_join}
use Rattle.pv_missing.proofs.SpanContents.{Stands, cut_at, front_text, nothing, one_token}
use Rattle.pv_complete.specs.Laws.{SpelledWrites}
use Rattle.pv_missing.specs.PlainForms.{plain_of}
use Rattle.pv_missing.specs.declared.owners.Of.{Of}
use Rattle.pv_missing.specs.declared.owners.Of.TheVariants as of
use Rattle.pv_write.specs.Pieces.{PlainPiece, finish, kept, start}
use Rattle.pv_complete.specs.Pieces.{Writes, WritesAt, WritesContent, write_kept, write_new}
use Rattle.pv_complete.specs.Pieces.{write_none, write_text}
use Rattle.pv_complete.specs.Spelling.{HoldsData, MayBeNothing, MayBeOne, MayBeTwo, SpellsSpan, any_two, children_one, choice_one, data_nothing}
use Rattle.pv_complete.specs.Spelling.{empty_nothing, last_one, mixed_two, name_one, opt_nothing, opt_one, plus_one, plus_two, rest_two, seq_one}
use Rattle.pv_complete.specs.Spelling.{spell_kept, spell_new, spell_none, spell_one, spell_text, spell_two, star_nothing, star_two}

module _ (g : PlainDtd) where
  -- pieces for one word and then those for the next
  pub writes-join : (n a b : ℕ) (u1 u2 w1 w2 : List PlainToken) (ps qs : List PlainPiece) → n ≡ a + b → Writes g a u1 w1 ps → Writes g b u2 w2 qs → Writes g n (u1 ++ u2) (w1 ++ w2) (ps ++ qs)
  writes-join n a b u1 u2 w1 w2 ps qs e (write_none _ z) d = let s : n ≡ b = omega arith in rw s d
  writes-join n a b u1 u2 w1 w2 ps qs e (write_text _ u w os c) d = write_text n (u ++ u2) (w ++ w2) (os ++ qs) (writes-join n a b u u2 w w2 os qs e c d)
  writes-join n a b u1 u2 w1 w2 ps qs e (write_kept _ y u w os c) d = write_kept n y (u ++ u2) (w ++ w2) (os ++ qs) (writes-join n a b u u2 w w2 os qs e c d)
  writes-join n a b u1 u2 w1 w2 ps qs e (write_new _ p q y m v u x1 x2 _ one two _ s j f is ok c1 c2) d =
      write_new n p (q + b) y m v (u ++ u2) x1 (x2 ++ w2) (w1 ++ w2) one (two ++ qs) (ps ++ qs) (omega arith)
      (ap (λ x. x ++ w2) j ∙ append_assoc x1 x2 w2) (ap (λ x. x ++ qs) f ∙ ap (λ x. start y ∷ x) (append_assoc one (finish y ∷ two) qs)) is ok c1
      (writes-join (q + b) q b u u2 x2 w2 two qs refl c2 d)

  -- written with a word of this language
  pub record WrittenBy (L : List ℕ → Type 0) (n : ℕ) (w : List PlainToken) (ps : List PlainPiece) : Type 0 where
    pub names : List ℕ
    pub is_word : L names
    pub writes : Writes g n (map named names) w ps

  abbrev pub WritesSite : ℕ → PlainSite → List PlainToken → List PlainPiece → Type 0
  WritesSite n (name_site x) w ps = Writes g n (named x ∷ []) w ps
  WritesSite n (content_site x) w ps = WritesContent g x n w ps
  WritesSite n (part_site q) w ps = (p : PlainPart) → part_at g q ≡ Some p → WrittenBy (Matches p) n w ps
  WritesSite n (rest_site q) w ps = (rs : PlainParts) → rest_at g q ≡ Some rs → WrittenBy (MatchesAll rs) n w ps

  none_written : (L : List ℕ → Type 0) (n : ℕ) (w : List PlainToken) → L [] → n ≡ 0 → w ≡ [] → WrittenBy L n w []
  none_written L n w l z e = record { names = []; is_word = l; writes = rw e (write_none n z) }

  both : (L M K : List ℕ → Type 0) → ((u v : List ℕ) → L u → M v → K (u ++ v)) → (n a b : ℕ) (u v w : List PlainToken) (ps qs rs : List PlainPiece) → n ≡ a + b → w ≡ u ++ v → rs ≡ ps ++ qs →
      WrittenBy L a u ps → WrittenBy M b v qs → WrittenBy K n w rs
  both L M K f n a b u v w ps qs rs e j k c d = record {
    names = c.names ++ d.names;
    is_word = f c.names d.names c.is_word d.is_word;
    writes = rw (j, k, map_join c.names d.names) (writes-join n a b (map named c.names) (map named d.names) u v ps qs e c.writes d.writes);
  }

  lift : (L M : List ℕ → Type 0) → ((u : List ℕ) → L u → M u) → (n : ℕ) (w : List PlainToken) (ps : List PlainPiece) → WrittenBy L n w ps → WrittenBy M n w ps
  lift L M f n w ps c = record { names = c.names; is_word = f c.names c.is_word; writes = c.writes }

  -- what stands at the part of a number
  at_part : (n q : ℕ) (p : PlainPart) (w : List PlainToken) (ps : List PlainPiece) → part_at g q ≡ Some p → WrittenBy (Matches p) n w ps → WritesSite n (part_site q) w ps
  at_part n q p w ps e d = λ r f. let i : p ≡ r = cc in rw (← i) d

  at_rest : (n q : ℕ) (rs : PlainParts) (w : List PlainToken) (ps : List PlainPiece) → rest_at g q ≡ Some rs → WrittenBy (MatchesAll rs) n w ps → WritesSite n (rest_site q) w ps
  at_rest n q rs w ps e d = λ r f. let i : rs ≡ r = cc in rw (← i) d

  new_name : (n a x : ℕ) (w : List PlainToken) (ps qs : List PlainPiece) → n ≡ suc a → qs ≡ start x ∷ (ps ++ finish x ∷ []) → WritesContent g x a w ps → Writes g n (named x ∷ []) w qs
  new_name n a x w ps qs e f p = write_new n a 0 x p.model p.whole [] w [] w ps [] qs (omega arith) (sym (append-nil w)) f p.is_model p.allowed p.writes (write_none 0 refl)

  all_join : (P : PlainToken → Type 0) (a b : List PlainToken) → AllByRecursion P a → AllByRecursion P b → AllByRecursion P (a ++ b)
  all_join P [] b p q = q
  all_join P (t ∷ a) b p q = (p.0, all_join P a b p.1 q)

  -- something in front of the content of an element that may hold data
  front_any : (x n a b : ℕ) (w u0 v0 v : List PlainToken) (ps qs rs : List PlainPiece) → model_of g x ≡ Some any → n ≡ a + b → w ≡ v0 ++ v → rs ≡ ps ++ qs → Writes g a u0 v0 ps →
      AllByRecursion (IsOfAny (declared g)) u0 → WritesContent g x b v qs → WritesContent g x n w rs
  front_any x n a b w u0 v0 v ps qs rs is e j k c ok p = record {
    model = any;
    is_model = is;
    whole = u0 ++ p.whole;
    allowed = let q : p.model ≡ any = let r = p.is_model in cc in all_join (IsOfAny (declared g)) u0 p.whole ok (rw q at p.allowed);
    writes = rw (j, k) (writes-join n a b u0 p.whole v0 v ps qs e c p.writes);
  }

  front_mixed : (x n a b : ℕ) (ys : List ℕ) (w u0 v0 v : List PlainToken)
      (ps qs rs : List PlainPiece) → model_of g x ≡ Some (mixed ys) → n ≡ a + b → w ≡ v0 ++ v →
      rs ≡ ps ++ qs → Writes g a u0 v0 ps →
      AllByRecursion (IsOfMixed ys) u0 → WritesContent g x b v qs → WritesContent g x n w rs
  front_mixed x n a b ys w u0 v0 v ps qs rs is e j k c ok p = record {
    model = mixed ys;
    is_model = is;
    whole = u0 ++ p.whole;
    allowed = let q : p.model ≡ mixed ys = let r = p.is_model in cc in all_join (IsOfMixed ys) u0 p.whole ok (rw q at p.allowed);
    writes = rw (j, k) (writes-join n a b u0 p.whole v0 v ps qs e c p.writes);
  }

  front_data : (x n : ℕ) (w v : List PlainToken) (ps : List PlainPiece) → HoldsData g x → w ≡ text ∷ v → WritesContent g x n v ps → WritesContent g x n w (kept ∷ ps)
  front_data x n w v ps (inl (ys, m)) e p =
      front_mixed x n 0 n ys w (text ∷ []) (text ∷ []) v (kept ∷ []) ps (kept ∷ ps) m (omega arith) e refl (write_text 0 [] [] [] (write_none 0 refl)) (tt, tt) p
  front_data x n w v ps (inr m) e p =
      front_any x n 0 n w (text ∷ []) (text ∷ []) v (kept ∷ []) ps (kept ∷ ps) m (omega arith) e refl (write_text 0 [] [] [] (write_none 0 refl)) (tt, tt) p

  one_name : (n y : ℕ) (w : List PlainToken) (ps : List PlainPiece) → WrittenBy (Matches (name y)) n w ps → Writes g n (named y ∷ []) w ps
  one_name n y w ps c = let e = c.is_word in rw e at c.writes

  nothing_there : (n : ℕ) (s : PlainSite) (w : List PlainToken) → n ≡ 0 → w ≡ [] → MayBeNothing g s → WritesSite n s w []
  nothing_there n s w z e (empty_nothing x m) = record { model = empty; is_model = m; whole = []; allowed = refl; writes = rw e (write_none n z) }
  nothing_there n s w z e (data_nothing x (inl (ys, m))) = record { model = mixed ys; is_model = m; whole = []; allowed = tt; writes = rw e (write_none n z) }
  nothing_there n s w z e (data_nothing x (inr m)) = record { model = any; is_model = m; whole = []; allowed = tt; writes = rw e (write_none n z) }
  nothing_there n s w z e (opt_nothing q p m) = at_part n q (opt p) w [] m (none_written (Matches (opt p)) n w (inl refl) z e)
  nothing_there n s w z e (star_nothing q p m) = at_part n q (star p) w [] m (none_written (Matches (star p)) n w no_round z e)

  some_member : (p : PlainPart) (r q : ℕ) (ps : PlainParts) (us : List ℕ) → IsMemberAt p r q ps → Matches p us → MatchesSome ps us
  some_member p r q ps us (here _ qs e) m = inl m
  some_member p r q ps us (later _ o qs i) m = inr (some_member p r (q + parts_in o) qs us i m)

  one_there : (n : ℕ) (s r : PlainSite) (w : List PlainToken) (ps : List PlainPiece) → MayBeOne g s r → WritesSite n r w ps → WritesSite n s w ps
  one_there n s r w ps (children_one x p m) h =
      let c = h p ((parts_by_number g).outermost x p m) in
      record { model = children p; is_model = m; whole = map named c.names; allowed = (c.names, refl, c.is_word); writes = c.writes }
  one_there n s r w ps (name_one q y e) h = at_part n q (name y) w ps e (record { names = y ∷ []; is_word = refl; writes = h })
  one_there n s r w ps (seq_one q p rs e) h =
      at_part n q (seq (part p rs)) w ps e (lift (MatchesAll (part p rs)) (Matches (seq (part p rs))) (λ u i. i) n w ps (h (part p rs) ((parts_by_number g).in_seq q p rs e)))
  one_there n s r w ps (choice_one q o p rs e i) h =
      at_part n q (choice rs) w ps e (lift (Matches p) (Matches (choice rs)) (λ u m. some_member p o (suc q) rs u i m) n w ps (h p ((parts_by_number g).in_choice q o p rs e i)))
  one_there n s r w ps (opt_one q p e) h = at_part n q (opt p) w ps e (lift (Matches p) (Matches (opt p)) (λ u m. inr m) n w ps (h p ((parts_by_number g).in_opt q p e)))
  one_there n s r w ps (plus_one q p e) h =
      at_part n q (plus p) w ps e (lift (Matches p) (Matches (plus p)) (λ u m. (u, [], sym (append-nil u), m, no_round)) n w ps (h p ((parts_by_number g).in_plus q p e)))
  one_there n s r w ps (last_one q p e) h =
      at_rest n q (part p no_parts) w ps e
      (lift (Matches p) (MatchesAll (part p no_parts)) (λ u m. (u, [], sym (append-nil u), m, refl)) n w ps (h p ((parts_by_number g).member q p no_parts e)))

  plus_rounds : (p : PlainPart) (us : List ℕ) → Matches (plus p) us → Rounds (Matches p) us
  plus_rounds p us (u, v, e, m, r) = round u v us e m r

  listed : (ys : List ℕ) (e : ℕ) → e < length ys → (y : ℕ) × (slice_get ys e ≡ Some y) × Contains ys y
  listed ys e l = let f = slice_get-get_or ys e 0 l in (get_or ys e 0, f, (e, l, let h = slice_get-get_or ys e (get_or ys e 0) l in cc))

  two_there : (n a b : ℕ) (s r q : PlainSite) (u v w : List PlainToken)
      (ps qs rs : List PlainPiece) → n ≡ a + b → w ≡ u ++ v → rs ≡ ps ++ qs → MayBeTwo g s r q →
      WritesSite a r u ps → WritesSite b q v qs → WritesSite n s w rs
  two_there n a b s r q u v w ps qs rs z j k (mixed_two x e ys m l) h i =
      let y = listed ys e l in
      front_mixed x n a b ys w (named y.0 ∷ []) u v ps qs rs m z j k (one_name a y.0 u ps (h (name y.0) ((parts_by_number g).listed x e y.0 ys m y.1))) (y.2, tt) i
  two_there n a b s r q u v w ps qs rs z j k (any_two x y m d) h i = front_any x n a b w (named y ∷ []) u v ps qs rs m z j k h (d, tt) i
  two_there n a b s r q u v w ps qs rs z j k (star_two o p e) h i =
      at_part n o (star p) w rs e (both (Matches p) (Matches (star p)) (Matches (star p)) (λ x y c d. round x y (x ++ y) refl c d) n a b u v w ps qs rs z j k
      (h p ((parts_by_number g).in_star o p e)) (i (star p) e))
  two_there n a b s r q u v w ps qs rs z j k (plus_two o p e) h i =
      at_part n o (plus p) w rs e (both (Matches p) (Matches (plus p)) (Matches (plus p)) (λ x y c d. (x, y, refl, c, plus_rounds p y d)) n a b u v w ps qs rs z j k
      (h p ((parts_by_number g).in_plus o p e)) (i (plus p) e))
  two_there n a b s r q u v w ps qs rs z j k (rest_two o p t ts e) h i =
      at_rest n o (part p (part t ts)) w rs e (both (Matches p) (MatchesAll (part t ts)) (MatchesAll (part p (part t ts))) (λ x y c d. (x, y, refl, c, d)) n a b u v w ps qs rs z j k
      (h p ((parts_by_number g).member o p (part t ts) e)) (i (part t ts) ((parts_by_number g).next o p t ts e)))

module _ (g : PlainDtd) (w : List PlainToken) where
  pub spelled : (n : ℕ) (s : PlainSite) (i j : ℕ) (ps : List PlainPiece) (v : List PlainToken) → Stands w i j v → SpellsSpan g w n (over s i j) ps → WritesSite g n s v ps
  spelled n s i j ps v st (spell_kept _ x _ z f) = rw (one_token w i j x v st refl f) (write_kept n x [] [] [] (write_none n z))
  spelled n s i j ps v st (spell_new _ a x _ _ os _ z e d) = new_name g n a x v os ps z e (spelled a (content_site x) i j os v st d)
  spelled n s i j ps v st (spell_text _ x _ _ os lt f h d) =
      let c = front_text w i j v st lt f in front_data g x n v c.0 os h c.1 (spelled n (content_site x) (suc i) j os c.0 c.2 d)
  spelled n s i j ps v st (spell_none _ _ _ z m) = nothing_there g n s v z (nothing w i j v st refl) m
  spelled n s i j ps v st (spell_one _ _ _ _ r _ m d) = one_there g n s r v ps m (spelled n r i j ps v st d)
  spelled n s i j ps v st (spell_two _ a b _ k _ _ r q os qs _ z e le lt m d f) =
      let c = cut_at w i k j v st le lt in
      two_there g n a b s r q c.one c.two v os qs ps z c.is_join e m (spelled a r i k os c.one c.first_stands d) (spelled b q k j qs c.two c.second_stands f)

all_stands : (w : List PlainToken) → Stands w 0 (length w) w
all_stands w = record { front = []; back = []; is_word = sym (append-nil w); starts = refl; ends = omega arith }

pub spelled_writes : SpelledWrites
spelled_writes g x n w ps = (
  (λ d. spelled g w n (content_site x) 0 (length w) ps w (all_stands w) d),
  (λ d. spelled g w n (name_site x) 0 (length w) ps w (all_stands w) d),
)

-- what stands at the site of an owner
pub writes_at : (g : PlainDtd) (owner : Of) (n : ℕ) (w : List PlainToken) (ps : List PlainPiece) → SpellsSpan g w n (over (plain_of owner) 0 (length w)) ps → WritesAt g (plain_of owner) n w ps
writes_at g (of.Root id) n w ps d = (spelled_writes g id.0 n w ps).1 d
writes_at g (of.Elem id) n w ps d = (spelled_writes g id.0 n w ps).0 d
