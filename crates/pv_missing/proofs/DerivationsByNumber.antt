-- A derivation of a term over a word is one by number, wherever the term and the word stand.
use Rattle.std.specs.Prelude.{Contains}
use Rattle.std.proofs.Common.{List, Some, [], ap, arith, length, length-append, refl, suc, ℕ, ◌++◌, ◌+◌, ◌<◌, ◌∷◌, ◌≡◌}
use Rattle.std.proofs.lemmas.Option.{slice_get-get_or}
use Rattle.pv_model.specs.Plain.{PlainPart, PlainParts, PlainToken, mixed, name, named, no_parts, part, plus, seq, star, text}
use Rattle.pv_dtd.specs.Plain.{PlainDtd, model_of, parts_in}
use Rattle.pv_rules.specs.Derivations.{Derives, by_rule, none_left, one_more}
use Rattle.pv_rules.specs.Numbering.{IsMemberAt, first_part, here, later, part_at, rest_at}
use Rattle.pv_rules.specs.Rules.{IsSpan, Rule, any_name, any_none, any_text, children_part, empty_none, kept, missing, mixed_name, mixed_none}
use Rattle.pv_rules.specs.Rules.{mixed_text, opt_none, opt_one, over, part_choice, part_name, part_seq, plus_more, plus_one, rest_last, rest_then}
use Rattle.pv_rules.specs.Rules.{star_more, star_none}
use Rattle.pv_rules.specs.Sites.{PlainSite, content_site, name_site, part_site, rest_site}
use Rattle.pv_rules.proofs.Facts.{parts_by_number}
use Rattle.pv_missing.proofs.WordDerivations.{IsMember, Symbol, behind, in_front, of_content, of_name, of_part, of_rest, DerivesWord, word_any_name}
use Rattle.pv_missing.proofs.WordDerivations.{word_any_none, word_any_text, word_children_part, word_empty_none, word_kept, word_missing}
use Rattle.pv_missing.proofs.WordDerivations.{word_mixed_name, word_mixed_none, word_mixed_text, word_opt_none, word_opt_one, word_part_choice}
use Rattle.pv_missing.proofs.WordDerivations.{word_part_name, word_part_seq, word_plus_more, word_plus_one, word_rest_last, word_rest_then}
use Rattle.pv_missing.proofs.WordDerivations.{word_star_more, word_star_none}
use Rattle.pv_missing.proofs.SpanContents.{Stands, cut_left, cut_right, first, rest, same_end, some_length}

numbered_member : (p : PlainPart) (q : ℕ) (ps : PlainParts) → IsMember p ps → (r : ℕ) × IsMemberAt p r q ps
numbered_member p q ps (in_front qs) = (q, here q qs refl)
numbered_member p q ps (behind o qs m) = let n = numbered_member p (q + parts_in o) qs m in (n.0, later q o qs n.1)

module _ (g : PlainDtd) (w : List PlainToken) where
  no_side : (n : ℕ) (s : PlainSite) (i j : ℕ) → n ≡ 0 → i ≡ j → Rule g w (over s i i) 0 [] → Derives (Rule g w) n (over s i j)
  no_side n s i j z e r = rw (← e) (by_rule n 0 0 (over s i i) [] (omega arith) r (none_left 0 refl))

  one_side : (n c a : ℕ) (s r : PlainSite) (i j k l : ℕ) → n ≡ c + a → Rule g w (over s i j) c (over r k l ∷ []) → Derives (Rule g w) a (over r k l) →
      Derives (Rule g w) n (over s i j)
  one_side n c a s r i j k l e rule d =
      by_rule n c a (over s i j) (over r k l ∷ []) e rule (one_more a a 0 (over r k l) [] (omega arith) d (none_left 0 refl))

  two_sides : (n a b : ℕ) (s r o : PlainSite) (i k j : ℕ) → n ≡ a + b → Rule g w (over s i j) 0 (over r i k ∷ over o k j ∷ []) → Derives (Rule g w) a (over r i k) →
      Derives (Rule g w) b (over o k j) → Derives (Rule g w) n (over s i j)
  two_sides n a b s r o i k j e rule d f = by_rule n 0 n (over s i j) (over r i k ∷ over o k j ∷ []) (omega arith) rule
      (one_more n a b (over r i k) (over o k j ∷ []) e d (one_more b b 0 (over o k j) [] (omega arith) f (none_left 0 refl)))

  abbrev pub At : ℕ → ℕ → ℕ → Symbol → Type 0
  At n i j (of_name x) = Derives (Rule g w) n (over (name_site x) i j)
  At n i j (of_content x) = Derives (Rule g w) n (over (content_site x) i j)
  At n i j (of_part p) = (q : ℕ) → part_at g q ≡ Some p → Derives (Rule g w) n (over (part_site q) i j)
  At n i j (of_rest ps) = (q : ℕ) → rest_at g q ≡ Some ps → Derives (Rule g w) n (over (rest_site q) i j)

  is_span : (i j : ℕ) (v : List PlainToken) → Stands w i j v → IsSpan w i j
  is_span i j v st =
      let p = st.starts in let q = st.ends in let l = ap length st.is_word in
      (omega arith, omega (arith, length-append st.front (v ++ st.back), length-append v st.back))

  sequence : (n : ℕ) (ps : PlainParts) (i j : ℕ) (v : List PlainToken) → IsSpan w i j → DerivesWord g n (of_rest ps) v → At n i j (of_rest ps) → At n i j (of_part (seq ps))
  sequence n ps i j v l (word_rest_last _ p _ _) d = λ q e.
      one_side n 0 n (part_site q) (rest_site (suc q)) i j i j (omega arith) (part_seq q i j p no_parts l e) (d (suc q) ((parts_by_number g).in_seq q p no_parts e))
  sequence n ps i j v l (word_rest_then _ a b p r rs _ _ _ _ _ _ _) d = λ q e.
      one_side n 0 n (part_site q) (rest_site (suc q)) i j i j (omega arith) (part_seq q i j p (part r rs) l e) (d (suc q) ((parts_by_number g).in_seq q p (part r rs) e))

  listed_number : (x y : ℕ) (ys : List ℕ) → model_of g x ≡ Some (mixed ys) → Contains ys y → (e : ℕ) × (e < length ys) × (part_at g (first_part g x + e) ≡ Some (name y))
  listed_number x y ys m (e, l, f) = (e, l, (parts_by_number g).listed x e y ys m (let h = slice_get-get_or ys e y l in cc))

  pub from_word : (n : ℕ) (s : Symbol) (i j : ℕ) (v : List PlainToken) → Stands w i j v → DerivesWord g n s v → At n i j s
  from_word n s i j v st (word_kept _ x _ z e) =
      let t : Stands w i j (named x ∷ []) = rw e at st in let f : suc i ≡ j = let o = t.ends in omega arith in
      rw (← f) (by_rule n 0 0 (over (name_site x) i (suc i)) [] (omega arith) (kept x i (first w i j (named x) [] t)) (none_left 0 refl))
  from_word n s i j v st (word_missing _ a x _ e d) =
      one_side n 1 a (name_site x) (content_site x) i j i j (omega arith) (missing x i j (is_span i j v st)) (from_word a (of_content x) i j v st d)
  from_word n s i j v st (word_empty_none _ x _ m z e) =
      let l = is_span i j v st in let f = same_end w i j v e st in
      no_side n (content_site x) i j z f (empty_none x i (omega arith) m)
  from_word n s i j v st (word_mixed_none _ x ys _ m z e) =
      let l = is_span i j v st in let f = same_end w i j v e st in
      no_side n (content_site x) i j z f (mixed_none x i ys (omega arith) m)
  from_word n s i j v st (word_mixed_text _ x ys u _ m e d) =
      let l = is_span i j v st in let t : Stands w i j (text ∷ u) = rw e at st in let o = t.ends in
      one_side n 0 n (content_site x) (content_site x) i j (suc i) j (omega arith) (mixed_text x i j ys (omega arith) (omega arith) m (first w i j text u t))
      (from_word n (of_content x) (suc i) j u (rest w i j text u t) d)
  from_word n s i j v st (word_mixed_name _ a b x y ys u r _ m t e f ne d k) =
      let one = cut_left w i j v u r f st in let two = cut_right w i j v u r f st in let l = is_span i j v st in let o = two.ends in let s = some_length u ne in let c = listed_number x y ys m t in
      two_sides n a b (content_site x) (part_site (first_part g x + c.0)) (content_site x) i (i + length u) j e
      (mixed_name x c.0 i (i + length u) j ys (omega arith) (omega arith) (omega arith) m c.1)
      (from_word a (of_part (name y)) i (i + length u) u one d (first_part g x + c.0) c.2) (from_word b (of_content x) (i + length u) j r two k)
  from_word n s i j v st (word_any_none _ x _ m z e) =
      let l = is_span i j v st in let f = same_end w i j v e st in
      no_side n (content_site x) i j z f (any_none x i (omega arith) m)
  from_word n s i j v st (word_any_text _ x u _ m e d) =
      let l = is_span i j v st in let t : Stands w i j (text ∷ u) = rw e at st in let o = t.ends in
      one_side n 0 n (content_site x) (content_site x) i j (suc i) j (omega arith) (any_text x i j (omega arith) (omega arith) m (first w i j text u t))
      (from_word n (of_content x) (suc i) j u (rest w i j text u t) d)
  from_word n s i j v st (word_any_name _ a b x y u r _ m t e f ne d k) =
      let one = cut_left w i j v u r f st in let two = cut_right w i j v u r f st in let l = is_span i j v st in let o = two.ends in let s = some_length u ne in
      two_sides n a b (content_site x) (name_site y) (content_site x) i (i + length u) j e
      (any_name x y i (i + length u) j (omega arith) (omega arith) (omega arith) m t)
      (from_word a (of_name y) i (i + length u) u one d) (from_word b (of_content x) (i + length u) j r two k)
  from_word n s i j v st (word_children_part _ x p _ m d) =
      one_side n 0 n (content_site x) (part_site (first_part g x)) i j i j (omega arith) (children_part x i j p (is_span i j v st) m)
      (from_word n (of_part p) i j v st d (first_part g x) ((parts_by_number g).outermost x p m))
  from_word n s i j v st (word_part_name _ y _ d) =
      λ q m. one_side n 0 n (part_site q) (name_site y) i j i j (omega arith) (part_name q y i j (is_span i j v st) m) (from_word n (of_name y) i j v st d)
  from_word n s i j v st (word_part_seq _ ps _ d) =
      sequence n ps i j v (is_span i j v st) d (from_word n (of_rest ps) i j v st d)
  from_word n s i j v st (word_part_choice _ p ps _ t d) =
      λ q m. let c = numbered_member p (suc q) ps t in
      one_side n 0 n (part_site q) (part_site c.0) i j i j (omega arith) (part_choice q c.0 i j p ps (is_span i j v st) m c.1)
      (from_word n (of_part p) i j v st d c.0 ((parts_by_number g).in_choice q c.0 p ps m c.1))
  from_word n s i j v st (word_opt_none _ p _ z e) =
      λ q m. let l = is_span i j v st in let f = same_end w i j v e st in
      no_side n (part_site q) i j z f (opt_none q i p (omega arith) m)
  from_word n s i j v st (word_opt_one _ p _ d) =
      λ q m. one_side n 0 n (part_site q) (part_site (suc q)) i j i j (omega arith) (opt_one q i j p (is_span i j v st) m)
      (from_word n (of_part p) i j v st d (suc q) ((parts_by_number g).in_opt q p m))
  from_word n s i j v st (word_star_none _ p _ z e) =
      λ q m. let l = is_span i j v st in let f = same_end w i j v e st in
      no_side n (part_site q) i j z f (star_none q i p (omega arith) m)
  from_word n s i j v st (word_star_more _ a b p u r _ e f ne d k) =
      λ q m. let one = cut_left w i j v u r f st in let two = cut_right w i j v u r f st in let l = is_span i j v st in let o = two.ends in let s = some_length u ne in
      two_sides n a b (part_site q) (part_site (suc q)) (part_site q) i (i + length u) j e
      (star_more q i (i + length u) j p (omega arith) (omega arith) (omega arith) m)
      (from_word a (of_part p) i (i + length u) u one d (suc q) ((parts_by_number g).in_star q p m)) (from_word b (of_part (star p)) (i + length u) j r two k q m)
  from_word n s i j v st (word_plus_one _ p _ d) =
      λ q m. one_side n 0 n (part_site q) (part_site (suc q)) i j i j (omega arith) (plus_one q i j p (is_span i j v st) m)
      (from_word n (of_part p) i j v st d (suc q) ((parts_by_number g).in_plus q p m))
  from_word n s i j v st (word_plus_more _ a b p u r _ e f ne nf d k) =
      λ q m. let one = cut_left w i j v u r f st in let two = cut_right w i j v u r f st in let l = is_span i j v st in let o = two.ends in let s = some_length u ne in let h = some_length r nf in
      two_sides n a b (part_site q) (part_site (suc q)) (part_site q) i (i + length u) j e
      (plus_more q i (i + length u) j p (omega arith) (omega arith) (omega arith) m)
      (from_word a (of_part p) i (i + length u) u one d (suc q) ((parts_by_number g).in_plus q p m)) (from_word b (of_part (plus p)) (i + length u) j r two k q m)
  from_word n s i j v st (word_rest_last _ p _ d) =
      λ q m. one_side n 0 n (rest_site q) (part_site q) i j i j (omega arith) (rest_last q i j p (is_span i j v st) m)
      (from_word n (of_part p) i j v st d q ((parts_by_number g).member q p no_parts m))
  from_word n s i j v st (word_rest_then _ a b p h ps u r _ e f d k) =
      λ q m. let one = cut_left w i j v u r f st in let two = cut_right w i j v u r f st in let l = is_span i j v st in let o = two.ends in
      two_sides n a b (rest_site q) (part_site q) (rest_site (q + parts_in p)) i (i + length u) j e
      (rest_then q i (i + length u) j p h ps (omega arith) (omega arith) (omega arith) m)
      (from_word a (of_part p) i (i + length u) u one d q ((parts_by_number g).member q p (part h ps) m))
      (from_word b (of_rest (part h ps)) (i + length u) j r two k (q + parts_in p) ((parts_by_number g).next q p h ps m))
