-- A derivation by number over a span is one of the term over the word that stands there.
use Rattle.std.specs.Prelude.{Contains}
use Rattle.std.proofs.Common.{List, Some, arith, get_or, refl, slice_get, subst, suc, sym, length, ℕ, ◌+◌, ◌<◌, ◌≡◌}
use Rattle.std.proofs.lemmas.Option.{slice_get-get_or}
use Rattle.pv_model.specs.Plain.{PlainPart, PlainParts, PlainToken, choice, name, no_parts, opt, part, plus, seq, star}
use Rattle.pv_dtd.specs.Plain.{PlainDtd, parts_in}
use Rattle.pv_rules.specs.Derivations.{Derives, by_rule, none_left, one_more}
use Rattle.pv_rules.specs.Numbering.{IsMemberAt, first_part, here, later, part_at, rest_at}
use Rattle.pv_rules.specs.Rules.{Rule, any_name, any_none, any_text, children_part, empty_none, kept, missing, mixed_name, mixed_none, mixed_text}
use Rattle.pv_rules.specs.Rules.{opt_none, opt_one, over, part_choice, part_name, part_seq, plus_more, plus_one, rest_last, rest_then, star_more}
use Rattle.pv_rules.specs.Rules.{star_none}
use Rattle.pv_rules.specs.Sites.{PlainSite, content_site, name_site, part_site, rest_site}
use Rattle.pv_rules.proofs.Facts.{parts_by_number}
use Rattle.pv_missing.proofs.WordDerivations.{IsMember, Symbol, behind, in_front, of_content, of_name, of_part, of_rest, DerivesWord, word_any_name}
use Rattle.pv_missing.proofs.WordDerivations.{word_any_none, word_any_text, word_children_part, word_empty_none, word_kept, word_missing}
use Rattle.pv_missing.proofs.WordDerivations.{word_mixed_name, word_mixed_none, word_mixed_text, word_opt_none, word_opt_one, word_part_choice}
use Rattle.pv_missing.proofs.WordDerivations.{word_part_name, word_part_seq, word_plus_more, word_plus_one, word_rest_last, word_rest_then}
use Rattle.pv_missing.proofs.WordDerivations.{word_star_more, word_star_none}
use Rattle.pv_missing.proofs.SpanContents.{Stands, cut_at, front_text, nothing, one_token, some_in}

is_member : (p : PlainPart) (r q : ℕ) (ps : PlainParts) → IsMemberAt p r q ps → IsMember p ps
is_member p r q ps (here _ qs e) = in_front qs
is_member p r q ps (later _ o qs m) = behind o qs (is_member p r (q + parts_in o) qs m)

module _ (g : PlainDtd) where
  -- whatever stands at the site derives the word
  abbrev pub Spells : ℕ → PlainSite → List PlainToken → Type 0
  Spells n (name_site x) v = DerivesWord g n (of_name x) v
  Spells n (content_site x) v = DerivesWord g n (of_content x) v
  Spells n (part_site q) v = (p : PlainPart) → part_at g q ≡ Some p → DerivesWord g n (of_part p) v
  Spells n (rest_site q) v = (ps : PlainParts) → rest_at g q ≡ Some ps → DerivesWord g n (of_rest ps) v

  weighs : (n m : ℕ) (s : PlainSite) (v : List PlainToken) → n ≡ m → Spells m s v → Spells n s v
  weighs n m s v e d = subst (λ k. Spells k s v) (sym e) d

  at_part : (n q : ℕ) (p : PlainPart) (v : List PlainToken) → part_at g q ≡ Some p → DerivesWord g n (of_part p) v → Spells n (part_site q) v
  at_part n q p v e d = λ r f. let i : p ≡ r = cc in subst (λ x. DerivesWord g n (of_part x) v) i d

  at_rest : (n q : ℕ) (ps : PlainParts) (v : List PlainToken) → rest_at g q ≡ Some ps → DerivesWord g n (of_rest ps) v → Spells n (rest_site q) v
  at_rest n q ps v e d = λ r f. let i : ps ≡ r = cc in subst (λ x. DerivesWord g n (of_rest x) v) i d

  weighs_word : (n m : ℕ) (s : Symbol) (v : List PlainToken) → n ≡ m → DerivesWord g m s v → DerivesWord g n s v
  weighs_word n m s v e d = subst (λ k. DerivesWord g k s v) (sym e) d

  is_listed : (ys : List ℕ) (e y : ℕ) → e < length ys → slice_get ys e ≡ Some y → Contains ys y
  is_listed ys e y l f = (e, l, let h = slice_get-get_or ys e y l in cc)

  listed_token : (ys : List ℕ) (e : ℕ) → e < length ys → (y : ℕ) × (slice_get ys e ≡ Some y) × Contains ys y
  listed_token ys e l = let f = slice_get-get_or ys e 0 l in (get_or ys e 0, f, is_listed ys e (get_or ys e 0) l f)

module _ (g : PlainDtd) (w : List PlainToken) where
  pub to_word : (n : ℕ) (s : PlainSite) (i j : ℕ) (v : List PlainToken) → Stands w i j v → Derives (Rule g w) n (over s i j) → Spells g n s v
  to_word n s i j v st (by_rule _ _ m _ _ z (kept x _ f) (none_left _ z1)) = word_kept n x v (omega arith) (one_token w i j x v st refl f)
  to_word n s i j v st (by_rule _ _ m _ _ z (missing x _ _ l) (one_more _ a b _ _ z1 d (none_left _ z2))) =
      word_missing n a x v (omega arith) (to_word a (content_site x) i j v st d)
  to_word n s i j v st (by_rule _ _ m _ _ z (empty_none x _ l e) (none_left _ z1)) =
      word_empty_none n x v e (omega arith) (nothing w i j v st refl)
  to_word n s i j v st (by_rule _ _ m _ _ z (mixed_none x _ ys l e) (none_left _ z1)) =
      word_mixed_none n x ys v e (omega arith) (nothing w i j v st refl)
  to_word n s i j v st (by_rule _ _ m _ _ z (mixed_text x _ _ ys r l e t) (one_more _ a b _ _ z1 d (none_left _ z2))) =
      let c = front_text w i j v st r t in
      weighs g n a (content_site x) v (omega arith) (word_mixed_text a x ys c.0 v e c.1 (to_word a (content_site x) (suc i) j c.0 c.2 d))
  to_word n s i j v st (by_rule _ _ m _ _ z (mixed_name x e _ k _ ys r o l h t) (one_more _ n1 m1 _ _ z1 d (one_more _ n2 m2 _ _ z2 f (none_left _ z3)))) =
      let c = cut_at w i k j v st (omega arith) (omega arith) in
      let y = listed_token g ys e t in
      word_mixed_name n n1 n2 x y.0 ys c.one c.two v h y.2 (omega arith) c.is_join (some_in w i k c.one c.first_stands r)
      (to_word n1 (part_site (first_part g x + e)) i k c.one c.first_stands d (name y.0) ((parts_by_number g).listed x e y.0 ys h y.1)) (to_word n2 (content_site x) k j c.two c.second_stands f)
  to_word n s i j v st (by_rule _ _ m _ _ z (any_none x _ l e) (none_left _ z1)) =
      word_any_none n x v e (omega arith) (nothing w i j v st refl)
  to_word n s i j v st (by_rule _ _ m _ _ z (any_text x _ _ r l e t) (one_more _ a b _ _ z1 d (none_left _ z2))) =
      let c = front_text w i j v st r t in
      weighs g n a (content_site x) v (omega arith) (word_any_text a x c.0 v e c.1 (to_word a (content_site x) (suc i) j c.0 c.2 d))
  to_word n s i j v st (by_rule _ _ m _ _ z (any_name x y _ k _ r o l h t) (one_more _ n1 m1 _ _ z1 d (one_more _ n2 m2 _ _ z2 f (none_left _ z3)))) =
      let c = cut_at w i k j v st (omega arith) (omega arith) in
      word_any_name n n1 n2 x y c.one c.two v h t (omega arith) c.is_join (some_in w i k c.one c.first_stands r)
      (to_word n1 (name_site y) i k c.one c.first_stands d) (to_word n2 (content_site x) k j c.two c.second_stands f)
  to_word n s i j v st (by_rule _ _ m _ _ z (children_part x _ _ p l e) (one_more _ a b _ _ z1 d (none_left _ z2))) =
      weighs g n a (content_site x) v (omega arith) (word_children_part a x p v e
      (to_word a (part_site (first_part g x)) i j v st d p ((parts_by_number g).outermost x p e)))
  to_word n s i j v st (by_rule _ _ m _ _ z (part_name q y _ _ l e) (one_more _ a b _ _ z1 d (none_left _ z2))) =
      at_part g n q (name y) v e (weighs_word g n a (of_part (name y)) v (omega arith)
      (word_part_name a y v (to_word a (name_site y) i j v st d)))
  to_word n s i j v st (by_rule _ _ m _ _ z (part_seq q _ _ p ps l e) (one_more _ a b _ _ z1 d (none_left _ z2))) =
      at_part g n q (seq (part p ps)) v e (weighs_word g n a (of_part (seq (part p ps))) v (omega arith) (word_part_seq a (part p ps) v
      (to_word a (rest_site (suc q)) i j v st d (part p ps) ((parts_by_number g).in_seq q p ps e))))
  to_word n s i j v st (by_rule _ _ m _ _ z (part_choice q r _ _ p ps l e t) (one_more _ a b _ _ z1 d (none_left _ z2))) =
      at_part g n q (choice ps) v e (weighs_word g n a (of_part (choice ps)) v (omega arith) (word_part_choice a p ps v (is_member p r (suc q) ps t)
      (to_word a (part_site r) i j v st d p ((parts_by_number g).in_choice q r p ps e t))))
  to_word n s i j v st (by_rule _ _ m _ _ z (opt_none q _ p l e) (none_left _ z1)) =
      at_part g n q (opt p) v e (word_opt_none n p v (omega arith) (nothing w i j v st refl))
  to_word n s i j v st (by_rule _ _ m _ _ z (opt_one q _ _ p l e) (one_more _ a b _ _ z1 d (none_left _ z2))) =
      at_part g n q (opt p) v e (weighs_word g n a (of_part (opt p)) v (omega arith)
      (word_opt_one a p v (to_word a (part_site (suc q)) i j v st d p ((parts_by_number g).in_opt q p e))))
  to_word n s i j v st (by_rule _ _ m _ _ z (star_none q _ p l e) (none_left _ z1)) =
      at_part g n q (star p) v e (word_star_none n p v (omega arith) (nothing w i j v st refl))
  to_word n s i j v st (by_rule _ _ m _ _ z (star_more q _ k _ p r o l e) (one_more _ n1 m1 _ _ z1 d (one_more _ n2 m2 _ _ z2 f (none_left _ z3)))) =
      let c = cut_at w i k j v st (omega arith) (omega arith) in
      at_part g n q (star p) v e (word_star_more n n1 n2 p c.one c.two v (omega arith) c.is_join (some_in w i k c.one c.first_stands r)
      (to_word n1 (part_site (suc q)) i k c.one c.first_stands d p ((parts_by_number g).in_star q p e)) (to_word n2 (part_site q) k j c.two c.second_stands f (star p) e))
  to_word n s i j v st (by_rule _ _ m _ _ z (plus_one q _ _ p l e) (one_more _ a b _ _ z1 d (none_left _ z2))) =
      at_part g n q (plus p) v e (weighs_word g n a (of_part (plus p)) v (omega arith)
      (word_plus_one a p v (to_word a (part_site (suc q)) i j v st d p ((parts_by_number g).in_plus q p e))))
  to_word n s i j v st (by_rule _ _ m _ _ z (plus_more q _ k _ p r o l e) (one_more _ n1 m1 _ _ z1 d (one_more _ n2 m2 _ _ z2 f (none_left _ z3)))) =
      let c = cut_at w i k j v st (omega arith) (omega arith) in
      at_part g n q (plus p) v e (word_plus_more n n1 n2 p c.one c.two v (omega arith) c.is_join (some_in w i k c.one c.first_stands r) (some_in w k j c.two c.second_stands o)
      (to_word n1 (part_site (suc q)) i k c.one c.first_stands d p ((parts_by_number g).in_plus q p e)) (to_word n2 (part_site q) k j c.two c.second_stands f (plus p) e))
  to_word n s i j v st (by_rule _ _ m _ _ z (rest_last q _ _ p l e) (one_more _ a b _ _ z1 d (none_left _ z2))) =
      at_rest g n q (part p no_parts) v e (weighs_word g n a (of_rest (part p no_parts)) v (omega arith) (word_rest_last a p v
      (to_word a (part_site q) i j v st d p ((parts_by_number g).member q p no_parts e))))
  to_word n s i j v st (by_rule _ _ m _ _ z (rest_then q _ k _ p r ps t o l e) (one_more _ n1 m1 _ _ z1 d (one_more _ n2 m2 _ _ z2 f (none_left _ z3)))) =
      let c = cut_at w i k j v st (omega arith) (omega arith) in
      at_rest g n q (part p (part r ps)) v e (word_rest_then n n1 n2 p r ps c.one c.two v (omega arith) c.is_join
      (to_word n1 (part_site q) i k c.one c.first_stands d p ((parts_by_number g).member q p (part r ps) e))
      (to_word n2 (rest_site (q + parts_in p)) k j c.two c.second_stands f (part r ps) ((parts_by_number g).next q p r ps e)))
