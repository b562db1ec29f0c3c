-- What derives a span derives each span within it.
use Rattle.std.specs.List.{AllByRecursion}
use Rattle.std.proofs.Common.{List, Some, [], arith, drop, inl, inr, length, refl, slice_get, subst, suc, sym, take, ℕ, ◌+◌, ◌<◌, ◌∷◌, ◌≡◌, ◌≤◌, ◌⊎◌}
use Rattle.std.proofs.lemmas.Bool.{cases_lt}
use Rattle.std.proofs.lemmas.List.{length-take-le, take-append-drop}
use Rattle.pv_model.specs.Plain.{PlainToken, named}
use Rattle.pv_dtd.specs.Plain.{PlainDtd, parts_in}
use Rattle.pv_dtd.specs.Productive.{IsProductive}
use Rattle.pv_dtd.specs.Proper.{IsProperDtd}
use Rattle.pv_dtd.proofs.ProperDtds.{full_children}
use Rattle.pv_rules.specs.Derivations.{by_rule, none_left}
use Rattle.pv_rules.specs.Numbering.{first_part}
use Rattle.pv_rules.specs.Rules.{Goal, IsSpan, Rule, any_name, any_none, any_text, children_part, empty_none, kept, missing, mixed_name, mixed_none}
use Rattle.pv_rules.specs.Rules.{mixed_text, opt_none, opt_one, over, part_choice, part_name, part_seq, plus_more, plus_one, rest_last, rest_then}
use Rattle.pv_rules.specs.Rules.{star_more, star_none}
use Rattle.pv_rules.specs.Sites.{PlainSite, content_site, name_site, part_site, rest_site}
use Rattle.pv_rules.proofs.DerivationLaws.{held}
use Rattle.pv_missing.specs.LiveWords.{AreProductiveTokens, IsProductiveToken}
use Rattle.pv_missing.proofs.CoverWeights.{possible_derives}
use Rattle.pv_missing.proofs.DerivationsByNumber.{from_word}
use Rattle.pv_missing.proofs.Sizes.{fits_possible}
use Rattle.pv_missing.proofs.SpanDerivations.{all_at}
use Rattle.pv_missing.proofs.SpanContents.{Stands}
use Rattle.pv_missing.proofs.WordDerivations.{of_content}
use Rattle.pv_rules.specs.SiteDerivations.{DerivesAt}
use Rattle.pv_reach.specs.Laws.{SpansWithin}
use Rattle.pv_rules.proofs.DerivationsMade.{any_more, mixed_more, plus_again, star_again, to_none, to_one, to_two}

module _ (g : PlainDtd) (w : List PlainToken) (proper : IsProperDtd g) (productive : AreProductiveTokens g w) where
  -- within i and j, or empty
  abbrev IsIn : ℕ → ℕ → ℕ → ℕ → Type 0
  IsIn i j a b = (a ≡ b) ⊎ ((i ≤ a) × (b ≤ j))

  abbrev Within : PlainSite → ℕ → ℕ → Type 0
  Within s i j = (a b : ℕ) → a ≤ b → b ≤ length w → IsIn i j a b → DerivesAt g w s a b

  nothing_stands : (a : ℕ) → a ≤ length w → Stands w a a []
  nothing_stands a le = record { front = take a w; back = drop a w; is_word = sym (take-append-drop a w); starts = length-take-le a w le; ends = omega arith }

  -- the content of a productive name derives nothing at every place
  empty_content : (x a : ℕ) → IsProductive g x → a ≤ length w → DerivesAt g w (content_site x) a a
  empty_content x a p le =
      let m = possible_derives g (full_children g proper) x _ [] (fits_possible g x p.kids p.fits p.good) in
      (m.weight, from_word g w m.weight (of_content x) a a [] (nothing_stands a le) m.derives)

  at_end : (s : PlainSite) (a b : ℕ) → a ≡ b → DerivesAt g w s a a → DerivesAt g w s a b
  at_end s a b e d = let P : ℕ → Type 0 = λ v. DerivesAt g w s a v in subst P e d

  -- nothing but an empty span
  none : (s : PlainSite) (i : ℕ) → ((a : ℕ) → a ≤ length w → Rule g w (over s a a) 0 []) → Within s i i
  none s i rule a b le short within =
      at_end s a b (elim within [ inl e ↦ e | inr r ↦ (let l = r.0 in let m = r.1 in omega arith) ]) (to_none g w s a (rule a (omega arith)))

  -- one site over the same span
  one : (c : ℕ) (s o : PlainSite) (i j : ℕ) → ((a b : ℕ) → IsSpan w a b → Rule g w (over s a b) c (over o a b ∷ [])) → Within o i j → Within s i j
  one c s o i j rule h a b le short within = to_one g w c s o a b a b (rule a b (le, short)) (h a b le short within)

  -- a site up to a place between, and one after it
  two : (s o r : PlainSite) (i k j : ℕ) → i ≤ k → ((a m b : ℕ) → a ≤ m → m ≤ b → b ≤ length w →
      DerivesAt g w o a m → DerivesAt g w r m b → DerivesAt g w s a b) → Within o i k →
      Within r k j → Within s i j
  two s o r i k j ik join u v a b le short (inl e) = join a b b le (omega arith) short (u a b le short (inl e)) (v b b (omega arith) short (inl refl))
  two s o r i k j ik join u v a b le short (inr (ia, bj)) = elim (cases_lt k b) [
    | inr bk ↦ join a b b le (omega arith) short (u a b le short (inr (ia, bk))) (v b b (omega arith) short (inl refl))
    | inl kb ↦ elim (cases_lt a k) [
      | inl ak ↦ join a k b (omega arith) (omega arith) short (u a k (omega arith) (omega arith) (inr (ia, omega arith))) (v k b (omega arith) short (inr (omega arith, bj)))
      | inr ka ↦ join a a b (omega arith) le short (u a a (omega arith) (omega arith) (inl refl)) (v a b le short (inr (ka, bj)))
    ]
  ]

  -- a text, and the content after it
  behind_text : (s : PlainSite) (i j : ℕ) → ((a : ℕ) → a ≤ length w → Rule g w (over s a a) 0 []) →
      ((b : ℕ) → i < b → b ≤ length w → Rule g w (over s i b) 0 (over s (suc i) b ∷ [])) → Within s (suc i) j → Within s i j
  behind_text s i j empty rule h a b le short (inl e) = at_end s a b e (to_none g w s a (empty a (omega arith)))
  behind_text s i j empty rule h a b le short (inr (ia, bj)) = elim (cases_lt i a) [
    | inl later ↦ h a b le short (inr (later, bj))
    | inr here ↦ elim (cases_lt a b) [
      | inr same ↦ at_end s a b (omega arith) (to_none g w s a (empty a (omega arith)))
      | inl less ↦
          let z : i ≡ a = omega arith in let P : ℕ → Type 0 = λ v. DerivesAt g w s v b in
          subst P z (to_one g w 0 s s i b (suc i) b (rule b (omega arith) short) (h (suc i) b (omega arith) short (inr (omega arith, bj))))
    ]
  ]

  kept_case : (x i a b : ℕ) → slice_get w i ≡ Some (named x) → a ≤ b → b ≤ length w → (suc a ≤ b) ⊎ (b ≤ a) → IsIn i (suc i) a b → DerivesAt g w (name_site x) a b
  kept_case x i a b f le short (inr ge) h =
      let p = all_at (IsProductiveToken g) w i (named x) productive f in
      at_end (name_site x) a b (omega arith) (to_one g w 1 (name_site x) (content_site x) a a a a (missing x a a (omega arith, omega arith)) (empty_content x a p (omega arith)))
  kept_case x i a b f le short (inl lt) (inl e) = absurd (omega arith)
  kept_case x i a b f le short (inl lt) (inr (ia, bj)) =
      let z : i ≡ a = omega arith in let y : suc i ≡ b = omega arith in
      let P : ℕ → Type 0 = λ v. DerivesAt g w (name_site x) v b in let Q : ℕ → Type 0 = λ v. DerivesAt g w (name_site x) i v in
      subst P z (subst Q y (0, by_rule 0 0 0 (over (name_site x) i (suc i)) [] refl (kept x i f) (none_left 0 refl)))

  closed : (x : Goal) (c : ℕ) (xs : List Goal) → Rule g w x c xs → AllByRecursion (λ (y : Goal). Within y.site y.from y.to) xs → Within x.site x.from x.to
  closed x c xs (kept y i f) h = λ a b le short within. kept_case y i a b f le short (cases_lt a b) within
  closed x c xs (missing y i j l) h = one 1 (name_site y) (content_site y) i j (λ a b s. missing y a b s) h.0
  closed x c xs (empty_none y i l m) h = none (content_site y) i (λ a s. empty_none y a s m)
  closed x c xs (mixed_none y i ys l m) h = none (content_site y) i (λ a s. mixed_none y a ys s m)
  closed x c xs (mixed_text y i j ys l s m f) h = behind_text (content_site y) i j (λ a t. mixed_none y a ys t m) (λ b t u. mixed_text y i b ys t u m f) h.0
  closed x c xs (mixed_name y e i k j ys l s n m b) h =
      two (content_site y) (part_site (first_part g y + e)) (content_site y) i k j (omega arith) (λ a q d o p t u v. mixed_more g w y e a q d ys m b u v) h.0 h.1.0
  closed x c xs (any_none y i l m) h = none (content_site y) i (λ a s. any_none y a s m)
  closed x c xs (any_text y i j l s m f) h = behind_text (content_site y) i j (λ a t. any_none y a t m) (λ b t u. any_text y i b t u m f) h.0
  closed x c xs (any_name y z i k j l s n m d) h = two (content_site y) (name_site z) (content_site y) i k j (omega arith) (λ a q b o p t u v. any_more g w y z a q b m d u v) h.0 h.1.0
  closed x c xs (children_part y i j p l m) h = one 0 (content_site y) (part_site (first_part g y)) i j (λ a b s. children_part y a b p s m) h.0
  closed x c xs (part_name q y i j l e) h = one 0 (part_site q) (name_site y) i j (λ a b s. part_name q y a b s e) h.0
  closed x c xs (part_seq q i j p ps l e) h = one 0 (part_site q) (rest_site (suc q)) i j (λ a b s. part_seq q a b p ps s e) h.0
  closed x c xs (part_choice q r i j p ps l e m) h = one 0 (part_site q) (part_site r) i j (λ a b s. part_choice q r a b p ps s e m) h.0
  closed x c xs (opt_none q i p l e) h = none (part_site q) i (λ a s. opt_none q a p s e)
  closed x c xs (opt_one q i j p l e) h = one 0 (part_site q) (part_site (suc q)) i j (λ a b s. opt_one q a b p s e) h.0
  closed x c xs (star_none q i p l e) h = none (part_site q) i (λ a s. star_none q a p s e)
  closed x c xs (star_more q i k j p l s n e) h = two (part_site q) (part_site (suc q)) (part_site q) i k j (omega arith) (λ a m b o r t u v. star_again g w q a m b p e u v) h.0 h.1.0
  closed x c xs (plus_one q i j p l e) h = one 0 (part_site q) (part_site (suc q)) i j (λ a b s. plus_one q a b p s e) h.0
  closed x c xs (plus_more q i k j p l s n e) h = two (part_site q) (part_site (suc q)) (part_site q) i k j (omega arith) (λ a m b o r t u v. plus_again g w q a m b p e u v) h.0 h.1.0
  closed x c xs (rest_last q i j p l e) h = one 0 (rest_site q) (part_site q) i j (λ a b s. rest_last q a b p s e) h.0
  closed x c xs (rest_then q i k j p r ps l s n e) h =
      two (rest_site q) (part_site q) (rest_site (q + parts_in p)) i k j l
      (λ a m b o t u d f. to_two g w (rest_site q) (part_site q) (rest_site (q + parts_in p)) a
      m b (rest_then q a m b p r ps o t u e) d f) h.0 h.1.0

pub spans_within : SpansWithin
spans_within g w proper productive s i j a b d le short within =
    held (Rule g w) (λ (y : Goal). Within g w proper productive y.site y.from y.to) (closed g w proper productive) d.0 (over s i j) d.1 a b le short within
