-- Rules over few columns reach over a word what those reach that their numbers stand for.
use Rattle.std.proofs.Common.{Contains, List, None, Option, Some, [], arith, get_or, inl, inr, length, refl, slice_get, subst, suc, sym, zero, ℕ, ◌+◌, ◌<◌, ◌∙◌, ◌∷◌, ◌≡◌, ◌≤◌, ◌↔◌}
use Rattle.std.proofs.lemmas.Bool.{cases_lt}
use Rattle.std.proofs.lemmas.List.{get_or_default}
use Rattle.std.proofs.lemmas.Option.{slice_get_within}
use Rattle.pv_model.specs.declared.models.Token.{Token}
use Rattle.pv_columns.specs.ColumnRules.{InRange, ReadThrough, ReadsToken, TokensMayBeMissing, by_rule, done}
use Rattle.pv_columns.specs.FreeSets.{AreInRow, IsFreeOver}
use Rattle.pv_columns.specs.Tokens.{IsInRow}
use Rattle.pv_columns.specs.declared.rules.ColumnRule.{ColumnRule}
use Rattle.pv_columns.proofs.Spans.{between, join, reaches_on, reaches_within, token_at}
use Rattle.pv_reach.specs.Columns.{Has}
use Rattle.pv_reach.specs.Cuts.{AreColumnNumbers, AreTokensOf, HasCut, AreRulesCut, IsCutRule, by_rules, by_set, of_none, of_rule, of_token}
use Rattle.pv_reach.specs.Merging.{column_head, column_heads}
use Rattle.pv_reach.proofs.EmptyReaches.{moved}
use Rattle.pv_reach.proofs.StandInColumns.{by_has, its_own}

-- after the end of a word nothing is read
reads_nothing : (word : List Token) (o : Option Token) (i m : ℕ) → ReadsToken word o i m → length word ≤ i → m ≡ i
reads_nothing word None i m e le = e
reads_nothing word (Some t) i m (g, e) le = absurd (let h = slice_get_within word i t g in omega arith)

reaches_nothing : (rules : List ColumnRule) (word : List Token) (cs : List ℕ) (i j : ℕ) → ReadThrough rules word cs i j → length word ≤ i → j ≡ i
reaches_nothing rules word [] i j (done _ _ e) le = sym e
reaches_nothing rules word (c ∷ cs) i j (by_rule _ _ r _ m k _ con e reads d f) le =
    let a = reads_nothing word r.token i m reads le in let b = reaches_nothing rules word r.columns.items m k d (omega arith) in
    let n = reaches_nothing rules word cs k j f (omega arith) in omega arith

token_read : (word : List Token) (o : Option Token) (t : Token) (i m : ℕ) → o ≡ Some t → ReadsToken word o i m → (slice_get word i ≡ Some t) × (m ≡ suc i)
token_read word o t i m e r = let P : Option Token → Type 0 = λ v. ReadsToken word v i m in subst P e r

nothing_read : (word : List Token) (o : Option Token) (i m : ℕ) → o ≡ None → ReadsToken word o i m → m ≡ i
nothing_read word o i m e r = let P : Option Token → Type 0 = λ v. ReadsToken word v i m in subst P e r

module _ (rules few : List ColumnRule) (names : List ℕ) (tokens word : List Token)
    (is : AreRulesCut rules names tokens few) (of_word : AreTokensOf word tokens)
    (missing : TokensMayBeMissing rules word) where
  -- of a free column
  in_row : (row : List ℕ) (c i j : ℕ) → IsFreeOver rules row c → ReadThrough rules word (c ∷ []) i j → i ≤ length word → AreInRow row word i j
  in_row row c i j free d le = (free word missing i j (reaches_on rules word (c ∷ []) i j d) (reaches_within rules word (c ∷ []) i j d le)).0 d

  none_reached : (row : List ℕ) (c p : ℕ) → IsFreeOver rules row c → ReadThrough rules word (c ∷ []) p p
  none_reached row c p free = moved rules word word (c ∷ []) 0 0 p ((free word missing 0 0 (omega arith) (omega arith)).1 (λ k t a b. absurd (omega arith))) refl

  one_more : (row : List ℕ) (c i j : ℕ) (t : Token) → IsFreeOver rules row c → IsInRow row t →
      slice_get word i ≡ Some t → ReadThrough rules word (c ∷ []) (suc i) j →
      ReadThrough rules word (c ∷ []) i j
  one_more row c i j t free t_in f d =
      let l = slice_get_within word i t f in let rest = in_row row c (suc i) j free d (omega arith) in
      let on = reaches_on rules word (c ∷ []) (suc i) j d in let w = reaches_within rules word (c ∷ []) (suc i) j d (omega arith) in
      (free word missing i j (omega arith) w).1 (λ k u a b g. elim (cases_lt i k) [
        | inl x ↦ rest k u x b g
        | inr x ↦ (let z : k ≡ i = omega arith in let y : t ≡ u = cc in let P : Token → Type 0 = λ v. IsInRow row v in subst P y t_in)
      ])

  -- what the few rules reach, the columns reach that their numbers stand for
  rule_means : (l : ℕ) (o : Option Token) (ls : List ℕ) (i m k : ℕ) → IsCutRule rules names l o ls → ReadsToken word o i m → ReadThrough rules word (column_heads names ls) m k →
      ReadThrough rules word (column_head names l ∷ []) i k
  rule_means l o ls i m k (of_rule r con e f h) reads d =
      let P : Option Token → Type 0 = λ v. ReadsToken word v i m in
      let Q : List ℕ → Type 0 = λ v. ReadThrough rules word v m k in
      by_rule (column_head names l) [] r i m k k con e (subst P f reads) (subst Q h d) (done k k refl)
  rule_means l o ls i m k (of_none row free f h) reads d =
      let z = nothing_read word o i m f reads in
      let Q : List ℕ → Type 0 = λ v. ReadThrough rules word (column_heads names v) m k in
      let y = none_left m k (subst Q h d) in
      let R : ℕ → Type 0 = λ v. ReadThrough rules word (column_head names l ∷ []) i v in
      let x : i ≡ k = omega arith in
      subst R x (none_reached row (column_head names l) i free)
    where
      none_left : (a b : ℕ) → ReadThrough rules word [] a b → a ≡ b
      none_left a b (done _ _ e) = e
  rule_means l o ls i m k (of_token row t free t_in f h) reads d =
      let z = token_read word o t i m f reads in
      let Q : List ℕ → Type 0 = λ v. ReadThrough rules word (column_heads names v) m k in
      let R : ℕ → Type 0 = λ v. ReadThrough rules word (column_head names l ∷ []) v k in
      one_more row (column_head names l) i k t free t_in z.0 (subst R z.1 (subst Q h d))

  pub few_reach : (ls : List ℕ) (i j : ℕ) → ReadThrough few word ls i j → ReadThrough rules word (column_heads names ls) i j
  few_reach [] i j (done _ _ e) = done i j e
  few_reach (l ∷ ls) i j (by_rule _ _ r _ m k _ con e reads d f) =
      let here = rule_means r.left r.token r.columns.items i m k (is.cut.only r.left r.token r.columns.items (its_own few r con)).0 reads (few_reach r.columns.items m k d) in
      let P : ℕ → Type 0 = λ v. ReadThrough rules word (column_head names v ∷ []) i k in
      join rules word (column_head names l) (column_heads names ls) i k j (subst P (sym e) here) (few_reach ls k j f)

  -- and the other way
  by_token : (l i j : ℕ) (t : Token) → slice_get word i ≡ Some t → Has few l (Some t) (l ∷ []) → ReadThrough few word (l ∷ []) (suc i) j → ReadThrough few word (l ∷ []) i j
  by_token l i j t f h d = by_has few word l (Some t) (l ∷ []) i (suc i) j h (f, refl) d

  set_reaches : (row : List ℕ) (l : ℕ) → Has few l None [] → ((t : Token) → Contains tokens t → IsInRow row t → Has few l (Some t) (l ∷ [])) →
      (n i j : ℕ) → j ≡ i + n → j ≤ length word → AreInRow row word i j → ReadThrough few word (l ∷ []) i j
  set_reaches row l none each zero i j e le all = by_has few word l None [] i i j none refl (done i j (omega arith))
  set_reaches row l none each (suc n) i j e le all =
      let t = token_at word i (omega arith) in
      by_token l i j t.0 t.1 (each t.0 (of_word i t.0 t.1) (all i t.0 (omega arith) (omega arith) t.1))
      (set_reaches row l none each n (suc i) j (omega arith) le (λ k u a b f. all k u (omega arith) b f))

  all_first : (l : ℕ) (ls : List ℕ) → AreColumnNumbers names (l ∷ ls) → l < length names
  all_first l ls a = a 0 0 (omega arith)

  all_rest : (l : ℕ) (ls : List ℕ) → AreColumnNumbers names (l ∷ ls) → AreColumnNumbers names ls
  all_rest l ls a = λ k d lt. a (suc k) d (omega arith)

  free_column : (row : List ℕ) (l i j : ℕ) → IsFreeOver rules row (column_head names l) → Has few l None [] → ((t : Token) → Contains tokens t → IsInRow row t → Has few l (Some t) (l ∷ [])) →
      ReadThrough rules word (column_head names l ∷ []) i j → ReadThrough few word (l ∷ []) i j
  free_column row l i j free none each d = elim (cases_lt (length word) i) [
    | inl lt ↦ by_has few word l None [] i i j none refl (done i j (sym (reaches_nothing rules word (column_head names l ∷ []) i j d (omega arith))))
    | inr le ↦
        let n = between i j (reaches_on rules word (column_head names l ∷ []) i j d) in
        set_reaches row l none each n.0 i j n.1 (reaches_within rules word (column_head names l ∷ []) i j d le) (in_row row (column_head names l) i j free d le)
  ]

  pub columns_reach : (ls cs : List ℕ) (i j : ℕ) → column_heads names ls ≡ cs → AreColumnNumbers names ls → ReadThrough rules word cs i j → ReadThrough few word ls i j
  columns_reach [] cs i j e range d = go cs e d
    where
      go : (cs : List ℕ) → [] ≡ cs → ReadThrough rules word cs i j → ReadThrough few word [] i j
      go [] q (done _ _ z) = done i j z
      go (c ∷ cs) q y = absurd cc
  columns_reach (l ∷ ls) [] i j e range d = absurd cc
  columns_reach (l ∷ ls) (c ∷ cs) i j e range (by_rule _ _ r _ m k _ con z reads d f) =
      let first : column_head names l ≡ c = cc in let rest : column_heads names ls ≡ cs = cc in
      join few word l ls i k j (here (is.has l (all_first l ls range)) (λ ns a w. columns_reach ns r.columns.items m k a w d)) (columns_reach ls cs k j rest (all_rest l ls range) f)
    where
      here : HasCut rules names few tokens l → ((ns : List ℕ) → column_heads names ns ≡ r.columns.items → AreColumnNumbers names ns → ReadThrough few word ns m k) → ReadThrough few word (l ∷ []) i k
      here (by_set row free none each) on =
          let first : column_head names l ≡ c = cc in
          let P : ℕ → Type 0 = λ v. ReadThrough rules word (v ∷ []) i k in
          free_column row l i k free none each (subst P (sym first) (by_rule c [] r i m k k con z reads d (done k k refl)))
      here (by_rules all) on =
          let first : column_head names l ≡ c = cc in
          let h = all r con (sym (first ∙ z)) in
          by_has few word l r.token h.numbers i m k h.has reads (on h.numbers h.are h.within)

  pub few_missing : TokensMayBeMissing few word
  few_missing r t p i j con e f d =
      let m = is.cut.only r.left r.token r.columns.items (its_own few r con) in
      columns_reach (r.left ∷ []) (column_head names r.left ∷ []) i j refl (one m.1) (by_cut m.0 (few_reach r.columns.items i j d))
    where
      one : r.left < length names → AreColumnNumbers names (r.left ∷ [])
      one lt zero d k = lt
      one lt (suc k) d h = absurd (omega arith)

      by_cut : IsCutRule rules names r.left r.token r.columns.items → ReadThrough rules word (column_heads names r.columns.items) i j → ReadThrough rules word (column_head names r.left ∷ []) i j
      by_cut (of_rule g c a b h) q =
          let Q : List ℕ → Type 0 = λ v. ReadThrough rules word v i j in
          let R : ℕ → Type 0 = λ v. ReadThrough rules word (v ∷ []) i j in
          subst R (sym a) (missing g t p i j c (sym b ∙ e) f (subst Q h q))
      by_cut (of_none row free a h) q = absurd cc
      by_cut (of_token row u free u_in a h) q = let Q : List ℕ → Type 0 = λ v. ReadThrough rules word (column_heads names v) i j in subst Q h q

  pub few_in_range : InRange (length names) few
  few_in_range k r lt =
      (let m = is.cut.only (get_or few k r).left (get_or few k r).token
      (get_or few k r).columns.items (its_own few (get_or few k r)
      (k, lt, get_or_default few k (get_or few k r) r lt)) in (m.1, m.2))

  -- a column that has a number reaches the end where its number does
  pub cut_reaches : (l : ℕ) → l < length names → (i j : ℕ) → ReadThrough few word (l ∷ []) i j ↔ ReadThrough rules word (column_head names l ∷ []) i j
  cut_reaches l lt i j = ((λ d. few_reach (l ∷ []) i j d), (λ d. columns_reach (l ∷ []) (column_head names l ∷ []) i j refl one d))
    where
      one : AreColumnNumbers names (l ∷ [])
      one zero d k = lt
      one (suc k) d h = absurd (omega arith)
