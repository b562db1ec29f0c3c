-- A table in which a size was lowered.
use Rattle.std.specs.Prelude.{min, sum}
use Rattle.std.specs.List.{AllByRecursion}
use Rattle.std.proofs.Common.{Bool, List, None, Option, Some, [], ap, arith, false, get_or-set_other, get_or-set_same, inl, inr, length, refl, set}
use Rattle.std.proofs.Common.{subst, suc, true, ℕ, ◌+◌, ◌<◌, ◌||◌, ◌∙◌, ◌∷◌, ◌≡◌, ◌≢◌, ◌≤◌, ◌⊎◌}
use Rattle.std.proofs.Math.ListN.{get_or-eq_default, length-set}
use Rattle.std.proofs.lemmas.Bool.{cases_lt, or_parts}
use Rattle.std.proofs.lemmas.List.{get_or_default}
use Rattle.std.proofs.lemmas.List.Sums.{sum_by-set}
use Rattle.std.proofs.lemmas.Option.{slice_get_past}
use Rattle.pv_model.specs.Plain.{PlainModel, PlainPart, PlainParts, any, children, empty, mixed, no_parts, part}
use Rattle.pv_dtd.specs.Plain.{PlainDtd, declared, model_of, parts_in_models}
use Rattle.pv_rules.specs.Derivations.{DeriveAll, Derives, by_rule, heaviest, none_left, one_more}
use Rattle.pv_rules.specs.Numbering.{first_part, part_at, rest_at}
use Rattle.pv_rules.specs.Rules.{Goal, Rule, any_none, children_part, empty_none, mixed_none, over}
use Rattle.pv_rules.specs.Sites.{PlainSite, content_site, name_site, part_site, rest_site}
use Rattle.pv_rules.proofs.RulesByKind.{by_kind}
use Rattle.pv_rules.proofs.Facts.{parts_by_number}
use Rattle.pv_rules.proofs.Members.{some_part}
use Rattle.pv_rules.proofs.Spans.{over_spans}
use Rattle.pv_productive.specs.Tables.{AreNamesSettled, ArePartsSettled, HasSize, IsAttained, IsLeastSum, IsLowered, IsLowering, IsSettled}
use Rattle.pv_productive.specs.Tables.{IsSettledAt, Table, capped, no_size, size_at, size_in, size_of, sum_in, total}
use Rattle.pv_productive.proofs.CutSums.{cut_below, cut_few, cut_least, cut_many, cut_mono}
use Rattle.pv_productive.proofs.HedgeDerivations.{by_none, by_one, none_span}
use Rattle.pv_productive.proofs.EmptyWeights.{content_rules, name_rules, part_rules, rest_rules}

module _ (g : PlainDtd) (t : Table) (a : IsAttained g t) where
  content_attained : (x : ℕ) (m : Option PlainModel) → model_of g x ≡ m → HasSize g (content_site x) (size_in t (first_part g x) m)
  content_attained x None e = (omega arith, λ f. absurd (omega arith))
  content_attained x (Some empty) e = (omega arith, λ f. (0, by_none g (content_site x) (empty_none x 0 (omega arith) e), omega arith))
  content_attained x (Some any) e = (omega arith, λ f. (0, by_none g (content_site x) (any_none x 0 (omega arith) e), omega arith))
  content_attained x (Some (mixed ys)) e = (omega arith, λ f. (0, by_none g (content_site x) (mixed_none x 0 ys (omega arith) e), omega arith))
  content_attained x (Some (children p)) e = (
    (a.parts (first_part g x)).0,
    λ f.
        let d = (a.parts (first_part g x)).1 f in
        (0 + d.0, by_one g 0 d.0 (content_site x) (part_site (first_part g x)) (children_part x 0 0 p (none_span g) e) d.1, let z = d.2 in omega arith),
  )

  pub site_attained : (s : PlainSite) → HasSize g s (size_of g t s)
  site_attained (name_site x) = a.names x
  site_attained (content_site x) = content_attained x (model_of g x) refl
  site_attained (part_site q) = a.parts q
  site_attained (rest_site q) = a.rests q

  -- right sides over no tokens
  abbrev AreNothing : List Goal → Type 0
  AreNothing xs = AllByRecursion (λ (x : Goal). (0 ≤ x.from) × (x.from ≤ x.to) × (x.to ≤ 0)) xs

  right_attained : (xs : List Goal) → AreNothing xs → total g t xs < no_size →
      (m : ℕ) × DeriveAll (Rule g []) m xs × (min heaviest (total g t xs) ≡ min heaviest m)
  right_attained [] n f = (0, none_left 0 refl, refl)
  right_attained (x ∷ xs) n f =
      let d = (site_attained x.site).1 (omega arith) in
      let r = right_attained xs n.1 (omega arith) in
      let p = n.0 in
      let i : x.from ≡ 0 = let y = p.1 in let z = p.2 in omega arith in
      let j : x.to ≡ 0 = let z = p.2 in omega arith in
      let h : Derives (Rule g []) d.0 (over x.site x.from x.to) = rw (i, j) d.1 in
      (d.0 + r.0, one_more (d.0 + r.0) d.0 r.0 x xs refl h r.1, let y = d.2 in let z = r.2 in omega arith)

  pub sum_attained : (s : PlainSite) (k : ℕ) → IsLeastSum g t s k → HasSize g s (capped k)
  sum_attained s k l = (
    cut_least k,
    λ f.
        let few = cut_below k f in
        let b = l.attained few in
        let z = b.3 in
        let r = right_attained b.1 (over_spans g [] s 0 0 b.0 b.1 b.2).1 (omega arith) in
        (b.0 + r.0, by_rule (b.0 + r.0) b.0 r.0 (over s 0 0) b.1 refl b.2 r.1, let e = cut_few k few in let y = r.2 in omega arith),
  )

  pub sum_settled : (s : PlainSite) (k : ℕ) → IsLeastSum g t s k → size_of g t s ≤ capped k → IsSettledAt g t s
  sum_settled s k l e c xs r = let m = cut_mono k (c + total g t xs) (l.below c xs r) in omega arith

same_or_not : (k i : ℕ) → (k ≡ i) ⊎ (k ≢ i)
same_or_not k i = elim (cases_lt k i) [ inl lt ↦ inr (omega arith) | inr le ↦ elim (cases_lt i k) [ inl lt ↦ inr (omega arith) | inr ge ↦ inl (omega arith) ] ]

-- what holds of each size, and of the new one at its number
lowered_each : (P : ℕ → ℕ → Type 0) (cells : List ℕ) (n k : ℕ) → n < length cells → P n k → ((m : ℕ) → P m (size_at cells m)) → (m : ℕ) → P m (size_at (set cells n k) m)
lowered_each P cells n k lt p all m = elim (same_or_not m n) [
  | inl e ↦ (let q : size_at (set cells n k) m ≡ k = rw e (get_or-set_same cells n k no_size lt) in rw q (rw e p))
  | inr ne ↦ (let q : size_at (set cells n k) m ≡ size_at cells m = rw get_or-set_other in rw q (all m))
]

lowered_sum : (cells : List ℕ) (n k : ℕ) → n < length cells → k < size_at cells n → sum (set cells n k) < sum cells
lowered_sum cells n k lt less = let e = sum_by-set (λ x. x) cells n k 0 lt in let d = get_or_default cells n no_size 0 lt in omega arith

module _ (g : PlainDtd) where
  abbrev pub At : PlainSite → Table → Type 0
  At s t = IsSettledAt g t s

  -- nothing changed
  kept : (P : Table → Type 0) (old new : Table) → IsAttained g old → new ≡ old → P old → IsLowering g P old new false
  kept P old new a e p = record { attained = rw e a; same = λ _. e; settled = λ _. p; less = λ f. absurd cc }

  changed : (P : Table → Type 0) (old new : Table) → IsAttained g new → sum_in new < sum_in old → IsLowering g P old new true
  changed P old new a l = record { attained = a; same = λ f. absurd cc; settled = λ f. absurd cc; less = λ _. l }

  pub lowered_part : (old : Table) (cells : List ℕ) (q k : ℕ) (b : Bool) → IsAttained g old → q < parts_in_models g.models → IsLeastSum g old (part_site q) k →
      IsLowered old.parts cells q (capped k) b → IsLowering g (At (part_site q)) old (record { names = old.names; parts = cells; rests = old.rests }) b
  lowered_part old cells q k true a lt l w =
      let d = w.lowered refl in let long : q < length old.parts = let z = a.all_parts in omega arith in
      changed (At (part_site q)) old (record { names = old.names; parts = cells; rests = old.rests })
      (record {
        all_names = a.all_names;
        all_parts = let z = a.all_parts in rw d.1 (simp length-set z);
        all_rests = a.all_rests;
        names = a.names;
        parts = rw d.1 (lowered_each (λ m x. HasSize g (part_site m) x) old.parts q (capped k) long (sum_attained g old a (part_site q) k l) a.parts);
        rests = a.rests;
      })
      (let s = lowered_sum old.parts q (capped k) long d.0 in rw d.1 (omega arith))
  lowered_part old cells q k false a lt l w =
      let d = w.kept refl in
      kept (At (part_site q)) old (record { names = old.names; parts = cells; rests = old.rests }) a
      (ap (λ x. let t : Table = record { names = old.names; parts = x; rests = old.rests } in t)
      d.1) (sum_settled g old a (part_site q) k l d.0)

  pub lowered_rest : (old : Table) (cells : List ℕ) (q k : ℕ) (b : Bool) → IsAttained g old → q < parts_in_models g.models → IsLeastSum g old (rest_site q) k →
      IsLowered old.rests cells q (capped k) b → IsLowering g (At (rest_site q)) old (record { names = old.names; parts = old.parts; rests = cells }) b
  lowered_rest old cells q k true a lt l w =
      let d = w.lowered refl in let long : q < length old.rests = let z = a.all_rests in omega arith in
      changed (At (rest_site q)) old (record { names = old.names; parts = old.parts; rests = cells })
      (record {
        all_names = a.all_names;
        all_parts = a.all_parts;
        all_rests = let z = a.all_rests in rw d.1 (simp length-set z);
        names = a.names;
        parts = a.parts;
        rests = rw d.1 (lowered_each (λ m x. HasSize g (rest_site m) x) old.rests q (capped k) long (sum_attained g old a (rest_site q) k l) a.rests);
      })
      (let s = lowered_sum old.rests q (capped k) long d.0 in rw d.1 (omega arith))
  lowered_rest old cells q k false a lt l w =
      let d = w.kept refl in
      kept (At (rest_site q)) old (record { names = old.names; parts = old.parts; rests = cells }) a
      (ap (λ x. let t : Table = record { names = old.names; parts = old.parts; rests = x } in t)
      d.1) (sum_settled g old a (rest_site q) k l d.0)

  pub lowered_name : (old : Table) (cells : List ℕ) (q k : ℕ) (b : Bool) → IsAttained g old → q < length g.names → IsLeastSum g old (name_site q) k →
      IsLowered old.names cells q (capped k) b → IsLowering g (At (name_site q)) old (record { names = cells; parts = old.parts; rests = old.rests }) b
  lowered_name old cells q k true a lt l w =
      let d = w.lowered refl in let long : q < length old.names = let z = a.all_names in omega arith in
      changed (At (name_site q)) old (record { names = cells; parts = old.parts; rests = old.rests })
      (record {
        all_names = let z = a.all_names in rw d.1 (simp length-set z);
        all_parts = a.all_parts;
        all_rests = a.all_rests;
        names = rw d.1 (lowered_each (λ m x. HasSize g (name_site m) x) old.names q (capped k) long (sum_attained g old a (name_site q) k l) a.names);
        parts = a.parts;
        rests = a.rests;
      })
      (let s = lowered_sum old.names q (capped k) long d.0 in rw d.1 (omega arith))
  lowered_name old cells q k false a lt l w =
      let d = w.kept refl in
      kept (At (name_site q)) old (record { names = cells; parts = old.parts; rests = old.rests }) a
      (ap (λ x. let t : Table = record { names = x; parts = old.parts; rests = old.rests } in t)
      d.1) (sum_settled g old a (name_site q) k l d.0)

  -- sizes don't grow
  not_more : (P : Table → Type 0) (old new : Table) (b : Bool) → IsLowering g P old new b → sum_in new ≤ sum_in old
  not_more P old new true r = let l = r.less refl in omega arith
  not_more P old new false r = let e = r.same refl in rw e (omega arith)

  less_both : (P Q : Table → Type 0) (a b c : Table) (x y : Bool) → IsLowering g P a b x → IsLowering g Q b c y → (x || y) ≡ true → sum_in c < sum_in a
  less_both P Q a b c true y r s e = let l = r.less refl in let m = not_more Q b c y s in omega arith
  less_both P Q a b c false y r s e = let l = s.less e in let m = not_more P a b false r in omega arith

  -- one after the other
  pub lowered_both : (P Q : Table → Type 0) (a b c : Table) (x y : Bool) → IsLowering g P a b x → IsLowering g Q b c y → IsLowering g (λ t. P t × Q t) a c (x || y)
  lowered_both P Q a b c x y r s = record {
    attained = s.attained;
    same = λ e. let p = or_parts x y e in s.same p.1 ∙ r.same p.0;
    settled = λ e. let p = or_parts x y e in (r.settled p.0, subst Q (r.same p.0) (s.settled p.1));
    less = λ e. less_both P Q a b c x y r s e;
  }

  pub lowered_map : (P Q : Table → Type 0) (a b : Table) (x : Bool) → ((t : Table) → P t → Q t) → IsLowering g P a b x → IsLowering g Q a b x
  lowered_map P Q a b x f r = record { attained = r.attained; same = r.same; settled = λ e. f a (r.settled e); less = r.less }

  parts_more : (first end m : ℕ) (t : Table) → m ≡ suc first → ArePartsSettled g m end t × (At (part_site first) t × At (rest_site first) t) → ArePartsSettled g first end t
  parts_more first end m t e (p, h) q l r = elim (same_or_not q first) [ inl i ↦ rw i h | inr ne ↦ p q (omega arith) r ]

  -- one part more, before those that were raised
  pub part_more : (first end m : ℕ) (a b c d : Table) (x y z : Bool) → m ≡ suc first → IsLowering g (ArePartsSettled g m end) a b x → IsLowering g (At (part_site first)) b c y →
      IsLowering g (At (rest_site first)) c d z → IsLowering g (ArePartsSettled g first end) a d (x || (y || z))
  part_more first end m a b c d x y z e r s t =
      lowered_map (λ u. ArePartsSettled g m end u × (At (part_site first) u × At (rest_site first) u)) (ArePartsSettled g first end) a d (x || (y || z))
      (λ u h. parts_more first end m u e h)
      (lowered_both (ArePartsSettled g m end) (λ u. At (part_site first) u × At (rest_site first) u) a b d x (y || z) r
      (lowered_both (At (part_site first)) (At (rest_site first)) b c d y z s t))

  names_more : (first end m : ℕ) (t : Table) → m ≡ suc first → AreNamesSettled g m end t × At (name_site first) t → AreNamesSettled g first end t
  names_more first end m t e (p, h) q l r = elim (same_or_not q first) [ inl i ↦ rw i h | inr ne ↦ p q (omega arith) r ]

  pub name_more : (first end m : ℕ) (a b c : Table) (x y : Bool) → m ≡ suc first → IsLowering g (AreNamesSettled g m end) a b x → IsLowering g (At (name_site first)) b c y →
      IsLowering g (AreNamesSettled g first end) a c (x || y)
  name_more first end m a b c x y e r s =
      lowered_map (λ u. AreNamesSettled g m end u × At (name_site first) u) (AreNamesSettled g first end) a c (x || y) (λ u h. names_more first end m u e h)
      (lowered_both (AreNamesSettled g m end) (At (name_site first)) a b c x y r s)

  -- a site that the DTD doesn't have
  past_name : (t : Table) (x : ℕ) → declared g ≤ length g.names → length t.names ≡ length g.names → length g.names ≤ x → IsSettledAt g t (name_site x)
  past_name t x d a ge c xs r =
      let k = name_rules g x c xs (by_kind g [] (name_site x) 0 0 c xs r) in
      let n = slice_get_past g.models x (omega arith) in
      let e : size_at t.names x ≡ no_size = get_or-eq_default t.names no_size (omega arith) in
      let z : size_of g t (content_site x) ≡ no_size = ap (λ m. size_in t (first_part g x) m) n in
      let y = k.0 in
      let f = cut_many (1 + (size_of g t (content_site x) + 0)) (omega arith) in
      rw k.1 (let w : c ≡ 1 = y in rw w (omega arith))

  no_part : (q : ℕ) (o : Option PlainPart) → part_at g q ≡ o → parts_in_models g.models ≤ q → part_at g q ≡ None
  no_part q None e ge = e
  no_part q (Some p) e ge = absurd (let w = (parts_by_number g).within q p e in let l = some_part p in omega arith)

  past_part : (t : Table) (q : ℕ) → parts_in_models g.models ≤ q → IsSettledAt g t (part_site q)
  past_part t q ge c xs r = absurd (part_rules g q None (no_part q (part_at g q) refl ge) c xs r)

  past_rest_case : (t : Table) (q : ℕ) (o : Option PlainParts) → rest_at g q ≡ o → parts_in_models g.models ≤ q → IsSettledAt g t (rest_site q)
  past_rest_case t q None e ge c xs r = absurd (rest_rules g q None e c xs r)
  past_rest_case t q (Some no_parts) e ge c xs r = absurd (rest_rules g q (Some no_parts) e c xs r)
  past_rest_case t q (Some (part p ps)) e ge c xs r =
      absurd (let m = (parts_by_number g).member q p ps e in let n = no_part q (part_at g q) refl ge in cc)

  settled_size : (k : ℕ) (s : PlainSite) → HasSize g s k → k ≤ capped (0 + (k + 0))
  settled_size k s h = elim (cases_lt k no_size) [
    | inl lt ↦ (let d = h.1 lt in let z = d.2 in let e = cut_few (0 + (k + 0)) (omega arith) in omega arith)
    | inr ge ↦ (let l = h.0 in let e = cut_many (0 + (k + 0)) (omega arith) in omega arith)
  ]

  settled_content : (t : Table) (x : ℕ) (m : Option PlainModel) → IsAttained g t → model_of g x ≡ m → (c : ℕ) (xs : List Goal) →
      Rule g [] (over (content_site x) 0 0) c xs → size_in t (first_part g x) m ≤ capped (c + total g t xs)
  settled_content t x None a e c xs r = absurd (content_rules g x None e c xs r)
  settled_content t x (Some empty) a e c xs r = omega arith
  settled_content t x (Some any) a e c xs r = omega arith
  settled_content t x (Some (mixed ys)) a e c xs r = omega arith
  settled_content t x (Some (children p)) a e c xs r =
      let k = content_rules g x (Some (children p)) e c xs r in
      rw (k.1, k.2) (settled_size (size_at t.parts (first_part g x)) (part_site (first_part g x)) (a.parts (first_part g x)))

  all_settled : (t : Table) → declared g ≤ length g.names → IsAttained g t → ArePartsSettled g 0 (parts_in_models g.models) t × AreNamesSettled g 0 (length g.names) t →
      IsSettled g t
  all_settled t d a (p, n) (name_site x) = elim (cases_lt x (length g.names)) [
    | inl lt ↦ n x (omega arith) lt
    | inr ge ↦ past_name t x d a.all_names ge
  ]
  all_settled t d a (p, n) (content_site x) = settled_content t x (model_of g x) a refl
  all_settled t d a (p, n) (part_site q) = elim (cases_lt q (parts_in_models g.models)) [
    | inl lt ↦ (p q (omega arith) lt).0
    | inr ge ↦ past_part t q ge
  ]
  all_settled t d a (p, n) (rest_site q) = elim (cases_lt q (parts_in_models g.models)) [
    | inl lt ↦ (p q (omega arith) lt).1
    | inr ge ↦ past_rest_case t q (rest_at g q) refl ge
  ]

  pub all_lowered : (a b c : Table) (x y : Bool) → declared g ≤ length g.names → IsAttained g a → IsLowering g (ArePartsSettled g 0 (parts_in_models g.models)) a b x →
      IsLowering g (AreNamesSettled g 0 (length g.names)) b c y → IsLowering g (IsSettled g) a c (x || y)
  all_lowered a b c x y d h r s =
      let z = lowered_both (ArePartsSettled g 0 (parts_in_models g.models)) (AreNamesSettled g 0 (length g.names)) a b c x y r s in
      record { attained = z.attained; same = z.same; settled = λ e. all_settled a d h (z.settled e); less = z.less }
