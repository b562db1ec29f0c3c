-- Rules over columns that stand for others reach what those reach, and further columns add nothing.
use Rattle.std.proofs.Common.{All, Bool, Contains, List, None, Option, Some, [], ap, arith, false, get_or, inl, inr, length, refl, slice_get, subst}
use Rattle.std.proofs.Common.{suc, sym, take, true, zero, ℕ, ◌+◌, ◌<◌, ◌^◌, ◌∙◌, ◌∷◌, ◌≡◌, ◌≤◌, ◌⊎◌}
use Rattle.std.proofs.Common.{Err, Ok, Result}
use Rattle.std.specs.Prelude.{IfOk, OnOk}
use Rattle.std.proofs.lemmas.List.{get_or_default}
use Rattle.pv_model.specs.declared.models.Token.{Token}
use Rattle.pv_reach.specs.AddedRules.{AddsRule, RulesGrow}
use Rattle.pv_columns.specs.ColumnRules.{InRange, ReadThrough, ReadsToken, TokensMayBeMissing, by_rule, done}
use Rattle.pv_reach.specs.Columns.{Has}
use Rattle.pv_columns.specs.Marks.{AreNullable}
use Rattle.pv_reach.specs.LeadingColumns.{AreAlike, LeadsOnTo, ReadsWhatever}
use Rattle.pv_reach.specs.Merging.{AddsMerged, AreMerged, HasMerged, IsFurtherRule, IsMergedRule, IsMerging, MayStandBehind, Replaces, behind, column_head, column_heads, none, one}
use Rattle.pv_reach.specs.declared.columns.merging.Merging.{Merging}
use Rattle.pv_columns.specs.declared.rules.ColumnRule.{ColumnRule}
use Rattle.pv_reach.proofs.ClosedCells.{columns_in_range}
use Rattle.pv_reach.proofs.LinkedColumns.{all_bare, follows}
use Rattle.pv_reach.proofs.NameRules.{either_name}
use Rattle.pv_reach.proofs.PushedRules.{grow_none, grow_twice, has_as}
use Rattle.pv_columns.proofs.Spans.{join}

-- a rule that is told by its parts
pub by_has : (rules : List ColumnRule) (word : List Token) (l : ℕ) (o : Option Token) (cs : List ℕ)
    (i m j : ℕ) → Has rules l o cs → ReadsToken word o i m → ReadThrough rules word cs m j →
    ReadThrough rules word (l ∷ []) i j
by_has rules word l o cs i m j h reads d =
    by_rule l [] h.rule i m j j h.is_in (sym h.is_left) (rw h.is_token reads) (let P : List ℕ → Type 0 = λ x. ReadThrough rules word x m j in subst P (sym h.are_columns) d) (done j j refl)

pub its_own : (rules : List ColumnRule) (r : ColumnRule) → Contains rules r → Has rules r.left r.token r.columns.items
its_own rules r con = record { rule = r; is_in = con; is_left = refl; is_token = refl; are_columns = refl }

has_in_range : (width : ℕ) (rules : List ColumnRule) (l : ℕ) (o : Option Token) (cs : List ℕ) → InRange width rules → Has rules l o cs → (l < width) × All (λ c. c < width) cs
has_in_range width rules l o cs range h =
    let q = columns_in_range width rules h.rule range h.is_in in
    let P : ℕ → Type 0 = λ v. v < width in let Q : List ℕ → Type 0 = λ v. All (λ c. c < width) v in
    (subst P h.is_left q.0, subst Q h.are_columns q.1)

module _ (rules new : List ColumnRule) (m : Merging) (is : IsMerging rules m) (merged : AreMerged rules m new)
    (has : (r : ColumnRule) → Contains rules r → Has new (column_head m.heads.items r.left) r.token (column_heads m.heads.items r.columns.items)) where
  abbrev width : ℕ
  width = length m.heads.items

  abbrev led : List ℕ
  led = m.led.items

  abbrev head : ℕ → ℕ
  head c = column_head m.heads.items c

  abbrev heads : List ℕ → List ℕ
  heads cs = column_heads m.heads.items cs

  heads_range : (cs : List ℕ) → All (λ c. c < width) cs → All (λ c. c < width) (heads cs)
  heads_range [] all k d lt = absurd (omega arith)
  heads_range (c ∷ cs) all zero d lt = (is.alike.alike c (all 0 0 (omega arith))).0
  heads_range (c ∷ cs) all (suc k) d lt = heads_range cs (λ i e less. all (suc i) e (omega arith)) k d (omega arith)

  module _ (word : List Token) where
    -- what stands from i up to j may follow the k-th column that has a further one
    abbrev Follows : ℕ → ℕ → ℕ → Type 0
    Follows k i j = (h : ℕ) → ReadThrough rules word (get_or led k 0 ∷ []) h i → ReadThrough rules word (get_or led k 0 ∷ []) h j

    abbrev IsAsOld : ℕ → ℕ → ℕ → Type 0
    IsAsOld c i j = ((k : ℕ) × (k < length led) × (c ≡ width + k) × Follows k i j) ⊎ ((c < width) × ReadThrough rules word (c ∷ []) i j)

    abbrev AreAsOld : List ℕ → ℕ → ℕ → Type 0
    AreAsOld [] i j = i ≡ j
    AreAsOld (c ∷ cs) i j = (k : ℕ) × IsAsOld c i k × AreAsOld cs k j

    as_old : (c i j : ℕ) → c < width → IsAsOld c i j → ReadThrough rules word (c ∷ []) i j
    as_old c i j lt (inl (k, less, e, f)) = absurd (omega arith)
    as_old c i j lt (inr x) = x.1

    follower : (k i j : ℕ) → IsAsOld (width + k) i j → Follows k i j
    follower k i j (inl (n, less, e, f)) = let z : n ≡ k = omega arith in let P : ℕ → Type 0 = λ v. Follows v i j in subst P z f
    follower k i j (inr x) = absurd (let e = x.0 in omega arith)

    all_old : (cs : List ℕ) (i j : ℕ) → All (λ c. c < width) cs → AreAsOld cs i j → ReadThrough rules word cs i j
    all_old [] i j all e = done i j e
    all_old (c ∷ cs) i j all x =
        join rules word c cs i x.0 j (as_old c i x.0 (all 0 0 (omega arith)) x.1) (all_old cs x.0 j (λ k d lt. all (suc k) d (omega arith)) x.2)

    -- what the columns that stand for others reach, those reach
    from_heads : (cs : List ℕ) (i j : ℕ) → All (λ c. c < width) cs → ReadThrough rules word (heads cs) i j → ReadThrough rules word cs i j
    from_heads [] i j all d = d
    from_heads (c ∷ cs) i j all (by_rule _ _ r _ n k _ con e reads d f) =
        let first : ReadThrough rules word (head c ∷ []) i k = by_rule (head c) [] r i n k k con e reads d (done k k refl) in
        join rules word c cs i k j ((is.alike.alike c (all 0 0 (omega arith))).1 word i k first) (from_heads cs k j (λ x y lt. all (suc x) y (omega arith)) f)

    as_list : (o : Option Token) (cs ds : List ℕ) (i n j : ℕ) → o ≡ None → cs ≡ ds → ReadsToken word o i n → AreAsOld cs n j → AreAsOld ds i j
    as_list o cs ds i n j e f r all =
        let R : Option Token → Type 0 = λ v. ReadsToken word v i n in let s : n ≡ i = subst R e r in
        let P : List ℕ → Type 0 = λ v. AreAsOld v n j in let Q : ℕ → Type 0 = λ v. AreAsOld ds v j in subst Q s (subst P f all)

    ends : (a h i j : ℕ) → i ≡ j → ReadThrough rules word (a ∷ []) h i → ReadThrough rules word (a ∷ []) h j
    ends a h i j e d = let P : ℕ → Type 0 = λ v. ReadThrough rules word (a ∷ []) h v in subst P e d

    further_means : (l : ℕ) (o : Option Token) (cs : List ℕ) (i n j : ℕ) → IsFurtherRule rules width led l o cs → ReadsToken word o i n → AreAsOld cs n j → IsAsOld l i j
    further_means l o cs i n j (none k lt e t u) reads all = inl (k, lt, e, (λ h d. ends (get_or led k 0) h i j (as_list o cs [] i n j t u reads all) d))
    further_means l o cs i n j (one k q lt less may e t u) reads all = go (as_list o cs (q ∷ (width + k) ∷ []) i n j t u reads all)
      where
        go : AreAsOld (q ∷ (width + k) ∷ []) i j → IsAsOld l i j
        go (x, v, (y, w, s)) = inl (k, lt, e, (λ h d. ends (get_or led k 0) h y j s (follower k x y w h (may word h i x d (as_old q i x less v)))))
    further_means l o cs i n j (behind k lt e t u) reads all = go (as_list o cs (get_or led k 0 ∷ (width + k) ∷ []) i n j t u reads all)
      where
        go : AreAsOld (get_or led k 0 ∷ (width + k) ∷ []) i j → IsAsOld l i j
        go (x, v, (y, w, s)) =
            let less : get_or led k 0 < width = is.led k 0 lt in
            let d : ReadThrough rules word (get_or led k 0 ∷ []) i j = ends (get_or led k 0) i y j s (follower k x y w i (as_old (get_or led k 0) i x less v)) in
            let P : ℕ → Type 0 = λ c. (c < width) × ReadThrough rules word (c ∷ []) i j in
            inr (subst P (sym e) (less, d))

    rule_means : (l : ℕ) (o : Option Token) (cs : List ℕ) (i n j : ℕ) →
        IsMergedRule rules m.heads.items l o cs ⊎ IsFurtherRule rules width led l o cs →
        ReadsToken word o i n → AreAsOld cs n j → IsAsOld l i j
    rule_means l o cs i n j (inl h) reads all =
        let in_range = has_in_range width rules h.left o h.columns is.range h.has in
        let P : List ℕ → Type 0 = λ v. AreAsOld v n j in
        let d = from_heads h.columns n j in_range.1 (all_old (heads h.columns) n j (heads_range h.columns in_range.1) (subst P h.are_columns all)) in
        let alike = is.alike.alike h.left in_range.0 in
        let Q : ℕ → Type 0 = λ c. (c < width) × ReadThrough rules word (c ∷ []) i j in
        inr (subst Q (sym h.is_left) (alike.0, alike.2 word i j (by_has rules word h.left o h.columns i n j h.has reads d)))
    rule_means l o cs i n j (inr h) reads all = further_means l o cs i n j h reads all

    all_mean : (cs : List ℕ) (i j : ℕ) → ReadThrough new word cs i j → AreAsOld cs i j
    all_mean [] i j (done _ _ e) = e
    all_mean (c ∷ cs) i j (by_rule _ _ r _ n k _ con e reads d g) =
        let here = rule_means r.left r.token r.columns.items i n k (merged.only r.left r.token r.columns.items (its_own new r con)) reads (all_mean r.columns.items n k d) in
        (k, (let P : ℕ → Type 0 = λ v. IsAsOld v i k in subst P (sym e) here), all_mean cs k j g)

    nothing_new : (c i j : ℕ) → c < width → ReadThrough new word (head c ∷ []) i j → ReadThrough rules word (c ∷ []) i j
    nothing_new c i j lt d = go (all_mean (head c ∷ []) i j d)
      where
        go : AreAsOld (head c ∷ []) i j → ReadThrough rules word (c ∷ []) i j
        go (k, x, e) =
            let alike = is.alike.alike c lt in
            let P : ℕ → Type 0 = λ v. ReadThrough rules word (c ∷ []) i v in subst P e (alike.1 word i k (as_old (head c) i k alike.0 x))

    keep : (cs : List ℕ) (i j : ℕ) → ReadThrough rules word cs i j → ReadThrough new word (heads cs) i j
    keep [] i j (done _ _ e) = done i j e
    keep (c ∷ cs) i j (by_rule _ _ r _ n k _ con e reads d g) =
        let here = by_has new word (head r.left) r.token (heads r.columns.items) i n k (has r con) reads (keep r.columns.items n k d) in
        join new word (head c) (heads cs) i k j (let P : ℕ → Type 0 = λ v. ReadThrough new word (head v ∷ []) i k in subst P (sym e) here) (keep cs k j g)

    further_unread : (l : ℕ) (o : Option Token) (cs : List ℕ) (t : Token) → o ≡ Some t → IsFurtherRule rules width led l o cs → ⊥
    further_unread l o cs t e (none k lt x u y) = cc
    further_unread l o cs t e (one k q lt less may x u y) = cc
    further_unread l o cs t e (behind k lt x u y) = cc

    missing_case : (l : ℕ) (o : Option Token) (cs : List ℕ) (t : Token) (p i j : ℕ) → TokensMayBeMissing rules word → o ≡ Some t → slice_get word p ≡ Some t → ReadThrough new word cs i j →
        IsMergedRule rules m.heads.items l o cs ⊎ IsFurtherRule rules width led l o cs → ReadThrough new word (l ∷ []) i j
    missing_case l o cs t p i j missing e w d (inr h) = absurd (further_unread l o cs t e h)
    missing_case l o cs t p i j missing e w d (inl h) =
        let in_range = has_in_range width rules h.left o h.columns is.range h.has in
        let A : List ℕ → Type 0 = λ v. AreAsOld v i j in
        let c = from_heads h.columns i j in_range.1 (all_old (heads h.columns) i j (heads_range h.columns in_range.1) (subst A h.are_columns (all_mean cs i j d))) in
        let P : List ℕ → Type 0 = λ v. ReadThrough rules word v i j in let Q : ℕ → Type 0 = λ v. ReadThrough rules word (v ∷ []) i j in
        let left = missing h.has.rule t p i j h.has.is_in (rw h.has.is_token e) w (subst P (sym h.has.are_columns) c) in
        let R : ℕ → Type 0 = λ v. ReadThrough new word (v ∷ []) i j in
        subst R (sym h.is_left) (keep (h.left ∷ []) i j (subst Q h.has.is_left left))

  abbrev wider : ℕ
  wider = width + length led

  two : (c d : ℕ) → c < wider → d < wider → All (λ x. x < wider) (c ∷ d ∷ [])
  two c d p q zero e lt = p
  two c d p q (suc zero) e lt = q
  two c d p q (suc (suc k)) e lt = absurd (omega arith)

  wider_all : (cs : List ℕ) → All (λ c. c < width) cs → All (λ c. c < wider) cs
  wider_all cs all k d lt = let h = all k d lt in omega arith

  within_case : (l : ℕ) (o : Option Token) (cs : List ℕ) → IsMergedRule rules m.heads.items l o cs ⊎ IsFurtherRule rules width led l o cs → (l < wider) × All (λ c. c < wider) cs
  within_case l o cs (inl h) =
      let q = has_in_range width rules h.left o h.columns is.range h.has in
      let P : ℕ → Type 0 = λ v. v < wider in let Q : List ℕ → Type 0 = λ v. All (λ c. c < wider) v in
      let lt = (is.alike.alike h.left q.0).0 in
      (subst P (sym h.is_left) (omega arith), subst Q (sym h.are_columns) (wider_all (heads h.columns) (heads_range h.columns q.1)))
  within_case l o cs (inr (none k lt e t u)) = (omega arith, rw u (λ i d less. absurd (omega arith)))
  within_case l o cs (inr (one k q lt less may e t u)) = (omega arith, rw u (two q (width + k) (omega arith) (omega arith)))
  within_case l o cs (inr (behind k lt e t u)) = let less : get_or led k 0 < width = is.led k 0 lt in (omega arith, rw u (two (get_or led k 0) (width + k) (omega arith) (omega arith)))

  pub replaces : Replaces rules new width wider m.heads.items
  replaces = record {
    in_range = λ i d lt.
        let r = get_or new i d in let con : Contains new r = (i, lt, get_or_default new i r d lt) in
        within_case r.left r.token r.columns.items (merged.only r.left r.token r.columns.items (its_own new r con));
    columns = λ c lt. let a = (is.alike.alike c lt).0 in omega arith;
    same = λ word c i j lt. ((λ d. nothing_new word c i j lt d), (λ d. keep word (c ∷ []) i j d));
    missing = λ word missing r t p i j con e w d.
        missing_case word r.left r.token r.columns.items t p i j missing e w d (merged.only r.left r.token r.columns.items (its_own new r con));
  }

module _ (rules : List ColumnRule) (m : Merging) where
  pub adds_none : (old : List ColumnRule) → AddsMerged rules m old old
  adds_none old = record { grow = grow_none old; merged = λ a. a }

  pub adds_twice : (old mid new : List ColumnRule) → AddsMerged rules m old mid → AddsMerged rules m mid new → AddsMerged rules m old new
  adds_twice old mid new x y = record { grow = grow_twice old mid new x.grow y.grow; merged = λ a. y.merged (x.merged a) }

  pub adds_one : (old new : List ColumnRule) (l : ℕ) (o : Option Token) (cs : List ℕ) →
      IsMergedRule rules m.heads.items l o cs ⊎ IsFurtherRule rules (length m.heads.items)
      m.led.items l o cs → AddsRule old new l o cs →
      AddsMerged rules m old new
  adds_one old new l o cs rule adds = record {
    grow = adds.grow;
    merged = λ a. record { only = λ k u ds h. elim (adds.only k u ds h) [ inl x ↦ a.only k u ds x | inr e ↦ rw (e.0, e.1, e.2) rule ] };
  }

-- a rule of the list, by its number
pub numbered : (rules : List ColumnRule) (i : ℕ) (r s : ColumnRule) → i < length rules → r ≡ get_or rules i r → s ≡ get_or rules i s → r ≡ s
numbered rules i r s lt e f = e ∙ get_or_default rules i r s lt ∙ sym f

module _ (rules : List ColumnRule) (m : Merging) (i : ℕ) (lt : i < length rules) (r : ColumnRule) (at : r ≡ get_or rules i r) where
  is_in : Contains rules r
  is_in = (i, lt, sym at)

  pub merged_rule : (l : ℕ) (cs : List ℕ) → l ≡ column_head m.heads.items r.left → cs ≡ column_heads m.heads.items r.columns.items → IsMergedRule rules m.heads.items l r.token cs
  merged_rule l cs e f = record { left = r.left; columns = r.columns.items; has = its_own rules r is_in; is_left = e; are_columns = f }

  pub has_merged : (new : List ColumnRule) (l : ℕ) (cs : List ℕ) →
      l ≡ column_head m.heads.items r.left → cs ≡ column_heads m.heads.items r.columns.items →
      Has new l r.token cs → HasMerged rules m new i
  has_merged new l cs e f h s also =
      let z = numbered rules i s r lt also at in
      let P : ColumnRule → Type 0 = λ v. Has new (column_head m.heads.items v.left) v.token (column_heads m.heads.items v.columns.items) in
      subst P (sym z) (has_as new (column_head m.heads.items r.left) l r.token r.token (column_heads m.heads.items r.columns.items) cs (sym e) refl (sym f) h)

  -- what stands after its own place may follow
  pub behind_own : IsMerging rules m → (place further : ℕ) → r.token ≡ None →
      ((k : ℕ) → k < length r.columns.items → get_or m.bare.items (get_or r.columns.items k 0) false
      ≡ true) → place < length r.columns.items →
      column_head m.heads.items (get_or r.columns.items place 0) ≡ column_head m.heads.items
      r.left → (n : ℕ) → n < length m.led.items → further ≡ length m.heads.items + n →
      get_or m.led.items n 0 ≡ column_head m.heads.items r.left →
      MayStandBehind rules m i (place + 1) further
  behind_own is place further unread bare within own n less f led s also k from short =
      let z = numbered rules i r s lt at also in
      let P : ColumnRule → Type 0 = λ v. (k < length v.columns.items) →
      IsFurtherRule rules (length m.heads.items) m.led.items further None
      (column_head m.heads.items (get_or v.columns.items k 0) ∷ further ∷ []) in
      subst P z go short
    where
      heads : List ℕ
      heads = m.heads.items

      go : k < length r.columns.items → IsFurtherRule rules (length heads) m.led.items further None (column_head heads (get_or r.columns.items k 0) ∷ further ∷ [])
      go short =
          let range = columns_in_range (length heads) rules r is.range is_in in
          let left = is.alike.alike r.left range.0 in
          let mine = is.alike.alike (get_or r.columns.items place 0) (range.1 place 0 within) in
          let other = is.alike.alike (get_or r.columns.items k 0) (range.1 k 0 short) in
          let A : ℕ → Type 0 = λ v. ReadsWhatever rules (get_or r.columns.items place 0) v in
          let may = follows rules r is_in unread (all_bare rules m.bare.items r.columns.items is.bare bare) (column_head heads r.left) place k left.2 (subst A own mine.1) (omega arith) short in
          let M : ℕ → Type 0 = λ v. LeadsOnTo rules v (column_head heads (get_or r.columns.items k 0)) in
          let C : ℕ → Type 0 = λ v. column_head heads (get_or r.columns.items k 0) ∷ further ∷ [] ≡ column_head heads (get_or r.columns.items k 0) ∷ v ∷ [] in
          one n (column_head heads (get_or r.columns.items k 0)) less other.0 (subst M (sym led) (λ word h x j d q. may word h x j d (other.1 word x j q))) f refl (subst C f refl)

pub rule_more : (rules : List ColumnRule) (m : Merging) (order : List ℕ) (n : ℕ) (old new : List ColumnRule) → n < length order → RulesGrow old new → HasMerged rules m new (get_or order n 0) →
    ((i : ℕ) → Contains (take n order) i → i < length rules → HasMerged rules m old i) → (i : ℕ) → Contains (take (n + 1) order) i → i < length rules → HasMerged rules m new i
rule_more rules m order n old new lt grow here before i con less r at = elim (either_name order n lt i con) [
  | inl c ↦ grow.keeps (column_head m.heads.items r.left) r.token (column_heads m.heads.items r.columns.items) (before i c less r at)
  | inr z ↦ (let P : ℕ → Type 0 = λ v. r ≡ get_or rules v r in here r (subst P z at))
]

pub rule_passed : (rules : List ColumnRule) (m : Merging) (order : List ℕ) (n : ℕ) (new : List ColumnRule) → n < length order → length rules ≤ get_or order n 0 →
    ((i : ℕ) → Contains (take n order) i → i < length rules → HasMerged rules m new i) → (i : ℕ) → Contains (take (n + 1) order) i → i < length rules → HasMerged rules m new i
rule_passed rules m order n new lt ge before i con less = elim (either_name order n lt i con) [
  | inl c ↦ before i c less
  | inr z ↦ absurd (omega arith)
]

-- where the order has all numbers of rules, all rules are there
pub has_all : (rules : List ColumnRule) (m : Merging) (order : List ℕ) (new : List ColumnRule) → ((i : ℕ) → i < length rules → Contains order i) →
    ((i : ℕ) → Contains order i → i < length rules → HasMerged rules m new i) → (r : ColumnRule) →
    Contains rules r → Has new (column_head m.heads.items r.left) r.token
    (column_heads m.heads.items r.columns.items)
has_all rules m order new all has r con = has con.0 (all con.0 con.1) con.1 r (sym con.2)

pub ok_then : {E : Type 0} (r : Result (Unit {0}) E) (P Q : Type 0) → (P → Q) → IfOk r (λ _. P) → OnOk r Q
ok_then (Ok u) P Q f p = f p
ok_then (Err e) P Q f p = tt

pub two_as : (a b c d : ℕ) → a ≡ b → c ≡ d → a ∷ c ∷ [] ≡ b ∷ d ∷ []
two_as a b c d e f = cc

pub is_merging : (rules : List ColumnRule) (m : Merging) (bare : List Bool) (heads : List ℕ)
    (n : ℕ) → (m.bare.items ≡ bare) × (m.heads.items ≡ heads) → length heads ≡ n → n < 2 ^ 25 →
    length m.led.items ≤ length heads →
    All (λ a. a < length heads) m.led.items → AreNullable rules bare → AreAlike rules heads → InRange n rules → IsMerging rules m
is_merging rules m bare heads n same long narrow few below are_bare alike range =
    let B : List Bool → Type 0 = λ v. AreNullable rules v in
    let A : List ℕ → Type 0 = λ v. AreAlike rules v in
    let R : ℕ → Type 0 = λ v. InRange v rules in
    let L : List ℕ → Type 0 = λ v. All (λ a. a < length v) m.led.items in
    let z : length m.heads.items ≡ n = ap length same.1 ∙ long in
    record { bare = subst B (sym same.0) are_bare; alike = subst A (sym same.1) alike; range = subst R (sym z) range; led = subst L (sym same.1) below; narrow = omega (arith, z, long, narrow, few) }
