-- What a table of columns tells of sites: one past the furthest place to which each has a derivation.
use Rattle.std.specs.Prelude.{IsSome, max}
use Rattle.std.proofs.Common.{All, Bool, List, None, Option, Some, [], ap, arith, cond, false, get_or, inl, inr, length, map, refl, slice_get, subst}
use Rattle.std.proofs.Common.{suc, sym, true, zero, ℕ, ◌+◌, ◌<◌, ◌∷◌, ◌≡◌, ◌≤◌, ◌⊎◌}
use Rattle.std.proofs.lemmas.Bool.{cases_lt, eq-eqb, eqb-true}
use Rattle.std.proofs.lemmas.List.{length-map}
use Rattle.std.proofs.lemmas.Option.{slice_get_within}
use Rattle.pv_model.specs.Plain.{PlainPart, PlainParts, PlainToken, no_parts, part}
use Rattle.pv_model.specs.PlainForms.{plain_token}
use Rattle.pv_model.specs.declared.models.Token.{Token}
use Rattle.pv_model.specs.declared.models.Token.TheVariants.{Name, Other, Text}
use Rattle.pv_dtd.specs.Plain.{PlainDtd, declared}
use Rattle.pv_rules.specs.Derivations.{by_rule as by_rule_of, none_left}
use Rattle.pv_rules.specs.SiteDerivations.{DerivesAt}
use Rattle.pv_rules.specs.Numbering.{part_at, rest_at}
use Rattle.pv_rules.specs.Rules.{kept, missing, over}
use Rattle.pv_rules.specs.Sites.{HasSite, PlainSite, content_site, name_site, part_site, rest_site}
use Rattle.pv_rules.proofs.RulesByKind.{by_kind}
use Rattle.pv_rules.proofs.DerivationsMade.{spanned, to_one}
use Rattle.pv_columns.specs.ColumnRules.{ReadThrough, TokensMayBeMissing, by_rule, done}
use Rattle.pv_columns.specs.declared.rules.ColumnRule.{ColumnRule}
use Rattle.pv_columns.proofs.Spans.{join}
use Rattle.pv_reach.specs.Columns.{AreRules, IsRule, member_columns, of_any, of_content, of_part, part_column, token_of, width_of}
use Rattle.pv_reach.specs.FurthestEnds.{AreReaches, IsGreatestEnd, past_of, place_told}
use Rattle.pv_reach.specs.Merging.{Replaces, column_head, column_heads}
use Rattle.pv_reach.specs.ReachedPlaces.{AreRests, is_of_name, kept_past, past_column, past_members}
use Rattle.pv_reach.specs.ReachedPlaces.{past_rest}
use Rattle.pv_reach.specs.Tables.{IsFurthest, onward, past}
use Rattle.pv_reach.specs.declared.tables.ends.Ends.{Ends}
use Rattle.pv_reach.specs.declared.reaches.Reaches.{Reaches}
use Rattle.pv_reach.proofs.ClosedCells.{past_beyond, past_reaches}
use Rattle.pv_reach.proofs.ColumnsDerive.{content_derives, get_plain, part_derives, rest_derives}
use Rattle.pv_reach.proofs.FormedDtds.{IsFormedDtd}
use Rattle.pv_reach.proofs.ColumnsInRange.{in_part, members_within}
use Rattle.pv_reach.proofs.SitesReach.{sites_reach}

-- v is one past the greatest number of which P holds, or 0 where there is none
pub record IsPast (P : ℕ → Type 0) (v : ℕ) : Type 0 where
  pub attained : (j : ℕ) → v ≡ suc j → P j
  pub beyond : (j : ℕ) → P j → j < v

past_as : (P Q : ℕ → Type 0) (v : ℕ) → ((j : ℕ) → P j → Q j) → ((j : ℕ) → Q j → P j) → IsPast P v → IsPast Q v
past_as P Q v f b p = record { attained = λ j e. f j (p.attained j e); beyond = λ j q. p.beyond j (b j q) }

furthest_end : (g : PlainDtd) (w : List PlainToken) (s : PlainSite) (i v : ℕ) → IsPast (λ j. DerivesAt g w s i j) v → IsGreatestEnd g w s i (place_told v)
furthest_end g w s i zero p = λ j d. absurd (let x = p.beyond j d in omega arith)
furthest_end g w s i (suc v) p = (p.attained v refl, λ k d. let x = p.beyond k d in omega arith)

-- no members derive nothing
none_derive : (g : PlainDtd) (w : List PlainToken) (q i j : ℕ) → rest_at g q ≡ Some no_parts → DerivesAt g w (rest_site q) i j → ⊥
none_derive g w q i j h (n, by_rule_of _ c m _ xs e rule ds) = let k = by_kind g w (rest_site q) i j c xs rule in rw h at k

is_name_of : (o : Option Token) (x : ℕ) → is_of_name o x ≡ true → o ≡ Some (token_of x)
is_name_of None x e = absurd cc
is_name_of (Some (Name id)) x e = let i : id.0 ≡ x = eqb-true id.0 x e in ap (λ v. Some (token_of v)) i
is_name_of (Some Text) x e = absurd cc
is_name_of (Some Other) x e = absurd cc

name_is : (x : ℕ) → is_of_name (Some (token_of x)) x ≡ true
name_is x = eq-eqb x x refl

module _ (g : PlainDtd) (rules merged : List ColumnRule) (e : Ends) (are : AreRules g rules) (formed : IsFormedDtd g) (rep : Replaces rules merged (width_of g) e.width e.heads.items)
    (may : TokensMayBeMissing merged e.word.items) (full : IsFurthest merged e.word.items e.width e.table.items) (named : e.names ≡ length g.names) where
  abbrev word : List Token
  word = e.word.items

  abbrev w : List PlainToken
  w = map plain_token e.word.items

  abbrev heads : List ℕ → List ℕ
  heads cs = column_heads e.heads.items cs

  abbrev Within : List ℕ → Type 0
  Within cs = All (λ c. c < width_of g) cs

  first_within : (c : ℕ) (cs : List ℕ) → Within (c ∷ cs) → c < width_of g
  first_within c cs all = all 0 0 (omega arith)

  rest_within : (c : ℕ) (cs : List ℕ) → Within (c ∷ cs) → Within cs
  rest_within c cs all = λ k d lt. all (suc k) d (omega arith)

  one_within : (c : ℕ) → c < width_of g → Within (c ∷ [])
  one_within c lt zero d k = lt
  one_within c lt (suc i) d k = absurd (omega arith)

  heads_within : (cs : List ℕ) → Within cs → All (λ c. c < e.width) (heads cs)
  heads_within [] all k d lt = absurd (omega arith)
  heads_within (c ∷ cs) all zero d lt = rep.columns c (first_within c cs all)
  heads_within (c ∷ cs) all (suc k) d lt = heads_within cs (rest_within c cs all) k d (omega arith)

  from_heads : (cs : List ℕ) (i j : ℕ) → Within cs → ReadThrough merged word (heads cs) i j → ReadThrough rules word cs i j
  from_heads [] i j all (done _ _ z) = done i j z
  from_heads (c ∷ cs) i j all (by_rule _ _ r _ n k _ con z reads d f) =
      let one : ReadThrough merged word (column_head e.heads.items c ∷ []) i k = by_rule (column_head e.heads.items c) [] r i n k k con z reads d (done k k refl) in
      join rules word c cs i k j ((rep.same word c i k (first_within c cs all)).0 one) (from_heads cs k j (rest_within c cs all) f)

  to_heads : (cs : List ℕ) (i j : ℕ) → Within cs → ReadThrough rules word cs i j → ReadThrough merged word (heads cs) i j
  to_heads [] i j all (done _ _ z) = done i j z
  to_heads (c ∷ cs) i j all (by_rule _ _ r _ n k _ con z reads d f) =
      let one : ReadThrough rules word (c ∷ []) i k = by_rule c [] r i n k k con z reads d (done k k refl) in
      join merged word (column_head e.heads.items c) (heads cs) i k j ((rep.same word c i k (first_within c cs all)).1 one) (to_heads cs k j (rest_within c cs all) f)

  -- columns one after another
  many_past : (cs : List ℕ) (i : ℕ) → Within cs → i ≤ length word → IsPast (λ j. ReadThrough rules word cs i j) (past e.width e.table.items (heads cs) i)
  many_past cs i all le = record {
    attained = λ j z. from_heads cs i j all (past_reaches merged word e.width e.table.items full.sized full.attained (heads cs) (heads_within cs all) i j le z);
    beyond = λ j d. past_beyond merged word e.width e.table.items full.sized may 0 full.complete (heads cs) (heads_within cs all) i j (omega arith) le (to_heads cs i j all d);
  }

  told : (v : ℕ) → onward v (past e.width e.table.items []) ≡ v
  told zero = refl
  told (suc k) = refl

  -- one column
  one_past : (c i : ℕ) → c < width_of g → i ≤ length word → IsPast (λ j. ReadThrough rules word (c ∷ []) i j) (past_column e c i)
  one_past c i lt le =
      let P : ℕ → Type 0 = λ v. IsPast (λ j. ReadThrough rules word (c ∷ []) i j) v in
      subst P (told (past_column e c i)) (many_past (c ∷ []) i (one_within c lt) le)

  no_rule : (x l : ℕ) (o : Option Token) (cs : List ℕ) → declared g ≤ x → x < length g.names → l ≡ x → IsRule g l o cs → ⊥
  no_rule x l o cs ge lt z (of_content y m h q rule) = let a = slice_get_within g.models y m h in omega arith
  no_rule x l o cs ge lt z (of_part q p h a rule) = omega arith
  no_rule x l o cs ge lt z (of_any y h a rule) = omega arith

  undeclared_reads : (x i j : ℕ) → declared g ≤ x → x < length g.names → ReadThrough rules word (x ∷ []) i j → ⊥
  undeclared_reads x i j ge lt (by_rule _ _ r _ n k _ con z reads d f) = no_rule x r.left r.token r.columns.items ge lt (sym z) (are.sound r con)

  read_content : (x i j : ℕ) → x < length g.names → i ≤ length word → ReadThrough rules word (x ∷ []) i j → DerivesAt g w (content_site x) i j
  read_content x i j lt le d = elim (cases_lt x (declared g)) [
    | inl is ↦ content_derives g rules word are formed x i j is le d
    | inr ge ↦ absurd (undeclared_reads x i j ge lt d)
  ]

  content_past : (x i : ℕ) → x < length g.names → i ≤ length word → IsPast (λ j. DerivesAt g w (content_site x) i j) (past_column e x i)
  content_past x i lt le =
      past_as (λ j. ReadThrough rules word (x ∷ []) i j) (λ j. DerivesAt g w (content_site x) i j) (past_column e x i) (λ j d. read_content x i j lt le d)
      (λ j d. (sites_reach g rules word are d.0 (content_site x) i j d.1).1) (one_past x i (omega arith) le)

  part_past : (q i : ℕ) (p : PlainPart) → part_at g q ≡ Some p → i ≤ length word → IsPast (λ j. DerivesAt g w (part_site q) i j) (past_column e (e.names + q) i)
  part_past q i p h le =
      let here = past_as (λ j. ReadThrough rules word (part_column g q ∷ []) i j) (λ j. DerivesAt g w (part_site q) i j) (past_column e (part_column g q) i)
      (λ j d. part_derives g rules word are formed q i j p h le d) (λ j d. sites_reach g rules word are d.0 (part_site q) i j d.1) (one_past (part_column g q) i (in_part g formed q p h) le) in
      let P : ℕ → Type 0 = λ v. IsPast (λ j. DerivesAt g w (part_site q) i j) (past_column e (v + q) i) in
      subst P (sym named) here

  members_past : (q i : ℕ) (p : PlainPart) (ps : PlainParts) → rest_at g q ≡ Some (part p ps) → i ≤ length word → IsPast (λ j. DerivesAt g w (rest_site q) i j) (past_members g e q (part p ps) i)
  members_past q i p ps h le =
      past_as (λ j. ReadThrough rules word (member_columns g q (part p ps)) i j) (λ j. DerivesAt g w (rest_site q) i j) (past_members g e q (part p ps) i)
      (λ j d. rest_derives g rules word are formed q i j p ps h le d)
      (λ j d. let b = sites_reach g rules word are d.0 (rest_site q) i j d.1 in let z : b.0 ≡ part p ps = let y = b.1 in cc in
      let P : PlainParts → Type 0 = λ v. ReadThrough rules word (member_columns g q v) i j in subst P z b.2)
      (many_past (member_columns g q (part p ps)) i (members_within g formed q p ps h) le)

  kept_derives : (x i : ℕ) → slice_get word i ≡ Some (token_of x) → DerivesAt g w (name_site x) i (suc i)
  kept_derives x i t = (0, by_rule_of 0 0 0 (over (name_site x) i (suc i)) [] refl (kept x i (get_plain word i (token_of x) t)) (none_left 0 refl))

  missing_derives : (x i j : ℕ) → DerivesAt g w (content_site x) i j → DerivesAt g w (name_site x) i j
  missing_derives x i j d = to_one g w 1 (name_site x) (content_site x) i j i j (missing x i j (spanned g w (content_site x) i j d)) d

  -- an element that is there, or one that is missing round its content
  name_case : (x i : ℕ) (b : Bool) → x < length g.names → i ≤ length word →
      is_of_name (slice_get word i) x ≡ b → IsPast (λ j. DerivesAt g w (name_site x) i j)
      (max (cond b (suc (suc i)) 0) (past_column e x i))
  name_case x i true lt le is = record {
    attained = λ j z. elim (cases_lt (suc (suc i)) (past_column e x i)) [
      | inl less ↦ missing_derives x i j ((content_past x i lt le).attained j (omega arith))
      | inr more ↦ (let P : ℕ → Type 0 = λ v. DerivesAt g w (name_site x) i v in let y : suc i ≡ j = omega arith in subst P y (kept_derives x i (is_name_of (slice_get word i) x is)))
    ];
    beyond = λ j d. beyond_case j (sites_reach g rules word are d.0 (name_site x) i j d.1) d;
  }
    where
      beyond_case : (j : ℕ) → ((slice_get word i ≡ Some (token_of x)) × (j ≡ suc i)) ⊎ ((x < declared g) × ReadThrough rules word (x ∷ []) i j) → DerivesAt g w (name_site x) i j →
          j < max (suc (suc i)) (past_column e x i)
      beyond_case j (inl k) d = omega arith
      beyond_case j (inr c) d = let y = (one_past x i (omega arith) le).beyond j c.1 in omega arith
  name_case x i false lt le is = record {
    attained = λ j z. missing_derives x i j ((content_past x i lt le).attained j (omega arith));
    beyond = λ j d. beyond_case j (sites_reach g rules word are d.0 (name_site x) i j d.1);
  }
    where
      not_kept : slice_get word i ≡ Some (token_of x) → ⊥
      not_kept t = let y = ap (λ v. is_of_name v x) t in let z = name_is x in cc

      beyond_case : (j : ℕ) → ((slice_get word i ≡ Some (token_of x)) × (j ≡ suc i)) ⊎ ((x < declared g) × ReadThrough rules word (x ∷ []) i j) → j < max 0 (past_column e x i)
      beyond_case j (inl k) = absurd (not_kept k.0)
      beyond_case j (inr c) = let y = (one_past x i (omega arith) le).beyond j c.1 in omega arith

  module _ (r : Reaches) (is : r.ends ≡ e) (rests : AreRests g e r.rests.items 0) where
    rest_case : (q i : ℕ) (ps : PlainParts) → rest_at g q ≡ Some ps → i ≤ length word → IsPast (λ j. DerivesAt g w (rest_site q) i j) (past_rest e r.rests.items q i)
    rest_case q i no_parts h le =
        let P : ℕ → Type 0 = λ v. IsPast (λ j. DerivesAt g w (rest_site q) i j) v in
        subst P (sym (rests.holds q i no_parts (omega arith) h le)) (record { attained = λ j z. absurd cc; beyond = λ j d. absurd (none_derive g w q i j h d) })
    rest_case q i (part p ps) h le =
        let P : ℕ → Type 0 = λ v. IsPast (λ j. DerivesAt g w (rest_site q) i j) v in
        subst P (sym (rests.holds q i (part p ps) (omega arith) h le)) (members_past q i p ps h le)

    abbrev past_by : PlainSite → ℕ → ℕ
    past_by (name_site x) i = max (kept_past (slice_get e.word.items i) x i) (past_column e x i)
    past_by (content_site x) i = past_column e x i
    past_by (part_site q) i = past_column e (e.names + q) i
    past_by (rest_site q) i = past_rest e r.rests.items q i

    some_part : (q i : ℕ) (o : Option PlainPart) → part_at g q ≡ o → IsSome o → i ≤ length word → IsPast (λ j. DerivesAt g w (part_site q) i j) (past_column e (e.names + q) i)
    some_part q i None h s le = absurd cc
    some_part q i (Some p) h s le = part_past q i p h le

    some_rest : (q i : ℕ) (o : Option PlainParts) → rest_at g q ≡ o → IsSome o → i ≤ length word → IsPast (λ j. DerivesAt g w (rest_site q) i j) (past_rest e r.rests.items q i)
    some_rest q i None h s le = absurd cc
    some_rest q i (Some ps) h s le = rest_case q i ps h le

    site_past : (s : PlainSite) (i : ℕ) → HasSite g s → i ≤ length word → IsPast (λ j. DerivesAt g w s i j) (past_by s i)
    site_past (name_site x) i has le = name_case x i (is_of_name (slice_get word i) x) has le refl
    site_past (content_site x) i has le = content_past x i has le
    site_past (part_site q) i has le = some_part q i (part_at g q) refl has le
    site_past (rest_site q) i has le = some_rest q i (rest_at g q) refl has le

    same_past : (s : PlainSite) (i : ℕ) → past_by s i ≡ past_of r s i
    same_past (name_site x) i = rw is refl
    same_past (content_site x) i = rw is refl
    same_past (part_site q) i = rw is refl
    same_past (rest_site q) i = rw is refl

    pub reaches_told : AreReaches g w r
    reaches_told = record {
      ends = λ s i has le.
          let n : i ≤ length word = let z = length_map in omega arith in
          let P : ℕ → Type 0 = λ v. IsPast (λ j. DerivesAt g w s i j) v in
          furthest_end g w s i (past_of r s i) (subst P (same_past s i) (site_past s i has n));
    }
      where
        length_map : length w ≡ length word
        length_map = length-map word plain_token

past_end : (xs : List ℕ) (c : ℕ) → length xs ≤ c → get_or xs c 0 ≡ 0
past_end [] c le = refl
past_end (x ∷ xs) zero le = absurd (omega arith)
past_end (x ∷ xs) (suc c) le = past_end xs c (omega arith)

-- whatever is asked, a column of the table stands for it
pub all_headed : (g : PlainDtd) (heads : List ℕ) (width : ℕ) → length heads ≡ width_of g → ((c : ℕ) → c < width_of g → column_head heads c < width) → (c : ℕ) → column_head heads c < width
all_headed g heads width long columns c = elim (cases_lt c (length heads)) [
  | inl lt ↦ columns c (omega arith)
  | inr ge ↦ (let z = past_end heads c ge in let a = columns 0 (omega arith) in omega arith)
]

-- what is told by a plan, over a word
pub reaches_of_plan : (g : PlainDtd) (rules merged : List ColumnRule) (r : Reaches)
    (tokens : List Token) → AreRules g rules → IsFormedDtd g → r.ends.word.items ≡ tokens →
    Replaces rules merged (width_of g) r.ends.width r.ends.heads.items →
    TokensMayBeMissing merged tokens → IsFurthest merged tokens r.ends.width r.ends.table.items →
    r.ends.names ≡ length g.names → AreRests g r.ends r.rests.items 0 →
    AreReaches g (map plain_token tokens) r
reaches_of_plan g rules merged r tokens are formed e rep may full named rests =
    let P : List Token → Type 0 = λ v. AreReaches g (map plain_token v) r in
    let Q : List Token → Type 0 = λ v. TokensMayBeMissing merged v in
    let F : List Token → Type 0 = λ v. IsFurthest merged v r.ends.width r.ends.table.items in
    subst P e (reaches_told g rules merged r.ends are formed rep (subst Q (sym e) may) (subst F (sym e) full) named r refl rests)
