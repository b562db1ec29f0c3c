-- What a column reaches, its site derives.
use Rattle.std.proofs.Common.{List, None, Option, Some, [], arith, get_or, inl, inr, length, map, refl, slice_get, subst, suc, sym, zero, ℕ, ◌+◌, ◌<◌, ◌∙◌, ◌∷◌, ◌≡◌, ◌≤◌}
use Rattle.std.proofs.lemmas.List.{length-map}
use Rattle.std.proofs.lemmas.Option.{slice_get-get_or, slice_get_within}
use Rattle.pv_model.specs.Plain.{PlainModel, PlainPart, PlainParts, PlainToken, any, children, choice, empty, mixed, name, no_parts, opt, part, plus, seq, star}
use Rattle.pv_model.specs.PlainForms.{plain_token}
use Rattle.pv_model.specs.declared.models.Token.{Token}
use Rattle.pv_model.specs.declared.models.Token.TheVariants.{Text}
use Rattle.pv_dtd.specs.Plain.{IsDeclared, PlainDtd, declared, model_of, parts_in, parts_in_models}
use Rattle.pv_rules.specs.Derivations.{by_rule, none_left}
use Rattle.pv_rules.specs.Numbering.{first_part, part_at, rest_at}
use Rattle.pv_rules.specs.Rules.{any_none, any_text, children_part, empty_none, kept, missing, mixed_none, mixed_text, opt_none, opt_one, over}
use Rattle.pv_rules.specs.Rules.{part_choice, part_name, part_seq, plus_one, rest_last, rest_then, star_none}
use Rattle.pv_rules.specs.Sites.{PlainSite, content_site, name_site, part_site, rest_site}
use Rattle.pv_rules.proofs.Facts.{parts_by_number}
use Rattle.pv_rules.proofs.FormedParts.{parts_formed}
use Rattle.pv_rules.proofs.Members.{some_part}
use Rattle.pv_rules.proofs.DerivationsMade.{any_more, mixed_more, plus_again, spanned, star_again, to_none, to_one, to_two}
use Rattle.pv_reach.proofs.FormedDtds.{IsFormedDtd}
use Rattle.pv_columns.specs.declared.rules.ColumnRule.{ColumnRule}
use Rattle.pv_columns.specs.ColumnRules.{ReadThrough, ReadsToken}
use Rattle.pv_rules.specs.SiteDerivations.{DerivesAt}
use Rattle.pv_columns.specs.ColumnRules as Columns
use Rattle.pv_reach.specs.Columns.{AreRules, IsAnyRule, IsContentRule, IsPartRule, IsRule, any_column, member_columns, of_any, of_content, of_part, part_column, token_of}
use Rattle.pv_columns.proofs.Spans.{reads_within, reaches_within}

pub get_plain : (word : List Token) (i : ℕ) (t : Token) → slice_get word i ≡ Some t → slice_get (map plain_token word) i ≡ Some (plain_token t)
get_plain [] i t e = absurd cc
get_plain (u ∷ us) zero t e = let i : u ≡ t = cc in rw i refl
get_plain (u ∷ us) (suc i) t e = get_plain us i t e

module _ (g : PlainDtd) (rules : List ColumnRule) (word : List Token) (are : AreRules g rules) (formed : IsFormedDtd g) where
  abbrev w : List PlainToken
  w = map plain_token word

  -- whatever has this column derives the span
  record ColumnDerives (c i j : ℕ) : Type 0 where
    pub content : (x : ℕ) → IsDeclared g x → c ≡ x → DerivesAt g w (content_site x) i j
    pub part : (q : ℕ) (p : PlainPart) → part_at g q ≡ Some p → c ≡ part_column g q → DerivesAt g w (part_site q) i j
    pub any : (x : ℕ) → model_of g x ≡ Some any → c ≡ any_column g → DerivesAt g w (content_site x) i j

  abbrev AllDerive : List ℕ → ℕ → ℕ → Type 0
  AllDerive [] i j = i ≡ j
  AllDerive (c ∷ cs) i j = (k : ℕ) × ColumnDerives c i k × AllDerive cs k j

  many : declared g ≤ length g.names
  many = formed.is_proper.named

  declared_model : (x : ℕ) (m : PlainModel) → model_of g x ≡ Some m → IsDeclared g x
  declared_model x m e = slice_get_within g.models x m e

  part_number : (q : ℕ) (p : PlainPart) → part_at g q ≡ Some p → q < parts_in_models g.models
  part_number q p e = let a = (parts_by_number g).within q p e in let b = some_part p in omega arith

  means_content : (x c i j : ℕ) → IsDeclared g x → c ≡ x → DerivesAt g w (content_site x) i j → ColumnDerives c i j
  means_content x c i j l e d = record {
    content = λ y k f. let z : x ≡ y = omega arith in let P : ℕ → Type 0 = λ v. DerivesAt g w (content_site v) i j in subst P z d;
    part = λ q p h f. absurd (let r = many in omega arith);
    any = λ y m f. absurd (let r = many in omega arith);
  }

  means_part : (q c i j : ℕ) (p : PlainPart) → part_at g q ≡ Some p → c ≡ part_column g q → DerivesAt g w (part_site q) i j → ColumnDerives c i j
  means_part q c i j p h e d =
      let l = part_number q p h in record {
        content = λ y k f. absurd (let r = many in omega arith);
        part = λ r o k f. let z : q ≡ r = omega arith in let P : ℕ → Type 0 = λ v. DerivesAt g w (part_site v) i j in subst P z d;
        any = λ y m f. absurd (let r = many in omega arith);
      }

  means_any : (c i j : ℕ) → c ≡ any_column g → ((x : ℕ) → model_of g x ≡ Some any → DerivesAt g w (content_site x) i j) → ColumnDerives c i j
  means_any c i j e d = record {
    content = λ y k f. absurd (let r = many in omega arith);
    part = λ r o k f. absurd (let l = part_number r o k in let z = many in omega arith);
    any = λ y m f. d y m;
  }

  -- the only column of a list
  only_part : (q i j : ℕ) (p : PlainPart) → part_at g q ≡ Some p → AllDerive (part_column g q ∷ []) i j → DerivesAt g w (part_site q) i j
  only_part q i j p h (k, m, e) = let P : ℕ → Type 0 = λ v. DerivesAt g w (part_site q) i v in subst P e (m.part q p h refl)

  only_content : (x i j : ℕ) → IsDeclared g x → AllDerive (x ∷ []) i j → DerivesAt g w (content_site x) i j
  only_content x i j l (k, m, e) = let P : ℕ → Type 0 = λ v. DerivesAt g w (content_site x) i v in subst P e (m.content x l refl)

  only_any : (x i j : ℕ) → model_of g x ≡ Some any → AllDerive (any_column g ∷ []) i j → DerivesAt g w (content_site x) i j
  only_any x i j h (k, m, e) = let P : ℕ → Type 0 = λ v. DerivesAt g w (content_site x) i v in subst P e (m.any x h refl)

  members_derive : (q i j : ℕ) (p : PlainPart) (ps : PlainParts) → rest_at g q ≡ Some (part p ps) → AllDerive (member_columns g q (part p ps)) i j → DerivesAt g w (rest_site q) i j
  members_derive q i j p no_parts e a =
      let d = only_part q i j p ((parts_by_number g).member q p no_parts e) a in
      to_one g w 0 (rest_site q) (part_site q) i j i j (rest_last q i j p (spanned g w (part_site q) i j d) e) d
  members_derive q i j p (part r rs) e (k, m, a) =
      let d = m.part q p ((parts_by_number g).member q p (part r rs) e) refl in
      let f = members_derive (q + parts_in p) k j r rs ((parts_by_number g).next q p r rs e) a in
      let u = spanned g w (part_site q) i k d in let v = spanned g w (rest_site (q + parts_in p)) k j f in
      to_two g w (rest_site q) (part_site q) (rest_site (q + parts_in p)) i k j (rest_then q i k j p r rs (omega arith) (omega arith) (omega arith) e) d f

  as_read : (o u : Option Token) (cs ds : List ℕ) (i m j : ℕ) → o ≡ u → cs ≡ ds → ReadsToken word o i m → AllDerive cs m j → ReadsToken word u i m × AllDerive ds m j
  as_read o u cs ds i m j e f r a =
      let P : Option Token → Type 0 = λ v. ReadsToken word v i m in let Q : List ℕ → Type 0 = λ v. AllDerive v m j in (subst P e r, subst Q f a)

  -- nothing is read
  unread : (o : Option Token) (cs ds : List ℕ) (i m j : ℕ) → o ≡ None → cs ≡ ds → ReadsToken word o i m → AllDerive cs m j → AllDerive ds i j
  unread o cs ds i m j e f r a =
      let b = as_read o None cs ds i m j e f r a in let Q : ℕ → Type 0 = λ v. AllDerive ds v j in subst Q b.0 b.1

  same : (s : PlainSite) (i j : ℕ) → DerivesAt g w s i i → i ≡ j → DerivesAt g w s i j
  same s i j d e = let P : ℕ → Type 0 = λ v. DerivesAt g w s i v in subst P e d

  content_means : (x i m j : ℕ) (n : PlainModel) (o : Option Token) (cs : List ℕ) → model_of g x ≡ Some n → i ≤ length w → IsContentRule g x n o cs → ReadsToken word o i m → AllDerive cs m j →
      DerivesAt g w (content_site x) i j
  content_means x i m j empty o cs h l (e, f) r a = same (content_site x) i j (to_none g w (content_site x) i (empty_none x i l h)) (unread o cs [] i m j e f r a)
  content_means x i m j any o cs h l (e, f) r a = only_any x i j h (unread o cs (any_column g ∷ []) i m j e f r a)
  content_means x i m j (mixed ys) o cs h l (inl (e, f)) r a = same (content_site x) i j (to_none g w (content_site x) i (mixed_none x i ys l h)) (unread o cs [] i m j e f r a)
  content_means x i m j (mixed ys) o cs h l (inr (inl (e, f))) r a =
      let b = as_read o (Some Text) cs (x ∷ []) i m j e f r a in
      let P : ℕ → Type 0 = λ v. DerivesAt g w (content_site x) v j in
      let d = subst P b.0.1 (only_content x m j (declared_model x (mixed ys) h) b.1) in let u = spanned g w (content_site x) (suc i) j d in
      to_one g w 0 (content_site x) (content_site x) i j (suc i) j (mixed_text x i j ys (omega arith) (omega arith) h (get_plain word i Text b.0.0)) d
  content_means x i m j (mixed ys) o cs h l (inr (inr (e, lt, f, z))) r a = go (unread o cs (part_column g (first_part g x + e) ∷ x ∷ []) i m j f z r a)
    where
      go : AllDerive (part_column g (first_part g x + e) ∷ x ∷ []) i j → DerivesAt g w (content_site x) i j
      go (k, u, v) =
          let y = get_or ys e 0 in let z = (parts_by_number g).listed x e y ys h (slice_get-get_or ys e 0 lt) in
          mixed_more g w x e i k j ys h lt (u.part (first_part g x + e) (name y) z refl) (only_content x k j (declared_model x (mixed ys) h) v)
  content_means x i m j (children p) o cs h l (e, f) r a =
      let d = only_part (first_part g x) i j p ((parts_by_number g).outermost x p h) (unread o cs (part_column g (first_part g x) ∷ []) i m j e f r a) in
      to_one g w 0 (content_site x) (part_site (first_part g x)) i j i j (children_part x i j p (spanned g w (part_site (first_part g x)) i j d) h) d

  part_means : (q i m j : ℕ) (p : PlainPart) (o : Option Token) (cs : List ℕ) → part_at g q ≡ Some p → i ≤ length w → IsPartRule g q p o cs → ReadsToken word o i m → AllDerive cs m j →
      DerivesAt g w (part_site q) i j
  part_means q i m j (name y) o cs h l (inl (e, f)) r a =
      let b = as_read o (Some (token_of y)) cs [] i m j e f r a in let z : suc i ≡ j = sym b.0.1 ∙ b.1 in
      let t = get_plain word i (token_of y) b.0.0 in
      let d : DerivesAt g w (name_site y) i (suc i) = (0, by_rule 0 0 0 (over (name_site y) i (suc i)) [] refl (kept y i t) (none_left 0 refl)) in
      let P : ℕ → Type 0 = λ v. DerivesAt g w (part_site q) i v in
      subst P z (to_one g w 0 (part_site q) (name_site y) i (suc i) i (suc i) (part_name q y i (suc i) (spanned g w (name_site y) i (suc i) d) h) d)
  part_means q i m j (name y) o cs h l (inr (c, e, f)) r a =
      let d = only_content y i j c (unread o cs (y ∷ []) i m j e f r a) in let u = spanned g w (content_site y) i j d in
      to_one g w 0 (part_site q) (name_site y) i j i j (part_name q y i j u h) (to_one g w 1 (name_site y) (content_site y) i j i j (missing y i j u) d)
  part_means q i m j (seq no_parts) o cs h l (e, f) r a = absurd (let z = parts_formed g formed.formed q (seq no_parts) h in cc)
  part_means q i m j (seq (part p ps)) o cs h l (e, f) r a =
      let d = members_derive (suc q) i j p ps ((parts_by_number g).in_seq q p ps h) (unread o cs (member_columns g (suc q) (part p ps)) i m j e f r a) in
      to_one g w 0 (part_site q) (rest_site (suc q)) i j i j (part_seq q i j p ps (spanned g w (rest_site (suc q)) i j d) h) d
  part_means q i m j (choice ps) o cs h l (p, s, t, e, f) r a =
      let d = only_part s i j p ((parts_by_number g).in_choice q s p ps h t) (unread o cs (part_column g s ∷ []) i m j e f r a) in
      to_one g w 0 (part_site q) (part_site s) i j i j (part_choice q s i j p ps (spanned g w (part_site s) i j d) h t) d
  part_means q i m j (opt p) o cs h l (e, inl f) r a = same (part_site q) i j (to_none g w (part_site q) i (opt_none q i p l h)) (unread o cs [] i m j e f r a)
  part_means q i m j (opt p) o cs h l (e, inr f) r a =
      let d = only_part (suc q) i j p ((parts_by_number g).in_opt q p h) (unread o cs (part_column g (suc q) ∷ []) i m j e f r a) in
      to_one g w 0 (part_site q) (part_site (suc q)) i j i j (opt_one q i j p (spanned g w (part_site (suc q)) i j d) h) d
  part_means q i m j (star p) o cs h l (e, inl f) r a = same (part_site q) i j (to_none g w (part_site q) i (star_none q i p l h)) (unread o cs [] i m j e f r a)
  part_means q i m j (star p) o cs h l (e, inr f) r a = go (unread o cs (part_column g (suc q) ∷ part_column g q ∷ []) i m j e f r a)
    where
      go : AllDerive (part_column g (suc q) ∷ part_column g q ∷ []) i j → DerivesAt g w (part_site q) i j
      go (k, u, v) = star_again g w q i k j p h (u.part (suc q) p ((parts_by_number g).in_star q p h) refl) (only_part q k j (star p) h v)
  part_means q i m j (plus p) o cs h l (e, inl f) r a =
      let d = only_part (suc q) i j p ((parts_by_number g).in_plus q p h) (unread o cs (part_column g (suc q) ∷ []) i m j e f r a) in
      to_one g w 0 (part_site q) (part_site (suc q)) i j i j (plus_one q i j p (spanned g w (part_site (suc q)) i j d) h) d
  part_means q i m j (plus p) o cs h l (e, inr f) r a = go (unread o cs (part_column g (suc q) ∷ part_column g q ∷ []) i m j e f r a)
    where
      go : AllDerive (part_column g (suc q) ∷ part_column g q ∷ []) i j → DerivesAt g w (part_site q) i j
      go (k, u, v) = plus_again g w q i k j p h (u.part (suc q) p ((parts_by_number g).in_plus q p h) refl) (only_part q k j (plus p) h v)

  any_means : (x i m j : ℕ) (o : Option Token) (cs : List ℕ) → model_of g x ≡ Some any → i ≤ length w → IsAnyRule g o cs → ReadsToken word o i m → AllDerive cs m j → DerivesAt g w (content_site x) i j
  any_means x i m j o cs h l (inl (e, f)) r a = same (content_site x) i j (to_none g w (content_site x) i (any_none x i l h)) (unread o cs [] i m j e f r a)
  any_means x i m j o cs h l (inr (inl (e, f))) r a =
      let b = as_read o (Some Text) cs (any_column g ∷ []) i m j e f r a in
      let P : ℕ → Type 0 = λ v. DerivesAt g w (content_site x) v j in
      let d = subst P b.0.1 (only_any x m j h b.1) in let u = spanned g w (content_site x) (suc i) j d in
      to_one g w 0 (content_site x) (content_site x) i j (suc i) j (any_text x i j (omega arith) (omega arith) h (get_plain word i Text b.0.0)) d
  any_means x i m j o cs h l (inr (inr (y, c, inl (e, f)))) r a =
      let b = as_read o (Some (token_of y)) cs (any_column g ∷ []) i m j e f r a in
      let t = get_plain word i (token_of y) b.0.0 in
      let d : DerivesAt g w (name_site y) i (suc i) = (0, by_rule 0 0 0 (over (name_site y) i (suc i)) [] refl (kept y i t) (none_left 0 refl)) in
      let P : ℕ → Type 0 = λ v. DerivesAt g w (content_site x) v j in
      any_more g w x y i (suc i) j h c d (subst P b.0.1 (only_any x m j h b.1))
  any_means x i m j o cs h l (inr (inr (y, c, inr (e, f)))) r a = go (unread o cs (y ∷ any_column g ∷ []) i m j e f r a)
    where
      go : AllDerive (y ∷ any_column g ∷ []) i j → DerivesAt g w (content_site x) i j
      go (k, u, v) =
          let d = u.content y c refl in
          any_more g w x y i k j h c (to_one g w 1 (name_site y) (content_site y) i k i k (missing y i k (spanned g w (content_site y) i k d)) d) (only_any x k j h v)

  rule_means : (l : ℕ) (o : Option Token) (cs : List ℕ) (i m j : ℕ) → IsRule g l o cs → i ≤ length w → ReadsToken word o i m → AllDerive cs m j → ColumnDerives l i j
  rule_means l o cs i m j (of_content x n h e rule) le r a = means_content x l i j (declared_model x n h) e (content_means x i m j n o cs h le rule r a)
  rule_means l o cs i m j (of_part q p h e rule) le r a = means_part q l i j p h e (part_means q i m j p o cs h le rule r a)
  rule_means l o cs i m j (of_any _ _ e rule) le r a = means_any l i j e (λ x h. any_means x i m j o cs h le rule r a)

  all_mean : (cs : List ℕ) (i j : ℕ) → ReadThrough rules word cs i j → i ≤ length word → AllDerive cs i j
  all_mean [] i j (Columns.done _ _ e) le = e
  all_mean (c ∷ cs) i j (Columns.by_rule _ _ r _ m k _ con e reads d f) le =
      let inner = all_mean r.columns.items m k d (reads_within word r.token i m reads le) in
      let one = rule_means r.left r.token r.columns.items i m k (are.sound r con) (rw length-map le) reads inner in
      let on = reaches_within rules word r.columns.items m k d (reads_within word r.token i m reads le) in
      (k, (let P : ℕ → Type 0 = λ v. ColumnDerives v i k in subst P (sym e) one), all_mean cs k j f on)

  pub content_derives : (x i j : ℕ) → IsDeclared g x → i ≤ length word → ReadThrough rules word (x ∷ []) i j → DerivesAt g (map plain_token word) (content_site x) i j
  content_derives x i j l le d = only_content x i j l (all_mean (x ∷ []) i j d le)

  pub part_derives : (q i j : ℕ) (p : PlainPart) → part_at g q ≡ Some p → i ≤ length word → ReadThrough rules word (part_column g q ∷ []) i j → DerivesAt g (map plain_token word) (part_site q) i j
  part_derives q i j p h le d = only_part q i j p h (all_mean (part_column g q ∷ []) i j d le)

  pub rest_derives : (q i j : ℕ) (p : PlainPart) (ps : PlainParts) → rest_at g q ≡ Some (part p ps) → i ≤ length word → ReadThrough rules word (member_columns g q (part p ps)) i j →
      DerivesAt g (map plain_token word) (rest_site q) i j
  rest_derives q i j p ps h le d = members_derive q i j p ps h (all_mean (member_columns g q (part p ps)) i j d le)
