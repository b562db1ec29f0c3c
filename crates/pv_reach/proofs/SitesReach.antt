-- What a site derives, its columns reach.
use Rattle.std.specs.List.{AllByRecursion}
use Rattle.std.proofs.Common.{List, None, Option, Some, [], ap, inl, inr, map, refl, slice_get, subst, suc, sym, zero, ℕ, ◌+◌, ◌∷◌, ◌≡◌, ◌⊎◌}
use Rattle.pv_model.specs.Plain.{PlainModel, PlainParts, PlainToken, any, children, choice, empty, mixed, name, named, no_parts, opt, part, plus, seq, star, text}
use Rattle.pv_model.specs.PlainForms.{plain_token}
use Rattle.pv_model.specs.declared.models.Token.{Token}
use Rattle.pv_model.specs.declared.models.Token.TheVariants.{Name, Other, Text}
use Rattle.pv_dtd.specs.Plain.{IsDeclared, PlainDtd, model_of, parts_in}
use Rattle.pv_rules.specs.Derivations.{Derives}
use Rattle.pv_rules.specs.Numbering.{first_part, part_at, rest_at}
use Rattle.pv_rules.specs.Rules.{Goal, Rule, any_name, any_none, any_text, children_part, empty_none, kept, missing, mixed_name, mixed_none}
use Rattle.pv_rules.specs.Rules.{mixed_text, opt_none, opt_one, over, part_choice, part_name, part_seq, plus_more, plus_one, rest_last, rest_then}
use Rattle.pv_rules.specs.Rules.{star_more, star_none}
use Rattle.pv_rules.specs.Sites.{PlainSite, content_site, name_site, part_site, rest_site}
use Rattle.pv_rules.proofs.DerivationLaws.{held}
use Rattle.pv_rules.proofs.Facts.{parts_by_number}
use Rattle.std.proofs.lemmas.Option.{slice_get_within}
use Rattle.pv_columns.specs.declared.rules.ColumnRule.{ColumnRule}
use Rattle.pv_columns.specs.ColumnRules.{ReadThrough, ReadsToken, by_rule, done}
use Rattle.pv_reach.specs.Columns.{AreRules, Has, IsRule, any_column, member_columns, of_any, of_content, of_part, part_column, token_of}
use Rattle.pv_columns.proofs.Spans.{join}

-- a token of a word by its plain form
named_case : (t : Token) (x : ℕ) → plain_token t ≡ named x → t ≡ token_of x
named_case (Name id) x e = let i : id.0 ≡ x = cc in ap token_of i
named_case Text x e = absurd cc
named_case Other x e = absurd cc

text_case : (t : Token) → plain_token t ≡ text → t ≡ Text
text_case (Name id) e = absurd cc
text_case Text e = refl
text_case Other e = absurd cc

pub plain_get : (word : List Token) (i : ℕ) (p : PlainToken) → slice_get (map plain_token word) i ≡ Some p → (t : Token) × (slice_get word i ≡ Some t) × (plain_token t ≡ p)
plain_get [] i p e = absurd cc
plain_get (t ∷ ts) zero p e = (t, refl, cc)
plain_get (t ∷ ts) (suc i) p e = plain_get ts i p e

pub name_get : (word : List Token) (i x : ℕ) → slice_get (map plain_token word) i ≡ Some (named x) → slice_get word i ≡ Some (token_of x)
name_get word i x e = let t = plain_get word i (named x) e in let z = named_case t.0 x t.2 in rw (← z) t.1

pub text_get : (word : List Token) (i : ℕ) → slice_get (map plain_token word) i ≡ Some text → slice_get word i ≡ Some Text
text_get word i e = let t = plain_get word i text e in let z = text_case t.0 t.2 in rw (← z) t.1

module _ (g : PlainDtd) (rules : List ColumnRule) (word : List Token) (are : AreRules g rules) where
  pub by : (l : ℕ) (o : Option Token) (cs : List ℕ) (i m j : ℕ) → IsRule g l o cs → ReadsToken word o i m → ReadThrough rules word cs m j → ReadThrough rules word (l ∷ []) i j
  by l o cs i m j rule reads d = go (are.complete l o cs rule)
    where
      go : Has rules l o cs → ReadThrough rules word (l ∷ []) i j
      go h = by_rule l [] h.rule i m j j h.is_in (sym h.is_left) (rw h.is_token reads)
          (let P : List ℕ → Type 0 = λ x. ReadThrough rules word x m j in subst P (sym h.are_columns) d) (done j j refl)

  -- what a site derives, said by columns
  abbrev pub ByColumns : PlainSite → ℕ → ℕ → Type 0
  ByColumns (name_site x) i j = ((slice_get word i ≡ Some (token_of x)) × (j ≡ suc i)) ⊎ (IsDeclared g x × ReadThrough rules word (x ∷ []) i j)
  ByColumns (content_site x) i j =
      IsDeclared g x × ReadThrough rules word (x ∷ []) i j × (model_of g x ≡ Some any → ReadThrough rules word (any_column g ∷ []) i j)
  ByColumns (part_site q) i j = ReadThrough rules word (part_column g q ∷ []) i j
  ByColumns (rest_site q) i j = (ps : PlainParts) × (rest_at g q ≡ Some ps) × ReadThrough rules word (member_columns g q ps) i j

  declared_model : (x : ℕ) (m : PlainModel) → model_of g x ≡ Some m → IsDeclared g x
  declared_model x m e = slice_get_within g.models x m e

  content : (x i m j : ℕ) (n : PlainModel) (o : Option Token) (cs : List ℕ) → model_of g x ≡ Some n → (n ≡ any → ⊥) → IsRule g x o cs → ReadsToken word o i m → ReadThrough rules word cs m j →
      ByColumns (content_site x) i j
  content x i m j n o cs e not rule reads d = (declared_model x n e, by x o cs i m j rule reads d, (λ f. absurd (not cc)))

  any_content : (x i m j : ℕ) (o : Option Token) (cs : List ℕ) → model_of g x ≡ Some any → IsRule g (any_column g) o cs → ReadsToken word o i m → ReadThrough rules word cs m j →
      ByColumns (content_site x) i j
  any_content x i m j o cs e rule reads d =
      let here = by (any_column g) o cs i m j rule reads d in
      (declared_model x any e, by x None (any_column g ∷ []) i i j (of_content x any e refl (refl, refl)) refl here, (λ f. here))

  any_one : (x y i k j : ℕ) → model_of g x ≡ Some any → IsDeclared g y → ByColumns (name_site y) i k → ByColumns (content_site x) k j → ByColumns (content_site x) i j
  any_one x y i k j e d (inl (f, z)) (_, _, b) =
      any_content x i k j (Some (token_of y)) (any_column g ∷ []) e (of_any x e refl (inr (inr (y, d, inl (refl, refl))))) (f, z) (b e)
  any_one x y i k j e d (inr (_, a)) (_, _, b) =
      any_content x i i j None (y ∷ any_column g ∷ []) e (of_any x e refl (inr (inr (y, d, inr (refl, refl))))) refl (join rules word y (any_column g ∷ []) i k j a (b e))

  one_name : (q y i j : ℕ) → part_at g q ≡ Some (name y) → ByColumns (name_site y) i j → ByColumns (part_site q) i j
  one_name q y i j e (inl (f, z)) = by (part_column g q) (Some (token_of y)) [] i j j (of_part q (name y) e refl (inl (refl, refl))) (f, z) (done j j refl)
  one_name q y i j e (inr (d, a)) = by (part_column g q) None (y ∷ []) i i j (of_part q (name y) e refl (inr (d, refl, refl))) refl a

  one_seq : (q i j : ℕ) (ps : PlainParts) → part_at g q ≡ Some (seq ps) → (rest_at g (suc q) ≡ Some ps) → ByColumns (rest_site (suc q)) i j → ByColumns (part_site q) i j
  one_seq q i j ps e f (qs, h, a) =
      let z : qs ≡ ps = cc in
      by (part_column g q) None (member_columns g (suc q) ps) i i j (of_part q (seq ps) e refl (refl, refl)) refl (rw (← z) a)

  pub closed : (x : Goal) (c : ℕ) (xs : List Goal) → Rule g (map plain_token word) x c xs → AllByRecursion (λ (y : Goal). ByColumns y.site y.from y.to) xs → ByColumns x.site x.from x.to
  closed x c xs (kept y i f) a = inl (name_get word i y f, refl)
  closed x c xs (missing y i j l) a = inr (a.0.0, a.0.1)
  closed x c xs (empty_none y i l m) a = content y i i i empty None [] m (λ e. cc) (of_content y empty m refl (refl, refl)) refl (done i i refl)
  closed x c xs (mixed_none y i ys l m) a = content y i i i (mixed ys) None [] m (λ e. cc) (of_content y (mixed ys) m refl (inl (refl, refl))) refl (done i i refl)
  closed x c xs (mixed_text y i j ys l h m f) a =
      content y i (suc i) j (mixed ys) (Some Text) (y ∷ []) m (λ e. cc) (of_content y (mixed ys) m refl (inr (inl (refl, refl)))) (text_get word i f, refl) a.0.1
  closed x c xs (mixed_name y e i k j ys l h n m b) a =
      content y i i j (mixed ys) None (part_column g (first_part g y + e) ∷ y ∷ []) m (λ z. cc) (of_content y (mixed ys) m refl (inr (inr (e, b, refl, refl)))) refl
      (join rules word (part_column g (first_part g y + e)) (y ∷ []) i k j a.0 a.1.0.1)
  closed x c xs (any_none y i l m) a = any_content y i i i None [] m (of_any y m refl (inl (refl, refl))) refl (done i i refl)
  closed x c xs (any_text y i j l h m f) a =
      any_content y i (suc i) j (Some Text) (any_column g ∷ []) m (of_any y m refl (inr (inl (refl, refl)))) (text_get word i f, refl) (a.0.2 m)
  closed x c xs (any_name y z i k j l h n m d) a = any_one y z i k j m d a.0 a.1.0
  closed x c xs (children_part y i j p l m) a =
      content y i i j (children p) None (part_column g (first_part g y) ∷ []) m (λ e. cc) (of_content y (children p) m refl (refl, refl)) refl a.0
  closed x c xs (part_name q y i j l e) a = one_name q y i j e a.0
  closed x c xs (part_seq q i j p ps l e) a = one_seq q i j (part p ps) e ((parts_by_number g).in_seq q p ps e) a.0
  closed x c xs (part_choice q r i j p ps l e m) a = by (part_column g q) None (part_column g r ∷ []) i i j (of_part q (choice ps) e refl (p, r, m, refl, refl)) refl a.0
  closed x c xs (opt_none q i p l e) a = by (part_column g q) None [] i i i (of_part q (opt p) e refl (refl, inl refl)) refl (done i i refl)
  closed x c xs (opt_one q i j p l e) a = by (part_column g q) None (part_column g (suc q) ∷ []) i i j (of_part q (opt p) e refl (refl, inr refl)) refl a.0
  closed x c xs (star_none q i p l e) a = by (part_column g q) None [] i i i (of_part q (star p) e refl (refl, inl refl)) refl (done i i refl)
  closed x c xs (star_more q i k j p l h n e) a =
      by (part_column g q) None (part_column g (suc q) ∷ part_column g q ∷ []) i i j (of_part q (star p) e refl (refl, inr refl)) refl
      (join rules word (part_column g (suc q)) (part_column g q ∷ []) i k j a.0 a.1.0)
  closed x c xs (plus_one q i j p l e) a = by (part_column g q) None (part_column g (suc q) ∷ []) i i j (of_part q (plus p) e refl (refl, inl refl)) refl a.0
  closed x c xs (plus_more q i k j p l h n e) a =
      by (part_column g q) None (part_column g (suc q) ∷ part_column g q ∷ []) i i j (of_part q (plus p) e refl (refl, inr refl)) refl
      (join rules word (part_column g (suc q)) (part_column g q ∷ []) i k j a.0 a.1.0)
  closed x c xs (rest_last q i j p l e) a = (part p no_parts, e, a.0)
  closed x c xs (rest_then q i k j p r ps l h n e) a =
      let f = (parts_by_number g).next q p r ps e in let b = a.1.0 in let z : b.0 ≡ part r ps = let y = b.1 in cc in (
        part p (part r ps),
        e,
        join rules word (part_column g q) (member_columns g (q + parts_in p) (part r ps)) i k j a.0
            (let P : PlainParts → Type 0 = λ v. ReadThrough rules word (member_columns g (q + parts_in p) v) k j in subst P z b.2),
      )

  pub sites_reach : (n : ℕ) (s : PlainSite) (i j : ℕ) → Derives (Rule g (map plain_token word)) n (over s i j) → ByColumns s i j
  sites_reach n s i j d = held (Rule g (map plain_token word)) (λ (y : Goal). ByColumns y.site y.from y.to) closed n (over s i j) d
