-- What reaches over no tokens does so at every place of every word; so a token of a productive name may be missing.
use Rattle.std.proofs.Common.{List, None, Option, Some, [], arith, inl, inr, map, refl, slice_get, subst, sym, ℕ, ◌∷◌, ◌≡◌}
use Rattle.pv_model.specs.Plain.{PlainModel, PlainPart, any, children, choice, empty, mixed, name, named, opt, plus, seq, star}
use Rattle.pv_model.specs.PlainForms.{plain_token}
use Rattle.pv_model.specs.declared.models.Token.{Token}
use Rattle.pv_dtd.specs.Plain.{IsDeclared, PlainDtd}
use Rattle.pv_dtd.specs.Productive.{IsProductive}
use Rattle.pv_rules.specs.Numbering.{part_at}
use Rattle.pv_rules.specs.Sites.{content_site}
use Rattle.pv_reach.proofs.FormedDtds.{IsFormedDtd}
use Rattle.pv_productive.proofs.SizeLaws.{productive_derives}
use Rattle.pv_missing.specs.LiveWords.{AreProductiveTokens, IsProductiveToken}
use Rattle.pv_missing.proofs.SpanDerivations.{all_at}
use Rattle.pv_columns.specs.declared.rules.ColumnRule.{ColumnRule}
use Rattle.pv_columns.specs.ColumnRules.{ReadThrough, ReadsToken, TokensMayBeMissing, by_rule, done}
use Rattle.pv_reach.specs.Columns.{AreRules, IsAnyRule, IsContentRule, IsPartRule, IsRule, any_column, of_any, of_content, of_part, part_column, token_of}
use Rattle.pv_reach.proofs.ColumnsDerive.{get_plain}
use Rattle.pv_reach.proofs.SitesReach.{by, sites_reach}
use Rattle.pv_columns.proofs.Spans.{reaches_on, reads_on}

still : (u word : List Token) (o : Option Token) (i m p : ℕ) → ReadsToken u o i m → m ≡ i → ReadsToken word o p p
still u word None i m p r e = refl
still u word (Some t) i m p (f, g) e = absurd (omega arith)

pub moved : (rules : List ColumnRule) (u word : List Token) (cs : List ℕ) (i j p : ℕ) → ReadThrough rules u cs i j → i ≡ j → ReadThrough rules word cs p p
moved rules u word [] i j p (done _ _ e) z = done p p refl
moved rules u word (c ∷ cs) i j p (by_rule _ _ r _ m k _ con e reads d f) z =
    let a = reads_on u r.token i m reads in let b = reaches_on rules u r.columns.items m k d in let n = reaches_on rules u cs k j f in
    by_rule c cs r p p p p con e (still u word r.token i m p reads (omega arith)) (moved rules u word r.columns.items m k p d (omega arith)) (moved rules u word cs k j p f (omega arith))

module _ (g : PlainDtd) (rules : List ColumnRule) (word : List Token) (are : AreRules g rules) (formed : IsFormedDtd g) where
  -- the content of a productive name reaches over no tokens
  pub nothing_reached : (y p : ℕ) → IsProductive g y → IsDeclared g y × ReadThrough rules word (y ∷ []) p p
  nothing_reached y p q =
      let d = (productive_derives g y formed.is_proper).0 q in
      let s = sites_reach g rules [] are d.0 (content_site y) 0 0 d.1 in
      (s.0, moved rules [] word (y ∷ []) 0 0 p s.1 refl)

  module _ (productive : AreProductiveTokens g (map plain_token word)) where
    named_productive : (p y : ℕ) → slice_get word p ≡ Some (token_of y) → IsProductive g y
    named_productive p y e = all_at (IsProductiveToken g) (map plain_token word) p (named y) productive (get_plain word p (token_of y) e)

    as_columns : (cs ds : List ℕ) (i j : ℕ) → cs ≡ ds → ReadThrough rules word cs i j → ReadThrough rules word ds i j
    as_columns cs ds i j e d = let P : List ℕ → Type 0 = λ v. ReadThrough rules word v i j in subst P e d

    as_column : (l c i j : ℕ) → l ≡ c → ReadThrough rules word (c ∷ []) i j → ReadThrough rules word (l ∷ []) i j
    as_column l c i j e d = let P : ℕ → Type 0 = λ v. ReadThrough rules word (v ∷ []) i j in subst P (sym e) d

    content_left : (x i j : ℕ) (n : PlainModel) (o : Option Token) (cs : List ℕ) (t : Token) →
        o ≡ Some t → IsContentRule g x n o cs → ReadThrough rules word cs i j →
        ReadThrough rules word (x ∷ []) i j
    content_left x i j empty o cs t s (e, f) d = absurd cc
    content_left x i j any o cs t s (e, f) d = absurd cc
    content_left x i j (mixed ys) o cs t s (inl (e, f)) d = absurd cc
    content_left x i j (mixed ys) o cs t s (inr (inl (e, f))) d = as_columns cs (x ∷ []) i j f d
    content_left x i j (mixed ys) o cs t s (inr (inr (k, l, e, f))) d = absurd cc
    content_left x i j (children p) o cs t s (e, f) d = absurd cc

    part_left : (q p i j : ℕ) (n : PlainPart) (o : Option Token) (cs : List ℕ) (t : Token) →
        part_at g q ≡ Some n → o ≡ Some t → slice_get word p ≡ Some t → IsPartRule g q n o cs →
        ReadThrough rules word cs i j →
        ReadThrough rules word (part_column g q ∷ []) i j
    part_left q p i j (name y) o cs t h s w (inl (e, f)) d = go (as_columns cs [] i j f d)
      where
        is_named : slice_get word p ≡ Some (token_of y)
        is_named = cc

        go : ReadThrough rules word [] i j → ReadThrough rules word (part_column g q ∷ []) i j
        go (done _ _ z) =
            let n = nothing_reached y i (named_productive p y is_named) in
            let a = by g rules word are (part_column g q) None (y ∷ []) i i i (of_part q (name y) h refl (inr (n.0, refl, refl))) refl n.1 in
            let P : ℕ → Type 0 = λ v. ReadThrough rules word (part_column g q ∷ []) i v in subst P z a
    part_left q p i j (name y) o cs t h s w (inr (l, e, f)) d = absurd cc
    part_left q p i j (seq ps) o cs t h s w (e, f) d = absurd cc
    part_left q p i j (choice ps) o cs t h s w (n, r, m, e, f) d = absurd cc
    part_left q p i j (opt n) o cs t h s w (e, f) d = absurd cc
    part_left q p i j (star n) o cs t h s w (e, f) d = absurd cc
    part_left q p i j (plus n) o cs t h s w (e, f) d = absurd cc

    any_left : (i j : ℕ) (o : Option Token) (cs : List ℕ) (t : Token) → o ≡ Some t → IsAnyRule g o cs → ReadThrough rules word cs i j → ReadThrough rules word (any_column g ∷ []) i j
    any_left i j o cs t s (inl (e, f)) d = absurd cc
    any_left i j o cs t s (inr (inl (e, f))) d = as_columns cs (any_column g ∷ []) i j f d
    any_left i j o cs t s (inr (inr (y, l, inl (e, f)))) d = as_columns cs (any_column g ∷ []) i j f d
    any_left i j o cs t s (inr (inr (y, l, inr (e, f)))) d = absurd cc

    left_out : (l : ℕ) (o : Option Token) (cs : List ℕ) (t : Token) (p i j : ℕ) → IsRule g l o cs →
        o ≡ Some t → slice_get word p ≡ Some t → ReadThrough rules word cs i j →
        ReadThrough rules word (l ∷ []) i j
    left_out l o cs t p i j (of_content x n h e rule) s w d = as_column l x i j e (content_left x i j n o cs t s rule d)
    left_out l o cs t p i j (of_part q n h e rule) s w d = as_column l (part_column g q) i j e (part_left q p i j n o cs t h s w rule d)
    left_out l o cs t p i j (of_any _ _ e rule) s w d = as_column l (any_column g) i j e (any_left i j o cs t s rule d)

    pub tokens_may_be_missing : TokensMayBeMissing rules word
    tokens_may_be_missing r t p i j con e w d = left_out r.left r.token r.columns.items t p i j (are.sound r con) e w d
