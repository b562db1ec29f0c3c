-- The content of a name whose column is free takes the tokens of the column's set, and derives each word of them.
use Rattle.std.proofs.Common.{List, Some, [], ap, arith, get_or, length, map, refl, slice_get, subst, sym, suc, zero, ℕ, ◌<◌, ◌∙◌, ◌∷◌, ◌↔◌, ◌≡◌}
use Rattle.std.specs.List.{AllByRecursion}
use Rattle.std.proofs.lemmas.List.{length-map}
use Rattle.std.proofs.lemmas.Option.{slice_get_within}
use Rattle.pv_model.specs.Plain.{PlainToken, named, other, text}
use Rattle.pv_model.specs.PlainForms.{plain_token}
use Rattle.pv_model.specs.declared.models.Token.{Token}
use Rattle.pv_model.specs.declared.models.Token.TheVariants.{Other, Text}
use Rattle.pv_dtd.specs.Plain.{IsDeclared, PlainDtd}
use Rattle.pv_rules.specs.SiteDerivations.{DerivesAt}
use Rattle.pv_rules.specs.Sites.{content_site}
use Rattle.pv_missing.specs.LiveWords.{AreProductiveTokens}
use Rattle.pv_columns.specs.FreeSets.{AreFreeSets, AreInRow, IsFreeOver}
use Rattle.pv_columns.specs.Tokens.{IsInRow}
use Rattle.pv_columns.specs.declared.rules.ColumnRule.{ColumnRule}
use Rattle.pv_reach.specs.Columns.{token_of, width_of}
use Rattle.pv_reach.specs.Merging.{column_head}
use Rattle.pv_reach.specs.Plans.{IsPlan}
use Rattle.pv_reach.specs.TokensTaken.{ContentTakes, IsContentSet, IsFreeContent}
use Rattle.pv_reach.specs.declared.plan.Plan.{Plan}
use Rattle.pv_reach.proofs.ColumnsDerive.{content_derives}
use Rattle.pv_reach.proofs.EmptyReaches.{tokens_may_be_missing}
use Rattle.pv_reach.proofs.FormedDtds.{IsFormedDtd}
use Rattle.pv_reach.proofs.SitesReach.{sites_reach}

-- a token of the program for a plain one
abbrev token_for : PlainToken → Token
token_for (named y) = token_of y
token_for text = Text
token_for other = Other

plain_again : (w : List PlainToken) → map plain_token (map token_for w) ≡ w
plain_again [] = refl
plain_again (named y ∷ w) = ap (λ v. named y ∷ v) (plain_again w)
plain_again (text ∷ w) = ap (λ v. text ∷ v) (plain_again w)
plain_again (other ∷ w) = ap (λ v. other ∷ v) (plain_again w)

module _ (g : PlainDtd) (plan : Plan) (x : ℕ) (row : List ℕ) (is : IsPlan g plan) (formed : IsFormedDtd g) (declared : IsDeclared g x) (column : ℕ) (head : column ≡ column_head plan.heads.items x)
    (set : (rules : List ColumnRule) (columns : List ℕ) → AreFreeSets rules columns plan.free → IsFreeOver rules row (get_or columns column 0)) where
  within : x < width_of g
  within = let many = formed.is_proper.named in omega arith

  free : IsFreeOver plan.rules.items row (column_head plan.heads.items x)
  free =
      let W : ℕ → Type 0 = λ v. v < plan.width in
      let own = is.free.own column (subst W (sym head) (is.replaces.columns x within)) in
      subst (IsFreeOver plan.rules.items row) (own ∙ head) (set plan.rules.items is.free.columns is.free.sets)

  spans : (word : List Token) → AreProductiveTokens g (map plain_token word) → DerivesAt g (map plain_token word) (content_site x) 0 (length word) ↔ AreInRow row word 0 (length word)
  spans word productive =
      let missing = is.replaces.missing word (tokens_may_be_missing g is.rules word is.are_rules formed productive) in
      let s = is.replaces.same word x 0 (length word) within in
      let f = free word missing 0 (length word) (omega arith) (omega arith) in (
        (λ d. f.0 (s.1 (sites_reach g is.rules word is.are_rules d.0 (content_site x) 0 (length word) d.1).1)),
        (λ all. content_derives g is.rules word is.are_rules formed x 0 (length word) declared (omega arith) (s.0 (f.1 all))),
      )

  one_token : (t u : Token) (k : ℕ) → slice_get (t ∷ []) k ≡ Some u → IsInRow row t → IsInRow row u
  one_token t u zero e has = let P : Token → Type 0 = λ v. IsInRow row v in let z : t ≡ u = cc in subst P z has
  one_token t u (suc k) e has = absurd (let l = slice_get_within (t ∷ []) (suc k) u e in omega arith)

  pub content_set : IsContentSet g x row
  content_set t productive =
      let s = spans (t ∷ []) (productive, tt) in (
        (λ has. s.1 (λ k u a b e. one_token t u k e has)),
        (λ d. s.0 d 0 t (omega arith) (omega arith) refl),
      )

  taken : (word : List Token) → AreProductiveTokens g (map plain_token word) →
      ((k : ℕ) (t : Token) → slice_get word k ≡ Some t → IsInRow row t) →
      AllByRecursion (ContentTakes g x) (map plain_token word)
  taken [] _ has = tt
  taken (t ∷ word) (p, ps) has = ((content_set t p).0 (has 0 t refl), taken word ps (λ k u e. has (suc k) u e))

  in_set : (word : List Token) → AreProductiveTokens g (map plain_token word) →
      AllByRecursion (ContentTakes g x) (map plain_token word) → (k : ℕ) (t : Token) →
      slice_get word k ≡ Some t → IsInRow row t
  in_set [] _ all k t e = absurd cc
  in_set (u ∷ word) (p, ps) (a, all) zero t e = one_token u t zero e ((content_set u p).1 a)
  in_set (u ∷ word) (p, ps) (a, all) (suc k) t e = in_set word ps all k t e

  derives_taken : (word : List Token) → AreProductiveTokens g (map plain_token word) →
      DerivesAt g (map plain_token word) (content_site x) 0 (length (map plain_token word)) ↔
      AllByRecursion (ContentTakes g x) (map plain_token word)
  derives_taken word productive = rw length-map (
    (λ d. taken word productive (λ k t e. (spans word productive).0 d k t (omega arith) (slice_get_within word k t e) e)),
    (λ all. (spans word productive).1 (λ k t a b e. in_set word productive all k t e)),
  )

  pub free_content : IsFreeContent g x
  free_content w =
      let P : List PlainToken → Type 0 = λ v. AreProductiveTokens g v → DerivesAt g v (content_site x) 0 (length v) ↔ AllByRecursion (ContentTakes g x) v in
      subst P (plain_again w) (derives_taken (map token_for w))
