-- The columns of the rules are in range.
use Rattle.std.proofs.Common.{All, Contains, List, Option, Some, [], arith, get_or, inl, inr, suc, subst, sym, zero, ℕ, ◌+◌, ◌<◌, ◌∷◌, ◌≡◌}
use Rattle.std.proofs.lemmas.List.{get_or_default}
use Rattle.std.proofs.lemmas.Option.{slice_get-get_or, slice_get_within}
use Rattle.pv_model.specs.Plain.{PlainModel, PlainPart, PlainParts, any, children, choice, empty, mixed, name, no_parts, opt, part, plus, seq, star}
use Rattle.pv_model.specs.declared.models.Token.{Token}
use Rattle.pv_dtd.specs.Plain.{IsDeclared, PlainDtd, model_of, parts_in, parts_in_models}
use Rattle.pv_rules.specs.Numbering.{first_part, part_at, rest_at}
use Rattle.pv_rules.proofs.Facts.{parts_by_number}
use Rattle.pv_rules.proofs.FormedParts.{parts_formed}
use Rattle.pv_rules.proofs.Members.{some_part}
use Rattle.pv_reach.proofs.FormedDtds.{IsFormedDtd}
use Rattle.pv_columns.specs.declared.rules.ColumnRule.{ColumnRule}
use Rattle.pv_columns.specs.ColumnRules.{InRange}
use Rattle.pv_reach.specs.Columns.{AreRules, IsAnyRule, IsContentRule, IsPartRule, IsRule, any_column, member_columns, of_any, of_content, of_part, part_column, width_of}

module _ (g : PlainDtd) (formed : IsFormedDtd g) where
  abbrev Within : List ℕ → Type 0
  Within cs = All (λ c. c < width_of g) cs

  none : Within []
  none i d lt = absurd (omega arith)

  one_more : (c : ℕ) (cs : List ℕ) → c < width_of g → Within cs → Within (c ∷ cs)
  one_more c cs lt all zero d k = lt
  one_more c cs lt all (suc i) d k = all i d (omega arith)

  as_list : (cs ds : List ℕ) → cs ≡ ds → Within ds → Within cs
  as_list cs ds e all = let P : List ℕ → Type 0 = λ v. Within v in subst P (sym e) all

  pub part_number : (q : ℕ) (p : PlainPart) → part_at g q ≡ Some p → q < parts_in_models g.models
  part_number q p e = let a = (parts_by_number g).within q p e in let b = some_part p in omega arith

  pub in_part : (q : ℕ) (p : PlainPart) → part_at g q ≡ Some p → part_column g q < width_of g
  in_part q p e = let a = part_number q p e in omega arith

  in_name : (x : ℕ) → IsDeclared g x → x < width_of g
  in_name x l = let a = formed.is_proper.named in omega arith

  in_content : (x : ℕ) (m : PlainModel) → model_of g x ≡ Some m → x < width_of g
  in_content x m e = in_name x (slice_get_within g.models x m e)

  pub members_within : (q : ℕ) (p : PlainPart) (ps : PlainParts) → rest_at g q ≡ Some (part p ps) → Within (member_columns g q (part p ps))
  members_within q p no_parts e = one_more (part_column g q) [] (in_part q p ((parts_by_number g).member q p no_parts e)) none
  members_within q p (part r rs) e =
      one_more (part_column g q) (member_columns g (q + parts_in p) (part r rs)) (in_part q p ((parts_by_number g).member q p (part r rs) e))
      (members_within (q + parts_in p) r rs ((parts_by_number g).next q p r rs e))

  content_within : (x : ℕ) (m : PlainModel) (o : Option Token) (cs : List ℕ) → model_of g x ≡ Some m → IsContentRule g x m o cs → Within cs
  content_within x empty o cs h (e, f) = as_list cs [] f none
  content_within x any o cs h (e, f) = as_list cs (any_column g ∷ []) f (one_more (any_column g) [] (omega arith) none)
  content_within x (mixed ys) o cs h (inl (e, f)) = as_list cs [] f none
  content_within x (mixed ys) o cs h (inr (inl (e, f))) = as_list cs (x ∷ []) f (one_more x [] (in_content x (mixed ys) h) none)
  content_within x (mixed ys) o cs h (inr (inr (k, l, e, f))) =
      as_list cs (part_column g (first_part g x + k) ∷ x ∷ []) f
      (one_more (part_column g (first_part g x + k)) (x ∷ [])
      (in_part (first_part g x + k) (name (get_or ys k 0)) ((parts_by_number g).listed x k (get_or ys k 0) ys h (slice_get-get_or ys k 0 l)))
      (one_more x [] (in_content x (mixed ys) h) none))
  content_within x (children p) o cs h (e, f) =
      as_list cs (part_column g (first_part g x) ∷ []) f (one_more (part_column g (first_part g x)) [] (in_part (first_part g x) p ((parts_by_number g).outermost x p h)) none)

  part_within : (q : ℕ) (p : PlainPart) (o : Option Token) (cs : List ℕ) → part_at g q ≡ Some p → IsPartRule g q p o cs → Within cs
  part_within q (name y) o cs h (inl (e, f)) = as_list cs [] f none
  part_within q (name y) o cs h (inr (l, e, f)) = as_list cs (y ∷ []) f (one_more y [] (in_name y l) none)
  part_within q (seq no_parts) o cs h (e, f) = absurd (let z = parts_formed g formed.formed q (seq no_parts) h in cc)
  part_within q (seq (part p ps)) o cs h (e, f) = as_list cs (member_columns g (suc q) (part p ps)) f (members_within (suc q) p ps ((parts_by_number g).in_seq q p ps h))
  part_within q (choice ps) o cs h (p, r, m, e, f) =
      as_list cs (part_column g r ∷ []) f (one_more (part_column g r) [] (in_part r p ((parts_by_number g).in_choice q r p ps h m)) none)
  part_within q (opt p) o cs h (e, inl f) = as_list cs [] f none
  part_within q (opt p) o cs h (e, inr f) = as_list cs (part_column g (suc q) ∷ []) f (one_more (part_column g (suc q)) [] (in_part (suc q) p ((parts_by_number g).in_opt q p h)) none)
  part_within q (star p) o cs h (e, inl f) = as_list cs [] f none
  part_within q (star p) o cs h (e, inr f) =
      as_list cs (part_column g (suc q) ∷ part_column g q ∷ []) f
      (one_more (part_column g (suc q)) (part_column g q ∷ []) (in_part (suc q) p ((parts_by_number g).in_star q p h)) (one_more (part_column g q) [] (in_part q (star p) h) none))
  part_within q (plus p) o cs h (e, inl f) = as_list cs (part_column g (suc q) ∷ []) f (one_more (part_column g (suc q)) [] (in_part (suc q) p ((parts_by_number g).in_plus q p h)) none)
  part_within q (plus p) o cs h (e, inr f) =
      as_list cs (part_column g (suc q) ∷ part_column g q ∷ []) f
      (one_more (part_column g (suc q)) (part_column g q ∷ []) (in_part (suc q) p ((parts_by_number g).in_plus q p h)) (one_more (part_column g q) [] (in_part q (plus p) h) none))

  any_within : (o : Option Token) (cs : List ℕ) → IsAnyRule g o cs → Within cs
  any_within o cs (inl (e, f)) = as_list cs [] f none
  any_within o cs (inr (inl (e, f))) = as_list cs (any_column g ∷ []) f (one_more (any_column g) [] (omega arith) none)
  any_within o cs (inr (inr (y, l, inl (e, f)))) = as_list cs (any_column g ∷ []) f (one_more (any_column g) [] (omega arith) none)
  any_within o cs (inr (inr (y, l, inr (e, f)))) = as_list cs (y ∷ any_column g ∷ []) f (one_more y (any_column g ∷ []) (in_name y l) (one_more (any_column g) [] (omega arith) none))

  rule_within : (l : ℕ) (o : Option Token) (cs : List ℕ) → IsRule g l o cs → (l < width_of g) × Within cs
  rule_within l o cs (of_content x m h e rule) = (let a = in_content x m h in omega arith, content_within x m o cs h rule)
  rule_within l o cs (of_part q p h e rule) = (let a = in_part q p h in omega arith, part_within q p o cs h rule)
  rule_within l o cs (of_any _ _ e rule) = (omega arith, any_within o cs rule)

  pub rules_in_range : (rules : List ColumnRule) → AreRules g rules → InRange (width_of g) rules
  rules_in_range rules are i d lt =
      let r = get_or rules i d in
      let con : Contains rules r = (i, lt, get_or_default rules i r d lt) in
      rule_within r.left r.token r.columns.items (are.sound r con)
