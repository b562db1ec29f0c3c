-- The least sum that the rules give a site over no tokens, by what stands there.
use Rattle.std.proofs.Common.{List, None, Option, Some, [], ap, arith, refl, slice_get, subst, suc, sym, true, ℕ, ◌+◌, ◌∙◌, ◌∷◌, ◌≡◌, ◌≤◌}
use Rattle.pv_model.specs.Plain.{PlainModel, PlainPart, PlainParts, any, children, choice, empty, mixed, name, no_parts, opt, part, plus, seq, star}
use Rattle.pv_dtd.specs.Facts.{is_formed_part}
use Rattle.pv_dtd.specs.Plain.{PlainDtd, parts_in}
use Rattle.pv_rules.specs.Flat.{content_kind_of, flat_contents}
use Rattle.pv_rules.specs.Kinds.{OfPart}
use Rattle.pv_rules.specs.Numbering.{first_part, part_at, rest_at}
use Rattle.pv_rules.specs.Rules.{Goal, Rule, missing, opt_none, over, part_choice, part_name, part_seq, plus_one, rest_last, rest_then, star_none}
use Rattle.pv_rules.specs.Sites.{PlainSite, content_site, name_site, part_site, rest_site}
use Rattle.pv_rules.specs.declared.flat.ContentKind.{ContentKind}
use Rattle.pv_rules.specs.declared.flat.ContentKind.TheVariants as content
use Rattle.pv_rules.specs.declared.flat.FlatContent.{FlatContent}
use Rattle.pv_rules.proofs.RulesByKind.{by_kind}
use Rattle.pv_rules.proofs.FlatContents.{content_at}
use Rattle.pv_rules.proofs.FlatKinds.{IsNoRest}
use Rattle.pv_productive.specs.Tables.{IsLeastMember, IsLeastSum, Table, no_size, size_at, size_in, size_of, total}
use Rattle.pv_productive.proofs.HedgeDerivations.{none_span}
use Rattle.pv_productive.proofs.EmptyWeights.{name_rules, part_rules, plus_rules, rest_rules, then_rules}

-- a content that needs no element
abbrev pub IsFree : ContentKind → Type 0
IsFree content.Empty = Unit {0}
IsFree content.Any = Unit {0}
IsFree content.Mixed = Unit {0}
IsFree content.Children = ⊥

module _ (g : PlainDtd) (t : Table) where
  without : (s : PlainSite) (k : ℕ) → no_size ≤ k → ((c : ℕ) (xs : List Goal) → Rule g [] (over s 0 0) c xs → ⊥) → IsLeastSum g t s k
  without s k l none = record { below = λ c xs r. absurd (none c xs r); attained = λ f. absurd (omega arith) }

  free : (s : PlainSite) (k : ℕ) → k ≡ 0 → Rule g [] (over s 0 0) 0 [] → IsLeastSum g t s k
  free s k e r = record { below = λ c xs q. omega arith; attained = λ f. (0, [], r, omega arith) }

  through : (c k : ℕ) (s o : PlainSite) → Rule g [] (over s 0 0) c (over o 0 0 ∷ []) →
      ((j : ℕ) (xs : List Goal) → Rule g [] (over s 0 0) j xs → (j ≡ c) × (xs ≡ over o 0 0 ∷ [])) → k ≡ c + size_of g t o → IsLeastSum g t s k
  through c k s o r all e = record {
    below = λ j xs q. let a = all j xs q in let b = a.0 in rw a.1 (omega arith);
    attained = λ f. (c, over o 0 0 ∷ [], r, omega arith);
  }

  both : (k : ℕ) (s o p : PlainSite) → Rule g [] (over s 0 0) 0 (over o 0 0 ∷ over p 0 0 ∷ []) →
      ((j : ℕ) (xs : List Goal) → Rule g [] (over s 0 0) j xs → (j ≡ 0) × (xs ≡ over o 0 0 ∷ over p 0 0 ∷ [])) → k ≡ size_of g t o + size_of g t p → IsLeastSum g t s k
  both k s o p r all e = record {
    below = λ j xs q. let a = all j xs q in let b = a.0 in rw a.1 (omega arith);
    attained = λ f. (0, over o 0 0 ∷ over p 0 0 ∷ [], r, omega arith);
  }

  pub name_sum : (x k : ℕ) → k ≡ 1 + size_of g t (content_site x) → IsLeastSum g t (name_site x) k
  name_sum x k e =
      through 1 k (name_site x) (content_site x) (missing x 0 0 (none_span g)) (λ j xs r. name_rules g x j xs (by_kind g [] (name_site x) 0 0 j xs r)) e

  pub no_part_sum : (q k : ℕ) → part_at g q ≡ None → no_size ≤ k → IsLeastSum g t (part_site q) k
  no_part_sum q k e l = without (part_site q) k l (λ c xs r. part_rules g q None e c xs r)

  pub part_name_sum : (q y k : ℕ) → part_at g q ≡ Some (name y) → k ≡ size_at t.names y → IsLeastSum g t (part_site q) k
  part_name_sum q y k e z =
      through 0 k (part_site q) (name_site y) (part_name q y 0 0 (none_span g) e) (λ j xs r. let h = part_rules g q (Some (name y)) e j xs r in (h.1, h.2)) (omega arith)

  pub seq_sum : (q k : ℕ) (ps : PlainParts) → is_formed_part (seq ps) ≡ true → part_at g q ≡ Some (seq ps) → k ≡ size_at t.rests (suc q) → IsLeastSum g t (part_site q) k
  seq_sum q k no_parts f e z = absurd cc
  seq_sum q k (part p ps) f e z =
      through 0 k (part_site q) (rest_site (suc q)) (part_seq q 0 0 p ps (none_span g) e)
      (λ j xs r. let h = part_rules g q (Some (seq (part p ps))) e j xs r in (h.1, h.2)) (omega arith)

  choice_below : (q k : ℕ) (ps : PlainParts) → IsLeastMember g t q ps k → (c : ℕ) (xs : List Goal) → OfPart g [] 0 0 c xs q (Some (choice ps)) → k ≤ c + total g t xs
  choice_below q k ps l c xs (p, r, m, (a, e, i)) = let b = l.below p r m in rw i (omega arith)

  pub choice_sum : (q k : ℕ) (ps : PlainParts) → part_at g q ≡ Some (choice ps) → IsLeastMember g t q ps k → IsLeastSum g t (part_site q) k
  choice_sum q k ps e l = record {
    below = λ c xs r. choice_below q k ps l c xs (part_rules g q (Some (choice ps)) e c xs r);
    attained = λ f. let a = l.attained f in
        (0, over (part_site a.1) 0 0 ∷ [], part_choice q a.1 0 0 a.0 ps (none_span g) e a.2, let z = a.3 in omega arith);
  }

  pub opt_sum : (q k : ℕ) (p : PlainPart) → part_at g q ≡ Some (opt p) → k ≡ 0 → IsLeastSum g t (part_site q) k
  opt_sum q k p e z = free (part_site q) k z (opt_none q 0 p (omega arith) e)

  pub star_sum : (q k : ℕ) (p : PlainPart) → part_at g q ≡ Some (star p) → k ≡ 0 → IsLeastSum g t (part_site q) k
  star_sum q k p e z = free (part_site q) k z (star_none q 0 p (omega arith) e)

  pub plus_sum : (q k : ℕ) (p : PlainPart) → part_at g q ≡ Some (plus p) → k ≡ size_at t.parts (suc q) → IsLeastSum g t (part_site q) k
  plus_sum q k p e z =
      through 0 k (part_site q) (part_site (suc q)) (plus_one q 0 0 p (none_span g) e)
      (λ j xs r. plus_rules g q j xs p (part_rules g q (Some (plus p)) e j xs r)) (omega arith)

  rest_case : (q k : ℕ) (r : Option PlainParts) → rest_at g q ≡ r → IsNoRest r → no_size ≤ k → IsLeastSum g t (rest_site q) k
  rest_case q k None e n l = without (rest_site q) k l (λ c xs r. rest_rules g q None e c xs r)
  rest_case q k (Some no_parts) e n l = without (rest_site q) k l (λ c xs r. rest_rules g q (Some no_parts) e c xs r)
  rest_case q k (Some (part p ps)) e n l = absurd n

  pub no_rest_sum : (q k : ℕ) → IsNoRest (rest_at g q) → no_size ≤ k → IsLeastSum g t (rest_site q) k
  no_rest_sum q k n l = rest_case q k (rest_at g q) refl n l

  pub last_sum : (q k : ℕ) (p : PlainPart) → rest_at g q ≡ Some (part p no_parts) → k ≡ size_at t.parts q → IsLeastSum g t (rest_site q) k
  last_sum q k p e z =
      through 0 k (rest_site q) (part_site q) (rest_last q 0 0 p (none_span g) e)
      (λ j xs r. let h = rest_rules g q (Some (part p no_parts)) e j xs r in (h.1, h.2)) (omega arith)

  pub then_sum : (q k : ℕ) (p r : PlainPart) (ps : PlainParts) → rest_at g q ≡ Some (part p (part r ps)) → k ≡ size_at t.parts q + size_at t.rests (q + parts_in p) →
      IsLeastSum g t (rest_site q) k
  then_sum q k p r ps e z =
      both k (rest_site q) (part_site q) (rest_site (q + parts_in p)) (rest_then q 0 0 0 p r ps (omega arith) (omega arith) (omega arith) e)
      (λ j xs h. then_rules g q j xs p r ps (rest_rules g q (Some (part p (part r ps))) e j xs h)) z

module _ (g : PlainDtd) (t : Table) where
  free_case : (q : ℕ) (m : PlainModel) → IsFree (content_kind_of m) → size_in t q (Some m) ≡ 0
  free_case q empty n = refl
  free_case q any n = refl
  free_case q (mixed ys) n = refl
  free_case q (children p) n = absurd n

  children_case : (q : ℕ) (m : PlainModel) → content_kind_of m ≡ content.Children →
      size_in t q (Some m) ≡ size_at t.parts q
  children_case q empty e = absurd cc
  children_case q any e = absurd cc
  children_case q (mixed ys) e = absurd cc
  children_case q (children p) e = refl

  module _ (x : ℕ) (f : FlatContent) (found : slice_get (flat_contents 0 g.models) x ≡ Some f) where
    pub free_content : IsFree f.kind → size_of g t (content_site x) ≡ 0
    free_content n =
        let c = content_at g x f found in
        let i = ap (λ (y : FlatContent). y.kind) c.2 in
        let a : size_of g t (content_site x) ≡ size_in t (first_part g x) (Some c.0) =
        ap (λ o. size_in t (first_part g x) o) c.1 in
        a ∙ free_case (first_part g x) c.0 (subst IsFree i n)

    pub children_content : f.kind ≡ content.Children →
        size_of g t (content_site x) ≡ size_at t.parts f.first
    children_content k =
        let c = content_at g x f found in
        let i = ap (λ (y : FlatContent). y.kind) c.2 in
        let j = ap (λ (y : FlatContent). size_at t.parts y.first) c.2 in
        let a : size_of g t (content_site x) ≡ size_in t (first_part g x) (Some c.0) =
        ap (λ o. size_in t (first_part g x) o) c.1 in
        a ∙ children_case (first_part g x) c.0 (sym i ∙ k) ∙ sym j
