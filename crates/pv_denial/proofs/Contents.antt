-- What the code finds of contents, parts and members of sequences is that all their rules hold.
use Rattle.std.specs.Prelude.{IsTrue}
use Rattle.std.specs.List.{list_all}
use Rattle.std.proofs.Common.{Bool, List, None, Option, Some, arith, inl, inr, length, refl, slice_get, subst, suc, true, ℕ, ◌+◌, ◌-◌, ◌<◌, ◌≡◌, ◌≤◌, ◌↔◌}
use Rattle.std.proofs.lemmas.Bool.{cases_lt}
use Rattle.pv_model.specs.Plain.{PlainPart, PlainParts, PlainToken, any, children, choice, empty, mixed, name, no_parts, opt, part, plus, seq, star}
use Rattle.pv_dtd.specs.Facts.{is_formed_model}
use Rattle.pv_dtd.specs.Plain.{IsDeclared, PlainDtd}
use Rattle.pv_rules.specs.Flat.{flat_contents, flat_parts}
use Rattle.pv_rules.specs.Numbering.{IsMemberAt, first_part, part_at, rest_at}
use Rattle.pv_rules.specs.Sites.{content_site, name_site, part_site, rest_site}
use Rattle.pv_rules.specs.declared.flat.ContentKind.TheVariants as content
use Rattle.pv_rules.specs.declared.flat.FlatContent.{FlatContent}
use Rattle.pv_rules.specs.declared.flat.FlatPart.{FlatPart}
use Rattle.pv_rules.specs.declared.flat.Kind.TheVariants as kind
use Rattle.pv_rules.specs.declared.flat.Membership.TheVariants as membership
use Rattle.pv_rules.proofs.FlatContents.{any_at, children_at, empty_at, mixed_at, no_content}
use Rattle.pv_rules.proofs.FlatKinds.{IsNoRest, choice_at, followed_at, last_at, name_at, no_part, no_rest, opt_at, outside_at, plus_at, seq_at, star_at}
use Rattle.pv_rules.proofs.FormedParts.{parts_formed}
use Rattle.pv_denial.specs.RowForms.{HoldsAt, HoldsNoSide, HoldsOneSide, HoldsOverTexts, HoldsTwoSides}
use Rattle.pv_denial.specs.Rows.{EachRow, IsRow}
use Rattle.pv_denial.specs.declared.denials.Row.{Row}
use Rattle.pv_denial.proofs.SiteKinds.{holds_content, holds_part, holds_rest}

pub both : {A B C : Type 0} → A ↔ B → B ↔ C → A ↔ C
both p q = ((λ a. q.0 (p.0 a)), (λ c. p.1 (q.1 c)))

-- what holds below a number and of it holds below the next
pub upto_more : (P : ℕ → Type 0) (n k : ℕ) → k ≡ suc n → ((x : ℕ) → x < n → P x) → P n → (x : ℕ) → x < k → P x
upto_more P n k z before here x lt = elim (cases_lt x n) [ inl less ↦ before x less | inr ge ↦ (let e : n ≡ x = omega arith in subst P e here) ]

module _ (g : PlainDtd) (w : List PlainToken) (n : ℕ) (size : n ≡ length w) (rows : List Row) (each : EachRow (IsRow g n) rows) (b : Bool) where
  module _ (x : ℕ) where
    pub undeclared_holds : slice_get (flat_contents 0 g.models) x ≡ None → b ≡ true → IsTrue b ↔ HoldsAt g w rows (content_site x)
    undeclared_holds h t = let i = holds_content g w n size rows each x None (no_content g x h) in ((λ _. i.0 tt), (λ _. t))

    module _ (f : FlatContent) (h : slice_get (flat_contents 0 g.models) x ≡ Some f) where
      pub empty_holds : f.kind ≡ content.Empty → IsTrue b ↔ HoldsNoSide rows (content_site x) n → IsTrue b ↔ HoldsAt g w rows (content_site x)
      empty_holds k i = both i (holds_content g w n size rows each x (Some empty) (empty_at g x f h k))

      pub any_holds : f.kind ≡ content.Any →
          (IsTrue b ↔ ((HoldsNoSide rows (content_site x) n × HoldsOverTexts rows (content_site x)
          w) × ((y : ℕ) → IsDeclared g y → HoldsTwoSides rows (content_site x) (name_site y)
          (content_site x) n))) →
          IsTrue b ↔ HoldsAt g w rows (content_site x)
      any_holds k i =
          let j = holds_content g w n size rows each x (Some any) (any_at g x f h k) in
          ((λ t. let a = i.0 t in j.0 (a.0.0, a.0.1, a.1)), (λ d. let a = j.1 d in i.1 ((a.0, a.1), a.2)))

      pub mixed_holds : f.kind ≡ content.Mixed →
          (IsTrue b ↔ ((HoldsNoSide rows (content_site x) n × HoldsOverTexts rows (content_site x)
          w) × ((q : ℕ) → f.first ≤ q → q < f.end → HoldsTwoSides rows (content_site x)
          (part_site q) (content_site x) n))) →
          IsTrue b ↔ HoldsAt g w rows (content_site x)
      mixed_holds k i =
          let m = mixed_at g x f h k in
          let j = holds_content g w n size rows each x (Some (mixed m.0)) m.1 in
          let start = m.2 in let stop = m.3 in (
            (λ t. let a = i.0 t in j.0 (a.0.0, a.0.1, (λ e lt. a.1 (first_part g x + e) (omega arith) (omega arith)))),
            (λ d. let a = j.1 d in i.1 (
              (a.0, a.1),
              (λ q le lt.
                  let z : first_part g x + (q - first_part g x) ≡ q = omega arith in
                  let P : ℕ → Type 0 = λ v. HoldsTwoSides rows (content_site x) (part_site v) (content_site x) n in
                  subst P z (a.2 (q - first_part g x) (omega arith))),
            )),
          )

      pub children_hold : f.kind ≡ content.Children → IsTrue b ↔ HoldsOneSide rows (content_site x) (part_site f.first) n → IsTrue b ↔ HoldsAt g w rows (content_site x)
      children_hold k i =
          let m = children_at g x f h k in
          let P : ℕ → Type 0 = λ v. IsTrue b ↔ HoldsOneSide rows (content_site x) (part_site v) n in
          both (subst P m.2 i) (holds_content g w n size rows each x (Some (children m.0)) m.1)

  module _ (q : ℕ) where
    pub no_part_holds : slice_get (flat_parts g) q ≡ None → b ≡ true → IsTrue b ↔ HoldsAt g w rows (part_site q)
    no_part_holds h t = let i = holds_part g w n size rows each q None (no_part g q h) in ((λ _. i.0 tt), (λ _. t))

    -- no member has this number
    member_case : (o : Option PlainParts) → rest_at g q ≡ o → IsNoRest o → b ≡ true → IsTrue b ↔ HoldsAt g w rows (rest_site q)
    member_case None e no_member t = let i = holds_rest g w n size rows each q None e in ((λ _. i.0 tt), (λ _. t))
    member_case (Some no_parts) e no_member t = let i = holds_rest g w n size rows each q (Some no_parts) e in ((λ _. i.0 tt), (λ _. t))
    member_case (Some (part p ps)) e no_member t = absurd no_member

    pub no_rest_holds : slice_get (flat_parts g) q ≡ None → b ≡ true → IsTrue b ↔ HoldsAt g w rows (rest_site q)
    no_rest_holds h t = member_case (rest_at g q) refl (no_rest g q h) t

    module _ (f : FlatPart) (h : slice_get (flat_parts g) q ≡ Some f) where
      pub name_part_holds : (y : ℕ) → f.kind ≡ kind.Name (record { 0 = y }) → IsTrue b ↔ HoldsOneSide rows (part_site q) (name_site y) n → IsTrue b ↔ HoldsAt g w rows (part_site q)
      name_part_holds y k i = both i (holds_part g w n size rows each q (Some (name y)) (name_at g q y f h k))

      seq_case : (ps : PlainParts) → part_at g q ≡ Some (seq ps) → (ps ≡ no_parts → ⊥) → IsTrue b ↔ HoldsOneSide rows (part_site q) (rest_site (suc q)) n → IsTrue b ↔ HoldsAt g w rows (part_site q)
      seq_case no_parts e full i = absurd (full refl)
      seq_case (part p ps) e full i = both i (holds_part g w n size rows each q (Some (seq (part p ps))) e)

      pub seq_holds : IsTrue (list_all is_formed_model g.models) → f.kind ≡ kind.Seq → (m : ℕ) →
          m ≡ suc q → IsTrue b ↔ HoldsOneSide rows (part_site q) (rest_site m) n →
          IsTrue b ↔ HoldsAt g w rows (part_site q)
      seq_holds formed k m z i =
          let a = seq_at g q f h k in let P : ℕ → Type 0 = λ v. IsTrue b ↔ HoldsOneSide rows (part_site q) (rest_site v) n in seq_case a.0 a.1 (full_seq a.0 a.1) (subst P z i)
        where
          full_seq : (ps : PlainParts) → part_at g q ≡ Some (seq ps) → ps ≡ no_parts → ⊥
          full_seq no_parts e z = absurd (let y = parts_formed g formed q (seq no_parts) e in cc)
          full_seq (part p ps) e z = cc

      pub choice_part_holds : f.kind ≡ kind.Choice →
          ((ps : PlainParts) → part_at g q ≡ Some (choice ps) → IsTrue b ↔ ((p : PlainPart) (r : ℕ) → IsMemberAt p r (suc q) ps → HoldsOneSide rows (part_site q) (part_site r) n)) →
          IsTrue b ↔ HoldsAt g w rows (part_site q)
      choice_part_holds k i = let a = choice_at g q f h k in both (i a.0 a.1) (holds_part g w n size rows each q (Some (choice a.0)) a.1)

      pub opt_part_holds : f.kind ≡ kind.Opt → (m : ℕ) → m ≡ suc q →
          IsTrue b ↔ (HoldsNoSide rows (part_site q) n × HoldsOneSide rows (part_site q)
          (part_site m) n) → IsTrue b ↔ HoldsAt g w rows (part_site q)
      opt_part_holds k m z i =
          let a = opt_at g q f h k in let P : ℕ →
          Type 0 = λ v. IsTrue b ↔ (HoldsNoSide rows (part_site q) n
          × HoldsOneSide rows (part_site q) (part_site v) n) in
          both (subst P z i) (holds_part g w n size rows each q (Some (opt a.0)) a.1)

      pub star_part_holds : f.kind ≡ kind.Star → (m : ℕ) → m ≡ suc q →
          IsTrue b ↔ (HoldsNoSide rows (part_site q) n × HoldsTwoSides rows (part_site q)
          (part_site m) (part_site q) n) → IsTrue b ↔ HoldsAt g w rows (part_site q)
      star_part_holds k m z i =
          let a = star_at g q f h k in let P : ℕ →
          Type 0 = λ v. IsTrue b ↔ (HoldsNoSide rows (part_site q) n
          × HoldsTwoSides rows (part_site q) (part_site v) (part_site q) n) in
          both (subst P z i) (holds_part g w n size rows each q (Some (star a.0)) a.1)

      pub plus_part_holds : f.kind ≡ kind.Plus → (m : ℕ) → m ≡ suc q →
          IsTrue b ↔ (HoldsOneSide rows (part_site q) (part_site m) n
          × HoldsTwoSides rows (part_site q) (part_site m) (part_site q) n) →
          IsTrue b ↔ HoldsAt g w rows (part_site q)
      plus_part_holds k m z i =
          let a = plus_at g q f h k in let P : ℕ →
          Type 0 = λ v. IsTrue b ↔ (HoldsOneSide rows (part_site q) (part_site v) n
          × HoldsTwoSides rows (part_site q) (part_site v) (part_site q) n) in
          both (subst P z i) (holds_part g w n size rows each q (Some (plus a.0)) a.1)

      pub outside_holds : f.membership ≡ membership.Outside → b ≡ true → IsTrue b ↔ HoldsAt g w rows (rest_site q)
      outside_holds m t = member_case (rest_at g q) refl (outside_at g q f h m) t

      pub last_holds : f.membership ≡ membership.Last → IsTrue b ↔ HoldsOneSide rows (rest_site q) (part_site q) n → IsTrue b ↔ HoldsAt g w rows (rest_site q)
      last_holds m i = let a = last_at g q f h m in both i (holds_rest g w n size rows each q (Some (part a.0 no_parts)) a.1)

      pub followed_holds : f.membership ≡ membership.Followed → IsTrue b ↔ HoldsTwoSides rows (rest_site q) (part_site q) (rest_site f.end) n → IsTrue b ↔ HoldsAt g w rows (rest_site q)
      followed_holds m i =
          let a = followed_at g q f h m in
          let P : ℕ → Type 0 = λ v. IsTrue b ↔ HoldsTwoSides rows (rest_site q) (part_site q) (rest_site v) n in
          both (subst P a.4 i) (holds_rest g w n size rows each q (Some (part a.0 (part a.1 a.2))) a.3)
