-- Rows for the members of sequences are filled, from the last part on.
use Rattle.std.specs.Prelude.{option_and_then}
use Rattle.std.proofs.Common.{List, None, Option, Some, [], arith, get_or-set_other, get_or-set_same, inl, inr, length, refl, set, slice_get, subst, suc, zero, ℕ, ◌*◌, ◌+◌, ◌<◌, ◌≡◌, ◌≢◌, ◌≤◌, ◌⊎◌}
use Rattle.std.proofs.Math.Nat.{mul-le-mul_right}
use Rattle.std.proofs.lemmas.Bool.{cases_lt}
use Rattle.std.proofs.lemmas.List.{length-set}
use Rattle.std.proofs.lemmas.Option.{slice_get_within}
use Rattle.pv_model.specs.Plain.{PlainPart, PlainParts, no_parts, part}
use Rattle.pv_dtd.specs.Plain.{PlainDtd, parts_in, parts_in_models}
use Rattle.pv_rules.specs.Numbering.{Numbered, numbered_models, rest_at}
use Rattle.pv_rules.proofs.Facts.{parts_by_number}
use Rattle.pv_rules.proofs.FlatKinds.{IsNoRest}
use Rattle.pv_rules.proofs.Members.{some_part}
use Rattle.pv_reach.specs.Columns.{part_column}
use Rattle.pv_reach.specs.ReachedPlaces.{AreRests, past_column, past_members, past_rest}
use Rattle.pv_reach.specs.Merging.{column_head}
use Rattle.pv_reach.specs.Tables.{IsTable, onward, past}
use Rattle.pv_reach.specs.declared.tables.ends.Ends.{Ends}

module _ (g : PlainDtd) (e : Ends) where
  abbrev places : ℕ
  places = suc (length e.word.items)

  rest_number : (q : ℕ) (ps : PlainParts) → rest_at g q ≡ Some ps → q < parts_in_models g.models
  rest_number q ps h = let a = number_case (slice_get (numbered_models g.models) q) refl h in let b = (parts_by_number g).counted in omega arith
    where
      number_case : (o : Option Numbered) → slice_get (numbered_models g.models) q ≡ o → option_and_then (λ (n : Numbered). n.rest) o ≡ Some ps → q < length (numbered_models g.models)
      number_case None e f = absurd cc
      number_case (Some n) e f = slice_get_within (numbered_models g.models) q n e

  pub rests_none : (rests : List ℕ) (n : ℕ) → n ≡ parts_in_models g.models → length rests ≡ n * places → AreRests g e rests n
  rests_none rests n z long = record {
    long = rw (← z) long;
    holds = λ q i ps le h k. absurd (let a = rest_number q ps h in omega arith);
  }

  -- the rows after part n are filled, and its own up to a place
  pub record IsFilled (rests : List ℕ) (n from : ℕ) : Type 0 where
    pub behind : AreRests g e rests (suc n)
    pub row : (i : ℕ) (ps : PlainParts) → i < from → rest_at g n ≡ Some ps → past_rest e rests n i ≡ past_members g e n ps i

  module _ (rests : List ℕ) (n from v : ℕ) (lt : n < parts_in_models g.models) (le : from ≤ length e.word.items) (is : IsFilled rests n from) where
    at : ℕ
    at = n * places + from

    in_rests : n * places + from < length rests
    in_rests = let a = is.behind.long in let b = mul-le-mul_right places lt in omega (arith, a, b)

    other_row : (q i : ℕ) → suc n ≤ q → q * places + i ≢ n * places + from
    other_row q i less z = let b = mul-le-mul_right places less in omega (arith, b, z)

    pub filled_more : ((ps : PlainParts) → rest_at g n ≡ Some ps → v ≡ past_members g e n ps from) → (next : ℕ) → next ≡ suc from → IsFilled (set rests (n * places + from) v) n next
    filled_more value next z = record {
      behind = record {
        long = rw length-set is.behind.long;
        holds = λ q i ps less h k. let ne = other_row q i less in rw get_or-set_other (is.behind.holds q i ps less h k);
      };
      row = λ i ps less h. row_case i ps h (omega arith) (cases_lt i from);
    }
      where
        row_case : (i : ℕ) (ps : PlainParts) → rest_at g n ≡ Some ps → i < suc from → (i < from) ⊎ (from ≤ i) → past_rest e (set rests (n * places + from) v) n i ≡ past_members g e n ps i
        row_case i ps h less (inl before) = let ne : n * places + i ≢ n * places + from = λ z. omega arith in rw get_or-set_other (is.row i ps before h)
        row_case i ps h less (inr ge) =
            let z : from ≡ i = omega arith in
            let P : ℕ → Type 0 = λ k. past_rest e (set rests (n * places + from) v) n k ≡ past_members g e n ps k in
            let inside = in_rests in
            subst P z (rw get_or-set_same (value ps h))

  pub filled_row : (rests : List ℕ) (n k : ℕ) → k ≡ suc (length e.word.items) → IsFilled rests n k → AreRests g e rests n
  filled_row rests n k z is = record {
    long = is.behind.long;
    holds = λ q i ps le h less. holds_case q i ps h less le (cases_lt n q);
  }
    where
      holds_case : (q i : ℕ) (ps : PlainParts) → rest_at g q ≡ Some ps → i ≤ length e.word.items → n ≤ q → (n < q) ⊎ (q ≤ n) → past_rest e rests q i ≡ past_members g e q ps i
      holds_case q i ps h less le (inl behind) = is.behind.holds q i ps behind h less
      holds_case q i ps h less le (inr ge) =
          let y : n ≡ q = omega arith in
          let P : ℕ → Type 0 = λ m. rest_at g m ≡ Some ps → past_rest e rests m i ≡ past_members g e m ps i in
          subst P y (λ s. is.row i ps (omega arith) s) h

  -- no members lead nowhere
  pub past_outside : (q i : ℕ) (ps : PlainParts) → IsNoRest (rest_at g q) → rest_at g q ≡ Some ps → 0 ≡ past_members g e q ps i
  past_outside q i no_parts n h = refl
  past_outside q i (part p ps) n h = absurd (rw h at n)

  -- the members from one on lead where the last of them does, or where those after it lead from there
  module _ (q i : ℕ) (named : e.names ≡ length g.names) where
    pub past_last : (p : PlainPart) (ps : PlainParts) → rest_at g q ≡ Some (part p no_parts) → rest_at g q ≡ Some ps → past_column e (e.names + q) i ≡ past_members g e q ps i
    past_last p ps h s =
        let z : part p no_parts ≡ ps = cc in
        let P : PlainParts → Type 0 = λ v. past_column e (e.names + q) i ≡ past_members g e q v i in
        subst P z (rw named (one_told (past_column e (part_column g q) i)))
      where
        one_told : (v : ℕ) → v ≡ onward v (past e.width e.table.items [])
        one_told zero = refl
        one_told (suc k) = refl

    pub past_none : (p r : PlainPart) (rs ps : PlainParts) → rest_at g q ≡ Some (part p (part r rs)) → rest_at g q ≡ Some ps → past_column e (e.names + q) i ≡ 0 → 0 ≡ past_members g e q ps i
    past_none p r rs ps h s n =
        let z : part p (part r rs) ≡ ps = cc in
        let P : PlainParts → Type 0 = λ v. 0 ≡ past_members g e q v i in
        let y : past_column e (part_column g q) i ≡ 0 = (let Q : ℕ → Type 0 = λ m. past_column e (m + q) i ≡ 0 in subst Q named n) in
        subst P z (rw y refl)

    pub past_more : (p r : PlainPart) (rs ps : PlainParts) (k : ℕ) (rests : List ℕ) → rest_at g q ≡ Some (part p (part r rs)) → rest_at g q ≡ Some ps → past_column e (e.names + q) i ≡ suc k →
        IsTable e.word.items e.width e.table.items → AreRests g e rests (suc q) → past_rest e rests (q + parts_in p) k ≡ past_members g e q ps i
    past_more p r rs ps k rests h s n table are =
        let z : part p (part r rs) ≡ ps = cc in
        let P : PlainParts → Type 0 = λ v. past_rest e rests (q + parts_in p) k ≡ past_members g e q v i in
        let y : past_column e (part_column g q) i ≡ suc k = (let Q : ℕ → Type 0 = λ m. past_column e (m + q) i ≡ suc k in subst Q named n) in
        let b = table.bounded (i * e.width + column_head e.heads.items (part_column g q)) in
        let l = some_part p in
        subst P z (rw y (are.holds (q + parts_in p) k (part r rs) (omega arith) ((parts_by_number g).next q p r rs h) (omega arith)))
