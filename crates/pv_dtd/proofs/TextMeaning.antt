-- A text has exactly one meaning, its byte order mark and its length told.
use Rattle.std.proofs.Common.{◌≡◌, ◌≤◌, ◌<◌, ◌⊎◌, inl, inr, ℕ, suc, List, [], length, refl, subst, arith}
use Rattle.std.proofs.lemmas.Bool.{cases_lt}
use Rattle.pv_chars.proofs.ByteOrderMarkLemmas.{same_byte_order_mark, some_behind}
use Rattle.pv_dtd.specs.Facts.{MAX_DTD_BYTES}
use Rattle.pv_dtd.specs.Kinds.{limit}
use Rattle.pv_dtd.specs.Meaning.{Outcome, faulty, DtdRestMeans, DtdTextMeans, too_long, items}
use Rattle.pv_dtd.specs.Laws.{HasOneMeaning}
use Rattle.pv_dtd.proofs.OneMeaning.{same_meaning, meant}

pub same_text_meaning : (bytes : List ℕ) {o p : Outcome} → DtdTextMeans bytes o → DtdTextMeans bytes p → o ≡ p
same_text_meaning bytes (too_long a) (too_long b) = refl
same_text_meaning bytes (too_long a) (items few m n) = absurd (omega arith)
same_text_meaning bytes (items few m n) (too_long b) = absurd (omega arith)
same_text_meaning bytes {o} (items {rest} few m n) (items {rest = more} less k l) = same_meaning (subst (λ r. DtdRestMeans [] r o) (same_byte_order_mark bytes m.0 rest k.0 more m.1 k.1).1 n) l

some_meaning : (bytes : List ℕ) → (o : Outcome) × DtdTextMeans bytes o
some_meaning bytes = by (cases_lt MAX_DTD_BYTES (length bytes))
  where
    by : (MAX_DTD_BYTES < length bytes) ⊎ (length bytes ≤ MAX_DTD_BYTES) → (o : Outcome) × DtdTextMeans bytes o
    by (inl long) = (faulty limit 0, too_long long)
    by (inr short) =
        let behind = some_behind bytes in
        let some = meant (suc (length behind.0)) [] behind.0 (omega arith) in
        (some.outcome, items short behind.1 some.means)

pub one_meaning : (bytes : List ℕ) → HasOneMeaning bytes
one_meaning bytes = let some = some_meaning bytes in record { outcome = some.0; means = some.1; only = λ other m. same_text_meaning bytes m some.1 }
