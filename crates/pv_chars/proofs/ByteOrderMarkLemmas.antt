-- The byte order mark of a text: it has one, or none, and what stands after it is one only.
use Rattle.std.proofs.Common.{◌≡◌, ℕ, List, [], Option, Some, None, refl, sym, ap, ◌∙◌}
use Rattle.pv_chars.specs.Scan.{after_bytes}
use Rattle.pv_chars.specs.ByteOrderMark.{BYTE_ORDER_MARK, TakesByteOrderMark, marked, unmarked, IsBehindByteOrderMark}
use Rattle.pv_chars.proofs.TextScans.{after_bytes_takes, after_bytes-append}

pub same_byte_order_mark : (bytes mark rest other more : List ℕ) → TakesByteOrderMark bytes mark rest →
    TakesByteOrderMark bytes other more → (mark ≡ other) × (rest ≡ more)
same_byte_order_mark bytes mark rest other more (marked e) (marked f) =
    let found : Some rest ≡ Some more =
    sym (after_bytes-append BYTE_ORDER_MARK rest) ∙ ap (after_bytes BYTE_ORDER_MARK) (sym e ∙ f) ∙
    after_bytes-append BYTE_ORDER_MARK more in
    (refl, same_some rest more found)
  where
    same_some : (x y : List ℕ) → Some x ≡ Some y → x ≡ y
    same_some x y e = cc
same_byte_order_mark bytes mark rest other more (marked e) (unmarked none) = absurd (none rest e)
same_byte_order_mark bytes mark rest other more (unmarked none) (marked f) = absurd (none more f)
same_byte_order_mark bytes mark rest other more (unmarked none) (unmarked others) = (refl, refl)

behind : (bytes : List ℕ) (o : Option (List ℕ)) → after_bytes BYTE_ORDER_MARK bytes ≡ o →
    (rest : List ℕ) × IsBehindByteOrderMark bytes rest
behind bytes (Some rest) is = (rest, (BYTE_ORDER_MARK, marked (after_bytes_takes BYTE_ORDER_MARK bytes rest is)))
behind bytes None is = (
  bytes,
  (
    [],
    unmarked (λ other w.
        let some = after_bytes-append BYTE_ORDER_MARK other in
        let at = ap (after_bytes BYTE_ORDER_MARK) w in cc),
  ),
)

-- something stands after it
pub some_behind : (bytes : List ℕ) → (rest : List ℕ) × IsBehindByteOrderMark bytes rest
some_behind bytes = behind bytes (after_bytes BYTE_ORDER_MARK bytes) refl
