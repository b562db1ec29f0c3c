-- The head of a file.
use Rattle.std.proofs.Common.{◌≡◌, inl, inr, ℕ, List, [], ◌++◌, refl, sym, ap, ◌∙◌, append_assoc}
use Rattle.pv_chars.specs.ByteOrderMark.{TakesByteOrderMark, marked, unmarked, IsBehindByteOrderMark}
use Rattle.pv_params.specs.Spelling.{IsBehindTextDecl, HasHead}
use Rattle.pv_params.specs.ItemReading.{front_of}
use Rattle.pv_params.proofs.Runs.{front_is}

-- something stands before the rest
record Before (bytes rest : List ℕ) : Type 0 where
  text : List ℕ
  whole : bytes ≡ text ++ rest

pub mark_is_front : (bytes mark rest : List ℕ) → TakesByteOrderMark bytes mark rest → bytes ≡ mark ++ rest
mark_is_front bytes mark rest (marked e) = e
mark_is_front bytes mark rest (unmarked none) = refl

before_declaration : (bytes rest : List ℕ) → IsBehindTextDecl bytes rest → Before bytes rest
before_declaration bytes rest (inl b) = record { text = b.item; whole = b.whole }
before_declaration bytes rest (inr e) = record { text = []; whole = e.1 }

pub head_is : (bytes unmarked rest : List ℕ) → IsBehindByteOrderMark bytes unmarked → IsBehindTextDecl unmarked rest → HasHead bytes (front_of bytes rest) rest
head_is bytes behind rest mark declaration =
    let front_is_mark = mark_is_front bytes mark.0 behind mark.1 in
    let b = before_declaration behind rest declaration in
    let whole : bytes ≡ (mark.0 ++ b.text) ++ rest = front_is_mark ∙ ap (λ l. mark.0 ++ l) b.whole ∙ sym (append_assoc mark.0 b.text rest) in
    let front : front_of bytes rest ≡ mark.0 ++ b.text = ap (λ l. front_of l rest) whole ∙ front_is (mark.0 ++ b.text) rest in
    record { unmarked = behind; mark = mark; text_declaration = declaration; whole = whole ∙ ap (λ l. l ++ rest) (sym front) }
