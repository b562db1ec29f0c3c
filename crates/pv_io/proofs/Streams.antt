-- Bytes of an input and of an output, taken and written piece by piece.
use Rattle.std.proofs.Common.{◌≡◌, ◌≤◌, ◌+◌, ℕ, true, false, List, [], ◌++◌, length, take, drop}
use Rattle.std.proofs.Common.{Option, Some, None, refl, sym, ap, ◌∙◌, append_assoc, arith}
use Rattle.std.proofs.Math.Seq.{take-append-add, take-append_seam}
use Rattle.std.proofs.lemmas.Grind.{common_steps}
use Rattle.std.specs.Io.KnownBytes.{Appends, Consumes, IsAtEnd, Keeps}
use Rattle.pv_io.specs.Causes.{AppendsFront}

-- ---- an input
pub consumes_more : (old mid new : Option (List ℕ)) (before piece : List ℕ) →
    Consumes old mid before → Consumes mid new piece → Consumes old new (before ++ piece)
consumes_more None mid new before piece p q = tt
consumes_more (Some o) None new before piece p q = absurd p
consumes_more (Some o) (Some m) None before piece p q = absurd q
consumes_more (Some o) (Some m) (Some n) before piece p q =
    p ∙ ap (λ h. before ++ h) q ∙ sym (append_assoc before piece n)

pub consumes_none : (old : Option (List ℕ)) → Consumes old old []
consumes_none None = tt
consumes_none (Some o) = refl

-- a failed call takes nothing
pub consumes_kept : (old mid new : Option (List ℕ)) (before : List ℕ) → Consumes old mid before →
    Keeps mid new → Consumes old new before
consumes_kept None mid new before p q = tt
consumes_kept (Some o) None new before p q = absurd p
consumes_kept (Some o) (Some m) None before p q = absurd q
consumes_kept (Some o) (Some m) (Some n) before p q = p ∙ ap (λ h. before ++ h) (sym q)

-- what a buffer holds after its front was written, where all of it was
pub piece_kept : (buf items : List ℕ) (n : ℕ) → length buf ≡ n →
    take n (buf ++ drop (length buf) items) ≡ buf
piece_kept buf items n is = rw (← is) (take-append_seam buf (drop (length buf) items))

false_is_no_true : false ≡ true → ⊥
false_is_no_true is = cc

-- where the end of the input wasn't reached
pub not_at_end : (left : Option (List ℕ)) → false ≡ true → IsAtEnd left
not_at_end left is = absurd (false_is_no_true is)

-- ---- an output
pub append_none : (xs ys : List ℕ) → ys ≡ [] → xs ++ ys ≡ xs
append_none xs ys is = grind (arith, common_steps)

-- a front of the bytes after what was appended is a front of all
pub front_behind : (old mid new : Option (List ℕ)) (done piece : List ℕ) → Appends old mid done →
    AppendsFront mid new piece → AppendsFront old new (done ++ piece)
front_behind None mid new done piece before front = (0, omega arith, tt)
front_behind (Some o) None new done piece before front = absurd before
front_behind (Some o) (Some m) None done piece before front = absurd front.2
front_behind (Some o) (Some m) (Some w) done piece before front =
    let taken = take-append-add done piece front.0 in (
      length done + front.0,
      grind (arith, common_steps, front.1),
      front.2
          ∙ ap (λ h. h ++ take front.0 piece) before ∙ append_assoc o done (take front.0 piece)
          ∙ ap (λ h. o ++ h) (sym taken),
    )

pub appends_behind : (old mid new : Option (List ℕ)) (done piece : List ℕ) → Appends old mid done →
    Appends mid new piece → Appends old new (done ++ piece)
appends_behind None mid new done piece before after = tt
appends_behind (Some o) None new done piece before after = absurd before
appends_behind (Some o) (Some m) None done piece before after = absurd after
appends_behind (Some o) (Some m) (Some w) done piece before after =
    grind (arith, common_steps, before, after)

pub appends_none : (old : Option (List ℕ)) → Appends old old []
appends_none None = tt
appends_none (Some o) = grind (arith, common_steps)

-- a front, and of what comes after it nothing
pub front_before : (old new : Option (List ℕ)) (piece more : List ℕ) → AppendsFront old new piece →
    AppendsFront old new (piece ++ more)
front_before None new piece more front = (0, omega arith, tt)
front_before (Some o) None piece more front = absurd front.2
front_before (Some o) (Some w) piece more front =
    let within = front.1 in
    (front.0, grind (arith, common_steps, within), grind (arith, common_steps, within, front.2))
