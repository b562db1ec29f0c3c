-- The lines of a pack at the front of some bytes.
use Rattle.std.proofs.Common.{◌≡◌, ◌≢◌, ◌≤◌, ◌<◌, ℕ, List, ◌∷◌, ◌++◌, length, drop, refl, ap, ◌∙◌}
use Rattle.std.proofs.Common.{append_assoc, arith, decimal, codes, Some, None, true}
use Rattle.std.proofs.lemmas.List.{length-append}
use Rattle.std.proofs.Math.Seq.{drop-append_seam}
use Rattle.pv_words.specs.Numbers.{MAX_NUMBER}
use Rattle.pv_words.specs.Paths.{path_text, path_spelled}
use Rattle.pv_words.specs.Words.{with_feed}
use Rattle.pv_words.proofs.PathWords.{path-free, path-word, path_spelled-path_text}
use Rattle.pv_cert.specs.Fronts.{Begins, BeginsNone}
use Rattle.pv_words.specs.Fronts.{IsLineOf, IsNumberLine, has_no_feed}
use Rattle.pv_cert.specs.Lines.{body_line, list_line}
use Rattle.pv_cert.specs.Meaning.{MAX_PACK_BYTES}
use Rattle.pv_words.proofs.Cuts.{feed-behind, number-is-line, one-line-of, SameNumber, same-decimal}

pub one-number-line : (word : List ℕ) (most : ℕ) (bytes : List ℕ) (n m : ℕ) (x y : List ℕ) →
    has_no_feed word ≡ true → most ≤ MAX_NUMBER → IsNumberLine word most bytes n x →
    IsNumberLine word most bytes m y →
    SameNumber n m x y
one-number-line word most bytes n m x y test small one other =
    let same = one-line-of word bytes (decimal n) x (decimal m) y test (number-is-line word most bytes n x small one) (number-is-line word most bytes m y small other) in
    record { numbers = same-decimal n m (omega (arith, one.within)) (omega (arith, other.within)) same.fronts; rests = same.rests }

-- the line that tells a body's length
pub body-front : (bytes b rest : List ℕ) → length bytes ≤ MAX_PACK_BYTES → Begins bytes (body_line b) rest → IsNumberLine (codes "body ") MAX_NUMBER bytes (length b) (b ++ (10 ∷ rest))
body-front bytes b rest few begins =
    let front = with_feed (codes "body " ++ decimal (length b)) in
    let e : bytes ≡ front ++ (with_feed b ++ rest) = begins.whole ∙ append_assoc front (with_feed b) rest in
    let whole : bytes ≡ front ++ (b ++ (10 ∷ rest)) = e ∙ ap (λ l. front ++ l) (feed-behind b rest) in
    record {
      within = omega (arith, ap length whole, length-append front (b ++ (10 ∷ rest)), length-append b (10 ∷ rest), few);
      whole = whole;
    }

pub short-body : (bytes : List ℕ) (n : ℕ) (behind : List ℕ) → length bytes ≤ MAX_PACK_BYTES → IsNumberLine (codes "body ") MAX_NUMBER bytes n behind → length behind < n → BeginsNone body_line bytes
short-body bytes n behind few line short b rest begins =
    let same = one-number-line (codes "body ") MAX_NUMBER bytes n (length b) behind (b ++ (10 ∷ rest)) refl (omega arith) line (body-front bytes b rest few begins) in
    omega (arith, same.numbers, ap length same.rests, length-append b (10 ∷ rest), short)

pub open-body : (bytes : List ℕ) (n : ℕ) (behind : List ℕ) → length bytes ≤ MAX_PACK_BYTES →
    IsNumberLine (codes "body ") MAX_NUMBER bytes n behind →
    ((r : List ℕ) → drop n behind ≢ codes "\n" ++ r) → BeginsNone body_line bytes
open-body bytes n behind few line none b rest begins =
    let same = one-number-line (codes "body ") MAX_NUMBER bytes n (length b) behind (b ++ (10 ∷ rest)) refl (omega arith) line (body-front bytes b rest few begins) in
    none rest (ap (λ k. drop k behind) same.numbers ∙ ap (λ l. drop (length b) l) same.rests ∙ drop-append_seam b (10 ∷ rest))

-- the line of a path
list-front : (bytes path rest : List ℕ) → Begins bytes (list_line path) rest → IsLineOf (codes "list ") bytes (path_text path) rest
list-front bytes path rest begins = record { no_feed = path-free 10 path (omega arith) begins.in_range; whole = begins.whole }

pub no-list : (bytes : List ℕ) → ((args rest : List ℕ) → IsLineOf (codes "list ") bytes args rest → ⊥) → BeginsNone list_line bytes
no-list bytes none path rest begins = none (path_text path) rest (list-front bytes path rest begins)

pub other-list : (bytes word after : List ℕ) → IsLineOf (codes "list ") bytes word after → path_spelled word ≡ None → BeginsNone list_line bytes
other-list bytes word after line none path rest begins =
    let same = one-line-of (codes "list ") bytes word after (path_text path) rest refl line (list-front bytes path rest begins) in
    let read = path_spelled-path_text path begins.in_range in
    let these = ap path_spelled same.fronts in
    cc

pub begins-list : (bytes word after path : List ℕ) → IsLineOf (codes "list ") bytes word after → path_spelled word ≡ Some path → Begins bytes (list_line path) after
begins-list bytes word after path line is =
    let p = path-word word path is in
    record { in_range = p.within; whole = line.whole ∙ ap (λ l. with_feed (codes "list " ++ l) ++ after) p.text }
