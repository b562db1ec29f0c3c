-- A line is cut at its first LF, and a word at its first blank, in one way.
use Rattle.std.proofs.Common.{◌≡◌, ◌≢◌, ◌≤◌, ◌<◌, ℕ, List, [], ◌∷◌, ◌++◌, true, false, not, length, refl, sym, ap, ◌∙◌, append_assoc, arith, nat_eq, decimal, Some, None}
use Rattle.std.proofs.lemmas.Bool.{and_parts}
use Rattle.std.proofs.lemmas.Bool.Decides.{nat_tests}
use Rattle.std.proofs.lemmas.List.{append_cancel_left, length-append}
use Rattle.pv_chars.specs.Fronts.{ContainsBytes, EndsAt}
use Rattle.pv_words.specs.Numbers.{IsNumberBefore, MAX_NUMBER, number_spelled}
use Rattle.pv_words.specs.Words.{with_feed}
use Rattle.pv_words.proofs.NumberWords.{decimal-free, number_spelled-decimal}
use Rattle.pv_words.proofs.FirstWords.{Free, Free-append, ends-free}
use Rattle.pv_words.specs.Fronts.{IsLineOf, IsNumberLine, has_no_feed}

-- one front, and what stands after it
pub record AreSame (a b x y : List ℕ) : Type 0 where
  pub fronts : a ≡ b
  pub rests : x ≡ y

pub cut-once : (d : ℕ) (a b x y : List ℕ) → Free d a → Free d b → a ++ (d ∷ x) ≡ b ++ (d ∷ y) → AreSame a b x y
cut-once d [] [] x y f g is = record { fronts = refl; rests = cc }
cut-once d [] (b ∷ bs) x y f g is = let same : b ≡ d = cc in absurd (g.0 same)
cut-once d (a ∷ us) [] x y f g is = let same : a ≡ d = cc in absurd (f.0 same)
cut-once d (a ∷ us) (b ∷ bs) x y f g is =
    let first : a ≡ b = cc in
    let others : us ++ (d ∷ x) ≡ bs ++ (d ∷ y) = cc in
    let below = cut-once d us bs x y f.1 g.1 others in
    record { fronts = λ i. first i ∷ below.fronts i; rests = below.rests }

-- numbers before a blank are the same
pub record SameNumber (n m : ℕ) (x y : List ℕ) : Type 0 where
  pub numbers : n ≡ m
  pub rests : x ≡ y

pub same-decimal : (n m : ℕ) → n ≤ MAX_NUMBER → m ≤ MAX_NUMBER → decimal n ≡ decimal m → n ≡ m
same-decimal n m small tiny is =
    let one = number_spelled-decimal n small in
    let other = number_spelled-decimal m tiny in
    let these = ap number_spelled is in
    cc

pub one-number-before : (bytes : List ℕ) (n m : ℕ) (x y : List ℕ) → IsNumberBefore bytes n x → IsNumberBefore bytes m y → SameNumber n m x y
one-number-before bytes n m x y one other =
    let same = cut-once 32 (decimal n) (decimal m) x y (decimal-free 32 n (omega arith) one.within) (decimal-free 32 m (omega arith) other.within) (sym one.whole ∙ other.whole) in
    record { numbers = same-decimal n m one.within other.within same.fronts; rests = same.rests }

-- a line with its LF, and what stands after
pub feed-behind : (line rest : List ℕ) → with_feed line ++ rest ≡ line ++ (10 ∷ rest)
feed-behind line rest = append_assoc line (10 ∷ []) rest

-- what a search for a byte found is the one cut
pub ends-once : (d : ℕ) (bytes before after a x : List ℕ) → EndsAt (d ∷ []) bytes before after → Free d a → bytes ≡ a ++ (d ∷ x) → AreSame before a after x
ends-once d bytes before after a x at free is = cut-once d before a after x (ends-free d before after bytes at) free (sym at.whole ∙ is)

pub holds-none : (d : ℕ) (bytes a x : List ℕ) → (ContainsBytes bytes (d ∷ []) → ⊥) → bytes ≡ a ++ (d ∷ x) → ⊥
holds-none d bytes a x none is = none record { before = a; after = x; whole = is }

pub free-by-test : (bytes : List ℕ) → has_no_feed bytes ≡ true → Free 10 bytes
free-by-test [] e = tt
free-by-test (b ∷ bs) e =
    let parts = and_parts (not (nat_eq b 10)) (has_no_feed bs) e in
    (λ same. let eq : nat_eq b 10 ≡ true = grind (arith, nat_tests) in let no : true ≡ false = cc in cc, free-by-test bs parts.1)

pub free-front : (d : ℕ) (a b : List ℕ) → Free d (a ++ b) → Free d b
free-front d [] b f = f
free-front d (x ∷ xs) b f = free-front d xs b f.1

-- the line at the front goes on with this after the word
pub line-of : (word bytes line args rest : List ℕ) → EndsAt (10 ∷ []) bytes line rest → line ≡ word ++ args → IsLineOf word bytes args rest
line-of word bytes line args rest at is = record {
  no_feed = free-front 10 word args (rw (← is) (ends-free 10 line rest bytes at));
  whole = at.whole ∙ sym (feed-behind line rest) ∙ ap (λ l. with_feed l ++ rest) is;
}

pub no-line : (word bytes : List ℕ) → (ContainsBytes bytes (10 ∷ []) → ⊥) → (args rest : List ℕ) → IsLineOf word bytes args rest → ⊥
no-line word bytes none args rest l = holds-none 10 bytes (word ++ args) rest none (l.whole ∙ feed-behind (word ++ args) rest)

pub other-word : (word bytes line after : List ℕ) → has_no_feed word ≡ true → EndsAt (10 ∷ []) bytes line after → ((r : List ℕ) → line ≢ word ++ r) →
    (args rest : List ℕ) → IsLineOf word bytes args rest → ⊥
other-word word bytes line after test at none args rest l =
    let free = Free-append 10 word args (free-by-test word test) l.no_feed in
    none args (ends-once 10 bytes line after (word ++ args) rest at free (l.whole ∙ feed-behind (word ++ args) rest)).fronts

-- a number's line is a line of its word
pub number-is-line : (word : List ℕ) (most : ℕ) (bytes : List ℕ) (n : ℕ) (rest : List ℕ) → most ≤ MAX_NUMBER → IsNumberLine word most bytes n rest → IsLineOf word bytes (decimal n) rest
number-is-line word most bytes n rest small l = record { no_feed = decimal-free 10 n (omega arith) (omega (arith, l.within)); whole = l.whole }

pub one-line-of : (word bytes args rest more behind : List ℕ) → has_no_feed word ≡ true → IsLineOf word bytes args rest → IsLineOf word bytes more behind → AreSame args more rest behind
one-line-of word bytes args rest more behind test one other =
    let free = free-by-test word test in
    let same = cut-once 10 (word ++ args) (word ++ more) rest behind (Free-append 10 word args free one.no_feed) (Free-append 10 word more free other.no_feed)
    (sym (feed-behind (word ++ args) rest) ∙ sym one.whole ∙ other.whole ∙ feed-behind (word ++ more) behind) in
    record { fronts = append_cancel_left word args more same.fronts; rests = same.rests }

-- the digits aren't those of a number
pub no-number-line : (word : List ℕ) (most : ℕ) (bytes digits rest : List ℕ) → has_no_feed word ≡ true → most ≤ MAX_NUMBER → IsLineOf word bytes digits rest → number_spelled digits ≡ None →
    (n : ℕ) (behind : List ℕ) → IsNumberLine word most bytes n behind → ⊥
no-number-line word most bytes digits rest test small line none n behind l =
    let same = one-line-of word bytes digits rest (decimal n) behind test line (number-is-line word most bytes n behind small l) in
    let read = number_spelled-decimal n (omega (arith, l.within)) in
    let these = ap number_spelled same.fronts in
    cc

-- the number is past the most
pub past-number-line : (word : List ℕ) (most : ℕ) (bytes digits rest : List ℕ) (m : ℕ) →
    has_no_feed word ≡ true → most ≤ MAX_NUMBER → IsLineOf word bytes digits rest →
    number_spelled digits ≡ Some m → most < m →
    (n : ℕ) (behind : List ℕ) → IsNumberLine word most bytes n behind → ⊥
past-number-line word most bytes digits rest m test small line is past n behind l =
    let same = one-line-of word bytes digits rest (decimal n) behind test line (number-is-line word most bytes n behind small l) in
    let read = number_spelled-decimal n (omega (arith, l.within)) in
    let these = ap number_spelled same.fronts in
    let equal : m ≡ n = cc in
    omega (arith, l.within, equal)

pub shorter : (word bytes args rest : List ℕ) → IsLineOf word bytes args rest → length rest < length bytes
shorter word bytes args rest l =
    let e = ap length (l.whole ∙ feed-behind (word ++ args) rest) in
    omega (arith, e, length-append (word ++ args) (10 ∷ rest))
