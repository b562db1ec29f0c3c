-- Bytes cut at the first blank, or at dots.
use Rattle.std.proofs.Common.{◌≡◌, ℕ, List, [], ◌∷◌, ◌++◌, Option, Some, None, Bool, true, false, nat_eq, refl, ap, ◌∙◌, arith}
use Rattle.std.specs.List.{AllByRecursion}
use Rattle.std.specs.Option.{option_map, MatchOption}
use Rattle.pv_chars.specs.Fronts.{ContainsBytes, EndsAt}
use Rattle.pv_words.specs.Lines.{with_first_byte}
use Rattle.pv_words.specs.Words.{with_byte_in_front, first_word}
use Rattle.pv_words.specs.Paths.{between_dots}

-- none of these bytes is this one
abbrev pub Free : ℕ → List ℕ → Type 0
Free d bytes = AllByRecursion (λ b. b ≡ d → ⊥) bytes

pub Free-append : (d : ℕ) (xs ys : List ℕ) → Free d xs → Free d ys → Free d (xs ++ ys)
Free-append d [] ys f g = g
Free-append d (x ∷ xs) ys f g = (f.0, Free-append d xs ys f.1 g)

pub not-eq : (b d : ℕ) → (b ≡ d → ⊥) → nat_eq b d ≡ false
not-eq b d other = grind arith

pub ends-free : (d : ℕ) (before after bytes : List ℕ) → EndsAt (d ∷ []) bytes before after → Free d before
ends-free d [] after bytes e = tt
ends-free d (x ∷ xs) after bytes e = (
  λ same. let none = e.first [] (xs ++ (d ∷ after)) (e.whole ∙ ap (λ y. y ∷ (xs ++ (d ∷ after))) same) in absurd (omega arith),
  ends-free d xs after (xs ++ (d ∷ after)) record {
    whole = refl;
    first = λ other more is. let less = e.first (x ∷ other) more (e.whole ∙ ap (λ l. x ∷ l) is) in omega arith;
  },
)

pub none-free : (d : ℕ) (bytes : List ℕ) → (ContainsBytes bytes (d ∷ []) → ⊥) → Free d bytes
none-free d [] none = tt
none-free d (b ∷ bs) none = (
  λ same. none record { before = []; after = bs; whole = ap (λ y. y ∷ bs) same },
  none-free d bs (λ h. none record { before = b ∷ h.before; after = h.after; whole = ap (λ l. b ∷ l) h.whole }),
)

pub first_word-free : (word rest : List ℕ) → Free 32 word → first_word (word ++ (32 ∷ rest)) ≡ Some (word, rest)
first_word-free [] rest free = refl
first_word-free (b ∷ bs) rest free = rw (not-eq b 32 free.0) (ap (option_map (with_byte_in_front b)) (first_word-free bs rest free.1))

pub first_word-none : (bytes : List ℕ) → Free 32 bytes → first_word bytes ≡ None
first_word-none [] free = refl
first_word-none (b ∷ bs) free = rw (not-eq b 32 free.0) (ap (option_map (with_byte_in_front b)) (first_word-none bs free.1))

pub between_dots-dot : (word rest : List ℕ) → Free 46 word → between_dots (word ++ (46 ∷ rest)) ≡ word ∷ between_dots rest
between_dots-dot [] rest free = refl
between_dots-dot (b ∷ bs) rest free = rw (not-eq b 46 free.0) (ap (with_first_byte b) (between_dots-dot bs rest free.1))

pub between_dots-free : (word : List ℕ) → Free 46 word → between_dots word ≡ word ∷ []
between_dots-free [] free = refl
between_dots-free (b ∷ bs) free = rw (not-eq b 46 free.0) (ap (with_first_byte b) (between_dots-free bs free.1))

-- the bytes are a word, a blank and what stands after it
pub record IsCut (bytes word rest : List ℕ) : Type 0 where
  pub whole : bytes ≡ word ++ (32 ∷ rest)

abbrev front_of : Option (List ℕ × List ℕ) → List ℕ
front_of None = []
front_of (Some cut) = cut.0

abbrev back_of : Option (List ℕ × List ℕ) → List ℕ
back_of None = []
back_of (Some cut) = cut.1

cut-by : (b : ℕ) (bs : List ℕ) (blank : Bool) (o : Option (List ℕ × List ℕ)) → nat_eq b 32 ≡ blank → first_word bs ≡ o →
    ((word rest : List ℕ) → first_word bs ≡ Some (word, rest) → bs ≡ word ++ (32 ∷ rest)) →
    (word rest : List ℕ) → first_word (b ∷ bs) ≡ Some (word, rest) → b ∷ bs ≡ word ++ (32 ∷ rest)
cut-by b bs true o is at below word rest found =
    let same : b ≡ 32 = grind arith in
    let these : Some ([], bs) ≡ Some (word, rest) = rw is at found in
    let none : [] ≡ word = ap front_of these in
    let all : bs ≡ rest = ap back_of these in
    rw (← none) (λ i. same i ∷ all i)
cut-by b bs false None is at below word rest found = let these = rw (is, at) at found in cc
cut-by b bs false (Some (w, r)) is at below word rest found =
    let these : Some (b ∷ w, r) ≡ Some (word, rest) = rw (is, at) at found in
    let whole = below w r at in
    let front : b ∷ w ≡ word = ap front_of these in
    let back : r ≡ rest = ap back_of these in
    rw (← front, ← back) (ap (λ l. b ∷ l) whole)

pub first_word-whole : (bytes word rest : List ℕ) → first_word bytes ≡ Some (word, rest) → bytes ≡ word ++ (32 ∷ rest)
first_word-whole [] word rest found = cc
first_word-whole (b ∷ bs) word rest found = cut-by b bs (nat_eq b 32) (first_word bs) refl refl (first_word-whole bs) word rest found

-- each of these after a dot
abbrev pub behind_dots : List (List ℕ) → List ℕ
behind_dots [] = []
behind_dots (word ∷ words) = 46 ∷ (word ++ behind_dots words)

-- the first piece, and the others after dots
pub record IsInPieces (bytes : List ℕ) : Type 0 where
  pub first : List ℕ
  pub others : List (List ℕ)
  pub pieces : between_dots bytes ≡ first ∷ others
  pub whole : bytes ≡ first ++ behind_dots others

pieces-by : (b : ℕ) (bs : List ℕ) (dot : Bool) → nat_eq b 46 ≡ dot → IsInPieces bs → IsInPieces (b ∷ bs)
pieces-by b bs true is p =
    let same : b ≡ 46 = grind arith in
    record { first = []; others = p.first ∷ p.others; pieces = rw (is, p.pieces) refl; whole = λ i. same i ∷ p.whole i }
pieces-by b bs false is p =
    record { first = b ∷ p.first; others = p.others; pieces = rw (is, p.pieces) refl; whole = ap (λ l. b ∷ l) p.whole }

pub in-pieces : (bytes : List ℕ) → IsInPieces bytes
in-pieces [] = record { first = []; others = []; pieces = refl; whole = refl }
in-pieces (b ∷ bs) = pieces-by b bs (nat_eq b 46) refl (in-pieces bs)

-- what a search for the first blank gives, by what its answer points to
pub first_word-found : {X : Type 0} (before after : X → List ℕ) (bytes : List ℕ) (r : Option X) →
    MatchOption r (ContainsBytes bytes (32 ∷ []) → ⊥) (λ x. EndsAt (32 ∷ []) bytes (before x) (after x)) →
    MatchOption r (first_word bytes ≡ None) (λ x. first_word bytes ≡ Some (before x, after x))
first_word-found before after bytes None none = first_word-none bytes (none-free 32 bytes none)
first_word-found before after bytes (Some x) at =
    ap first_word at.whole ∙ first_word-free (before x) (after x) (ends-free 32 (before x) (after x) bytes at)
