-- Paths are read as they are written.
use Rattle.std.proofs.Common.{◌≡◌, ℕ, ◌<◌, List, [], ◌∷◌, ◌++◌, map, Option, Some, None, Bool, true, false, refl, sym, ap, ◌∙◌, append_assoc, arith, codes, decimal}
use Rattle.std.proofs.lemmas.Slice.Eq.{bytes_eq-Decides}
use Rattle.std.specs.Option.{option_map}
use Rattle.std.specs.Str.{bytes_eq}
use Rattle.pv_words.specs.Numbers.{AreNumbers, number_spelled}
use Rattle.pv_words.specs.Paths.{path_text, places_text, numbers_spelled, between_dots, path_spelled}
use Rattle.pv_words.proofs.NumberWords.{decimal-free, decimal-some, number_spelled-decimal, number-word}
use Rattle.pv_chars.specs.Fronts.{ContainsBytes, EndsAt}
use Rattle.pv_words.proofs.FirstWords.{Free, Free-append, ends-free, none-free, between_dots-dot, between_dots-free, behind_dots, IsInPieces, in-pieces}

pub numbers_spelled-decimals : (ns : List ℕ) → AreNumbers ns → numbers_spelled (map decimal ns) ≡ Some ns
numbers_spelled-decimals [] all = refl
numbers_spelled-decimals (n ∷ ns) all = rw (number_spelled-decimal n all.0, numbers_spelled-decimals ns all.1) refl

-- words are the digits of numbers
pub record AreNumberWords (words : List (List ℕ)) (ns : List ℕ) : Type 0 where
  pub digits : words ≡ map decimal ns
  pub within : AreNumbers ns

number-words-by : (word : List ℕ) (words : List (List ℕ)) (o : Option ℕ) (p : Option (List ℕ)) → number_spelled word ≡ o → numbers_spelled words ≡ p →
    ((ms : List ℕ) → numbers_spelled words ≡ Some ms → AreNumberWords words ms) → (ns : List ℕ) → numbers_spelled (word ∷ words) ≡ Some ns → AreNumberWords (word ∷ words) ns
number-words-by word words None p is are below ns found = let these = rw is at found in cc
number-words-by word words (Some n) None is are below ns found = let these = rw (is, are) at found in cc
number-words-by word words (Some n) (Some ms) is are below ns found =
    let these = rw (is, are) at found in
    let all : ns ≡ n ∷ ms = cc in
    let first = number-word word n is in
    let others = below ms are in
    rw all record { digits = λ i. first.digits i ∷ others.digits i; within = (first.within, others.within) }

pub number-words : (words : List (List ℕ)) (ns : List ℕ) → numbers_spelled words ≡ Some ns → AreNumberWords words ns
number-words [] ns found = let none : ns ≡ [] = cc in rw none record { digits = refl; within = tt }
number-words (word ∷ words) ns found = number-words-by word words (number_spelled word) (numbers_spelled words) refl refl (number-words words) ns found

behind_dots-decimals : (ns : List ℕ) → behind_dots (map decimal ns) ≡ places_text ns
behind_dots-decimals [] = refl
behind_dots-decimals (n ∷ ns) = ap (λ l. 46 ∷ (decimal n ++ l)) (behind_dots-decimals ns)

between_dots-places : (word : List ℕ) (ns : List ℕ) → Free 46 word → AreNumbers ns → between_dots (word ++ places_text ns) ≡ word ∷ map decimal ns
between_dots-places word [] free all = ap between_dots (whole word) ∙ between_dots-free word free
  where
    whole : (xs : List ℕ) → xs ++ [] ≡ xs
    whole [] = refl
    whole (x ∷ xs) = ap (λ l. x ∷ l) (whole xs)
between_dots-places word (n ∷ ns) free all =
    between_dots-dot word (decimal n ++ places_text ns) free ∙ ap (λ l. word ∷ l) (between_dots-places (decimal n) ns (decimal-free 46 n (omega arith) all.0) all.1)

pub path-free : (d : ℕ) (path : List ℕ) → d < 46 → AreNumbers path → Free d (path_text path)
path-free d [] low all = (λ e. absurd (omega arith), tt)
path-free d (n ∷ ns) low all = Free-append d (decimal n) (places_text ns) (decimal-free d n (omega arith) all.0) (places-free ns all.1)
  where
    places-free : (ms : List ℕ) → AreNumbers ms → Free d (places_text ms)
    places-free [] ok = tt
    places-free (m ∷ ms) ok = (λ e. absurd (omega arith), Free-append d (decimal m) (places_text ms) (decimal-free d m (omega arith) ok.0) (places-free ms ok.1))

starts-no-dot : (word rest : List ℕ) → Free 46 word → (word ≡ [] → ⊥) → bytes_eq (word ++ rest) (codes ".") ≡ false
starts-no-dot [] rest free some = absurd (some refl)
starts-no-dot (b ∷ bs) rest free some = let other = free.0 in grind arith

pub path_spelled-path_text : (path : List ℕ) → AreNumbers path → path_spelled (path_text path) ≡ Some path
path_spelled-path_text [] all = refl
path_spelled-path_text (n ∷ ns) all =
    let free = decimal-free 46 n (omega arith) all.0 in
    let other = starts-no-dot (decimal n) (places_text ns) free (decimal-some n all.0) in
    rw (other, between_dots-places (decimal n) ns free all.1) (numbers_spelled-decimals (n ∷ ns) all)

-- a word is a path
pub record IsPathWord (word : List ℕ) (path : List ℕ) : Type 0 where
  pub text : word ≡ path_text path
  pub within : AreNumbers path

path-in-pieces : (word : List ℕ) (path : List ℕ) → IsInPieces word → numbers_spelled (between_dots word) ≡ Some path → IsPathWord word path
path-in-pieces word [] p found =
    let numbers = number-words (p.first ∷ p.others) [] (rw p.pieces at found) in
    let never = numbers.digits in cc
path-in-pieces word (n ∷ ns) p found =
    let numbers = number-words (p.first ∷ p.others) (n ∷ ns) (rw p.pieces at found) in
    let digits = numbers.digits in
    let first : p.first ≡ decimal n = cc in
    let others : p.others ≡ map decimal ns = cc in
    record {
      text = p.whole ∙ (λ i. first i ++ behind_dots (others i)) ∙ ap (λ l. decimal n ++ l) (behind_dots-decimals ns);
      within = numbers.within;
    }

path-by : (word path : List ℕ) (dot : Bool) → bytes_eq word (codes ".") ≡ dot → path_spelled word ≡ Some path → IsPathWord word path
path-by word path true is found =
    let these = rw is at found in
    let none : path ≡ [] = cc in
    rw none record { text = (bytes_eq-Decides word (codes ".")).0 is; within = tt }
path-by word path false is found = path-in-pieces word path (in-pieces word) (rw is at found)

pub path-word : (word path : List ℕ) → path_spelled word ≡ Some path → IsPathWord word path
path-word word path found = path-by word path (bytes_eq word (codes ".")) refl found

pub path_spelled-pieces : (word : List ℕ) → bytes_eq word (codes ".") ≡ false → path_spelled word ≡ numbers_spelled (between_dots word)
path_spelled-pieces word other = rw other refl

pub between_dots-front : (bytes word rest : List ℕ) → EndsAt (46 ∷ []) bytes word rest → between_dots bytes ≡ word ∷ between_dots rest
between_dots-front bytes word rest at = ap between_dots at.whole ∙ between_dots-dot word rest (ends-free 46 word rest bytes at)

pub between_dots-last : (bytes : List ℕ) → (ContainsBytes bytes (46 ∷ []) → ⊥) → between_dots bytes ≡ bytes ∷ []
between_dots-last bytes none = between_dots-free bytes (none-free 46 bytes none)

-- a number more was read
pub more-places : (places : List ℕ) (n : ℕ) (all o : Option (List ℕ)) → all ≡ option_map (λ ns. places ++ ns) (option_map (λ ns. n ∷ ns) o) →
    all ≡ option_map (λ ns. (places ++ n ∷ []) ++ ns) o
more-places places n all None is = is
more-places places n all (Some ns) is = is ∙ ap Some (sym (append_assoc places (n ∷ []) ns))

-- the places read so far, and what the pieces of the rest give
abbrev pub AreReadOn : List ℕ → List ℕ → List ℕ → Type 0
AreReadOn word places rest = numbers_spelled (between_dots word) ≡ option_map (λ ns. places ++ ns) (numbers_spelled (between_dots rest))

pub place-read : (word places rest piece after : List ℕ) (n : ℕ) → AreReadOn word places rest → between_dots rest ≡ piece ∷ between_dots after → number_spelled piece ≡ Some n →
    AreReadOn word (places ++ n ∷ []) after
place-read word places rest piece after n so at is =
    more-places places n (numbers_spelled (between_dots word)) (numbers_spelled (between_dots after)) (so ∙ ap (λ ws. option_map (λ ns. places ++ ns) (numbers_spelled ws)) at ∙ rw is refl)

pub last-read : (word places rest : List ℕ) (n : ℕ) → bytes_eq word (codes ".") ≡ false → AreReadOn word places rest → between_dots rest ≡ rest ∷ [] → number_spelled rest ≡ Some n →
    path_spelled word ≡ Some (places ++ n ∷ [])
last-read word places rest n other so at is =
    path_spelled-pieces word other ∙ so ∙ ap (λ ws. option_map (λ ns. places ++ ns) (numbers_spelled ws)) at ∙ rw is refl

pub none-read : (word places rest piece : List ℕ) (others : List (List ℕ)) →
    bytes_eq word (codes ".") ≡ false → AreReadOn word places rest →
    between_dots rest ≡ piece ∷ others → number_spelled piece ≡ None →
    path_spelled word ≡ None
none-read word places rest piece others other so at is =
    path_spelled-pieces word other ∙ so ∙ ap (λ ws. option_map (λ ns. places ++ ns) (numbers_spelled ws)) at ∙ rw is refl
