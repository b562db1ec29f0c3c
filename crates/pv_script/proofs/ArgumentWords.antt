-- The arguments of edits are read as they are written.
use Rattle.std.proofs.Common.{◌≡◌, ℕ, ◌≤◌, List, ◌∷◌, ◌++◌, Option, Some, None, refl, ap, ◌∙◌, arith, decimal}
use Rattle.std.specs.Option.{option_and_then}
use Rattle.pv_words.specs.Numbers.{MAX_NUMBER, AreNumbers, number_spelled}
use Rattle.pv_words.specs.Paths.{path_text, path_spelled}
use Rattle.pv_words.specs.Words.{first_word}
use Rattle.pv_script.specs.LineReading.{on_path, on_number}
use Rattle.pv_words.proofs.NumberWords.{decimal-free, number_spelled-decimal, number-word}
use Rattle.pv_words.proofs.PathWords.{path-free, path_spelled-path_text, path-word}
use Rattle.pv_words.proofs.FirstWords.{first_word-free, first_word-whole}

pub on_path-written : {A : Type 0} (f : List ℕ → List ℕ → Option A) (path rest : List ℕ) → AreNumbers path → on_path f (path_text path ++ (32 ∷ rest)) ≡ f path rest
on_path-written f path rest all = rw (first_word-free (path_text path) rest (path-free 32 path (omega arith) all), path_spelled-path_text path all) refl

pub on_number-written : {A : Type 0} (f : ℕ → List ℕ → Option A) (n : ℕ) (rest : List ℕ) → n ≤ MAX_NUMBER → on_number f (decimal n ++ (32 ∷ rest)) ≡ f n rest
on_number-written f n rest within = rw (first_word-free (decimal n) rest (decimal-free 32 n (omega arith) within), number_spelled-decimal n within) refl

-- the bytes are a path, a blank, and what this is made of
pub record IsOnPath {A : Type 0} (f : List ℕ → List ℕ → Option A) (bytes : List ℕ) (made : A) : Type 0 where
  pub path : List ℕ
  pub rest : List ℕ
  pub whole : bytes ≡ path_text path ++ (32 ∷ rest)
  pub within : AreNumbers path
  pub makes : f path rest ≡ Some made

on-path-word : {A : Type 0} (f : List ℕ → List ℕ → Option A) (bytes word rest : List ℕ) (made : A) (p : Option (List ℕ)) → bytes ≡ word ++ (32 ∷ rest) → path_spelled word ≡ p →
    option_and_then (λ path. f path rest) (path_spelled word) ≡ Some made → IsOnPath f bytes made
on-path-word f bytes word rest made None whole is found = let these = rw is at found in cc
on-path-word f bytes word rest made (Some path) whole is found =
    let read = path-word word path is in
    record { path = path; rest = rest; whole = whole ∙ ap (λ w. w ++ (32 ∷ rest)) read.text; within = read.within; makes = rw is at found }

on-path-by : {A : Type 0} (f : List ℕ → List ℕ → Option A) (bytes : List ℕ) (made : A) (o : Option (List ℕ × List ℕ)) → first_word bytes ≡ o → on_path f bytes ≡ Some made → IsOnPath f bytes made
on-path-by f bytes made None at found = let these = rw at at found in cc
on-path-by f bytes made (Some (word, rest)) at found = on-path-word f bytes word rest made (path_spelled word) (first_word-whole bytes word rest at) refl (rw at at found)

pub on-path : {A : Type 0} (f : List ℕ → List ℕ → Option A) (bytes : List ℕ) (made : A) → on_path f bytes ≡ Some made → IsOnPath f bytes made
on-path f bytes made found = on-path-by f bytes made (first_word bytes) refl found

-- the bytes are a number, a blank, and what this is made of
pub record IsOnNumber {A : Type 0} (f : ℕ → List ℕ → Option A) (bytes : List ℕ) (made : A) : Type 0 where
  pub number : ℕ
  pub rest : List ℕ
  pub whole : bytes ≡ decimal number ++ (32 ∷ rest)
  pub within : number ≤ MAX_NUMBER
  pub makes : f number rest ≡ Some made

on-number-word : {A : Type 0} (f : ℕ → List ℕ → Option A) (bytes word rest : List ℕ) (made : A) (p : Option ℕ) → bytes ≡ word ++ (32 ∷ rest) → number_spelled word ≡ p →
    option_and_then (λ n. f n rest) (number_spelled word) ≡ Some made → IsOnNumber f bytes made
on-number-word f bytes word rest made None whole is found = let these = rw is at found in cc
on-number-word f bytes word rest made (Some n) whole is found =
    let read = number-word word n is in
    record { number = n; rest = rest; whole = whole ∙ ap (λ w. w ++ (32 ∷ rest)) read.digits; within = read.within; makes = rw is at found }

on-number-by : {A : Type 0} (f : ℕ → List ℕ → Option A) (bytes : List ℕ) (made : A) (o : Option (List ℕ × List ℕ)) → first_word bytes ≡ o → on_number f bytes ≡ Some made → IsOnNumber f bytes made
on-number-by f bytes made None at found = let these = rw at at found in cc
on-number-by f bytes made (Some (word, rest)) at found = on-number-word f bytes word rest made (number_spelled word) (first_word-whole bytes word rest at) refl (rw at at found)

pub on-number : {A : Type 0} (f : ℕ → List ℕ → Option A) (bytes : List ℕ) (made : A) → on_number f bytes ≡ Some made → IsOnNumber f bytes made
on-number f bytes made found = on-number-by f bytes made (first_word bytes) refl found
