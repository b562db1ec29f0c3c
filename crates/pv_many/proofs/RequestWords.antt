-- Requests of three words, and words that are none.
use Rattle.std.proofs.Common.{◌≡◌, ℕ, ◌<◌, ◌≤◌, List, [], ◌∷◌, length, get_or, Option, None}
use Rattle.std.proofs.Common.{option_map, true, false, refl, arith}
use Rattle.pv_chars.specs.Names.{is_name}
use Rattle.pv_many.specs.Requests.{asked_question, request, asked_request}
use Rattle.pv_many.specs.declared.requests.Question.{Question}

pub of_three : {A : Type 0} (xs : List A) (a b c : A) → 3 ≤ length xs → length xs < 4 →
    a ≡ get_or xs 0 a → b ≡ get_or xs 1 b → c ≡ get_or xs 2 c → xs ≡ a ∷ b ∷ c ∷ []
of_three [] a b c more less p q r = absurd (omega arith)
of_three (x ∷ []) a b c more less p q r = absurd (omega arith)
of_three (x ∷ y ∷ []) a b c more less p q r = absurd (omega arith)
of_three (x ∷ y ∷ z ∷ []) a b c more less p q r = cc
of_three (x ∷ y ∷ z ∷ w ∷ ws) a b c more less p q r = absurd (omega arith)

pub of_no_request : (words : List (List ℕ)) → (length words ≡ 3 → ⊥) → asked_request words ≡ None
unfolding asked_request
of_no_request [] three = refl
of_no_request (x ∷ []) three = refl
of_no_request (x ∷ y ∷ []) three = refl
of_no_request (x ∷ y ∷ z ∷ []) three = absurd (three refl)
of_no_request (x ∷ y ∷ z ∷ w ∷ ws) three = refl

pub question_words : (word dtd root : List ℕ) (question : Option Question) → is_name root ≡ true → question ≡ asked_question word →
    asked_request (word ∷ dtd ∷ root ∷ []) ≡ option_map (λ q. request q dtd root) question
unfolding asked_request
question_words word dtd root question named is = rw (named, is) refl

pub root_no_name : (word dtd root : List ℕ) → is_name root ≡ false → asked_request (word ∷ dtd ∷ root ∷ []) ≡ None
unfolding asked_request
root_no_name word dtd root named = rw named refl
