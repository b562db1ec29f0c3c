-- Requests of four words, and words that are none.
use Rattle.std.proofs.Common.{◌≡◌, ℕ, List, [], ◌∷◌, length, Option, None, option_map, true, false}
use Rattle.std.proofs.Common.{refl}
use Rattle.pv_chars.specs.Names.{is_name}
use Rattle.pvlong.specs.Requests.{question_of, request, request_of}
use Rattle.pvlong.specs.declared.requests.Question.{Question}

pub of_no_request : (words : List (List ℕ)) → (length words ≡ 4 → ⊥) → request_of words ≡ None
unfolding request_of
of_no_request [] four = refl
of_no_request (x ∷ []) four = refl
of_no_request (x ∷ y ∷ []) four = refl
of_no_request (x ∷ y ∷ z ∷ []) four = refl
of_no_request (x ∷ y ∷ z ∷ w ∷ []) four = absurd (four refl)
of_no_request (x ∷ y ∷ z ∷ w ∷ v ∷ vs) four = refl

pub question_words : (word dtd root doc : List ℕ) (question : Option Question) → is_name root ≡ true → question ≡ question_of word →
    request_of (word ∷ dtd ∷ root ∷ doc ∷ []) ≡ option_map (λ q. request q dtd root doc) question
unfolding request_of
question_words word dtd root doc question named is = rw (named, is) refl

pub root_no_name : (word dtd root doc : List ℕ) → is_name root ≡ false → request_of (word ∷ dtd ∷ root ∷ doc ∷ []) ≡ None
unfolding request_of
root_no_name word dtd root doc named = rw named refl
