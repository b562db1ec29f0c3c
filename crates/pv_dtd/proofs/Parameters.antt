-- A reference of a parameter entity, or a conditional section: what is read as one is one, and what is one is read.
use Rattle.std.proofs.Common.{◌≡◌, ◌⊎◌, inl, inr, ℕ, List, ◌∷◌, ◌++◌, codes, true, Some, None, is_some, refl, ◌∙◌, append_assoc}
use Rattle.pv_chars.specs.Scan.{after_bytes}
use Rattle.pv_chars.proofs.TextScans.{after_bytes_takes}
use Rattle.pv_dtd.specs.Spelling.{IsSkippedWord, ends_or_refers}
use Rattle.pv_dtd.specs.Kinds.{HasParameter, reference, section, inside}
use Rattle.pv_dtd.specs.ItemReading.{or_else, skipped_word, where_it_is, declaration_word, inner_parameter_at, parameter_at}
use Rattle.pv_chars.proofs.ReaderSteps.{bound}
use Rattle.pv_dtd.proofs.QuotedText.{stop_at-append}
use Rattle.pv_dtd.proofs.ItemsRead.{either_read, word_takes, after_stop_takes}

-- the word of a declaration in front
record TakesDeclaration (bytes rest : List ℕ) : Type 0 where
  word : List ℕ
  is_word : (word ≡ codes "<!ELEMENT") ⊎ IsSkippedWord word
  whole : bytes ≡ word ++ rest

declaration_takes : (bytes rest : List ℕ) → declaration_word bytes ≡ Some rest → TakesDeclaration bytes rest
unfolding declaration_word
declaration_takes bytes rest e =
    either_read (TakesDeclaration bytes) _ _ rest e
    (λ f. record { word = codes "<!ELEMENT"; is_word = inl refl; whole = after_bytes_takes (codes "<!ELEMENT") bytes rest f })
    (λ f. let takes = word_takes bytes rest f in record { word = takes.word; is_word = inr takes.is_word; whole = takes.whole })

joined : (bytes word behind text rest : List ℕ) → bytes ≡ word ++ behind → behind ≡ text ++ 37 ∷ rest → bytes ≡ word ++ text ++ codes "%" ++ rest
joined bytes word behind text rest e f = rw (e, f) (simp append_assoc)

inner_read : (place rest : List ℕ) → inner_parameter_at place ≡ Some rest → HasParameter place
unfolding inner_parameter_at
inner_read place rest e =
    let behind = bound (declaration_word place) _ rest e in
    let word = declaration_takes place behind.value behind.first in
    let stops = after_stop_takes 37 (codes ">%") behind.value rest behind.others in
    inside word.word stops.text rest word.is_word stops.is_text (joined place word.word behind.value stops.text rest word.whole stops.whole)

pub parameter_read : (place rest : List ℕ) → parameter_at place ≡ Some rest → HasParameter place
unfolding parameter_at
parameter_read place rest e =
    either_read (λ r. HasParameter place) _ _ rest e
    (λ f. reference rest (after_bytes_takes (codes "%") place rest f)) (λ f.
    either_read (λ r. HasParameter place) _ _ rest f
    (λ g. section rest (after_bytes_takes (codes "<![") place rest g)) (inner_read place rest))

pub declaration_is_taken : (word rest : List ℕ) → (word ≡ codes "<!ELEMENT") ⊎ IsSkippedWord word → declaration_word (word ++ rest) ≡ Some rest
unfolding declaration_word skipped_word or_else
declaration_is_taken word rest (inl is) = rw is refl
declaration_is_taken word rest (inr (inl is)) = rw is refl
declaration_is_taken word rest (inr (inr (inl is))) = rw is refl
declaration_is_taken word rest (inr (inr (inr is))) = rw is refl

pub begins_otherwise : (word rest : List ℕ) → (word ≡ codes "<!ELEMENT") ⊎ IsSkippedWord word → (after_bytes (codes "%") (word ++ rest) ≡ None) × (after_bytes (codes "<![") (word ++ rest) ≡ None)
begins_otherwise word rest (inl is) = rw is (refl, refl)
begins_otherwise word rest (inr (inl is)) = rw is (refl, refl)
begins_otherwise word rest (inr (inr (inl is))) = rw is (refl, refl)
begins_otherwise word rest (inr (inr (inr is))) = rw is (refl, refl)

pub parameter_is_read : {place : List ℕ} → HasParameter place → is_some (parameter_at place) ≡ true
unfolding parameter_at inner_parameter_at where_it_is or_else
parameter_is_read (reference rest whole) = rw whole refl
parameter_is_read (section rest whole) = rw whole refl
parameter_is_read {place} (inside word before rest is_word is_before whole) =
    let grouped : place ≡ word ++ (before ++ 37 ∷ rest) = whole ∙ simp append_assoc in
    let other = begins_otherwise word (before ++ 37 ∷ rest) is_word in
    rw (grouped, other.0, other.1, declaration_is_taken word (before ++ 37 ∷ rest) is_word, stop_at-append ends_or_refers 37 rest is_before refl refl) refl
