-- What doesn't stand at the front of events that are wanted.
use Rattle.std.proofs.Common.{List, [], ap, append-nil, append_assoc, arith, drop, drop-cons, get_or, suc, length, map, refl, slice_index_or, sym}
use Rattle.std.proofs.Common.{take, ℕ, ◌++◌, ◌∙◌, ◌∷◌, ◌≡◌, ◌≢◌, ◌≤◌, ◌<◌, ◌==◌, true}
use Rattle.std.proofs.lemmas.Bool.{eqb-true}
use Rattle.std.proofs.lemmas.List.{append_cancel_left, nil_from_length, map-append, take-append-drop}
use Rattle.pv_flat.specs.Plain.{plain_event}
use Rattle.pv_flat.specs.Plain.{PlainEvent, begin_element, cdata_here, end_element, misc_here, text_here}
use Rattle.pv_compare.specs.LeftOut.{bytewise}
use Rattle.pv_compare.specs.WantedEvents.{begins_no_text}
use Rattle.pv_flat.specs.declared.event.Event.{Event}
use Rattle.pv_compare.proofs.OneHedge.{texts}

-- a text with these bytes, and these events after it
abbrev pub stands : List ℕ → List Event → List PlainEvent
stands t es = texts t ++ bytewise (map plain_event es)

abbrev pub IsOther : PlainEvent → Type 0
IsOther e = (bytes : List ℕ) → e ≢ text_here bytes

other-is : (x : PlainEvent) (xs : List PlainEvent) → IsOther x → bytewise (x ∷ xs) ≡ x ∷ bytewise xs
other-is (begin_element x t) xs o = refl
other-is end_element xs o = refl
other-is (text_here b) xs o = absurd (o b refl)
other-is (cdata_here b) xs o = refl
other-is (misc_here b) xs o = refl

pub no-other-at-text : (t : List ℕ) (es : List Event) (e : PlainEvent) (more : List PlainEvent) → IsOther e → 1 ≤ length t → stands t es ≡ bytewise (e ∷ []) ++ more → ⊥
no-other-at-text [] es e more other some is = absurd (omega arith)
no-other-at-text (c ∷ t) es e more other some is =
    let f : stands (c ∷ t) es ≡ e ∷ more = is ∙ ap (λ l. l ++ more) (other-is e [] other) in
    other (c ∷ []) (let g : e ≡ text_here (c ∷ []) = cc in g)

pub no-other-at-end : (t : List ℕ) (es : List Event) (e : PlainEvent) (more : List PlainEvent) → IsOther e → length es < 1 → stands t es ≡ bytewise (e ∷ []) ++ more → ⊥
no-other-at-end t (f ∷ es) e more other none is = absurd (omega arith)
no-other-at-end (c ∷ t) [] e more other none is = no-other-at-text (c ∷ t) [] e more other (omega arith) is
no-other-at-end [] [] e more other none is = let f : stands [] [] ≡ e ∷ more = is ∙ ap (λ l. l ++ more) (other-is e [] other) in absurd (cc)

pub no-other-at : (t : List ℕ) (es : List Event) (d : Event) (e : PlainEvent)
    (more : List PlainEvent) → IsOther e → (length t == 0) ≡ true → 1 ≤ length es →
    begins_no_text es → (plain_event (slice_index_or es 0 d) ≡ e → ⊥) →
    stands t es ≡ bytewise (e ∷ []) ++ more → ⊥
no-other-at t [] d e more other empty some front differs is = absurd (omega arith)
no-other-at t (x ∷ es) d e more other empty some front differs is =
    let none : t ≡ [] = nil_from_length t (eqb-true (length t) 0 empty) in
    let here : bytewise (map plain_event (x ∷ es)) ≡ bytewise (e ∷ []) ++ more = ap (λ l. stands l (x ∷ es)) (sym none) ∙ is in
    let o : IsOther (plain_event x) = λ b same. front b (map plain_event es) (ap (λ y. y ∷ map plain_event es) same) in
    let f : plain_event x ∷ bytewise (map plain_event es) ≡ e ∷ more = sym (other-is (plain_event x) (map plain_event es) o) ∙ here ∙ ap (λ l. l ++ more) (other-is e [] other) in
    differs (let g : plain_event x ≡ e = cc in g)

-- no byte of a text stands where there is none
pub no-byte-at : (t : List ℕ) (es : List Event) (b : ℕ) (more : List PlainEvent) → length t < 1 → (t ≡ [] → begins_no_text es) → stands t es ≡ text_here (b ∷ []) ∷ more → ⊥
no-byte-at (c ∷ t) es b more none front is = absurd (omega arith)
no-byte-at [] [] b more none front is = absurd (cc)
no-byte-at [] (x ∷ es) b more none front is =
    let o : IsOther (plain_event x) = λ a same. front refl a (map plain_event es) (ap (λ y. y ∷ map plain_event es) same) in
    o (b ∷ []) (let f : plain_event x ∷ bytewise (map plain_event es) ≡ text_here (b ∷ []) ∷ more = sym (other-is (plain_event x) (map plain_event es) o) ∙ is in cc)

-- nothing stands there
pub none-at : (es : List Event) → begins_no_text es → bytewise (map plain_event es) ≡ [] → length es ≡ 0
none-at [] front is = refl
none-at (x ∷ es) front is =
    let o : IsOther (plain_event x) = λ a same. front a (map plain_event es) (ap (λ y. y ∷ map plain_event es) same) in
    let f : plain_event x ∷ bytewise (map plain_event es) ≡ [] = sym (other-is (plain_event x) (map plain_event es) o) ∙ is in absurd (cc)

pub no-text-where-none : (t : List ℕ) (es : List Event) → stands t es ≡ [] → t ≡ []
no-text-where-none [] es is = refl
no-text-where-none (c ∷ t) es is = absurd (cc)

-- bytes of a text up to a place, the byte there, and those after it
pub texts-split : (bytes : List ℕ) (i : ℕ) → i < length bytes → texts bytes ≡ texts (take i bytes) ++ text_here (get_or bytes i 0 ∷ []) ∷ texts (drop (suc i) bytes)
texts-split bytes i lt =
    ap texts (sym (take-append-drop i bytes))
    ∙ ap (λ l. texts (take i bytes ++ l)) (drop-cons bytes i 0 lt)
    ∙ map-append (λ b. text_here (b ∷ [])) (take i bytes) (get_or bytes i 0 ∷ drop (suc i) bytes)

pub no-more-there : (bytes : List ℕ) (i : ℕ) (wanted now more : List PlainEvent) →
    i < length bytes → wanted ≡ texts (take i bytes) ++ now → ((rest : List PlainEvent) →
    now ≢ text_here (get_or bytes i 0 ∷ []) ∷ rest) → wanted ≡ (texts bytes ++ []) ++ more → ⊥
no-more-there bytes i wanted now more lt is none e =
    none (texts (drop (suc i) bytes) ++ more)
    (append_cancel_left (texts (take i bytes)) now (text_here (get_or bytes i 0 ∷ []) ∷ (texts (drop (suc i) bytes) ++ more))
    (sym is ∙ e ∙ ap (λ l. l ++ more) (append-nil (texts bytes))
    ∙ ap (λ l. l ++ more) (texts-split bytes i lt) ∙ append_assoc (texts (take i bytes))
    (text_here (get_or bytes i 0 ∷ []) ∷ texts (drop (suc i) bytes)) more))
