-- Weights that are remembered with pieces, and one more.
use Rattle.std.proofs.Common.{Bool, List, Option, Some, [], arith, false, inl, inr, length, map}
use Rattle.std.proofs.Common.{refl, slice_get, subst, suc, true, zero, ℕ, drop, ◌+◌, ◌++◌, ◌<◌, ◌∷◌}
use Rattle.std.proofs.Common.{◌≡◌, ◌⊎◌}
use Rattle.std.specs.Prelude.{if◌then◌else◌}
use Rattle.pv_dtd.specs.Plain.{PlainDtd}
use Rattle.pv_missing.specs.PlainForms.{plain_of}
use Rattle.pv_missing.specs.ListWeights.{whole}
use Rattle.pv_missing.specs.Widths.{FitsWeights}
use Rattle.pv_model.specs.Plain.{PlainToken}
use Rattle.pv_model.specs.PlainForms.{plain_token}
use Rattle.pv_rules.specs.Derivations.{IsWeight}
use Rattle.pv_rules.specs.Rules.{Rule}
use Rattle.pv_rules.specs.Sites.{PlainSite}
use Rattle.pv_tables.specs.Tables.{AreAllEntries}
use Rattle.pv_tables.specs.declared.tables.Entry.{Entry}
use Rattle.pv_complete.specs.KnownWeights.{AreKnownEntries, AreKnownPieces, IsWeighedWord}
use Rattle.pv_write.specs.PieceForms.{plain_pieces}
use Rattle.pv_complete.specs.Pieces.{WritesAt}
use Rattle.pv_write.specs.declared.pieces.Piece.{Piece}
use Rattle.pv_complete.specs.declared.missing.known.KnownWeight.{KnownWeight}

-- an element of a list with one more at its end
one_of_both : {X : Type 0} (xs : List X) (y : X) (k : ℕ) (x : X) → slice_get (xs ++ (y ∷ [])) k ≡ Some x → (slice_get xs k ≡ Some x) ⊎ (x ≡ y)
one_of_both [] y zero x h = inr cc
one_of_both [] y (suc k) x h = absurd cc
one_of_both (z ∷ xs) y zero x h = inl h
one_of_both (z ∷ xs) y (suc k) x h = one_of_both xs y k x h

-- lists of one length are equal if their elements are, place by place
pub same_elements : {X : Type 0} (xs ys : List X) → length xs ≡ length ys → ((k : ℕ) → k < length xs → slice_get xs k ≡ slice_get ys k) → xs ≡ ys
same_elements [] [] n f = refl
same_elements [] (y ∷ ys) n f = absurd (let e : length (y ∷ ys) ≡ suc (length ys) = refl in omega (arith, n))
same_elements (x ∷ xs) [] n f = absurd (let e : length (x ∷ xs) ≡ suc (length xs) = refl in omega (arith, n))
same_elements (x ∷ xs) (y ∷ ys) n f =
    let first : Some x ≡ Some y = f 0 (omega arith) in
    let rest : xs ≡ ys = same_elements xs ys (omega (arith, n)) (λ k l. f (suc k) (omega arith)) in
    let e : x ≡ y = cc in
    rw (e, rest) refl

-- each of these entries is right
abbrev pub AreRight : PlainDtd → List KnownWeight → Type 0
AreRight g entries = (k : ℕ) (e : KnownWeight) → slice_get entries k ≡ Some e → IsWeighedWord g (plain_of e.of) (map plain_token e.word) e.weight e.pieces e.table

pub right_one_more : (g : PlainDtd) (old new : List KnownWeight) (e : KnownWeight) →
    new ≡ old ++ e ∷ [] → AreRight g old → IsWeighedWord g (plain_of e.of) (map plain_token e.word)
    e.weight e.pieces e.table → AreRight g new
right_one_more g old new e is all one k x h = elim (one_of_both old e k x (rw is at h)) [ inl at_old ↦ all k x at_old | inr same ↦ rw same one ]

-- after a push, which there may be no memory for
pub right_pushed : (g : PlainDtd) (old new : List KnownWeight) (e : KnownWeight) (b : Bool) →
    new ≡ (if b then old ++ e ∷ [] else old) → AreRight g old →
    IsWeighedWord g (plain_of e.of) (map plain_token e.word) e.weight e.pieces e.table → AreRight g new
right_pushed g old new e true is all one = right_one_more g old new e is all one
right_pushed g old new e false is all one = rw is all

-- an element after the first n is one of all
later : {X : Type 0} (xs : List X) (n k : ℕ) (x : X) → slice_get (drop n xs) k ≡ Some x →
    slice_get xs (n + k) ≡ Some x
later xs zero k x h =
    let e : zero + k ≡ k = omega arith in
    rw e h
later [] (suc n) k x h = absurd cc
later (y ∷ ys) (suc n) k x h =
    let e : suc n + k ≡ suc (n + k) = omega arith in
    rw e (later ys n k x h)

-- those after the first n are right
pub right_younger : (g : PlainDtd) (old new : List KnownWeight) (n : ℕ) → new ≡ drop n old →
    AreRight g old → AreRight g new
right_younger g old new n is all k x h = all (n + k) x (later old n k x (rw is at h))

-- the pieces that are kept are of a completion with as many new elements as the word weighs
pub told_pieces : (g : PlainDtd) (s : PlainSite) (w : List PlainToken) (k : ℕ) (pieces : Option (List Piece)) (table : Option (List Entry)) (ps : List Piece) → pieces ≡ Some ps →
    IsWeighedWord g s w k pieces table → (n : ℕ) × IsWeight (Rule g w) (whole s w) n × WritesAt g s n w (plain_pieces ps)
told_pieces g s w k pieces table ps same is =
    let writes : AreKnownPieces g s w k (Some ps) = subst (AreKnownPieces g s w k) same is.writes in
    (k, is.weighs.weight, writes)

-- the entries that are kept are those of the word
pub told_entries : (g : PlainDtd) (s : PlainSite) (w : List PlainToken) (k : ℕ) (pieces : Option (List Piece)) (table : Option (List Entry)) (es : List Entry) → table ≡ Some es →
    IsWeighedWord g s w k pieces table → AreAllEntries g w es × FitsWeights g (length w)
told_entries g s w k pieces table es same is =
    let lists : AreKnownEntries g w (Some es) = subst (AreKnownEntries g w) same is.lists in
    (lists, is.weighs.fits)
