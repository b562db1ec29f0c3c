-- A document that some bytes mean by their items is the one that they spell.
use Rattle.std.proofs.Common.{◌≡◌, ◌+◌, ℕ, List, Option, ◌++◌, inl, inr, append-nil, append_assoc, refl, sym, ap, subst, ◌∙◌, arith}
use Rattle.pv_tree.specs.Plain.{Tree, PlainDoc, depth_of}
use Rattle.pv_read.specs.Limits.{TextLimits, IsWithinDepth}
use Rattle.pv_tree.specs.Marks.{HasMarks}
use Rattle.pv_read.specs.Grammar.{SpellsDocument, IsDocumentTextWithin}
use Rattle.pv_read.specs.Items.{bytes_of}
use Rattle.pv_read.specs.Left.{Left, at_front, in_prolog}
use Rattle.pv_read.specs.Meaning.{Outcome, is_document, DocumentRestMeans, ends, item, fault, DocumentMeansWithin, long, items}
use Rattle.pv_chars.specs.ByteOrderMark.{TakesByteOrderMark, marked, unmarked}
use Rattle.pv_read.proofs.AgreeInvariant.{InEpilog, Says, within_less}
use Rattle.pv_read.proofs.AgreeSteps.{KnownIsDecided, proper_item, step}

-- The bytes spell this document, and all its marks are this one.
pub record SpellsMarked {M : Type 0} (most : Option ℕ) (m : M) (root bytes : List ℕ) (doc : PlainDoc M) : Type 0 where
  pub spelled : SpellsDocument root bytes doc
  pub shallow : IsWithinDepth most (depth_of doc.root)
  pub marks : HasMarks m doc

at_end : {M : Type 0} (most : Option ℕ) (m : M) (root done before after : List ℕ) (t : Tree M) → InEpilog most m root done before t after
    → SpellsMarked most m root done (record { before = before; root = t; after = after; mark = m })
at_end most m root done before after t e = record {
  spelled = record {
    element = e.element;
    is_prolog = e.is_prolog;
    is_element = e.is_element;
    is_root = e.is_root;
    is_epilog = e.is_epilog;
    whole = e.whole ∙ sym (append_assoc before e.element after);
  };
  shallow = within_less most (depth_of t) (0 + depth_of t) (omega arith) e.proper.shallow;
  marks = record { on_document = refl; on_elements = e.proper.marks };
}

pub means_spelled : {M : Type 0} {most : Option ℕ} {m : M} {root rest : List ℕ} {k : ℕ} {left : Left
    M} {o : Outcome M} → KnownIsDecided → DocumentRestMeans most m root k left rest o →
    (doc : PlainDoc M) → o ≡ is_document doc
    → (done : List ℕ) → Says most m root done left rest → SpellsMarked most m root (done ++ rest) doc
means_spelled {most = most} {m = m} {root = root} decided (ends {before = before} {after = after} {rest = rest} {t = t} e) doc is done says =
    let same : record { before = before; root = t; after = after; mark = m } ≡ doc = cc in
    let whole : done ≡ done ++ rest = sym (ap (λ r. done ++ r) e ∙ append-nil done) in
    subst (λ d. SpellsMarked most m root (done ++ rest) d) same
    (subst (λ b. SpellsMarked most m root b
    (record { before = before; root = t; after = after; mark = m })) whole
    (at_end most m root done before after t says))
means_spelled {most = most} {m = m} {root = root} decided (item {left = left} {next = next} {rest = rest} {more = more} i begins stands none below) doc is done says =
    let said = step most m root done rest more left next i says begins stands (proper_item decided begins stands none) in
    let spelled = means_spelled decided below doc is (done ++ bytes_of i) said in
    subst (λ b. SpellsMarked most m root b doc) (append_assoc done (bytes_of i) more ∙ ap (λ r. done ++ r) (sym begins.whole)) spelled
means_spelled decided (fault kind f) doc is done says = cc

-- the byte order mark, or nothing, stands before the items
mark_said : {M : Type 0} (most : Option ℕ) (m : M) (root bytes mark rest : List ℕ) →
    TakesByteOrderMark bytes mark rest → (bytes ≡ mark ++ rest) × Says {M = M} most m root mark
    (in_prolog at_front mark) rest
mark_said most m root bytes mark rest (marked e) = (e, (inr refl, refl))
mark_said most m root bytes mark rest (unmarked none) = (refl, (inl refl, refl))

-- A document that some bytes mean is spelled, and has the marks.
pub record IsMarkedText {M : Type 0} (limits : TextLimits) (m : M) (root bytes : List ℕ) (doc : PlainDoc M) : Type 0 where
  pub is_text : IsDocumentTextWithin limits root bytes doc
  pub marks : HasMarks m doc

pub document_spelled : {M : Type 0} {limits : TextLimits} {m : M} {root bytes : List ℕ} {o : Outcome
    M} → KnownIsDecided → DocumentMeansWithin limits m root bytes o → (doc : PlainDoc M) →
    o ≡ is_document doc → IsMarkedText limits m root bytes doc
document_spelled decided (long more) doc is = cc
document_spelled {limits = limits} {m = m} {root = root} {bytes = bytes} decided (items {mark = mark} {rest = rest} few starts means) doc is =
    let front = mark_said limits.depth m root bytes mark rest starts in
    let s = subst (λ b. SpellsMarked limits.depth m root b doc) (sym front.0) (means_spelled decided means doc is mark front.1) in
    record { is_text = record { spelled = s.spelled; shallow = s.shallow; few_bytes = few }; marks = s.marks }
