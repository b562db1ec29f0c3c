-- What the parts of a document tell of a text.
use Rattle.std.proofs.Common.{◌≡◌, ◌≤◌, ◌-◌, ℕ, suc, List, [], ◌++◌, length, take, Ok, Err, inl, inr, refl, sym, ap, ◌∙◌, subst, append_assoc, length-append, arith}
use Rattle.std.proofs.Math.Seq.{take-append_seam}
use Rattle.pv_tree.specs.Marks.{blank_mark}
use Rattle.pv_tree.specs.Plain.{Tree}
use Rattle.pv_tree.specs.PlainDocs.{plain_doc}
use Rattle.pv_tree.specs.declared.nodes.Mark.{Mark}
use Rattle.pv_tree.specs.declared.document.Doc.{Doc}
use Rattle.pv_read.specs.Limits.{TextLimits}
use Rattle.pv_read.specs.Left.{at_front, in_prolog, in_epilog}
use Rattle.pv_read.specs.Meaning.{Outcome, is_document, faulty, too_long, DocumentRestMeans, DocumentMeansWithin, items}
use Rattle.pv_chars.specs.ByteOrderMark.{TakesByteOrderMark, marked, unmarked}
use Rattle.pv_read.specs.Errors.{Refuses}
use Rattle.pv_read.specs.ItemLaws.{ItemsAreDetermined}
use Rattle.pv_read.specs.Kinds.{Kind, subset, syntax, entity, mismatch, doctype_name, deep}
use Rattle.pv_read.specs.PlainForms.{Answers, refusal}
use Rattle.pv_read.specs.Steps.{LeadsBehind}
use Rattle.pv_read.specs.Prologs.{behind_tag, OpensRoot}
use Rattle.pv_read.specs.Epilogs.{document, EndsDocument}
use Rattle.pv_read.specs.declared.errors.DocError.{DocError}
use Rattle.pv_read.specs.declared.errors.DocError.TheVariants.{Syntax, Mismatch, Entity, Subset, DoctypeName, Deep, Limit, NoMemory}
use Rattle.pv_read.specs.declared.prolog.RootTag.{RootTag}
use Rattle.pv_read.proofs.OneMeaning.{same_document_meaning}
use Rattle.pv_read.proofs.RefusedRests.{Refuses-weaker}

starts : (bytes mark rest : List ℕ) → TakesByteOrderMark bytes mark rest → bytes ≡ mark ++ rest
starts bytes mark rest (marked e) = e
starts bytes mark rest (unmarked none) = refl

module _ (limits : TextLimits) (root bytes mark text : List ℕ) (few : length bytes ≤ limits.bytes) (front : TakesByteOrderMark bytes mark text) where
  pub refused_front : (e : DocError) → ((mark : List ℕ) →
      Refuses (DocumentRestMeans limits.depth blank_mark root 0 (in_prolog at_front mark) text) e) →
      Refuses (DocumentMeansWithin limits blank_mark root bytes) e
  refused_front e refuses = Refuses-weaker (DocumentRestMeans limits.depth blank_mark root 0
      (in_prolog at_front mark) text) (DocumentMeansWithin limits blank_mark root bytes)
      (λ o means. items few front means) e (refuses mark)

  module _ (tag : RootTag) (opens : OpensRoot limits.depth root text tag) where
    pub refused_root : (e : DocError) → ((before : List ℕ) →
        Refuses (DocumentRestMeans limits.depth blank_mark root (suc tag.count)
        (behind_tag before tag.is_short tag.tag.name.now tag.tag.attrs.now) tag.rest.now) e)
        → Refuses (DocumentMeansWithin limits blank_mark root bytes) e
    refused_root e refuses = Refuses-weaker (DocumentRestMeans limits.depth blank_mark root
        (suc tag.count) (behind_tag (mark ++ opens.before) tag.is_short tag.tag.name.now
        tag.tag.attrs.now) tag.rest.now) (DocumentMeansWithin limits blank_mark root bytes)
        (λ o means. items few front (opens.leads mark o means)) e (refuses (mark ++ opens.before))

    module _ (count : ℕ) (t : Tree Mark) (after : List ℕ)
        (leads : (before : List ℕ) → LeadsBehind limits.depth blank_mark root (suc tag.count)
        (behind_tag before tag.is_short tag.tag.name.now tag.tag.attrs.now) tag.rest.now count
        (in_epilog before t []) after) where
      pub refused_end : (e : DocError) → ((before : List ℕ) (u : Tree Mark) →
          Refuses (DocumentRestMeans limits.depth blank_mark root count (in_epilog before u [])
          after) e) → Refuses (DocumentMeansWithin limits blank_mark root bytes) e
      refused_end e refuses = Refuses-weaker (DocumentRestMeans limits.depth blank_mark root count
          (in_epilog (mark ++ opens.before) t []) after) (DocumentMeansWithin limits blank_mark root
          bytes) (λ o means. items few front (opens.leads mark o (leads (mark ++ opens.before) o
          means))) e (refuses (mark ++ opens.before) t)

      pub whole_is : bytes ≡ (mark ++ opens.before) ++ tag.from_tag.now
      whole_is = starts bytes mark text front ∙ ap (λ b. mark ++ b) opens.whole ∙ sym (append_assoc mark opens.before tag.from_tag.now)

      front_is : (a b : List ℕ) → take (length (a ++ b) - length b) (a ++ b) ≡ a
      front_is a b = let same : length (a ++ b) - length b ≡ length a = omega (arith, length-append a b) in rw same (take-append_seam a b)

      pub read_whole : EndsDocument limits.depth root count after → (before : List ℕ) →
          before ≡ take (length bytes - length tag.from_tag.now) bytes →
          DocumentMeansWithin limits blank_mark root bytes (is_document (document before t after))
      read_whole ends before taken =
          let is : before ≡ mark ++ opens.before = taken ∙ ap (λ b. take (length b - length tag.from_tag.now) b) whole_is ∙ front_is (mark ++ opens.before) tag.from_tag.now in
          subst (λ b. DocumentMeansWithin limits blank_mark root bytes
          (is_document (document b t after))) (sym is) (items few front (opens.leads mark _
          (leads (mark ++ opens.before) _ (ends (mark ++ opens.before) t))))

pub same_parts : {limits : TextLimits} {root bytes : List ℕ} {t : Tree Mark}
    (before after kept_before kept_after : List ℕ) →
    DocumentMeansWithin limits blank_mark root bytes (is_document (document before t after)) →
    kept_before ≡ before → kept_after ≡ after
    → DocumentMeansWithin limits blank_mark root bytes (is_document (document kept_before t kept_after))
same_parts before after kept_before kept_after means is_before is_after = rw (is_before, is_after) means

-- ---- the answers
module _ (one_item : ItemsAreDetermined) (limits : TextLimits) (root bytes : List ℕ) where
  pub answers_document : (doc : Doc) → DocumentMeansWithin limits blank_mark root bytes
      (is_document (plain_doc doc)) → (o : Outcome Mark) →
      DocumentMeansWithin limits blank_mark root bytes o → Answers o (Ok doc)
  answers_document doc means o other = subst (λ p. Answers p (Ok doc)) (same_document_meaning one_item limits blank_mark root means other) refl

  fault_answered : (kind : Kind) (k : ℕ) (error : DocError) → error ≡ refusal kind k →
      DocumentMeansWithin limits blank_mark root bytes (faulty kind k) → (o : Outcome Mark) →
      DocumentMeansWithin limits blank_mark root bytes o → Answers o (Err error)
  fault_answered kind k error is means o other = subst (λ p. Answers p (Err error)) (same_document_meaning one_item limits blank_mark root means other) (inl is)

  pub answers_error : (error : DocError) →
      Refuses (DocumentMeansWithin limits blank_mark root bytes) error → (o : Outcome Mark) →
      DocumentMeansWithin limits blank_mark root bytes o → Answers o (Err error)
  answers_error (Syntax k) refuses = fault_answered syntax k _ refl refuses
  answers_error (Mismatch k) refuses = fault_answered mismatch k _ refl refuses
  answers_error (Entity k) refuses = fault_answered entity k _ refl refuses
  answers_error Subset refuses = fault_answered subset refuses.0 _ refl refuses.1
  answers_error DoctypeName refuses = fault_answered doctype_name refuses.0 _ refl refuses.1
  answers_error (Deep k) refuses = fault_answered deep k _ refl refuses
  answers_error Limit refuses = λ o other. subst (λ p. Answers p (Err Limit)) (same_document_meaning one_item limits blank_mark root refuses other) (inl refl)
  answers_error NoMemory refuses = λ o other. no_memory o
    where
      no_memory : (o : Outcome Mark) → Answers o (Err NoMemory)
      no_memory (is_document d) = refl
      no_memory (faulty kind k) = inr refl
      no_memory too_long = inr refl
