-- The tag that opens the root.
use Rattle.std.proofs.Common.{◌≡◌, ◌≤◌, ◌-◌, ◌+◌, ℕ, suc, List, [], ◌∷◌, ◌++◌, length, take, refl, sym, ap, subst, ◌∙◌, append_assoc, length-append}
use Rattle.std.proofs.Common.{arith, true, false, None, Ok, Err, Result, IfOk, IfErr}
use Rattle.std.proofs.Math.Seq.{take-append_seam}
use Rattle.pv_chars.specs.ByteOrderMark.{TakesByteOrderMark, marked, unmarked}
use Rattle.pv_tree.specs.Marks.{blank_mark}
use Rattle.pv_tree.specs.declared.nodes.Mark.{Mark}
use Rattle.pv_read.specs.Errors.{Refuses}
use Rattle.pv_read.specs.Left.{Left, at_front, empty_element, in_content, in_epilog, in_prolog, just_opened}
use Rattle.pv_read.specs.Meaning.{DocumentMeansWithin, DocumentRestMeans, is_document, items}
use Rattle.pv_read.specs.Prologs.{OpensRoot, behind_tag}
use Rattle.pv_read.specs.declared.errors.DocError.{DocError}
use Rattle.pv_read.specs.declared.prolog.RootTag.{RootTag}
use Rattle.pv_read.proofs.PartsOfDocuments.{refused_front}
use Rattle.pv_flat.specs.Plain.{PlainEvent, begin_element, end_element}
use Rattle.pv_flat.specs.ComingEvents.{TextEnd, IsIn, IsOpening, MAX_FLAT_BYTES, RestComes}
use Rattle.pv_flat.specs.ComingEvents.{TextComes, ends_with, flat_limits, refused_as}

starts : (bytes mark rest : List ℕ) → TakesByteOrderMark bytes mark rest → bytes ≡ mark ++ rest
starts bytes mark rest (marked e) = e
starts bytes mark rest (unmarked none) = refl

front-is : (a b : List ℕ) → take (length (a ++ b) - length b) (a ++ b) ≡ a
front-is a b = let same : length (a ++ b) - length b ≡ length a = omega (arith, length-append a b) in rw same (take-append_seam a b)

-- what stands before the tag
pub before-is : (root bytes : List ℕ) (tag : RootTag) (o : IsOpening root bytes tag) → take (length bytes - length tag.from_tag.now) bytes ≡ o.mark ++ o.opens.before
before-is root bytes tag o =
    let whole : bytes ≡ (o.mark ++ o.opens.before) ++ tag.from_tag.now =
    starts bytes o.mark o.text o.front ∙ ap (λ b. o.mark ++ b) o.opens.whole
    ∙ sym (append_assoc o.mark o.opens.before tag.from_tag.now) in
    ap (λ b. take (length b - length tag.from_tag.now) b) whole ∙ front-is (o.mark ++ o.opens.before) tag.from_tag.now

-- what comes after the tag comes after its event
behind : (root bytes : List ℕ) (tag : RootTag) (o : IsOpening root bytes tag) (left : Left Mark)
    (es fs : List PlainEvent) (end : TextEnd) → behind_tag (o.mark ++ o.opens.before) tag.is_short
    tag.tag.name.now tag.tag.attrs.now ≡ left →
    Rattle.pv_flat.specs.Plain.events_so_far left ++ es ≡ fs → RestComes root (suc tag.count) left tag.rest.now es end → TextComes root bytes fs end
behind root bytes tag o left es fs (ends_with before after) is given c = (
  c.0,
  items o.few o.front (o.opens.leads o.mark (is_document c.0)
      (subst (λ l. DocumentRestMeans None blank_mark root (suc tag.count) l tag.rest.now
      (is_document c.0)) (sym is) c.1)),
  c.2 ∙ given,
  c.3,
  c.4,
)
behind root bytes tag o left es fs (refused_as p) is given c =
    items o.few o.front (o.opens.leads o.mark p (subst (λ l. DocumentRestMeans None blank_mark root (suc tag.count) l tag.rest.now p) (sym is) c))

pub behind-start : (root bytes : List ℕ) (tag : RootTag) (o : IsOpening root bytes tag)
    (before : List ℕ) (es : List PlainEvent) (end : TextEnd) → tag.is_short ≡ false →
    o.mark ++ o.opens.before ≡ before →
    ((left : Left Mark) → IsIn before (tag.tag.name.now ∷ []) left →
    RestComes root (suc tag.count) left tag.rest.now es end) →
    TextComes root bytes (begin_element tag.tag.name.now tag.tag.attrs.now ∷ es) end
behind-start root bytes tag o before es end long is c =
    let left = in_content (o.mark ++ o.opens.before) (just_opened tag.tag.name.now tag.tag.attrs.now) [] in
    behind root bytes tag o left es (begin_element tag.tag.name.now tag.tag.attrs.now ∷ es) end
    (ap (λ b. behind_tag (o.mark ++ o.opens.before) b tag.tag.name.now tag.tag.attrs.now) long)
    refl (c left (is, refl))

pub behind-short : (root bytes : List ℕ) (tag : RootTag) (o : IsOpening root bytes tag)
    (before : List ℕ) (es : List PlainEvent) (end : TextEnd) → tag.is_short ≡ true →
    o.mark ++ o.opens.before ≡ before →
    ((left : Left Mark) → IsIn before [] left → RestComes root (suc tag.count) left tag.rest.now es
    end) → TextComes root bytes (begin_element tag.tag.name.now tag.tag.attrs.now ∷ end_element ∷ es) end
behind-short root bytes tag o before es end short is c =
    let left = in_epilog (o.mark ++ o.opens.before) (empty_element blank_mark tag.tag.name.now tag.tag.attrs.now) [] in
    behind root bytes tag o left es (begin_element tag.tag.name.now
    tag.tag.attrs.now ∷ end_element ∷ es) end (ap (λ b. behind_tag (o.mark ++ o.opens.before) b
    tag.tag.name.now tag.tag.attrs.now) short) refl (c left (is, refl, refl))

pub opened : (root bytes mark text : List ℕ) (r : Result RootTag DocError) →
    length bytes ≤ MAX_FLAT_BYTES → TakesByteOrderMark bytes mark text →
    IfOk r (λ tag. OpensRoot None root text tag) → IfOk r (λ tag. IsOpening root bytes tag)
opened root bytes mark text (Ok tag) few front opens = record { few = few; mark = mark; text = text; front = front; opens = opens }
opened root bytes mark text (Err e) few front opens = tt

pub not-opened : (root bytes mark text : List ℕ) (r : Result RootTag DocError) → length bytes ≤ MAX_FLAT_BYTES → TakesByteOrderMark bytes mark text →
    IfErr r (λ e. (m : List ℕ) → Refuses (DocumentRestMeans None blank_mark root 0 (in_prolog at_front m) text) e) → IfErr r (λ e. Refuses (DocumentMeansWithin flat_limits blank_mark root bytes) e)
not-opened root bytes mark text (Ok tag) few front refused = tt
not-opened root bytes mark text (Err e) few front refused = refused_front flat_limits root bytes mark text few front e refused

pub few-behind : (root bytes : List ℕ) (tag : RootTag) (o : IsOpening root bytes tag) → suc tag.count + length tag.rest.now ≤ length bytes
few-behind root bytes tag o = omega (arith, o.opens.few, ap length (starts bytes o.mark o.text o.front), length-append o.mark o.text)
