-- What was read of a whole document.
use Rattle.std.proofs.Common.{◌≡◌, ◌≤◌, ◌<◌, ◌-◌, ◌+◌, ℕ, suc, List, [], length, take, Bool, true, false, Option, refl, subst, arith}
use Rattle.pv_chars.specs.ByteOrderMark.{TakesByteOrderMark}
use Rattle.pv_tree.specs.Marks.{blank_mark}
use Rattle.pv_tree.specs.Plain.{PlainDoc, short}
use Rattle.pv_tree.specs.declared.nodes.Mark.{Mark}
use Rattle.pv_read.specs.Epilogs.{document, EndsDocument}
use Rattle.pv_read.specs.Left.{just_opened}
use Rattle.pv_read.specs.Limits.{TextLimits}
use Rattle.pv_read.specs.Meaning.{is_document, DocumentMeansWithin}
use Rattle.pv_read.specs.Prologs.{OpensRoot}
use Rattle.pv_read.specs.declared.prolog.RootTag.{RootTag}
use Rattle.pv_read.proofs.OneItem.{one_item}
use Rattle.pv_read.proofs.OneMeaning.{same_document_meaning}
use Rattle.pv_read.proofs.PartsOfDocuments.{read_whole}
use Rattle.pv_lists.specs.Answers.{ReadsLists}
use Rattle.pv_lists.specs.Contents.{ReadsRoot}
use Rattle.pv_lists.specs.Judgements.{Judgement, MAX_KIDS}
use Rattle.pv_lists.specs.OpenLists.{HasEnded, ended_element}
use Rattle.pv_lists.specs.declared.open.OpenLists.{OpenLists}

-- a root of an empty-element tag
pub short_root : {B F : Type 0} (most : Option ℕ) (m : Judgement B F) (root name attrs bytes : List
    ℕ) (count next : ℕ) (is_short whole : Bool) (lists : OpenLists B F) →
    HasEnded m root lists whole [] (ended_element (just_opened name attrs) attrs short blank_mark)
    → is_short ≡ true → next ≡ suc count → ReadsRoot most m root is_short name attrs bytes (suc count) lists bytes next
short_root most m root name attrs bytes count next is_short false lists h is same = absurd h
short_root most m root name attrs bytes count next is_short true lists h is same = record {
  tree = ended_element (just_opened name attrs) attrs short blank_mark;
  has_root = h;
  few_lists = omega arith;
  few = omega arith;
  leads = λ before o means. rw (is, ← same) means;
}

module _ {B F : Type 0} (limits : TextLimits) (m : Judgement B F) (root bytes mark text : List ℕ)
    (few : length bytes ≤ limits.bytes) (front : TakesByteOrderMark bytes mark text) (tag : RootTag)
    (opens : OpensRoot limits.depth root text tag) (lists : OpenLists B F)
    (after : List ℕ) (count : ℕ) (r : ReadsRoot limits.depth m root tag.is_short tag.tag.name.now
    tag.tag.attrs.now tag.rest.now (suc tag.count) lists after count)
    (ends : EndsDocument limits.depth root count after) where
  abbrev pub the_doc : PlainDoc Mark
  the_doc = document (take (length bytes - length tag.from_tag.now) bytes) r.tree after

  pub is_meant : DocumentMeansWithin limits blank_mark root bytes (is_document (document (take (length bytes - length tag.from_tag.now) bytes) r.tree after))
  is_meant = read_whole limits root bytes mark text few front tag opens count r.tree after r.leads ends (take (length bytes - length tag.from_tag.now) bytes) refl

  -- the lists that are read are those of the document that the bytes mean, whichever it is
  pub of_any : suc tag.count + length tag.rest.now < MAX_KIDS → (doc : PlainDoc Mark) → DocumentMeansWithin limits blank_mark root bytes (is_document doc) → ReadsLists m root lists doc.root
  of_any less doc means =
      let outcome = same_document_meaning one_item limits blank_mark root is_meant means in
      let same : document (take (length bytes - length tag.from_tag.now) bytes) r.tree after ≡ doc = cc in
      subst (λ (d : PlainDoc Mark). ReadsLists m root lists d.root) same (record { has_root = r.has_root; few_lists = omega (arith, r.few, r.few_lists, less) })
