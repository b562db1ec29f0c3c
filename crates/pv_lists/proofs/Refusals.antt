-- Refusals of texts.
use Rattle.std.proofs.Common.{◌≤◌, ℕ, suc, List, length}
use Rattle.pv_chars.specs.ByteOrderMark.{TakesByteOrderMark}
use Rattle.pv_tree.specs.Marks.{blank_mark}
use Rattle.pv_tree.specs.declared.nodes.Mark.{Mark}
use Rattle.pv_read.specs.Limits.{TextLimits}
use Rattle.pv_read.specs.Meaning.{DocumentMeansWithin, DocumentRestMeans, Outcome}
use Rattle.pv_read.specs.Prologs.{OpensRoot, behind_tag}
use Rattle.pv_read.specs.declared.prolog.RootTag.{RootTag}
use Rattle.pv_read.proofs.OneItem.{one_item}
use Rattle.pv_read.proofs.RefusedRests.{Refuses-weaker}
use Rattle.pv_read.proofs.PartsOfDocuments.{answers_error, refused_root}
use Rattle.pv_lists.specs.Answers.{AnswersLists, RefusesLists}
use Rattle.pv_lists.specs.declared.errors.ReadError.{ReadError}
use Rattle.pv_lists.specs.declared.errors.ReadError.TheVariants.{Document, Judge}

-- a refusal of a rest is one of the whole
pub read_weaker : {M E : Type 0} (P Q : Outcome M → Type 0) → ((o : Outcome M) → P o → Q o) → (e : ReadError E) → RefusesLists P e → RefusesLists Q e
read_weaker P Q f (Document error) p = Refuses-weaker P Q f error p
read_weaker P Q f (Judge cause) p = tt

-- a refusal is the answer to what the text means
pub read_answered : {E : Type 0} (limits : TextLimits) (root bytes : List ℕ) (e : ReadError E) → RefusesLists (DocumentMeansWithin limits blank_mark root bytes) e
    → (o : Outcome Mark) → DocumentMeansWithin limits blank_mark root bytes o → AnswersLists o e
read_answered limits root bytes (Document error) refuses = answers_error one_item limits root bytes error refuses
read_answered limits root bytes (Judge cause) refuses = λ o means. tt

module _ (limits : TextLimits) (root bytes mark text : List ℕ) (few : length bytes ≤ limits.bytes)
    (front : TakesByteOrderMark bytes mark text) (tag : RootTag) (opens : OpensRoot limits.depth
    root text tag) where
  -- a refusal after the root's tag is one of the whole
  pub root_refused : {E : Type 0} (e : ReadError E) → ((before : List ℕ) →
      RefusesLists (DocumentRestMeans limits.depth blank_mark root (suc tag.count)
      (behind_tag before tag.is_short tag.tag.name.now tag.tag.attrs.now) tag.rest.now) e)
      → RefusesLists (DocumentMeansWithin limits blank_mark root bytes) e
  root_refused (Document error) refuses = refused_root limits root bytes mark text few front tag opens error refuses
  root_refused (Judge cause) refuses = tt
