-- A completion of a document is one whatever its marks are; a session's, where it isn't told.
use Rattle.std.proofs.Common.{◌≡◌, ◌∙◌, Bool, Err, IfOk, IsTrue, List, None, Ok, Result, ap, false, inl, inr, not, refl, sym, subst, ℕ}
use Rattle.std.proofs.Math.Logic.{∥∥₁_map}
use Rattle.pv_cache.specs.Rows.{TellVerdicts}
use Rattle.pv_cache.specs.Stamps.{doc_as, stamp_of, stamps_of}
use Rattle.pv_cache.proofs.RemarkedDocuments.{unmarked_as}
use Rattle.pv_reach.proofs.OtherMarks.{view_as}
use Rattle.pv_complete.specs.LeastCompletions.{IsLeastCompletion}
use Rattle.pv_complete.specs.NeededElements.{AreLiveVerdicts}
use Rattle.pv_complete.specs.GrownTrees.{Grows, IsGrownText, KeepsEnding, trees_and, grows_kept}
use Rattle.pv_complete.specs.GrownTrees.{grows_leaf, grows_new, grows_none}
use Rattle.pv_dtd.specs.Plain.{PlainDtd}
use Rattle.pv_dtd.specs.Proper.{IsProperDtd}
use Rattle.pv_missing.specs.Completions.{Completes}
use Rattle.pv_read.specs.Grammar.{IsElement, IsWholeRun, SpellsContent, SpellsDocument, SpellsNode, begins_with_text}
use Rattle.pv_tree.specs.Plain.{Ending, Forest, PlainDoc, Tree, cdata_node, element, is_element, map_marks, map_marks_all, misc_node, no_trees, short, tagged, text_node, tree}
use Rattle.pv_script.specs.declared.replies.Reply.{Reply}
use Rattle.pv_missing.specs.Verdicts.{PlainVerdicts}
use Rattle.pv_session.specs.SessionFacts.{IsSession}
use Rattle.pv_session.specs.Sessions.{PlainSession, stamped_document}
use Rattle.pv_tree.specs.declared.nodes.Mark.{Mark}
use Rattle.pv_write.specs.Text.{doc_text}
use Rattle.pv_conversation.specs.MissingReplies.{TellsCompletion, TellsNeed, Withholds}
use Rattle.pv_conversation.specs.MissingReplies.{is_not_completed, is_withheld}
use Rattle.pv_conversation.proofs.MissingElements.{live_verdicts, needs_as}
use Rattle.pv_conversation.proofs.Texts.{doc_text-without_marks}

module _ {M N : Type 0} (f : M → N) where
  begins_as : (kids : Forest M) → begins_with_text (map_marks_all f kids) ≡ begins_with_text kids
  begins_as no_trees = refl
  begins_as (tree (element x attrs ending kids mark) rest) = refl
  begins_as (tree (text_node units) rest) = refl
  begins_as (tree (cdata_node bytes) rest) = refl
  begins_as (tree (misc_node bytes) rest) = refl

  run_as : (t : Tree M) (rest : Forest M) → IsWholeRun t rest → IsWholeRun (map_marks f t) (map_marks_all f rest)
  run_as (element x attrs ending kids mark) rest is = is
  run_as (text_node units) rest is = subst (λ (b : Bool). IsTrue (not b)) (sym (begins_as rest)) is
  run_as (cdata_node bytes) rest is = is
  run_as (misc_node bytes) rest is = is

  mutual
    node_as : (t : Tree M) (bytes : List ℕ) → SpellsNode t bytes → SpellsNode (map_marks f t) bytes
    node_as (element x attrs short kids mark) bytes (name, made, none, whole) = (name, made, ap (map_marks_all f) none, whole)
    node_as (element x attrs (tagged gap) kids mark) bytes (content, name, made, white, spelled, whole) =
        (content, name, made, white, content_as kids content spelled, whole)
    node_as (text_node units) bytes spelled = spelled
    node_as (cdata_node section) bytes spelled = spelled
    node_as (misc_node misc) bytes spelled = spelled

    content_as : (kids : Forest M) (bytes : List ℕ) → SpellsContent kids bytes → SpellsContent (map_marks_all f kids) bytes
    content_as no_trees bytes spelled = spelled
    content_as (tree t rest) bytes (first, others, spelled, is, more, whole) =
        (first, others, node_as t first spelled, run_as t rest is, content_as rest others more, whole)

  element_as : (t : Tree M) → IsElement t → IsElement (map_marks f t)
  element_as (element x attrs ending kids mark) is = is
  element_as (text_node units) is = is
  element_as (cdata_node bytes) is = is
  element_as (misc_node bytes) is = is

  spelled_as : (root bytes : List ℕ) (doc : PlainDoc M) → SpellsDocument root bytes doc → SpellsDocument root bytes (doc_as f doc)
  spelled_as root bytes doc spelled = record {
    element = spelled.element;
    is_prolog = spelled.is_prolog;
    is_element = element_as doc.root spelled.is_element;
    is_root = node_as doc.root spelled.element spelled.is_root;
    is_epilog = spelled.is_epilog;
    whole = spelled.whole;
  }

  completes_as : (g : PlainDtd) (root : List ℕ) (doc body : PlainDoc M) (added : List ℕ) (k : ℕ) → Completes g root doc body added k →
      Completes g root (doc_as f doc) (doc_as f body) added k
  completes_as g root doc body added k c = record {
    valid = rw (view_as f body.root) c.valid;
    extends = rw (view_as f doc.root, view_as f body.root) c.extends;
    inserted = rw (view_as f doc.root, view_as f body.root) c.inserted;
    same_before = c.same_before;
    same_after = c.same_after;
    counted = c.counted;
    tags = rw (view_as f doc.root, view_as f body.root) c.tags;
  }

  pub completion_as : (g : PlainDtd) (root : List ℕ) (doc : PlainDoc M) (count : ℕ) (marks body : List ℕ) → IsLeastCompletion g root doc count marks body →
      IsLeastCompletion g root (doc_as f doc) count marks body
  completion_as g root doc count marks body c = record {
    needs = needs_as f g root doc count c.needs;
    tree = map_marks f c.tree;
    spelled = spelled_as root body (record doc { root = c.tree }) c.spelled;
    completes = completes_as g root doc (record doc { root = c.tree }) marks count c.completes;
  }

  beside_as : (a b : Forest M) → map_marks_all f (trees_and a b) ≡ trees_and (map_marks_all f a) (map_marks_all f b)
  beside_as no_trees b = refl
  beside_as (tree t a) b = ap (λ rest. tree (map_marks f t) rest) (beside_as a b)

  none_as : (kids : Forest M) → map_marks_all f kids ≡ no_trees → kids ≡ no_trees
  none_as no_trees e = refl
  none_as (tree t rest) e = absurd cc

  ending_as : (e : Ending) (kids : Forest M) (h : Ending) → KeepsEnding e kids h → KeepsEnding e (map_marks_all f kids) h
  ending_as e kids h (inl same) = inl same
  ending_as e kids h (inr (is, some, gap)) = inr (is, (λ none. some (none_as kids none)), gap)

  leaf_as : (t : Tree M) → is_element t ≡ false → is_element (map_marks f t) ≡ false
  leaf_as (element x attrs ending kids mark) is = is
  leaf_as (text_node units) is = is
  leaf_as (cdata_node bytes) is = is
  leaf_as (misc_node bytes) is = is

  grows_as : (a b : Forest M) → Grows a b → Grows (map_marks_all f a) (map_marks_all f b)
  grows_as a b grows_none = grows_none
  grows_as a b (grows_leaf t c d is h) = grows_leaf (map_marks f t) (map_marks_all f c) (map_marks_all f d) (leaf_as t is) (grows_as c d h)
  grows_as a b (grows_kept x attrs e w k l c d m n kept h j) =
      grows_kept x attrs e w (map_marks_all f k) (map_marks_all f l) (map_marks_all f c) (map_marks_all f d) (f m) (f n) (ending_as e l w kept) (grows_as k l h) (grows_as c d j)
  grows_as a b (grows_new x all k l c d m cut h j) =
      grows_new x (map_marks_all f all) (map_marks_all f k) (map_marks_all f l) (map_marks_all f c) (map_marks_all f d) (f m)
      (ap (map_marks_all f) cut ∙ beside_as k c) (grows_as k l h) (grows_as c d j)

  text_as : (doc : PlainDoc M) → doc_text doc ≡ doc_text (doc_as f doc)
  text_as doc = sym (doc_text-without_marks doc) ∙ ap (doc_text {M = Unit}) (sym (unmarked_as f doc)) ∙ doc_text-without_marks (doc_as f doc)

  pub grown_as : (doc : PlainDoc M) (body : List ℕ) → IsGrownText doc body → IsGrownText (doc_as f doc) body
  grown_as doc body g = record {
    root = map_marks f g.root;
    grows = grows_as (tree doc.root no_trees) (tree g.root no_trees) g.grows;
    text = g.text ∙ text_as (record doc { root = g.root });
  }

-- what a completion by the verdicts that a session tells is of the session's document
module _ (s : PlainSession) (g : PlainDtd) (root : List ℕ) (doc : PlainDoc Mark)
    (vs : PlainVerdicts) (same_dtd : g ≡ s.dtd) (same_root : root ≡ s.root)
    (same_doc : stamps_of doc ≡ s.doc) (is : IsSession s)
    (proper : IsProperDtd s.dtd) (tell : TellVerdicts (stamped_document s) vs) (none : vs.first ≡ None) where
  abbrev live : ∥ AreLiveVerdicts g root doc vs.verdicts ∥₁
  live = live_verdicts s g root doc vs same_dtd same_root same_doc is proper tell none

  pub completion_told : (n : ℕ) (marks body : List ℕ) → (AreLiveVerdicts g root doc vs.verdicts → IsLeastCompletion g root doc n marks body) → ∥ IsLeastCompletion s.dtd s.root s.doc n marks body ∥₁
  completion_told n marks body f = ∥∥₁_map live (λ live. rw (same_dtd, same_root, same_doc) at (completion_as stamp_of g root doc n marks body (f live)))

  pub grown_told : (body : List ℕ) → (AreLiveVerdicts g root doc vs.verdicts → IsGrownText doc body) → ∥ IsGrownText s.doc body ∥₁
  grown_told body f = ∥∥₁_map live (λ live. rw same_doc at (grown_as stamp_of doc body (f live)))

-- no completion is told where the number isn't
pub not_completed : {E : Type 0} (s : PlainSession) (result : Result Reply E) → IfOk result (Withholds s) → IfOk result (TellsCompletion s)
not_completed s (Ok told) withheld = is_not_completed withheld
not_completed s (Err e) withheld = tt

pub not_needed : {E : Type 0} (s : PlainSession) (result : Result Reply E) → IfOk result (Withholds s) → IfOk result (TellsNeed s)
not_needed s (Ok told) withheld = is_withheld withheld
not_needed s (Err e) withheld = tt
