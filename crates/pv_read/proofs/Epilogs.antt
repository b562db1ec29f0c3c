-- The items after a root, one after another.
use Rattle.std.proofs.Common.{◌≡◌, ◌<◌, ◌+◌, ℕ, suc, List, [], ◌++◌, length, Option, Some, refl, sym, ap, ◌∙◌, subst, append-nil, append_assoc, arith}
use Rattle.std.specs.List.{list_all}
use Rattle.pv_chars.specs.Spaces.{is_space}
use Rattle.pv_tree.specs.Plain.{Tree, misc_node}
use Rattle.pv_tree.specs.Marks.{blank_mark}
use Rattle.pv_tree.specs.declared.nodes.Mark.{Mark}
use Rattle.pv_read.specs.Items.{Item, xml_declaration, doctype, comment_or_instruction, cdata_section, start_tag, empty_tag, end_tag, text_run, bytes_of}
use Rattle.pv_read.specs.Left.{Left, in_epilog, left_by}
use Rattle.pv_read.specs.Meaning.{is_document, DocumentRestMeans, ends}
use Rattle.pv_read.specs.Errors.{Refuses}
use Rattle.pv_read.specs.Places.{place_reached, epilog}
use Rattle.pv_read.specs.Steps.{TakesItem}
use Rattle.pv_read.specs.Epilogs.{ReadsEpilog, document, EndsDocument}
use Rattle.pv_read.specs.declared.errors.DocError.{DocError}
use Rattle.pv_read.proofs.RefusedRests.{Refuses-weaker}
use Rattle.pv_read.proofs.Prologs.{by_test, takes_leads}

behind_is : {M : Type 0} (m : M) (before : List ℕ) (t : Tree M) (after : List ℕ) (i : Item) (next : Left M)
    → left_by m (in_epilog before t after) i ≡ Some next → in_epilog before t (after ++ bytes_of i) ≡ next
behind_is m before t after (xml_declaration bytes) next is = cc
behind_is m before t after (doctype name bytes) next is = cc
behind_is m before t after (comment_or_instruction bytes) next is = cc
behind_is m before t after (cdata_section bytes) next is = cc
behind_is m before t after (start_tag name attrs) next is = cc
behind_is m before t after (empty_tag name attrs) next is = cc
behind_is m before t after (end_tag name gap) next is = cc
behind_is m before t after (text_run bytes) next is = by_test (list_all is_space bytes) _ next is

module _ {most : Option ℕ} {root end rest : List ℕ} {first count : ℕ} (r : ReadsEpilog most root end first rest count) where
  pub one_more_behind : (i : Item) (more : List ℕ) → ((left : Left Mark) → place_reached left ≡ epilog → TakesItem most blank_mark root left rest i more)
      → length more < length rest → (next : ℕ) → next ≡ count + 1 → ReadsEpilog most root end first more next
  one_more_behind i more taken less next is_next =
      let begins = (taken (in_epilog [] (misc_node []) []) refl).begins in
      record {
        after = r.after ++ bytes_of i;
        whole = r.whole ∙ ap (λ b. r.after ++ b) begins.whole ∙ sym (append_assoc r.after (bytes_of i) more);
        few = omega (arith, r.few);
        leads = λ before root_tree o means.
            let t = taken (in_epilog before root_tree r.after) refl in
            let next_is = behind_is blank_mark before root_tree r.after i t.next t.stands in
            let count_is : next ≡ suc count = omega arith in
            r.leads before root_tree o (takes_leads count t o
            (subst (λ l. DocumentRestMeans most blank_mark root (suc count) l more o) next_is
            (subst (λ k. DocumentRestMeans most blank_mark root k (in_epilog before root_tree
            (r.after ++ bytes_of i)) more o) count_is means)));
      }

  pub nothing_left : rest ≡ [] → EndsDocument most root first end
  nothing_left none before t =
      let after_is : end ≡ r.after = r.whole ∙ ap (λ b. r.after ++ b) none ∙ append-nil r.after in
      subst (λ e. DocumentRestMeans most blank_mark root first (in_epilog before t []) end
      (is_document (document before t e))) (sym after_is) (r.leads before t
      (is_document (document before t r.after)) (ends none))

  pub refused_behind : (e : DocError) → ((left : Left Mark) → place_reached left ≡ epilog → Refuses (DocumentRestMeans most blank_mark root count left rest) e)
      → (before : List ℕ) (t : Tree Mark) → Refuses (DocumentRestMeans most blank_mark root first (in_epilog before t []) end) e
  refused_behind e refuses before t = Refuses-weaker _ _ (r.leads before t) e (refuses (in_epilog before t r.after) refl)
