-- The items of a prolog, one after another.
use Rattle.std.proofs.Common.{◌≡◌, ◌<◌, ◌+◌, ℕ, suc, List, [], ◌++◌, length, Bool, true, false}
use Rattle.std.proofs.Common.{Option, Some, None, cond, refl, sym, ap, ◌∙◌, subst, append_assoc}
use Rattle.std.proofs.Common.{arith}
use Rattle.std.specs.List.{list_all}
use Rattle.pv_chars.specs.Spaces.{is_space}
use Rattle.pv_tree.specs.Marks.{blank_mark}
use Rattle.pv_tree.specs.declared.nodes.Mark.{Mark}
use Rattle.pv_read.specs.Items.{Item, xml_declaration, doctype, comment_or_instruction, cdata_section, start_tag, empty_tag, end_tag, text_run, bytes_of}
use Rattle.pv_read.specs.Left.{Left, PlainStage, at_front, in_prolog, left_by, takes_doctype, is_at_front}
use Rattle.pv_read.specs.Kinds.{opens_element}
use Rattle.pv_read.specs.Meaning.{Outcome, DocumentRestMeans, item}
use Rattle.pv_read.specs.Errors.{Refuses}
use Rattle.pv_read.specs.Places.{stage_behind, place_reached, prolog}
use Rattle.pv_read.specs.Steps.{TakesItem}
use Rattle.pv_read.specs.declared.errors.DocError.{DocError}
use Rattle.pv_read.specs.Prologs.{ReadsProlog, behind_tag}
use Rattle.pv_read.proofs.RefusedRests.{Refuses-weaker}

-- Some of two things is Some of one where they are one
pub same_some : {A : Type 0} {x y : A} → Some x ≡ Some y → x ≡ y
same_some e = cc

pub by_test : {A : Type 0} (b : Bool) (x y : A) → cond b (Some x) None ≡ Some y → x ≡ y
by_test true x y e = cc
by_test false x y e = cc

behind_is : {M : Type 0} (m : M) (stage : PlainStage) (before : List ℕ) (i : Item) (next : Left M) → opens_element i ≡ false
    → left_by m (in_prolog stage before) i ≡ Some next → in_prolog (stage_behind stage i) (before ++ bytes_of i) ≡ next
behind_is m stage before (xml_declaration bytes) next closed is = by_test (is_at_front stage) _ next is
behind_is m stage before (doctype name bytes) next closed is = by_test (takes_doctype stage) _ next is
behind_is m stage before (comment_or_instruction bytes) next closed is = cc
behind_is m stage before (cdata_section bytes) next closed is = cc
behind_is m stage before (start_tag name attrs) next closed is = cc
behind_is m stage before (empty_tag name attrs) next closed is = cc
behind_is m stage before (end_tag name gap) next closed is = cc
behind_is m stage before (text_run bytes) next closed is = by_test (list_all is_space bytes) _ next is

pub takes_leads : {M : Type 0} {most : Option ℕ} {m : M} {root : List ℕ} {left : Left M} {rest
    more : List ℕ} {i : Item} (k : ℕ) (t : TakesItem most m root left rest i more) (o : Outcome M) →
    DocumentRestMeans most m root (suc k) t.next more o → DocumentRestMeans most m root k left rest o
takes_leads {i = i} k t o means = item i t.begins t.stands t.no_fault means

module _ {most : Option ℕ} {root text rest : List ℕ} {stage : PlainStage} {count : ℕ} (r : ReadsProlog most root text stage rest count) (i : Item) (more : List ℕ)
    (taken : (left : Left Mark) → place_reached left ≡ prolog stage → TakesItem most blank_mark root left rest i more) (less : length more < length rest) where
  pub one_more : (behind : PlainStage) (next : ℕ) → opens_element i ≡ false → behind ≡ stage_behind stage i → next ≡ count + 1 → ReadsProlog most root text behind more next
  one_more behind next closed is_behind is_next =
      let begins = (taken (in_prolog stage []) refl).begins in
      record {
        before = r.before ++ bytes_of i;
        whole = r.whole ∙ ap (λ b. r.before ++ b) begins.whole ∙ sym (append_assoc r.before (bytes_of i) more);
        few = omega (arith, r.few);
        leads = λ mark o means.
            let t = taken (in_prolog stage (mark ++ r.before)) refl in
            let next_is : in_prolog (stage_behind stage i) ((mark ++ r.before) ++ bytes_of i) ≡ t.next = behind_is blank_mark stage (mark ++ r.before) i t.next closed t.stands in
            let left_is : in_prolog behind (mark ++ (r.before ++ bytes_of i)) ≡ t.next = rw (is_behind, ← append_assoc mark r.before (bytes_of i)) next_is in
            let count_is : next ≡ suc count = omega arith in
            r.leads mark o (takes_leads count t o (subst (λ l. DocumentRestMeans most blank_mark
            root (suc count) l more o) left_is (subst (λ k. DocumentRestMeans most blank_mark
            root k (in_prolog behind (mark ++ (r.before ++ bytes_of i))) more o) count_is means)));
      }

  pub opens_by : (short : Bool) (name attrs : List ℕ) → ((before : List ℕ) → left_by blank_mark (in_prolog stage before) i ≡ Some (behind_tag before short name attrs))
      → (mark : List ℕ) (o : Outcome Mark) → DocumentRestMeans most blank_mark root (suc count)
      (behind_tag (mark ++ r.before) short name attrs) more o →
      DocumentRestMeans most blank_mark root 0 (in_prolog at_front mark) text o
  opens_by short name attrs is mark o means =
      let t = taken (in_prolog stage (mark ++ r.before)) refl in
      let next_is : behind_tag (mark ++ r.before) short name attrs ≡ t.next = same_some (sym (is (mark ++ r.before)) ∙ t.stands) in
      r.leads mark o (takes_leads count t o (subst (λ l. DocumentRestMeans most blank_mark root (suc count) l more o) next_is means))

module _ {most : Option ℕ} {root text rest : List ℕ} {stage : PlainStage} {count : ℕ} (r : ReadsProlog most root text stage rest count) (e : DocError) where
  pub refused_in : ((left : Left Mark) → place_reached left ≡ prolog stage → Refuses (DocumentRestMeans most blank_mark root count left rest) e)
      → (mark : List ℕ) → Refuses (DocumentRestMeans most blank_mark root 0 (in_prolog at_front mark) text) e
  refused_in refuses mark = Refuses-weaker _ _ (r.leads mark) e (refuses (in_prolog stage (mark ++ r.before)) refl)
