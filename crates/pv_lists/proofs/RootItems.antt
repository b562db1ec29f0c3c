-- The items of a root, one after another, over the open elements.
use Rattle.std.proofs.Common.{◌≡◌, ◌<◌, ◌+◌, ℕ, suc, List, [], length, true, false, sym, ap, ◌∙◌, subst, arith, Option}
use Rattle.pv_tree.specs.Marks.{blank_mark}
use Rattle.pv_tree.specs.declared.nodes.Mark.{Mark}
use Rattle.pv_read.specs.Items.{Item}
use Rattle.pv_read.specs.Left.{Open, in_content, in_epilog, just_opened}
use Rattle.pv_read.specs.Meaning.{DocumentRestMeans}
use Rattle.pv_read.specs.Places.{content, place_reached, may_stand_in_content}
use Rattle.pv_read.specs.Steps.{TakesItem}
use Rattle.pv_read.proofs.Prologs.{same_some, takes_leads}
use Rattle.pv_lists.specs.Answers.{RefusesLists}
use Rattle.pv_lists.specs.Contents.{TakesInto, ReadsJudgedContent, ReadsRoot}
use Rattle.pv_lists.specs.Judgements.{Judgement, MAX_KIDS}
use Rattle.pv_lists.specs.OpenLists.{HasReadTo, HasRoom, MayGrow}
use Rattle.pv_lists.specs.declared.errors.ReadError.{ReadError}
use Rattle.pv_lists.specs.declared.open.OpenLists.{OpenLists}
use Rattle.pv_lists.proofs.FactsAfterItems.{may_stand}
use Rattle.pv_lists.proofs.Refusals.{read_weaker}
use Rattle.pv_lists.proofs.Stack.{inner_name, outer_length, may_grow}

-- where the next item stands
pub place_is : {B F : Type 0} (m : Judgement B F) (root : List ℕ) (lists : OpenLists B F)
    (inner : Open Mark) (outer : List (Open Mark)) → HasReadTo m root lists inner outer →
    (before : List ℕ) (many : ℕ) → many ≡ suc (length lists.outer.items)
    → place_reached (in_content before inner outer) ≡ content lists.inner.name.now many
place_is m root lists inner outer r before many is =
    let name : inner.name ≡ lists.inner.name.now = sym (inner_name m root lists inner outer r) in
    let count : suc (length outer) ≡ many = sym (is ∙ ap suc (outer_length m root lists inner outer r)) in
    λ i. content (name i) (count i)

pub item_stands : {most : Option ℕ} {root rest more before : List ℕ} {inner : Open
    Mark} {outer : List (Open Mark)} {i : Item} →
    TakesItem most blank_mark root (in_content before inner outer) rest i more → may_stand_in_content i ≡ true
item_stands {before = before} {inner = inner} {outer = outer} {i = i} t = may_stand before inner outer i t.next t.stands

module _ {B F : Type 0} {most : Option ℕ} {m : Judgement B F} {root name attrs bytes : List
    ℕ} {first : ℕ} {lists : OpenLists B F} {rest : List ℕ} {count : ℕ} (r : ReadsJudgedContent most
    m root name attrs bytes first lists rest count) where
  pub grows : first + length bytes < MAX_KIDS → MayGrow lists
  grows less = may_grow m root lists r.inner r.outer r.has_read (omega (arith, r.few, r.few_kids))

  pub room : first + length bytes < MAX_KIDS → HasRoom m lists
  room less = record { root = root; inner = r.inner; outer = r.outer; has_read = r.has_read; few_lists = omega (arith, r.few, r.few_lists) }

  pub refused_at : {E : Type 0} (e : ReadError E) →
      ((before : List ℕ) (inner : Open Mark) (outer : List (Open Mark)) →
      HasReadTo m root lists inner outer →
      RefusesLists (DocumentRestMeans most blank_mark root count (in_content before inner outer) rest) e)
      → (before : List ℕ) → RefusesLists (DocumentRestMeans most blank_mark root first (in_content before (just_opened name attrs) []) bytes) e
  refused_at e refuses before = read_weaker _ _ (r.leads before) e (refuses before r.inner r.outer r.has_read)

  module _ (new : OpenLists B F) (more : List ℕ) (less : length more < length rest) (next : ℕ) (next_is : next ≡ count + 1) where
    pub one_more : TakesInto most m root new false r.inner r.outer rest more → ReadsJudgedContent most m root name attrs bytes first new more next
    one_more t =
        let count_is : next ≡ suc count = omega arith in
        record {
          inner = t.is_behind.next;
          outer = t.is_behind.around;
          has_read = t.is_behind.has_read;
          few_kids = omega (arith, t.is_behind.few_kids, r.few_kids);
          few_lists = omega (arith, t.is_behind.few_lists, r.few_lists);
          few = omega (arith, r.few);
          leads = λ before o means.
              let taken = t.taken before in
              let left_is = same_some (sym (t.is_behind.left_is before) ∙ taken.stands) in
              r.leads before o (takes_leads count taken o
              (subst (λ l. DocumentRestMeans most blank_mark root (suc count) l more o) left_is
              (subst (λ k. DocumentRestMeans most blank_mark root k
              (in_content before t.is_behind.next t.is_behind.around) more o) count_is means)));
        }

    pub last_one : TakesInto most m root new true r.inner r.outer rest more → ReadsRoot most m root false name attrs bytes first new more next
    last_one t =
        let count_is : next ≡ suc count = omega arith in
        record {
          tree = t.is_behind.tree;
          has_root = t.is_behind.has_root;
          few_lists = omega (arith, t.is_behind.few_lists, r.few_lists);
          few = omega (arith, r.few);
          leads = λ before o means.
              let taken = t.taken before in
              let left_is = same_some (sym (t.is_behind.left_is before) ∙ taken.stands) in
              r.leads before o (takes_leads count taken o
              (subst (λ l. DocumentRestMeans most blank_mark root (suc count) l more o) left_is
              (subst (λ k. DocumentRestMeans most blank_mark root k
              (in_epilog before t.is_behind.tree []) more o) count_is means)));
        }

pub none_read : {B F : Type 0} (most : Option ℕ) (m : Judgement B F) (root name attrs bytes : List
    ℕ) (first : ℕ) (lists : OpenLists B F) → HasReadTo m root lists (just_opened name attrs) [] →
    ReadsJudgedContent most m root name attrs bytes first lists bytes first
none_read most m root name attrs bytes first lists r =
    record {
      inner = just_opened name attrs;
      outer = [];
      has_read = r;
      few_kids = omega arith;
      few_lists = omega arith;
      few = omega arith;
      leads = λ before o means. means;
    }

pub begun_room : {B F : Type 0} (m : Judgement B F) (root name attrs : List ℕ) (lists : OpenLists B F) → HasReadTo m root lists (just_opened name attrs) [] → HasRoom m lists
begun_room m root name attrs lists r = record { root = root; inner = just_opened name attrs; outer = []; has_read = r; few_lists = omega arith }
