-- What is known after an item in the root.
use Rattle.std.proofs.Common.{◌≡◌, ◌≤◌, ℕ, suc, ◌+◌, List, [], ◌∷◌, ◌++◌, length, map, Bool, true, false, not, Option, Some, None, option_to_list}
use Rattle.std.proofs.Common.{refl, sym, ap, ◌∙◌, length-append, inl, inr, ◌⊎◌, arith}
use Rattle.std.specs.Bool.{then_some}
use Rattle.std.specs.List.{list_any}
use Rattle.std.proofs.lemmas.List.{map-append}
use Rattle.pv_chars.specs.Spaces.{is_space}
use Rattle.pv_chars.specs.Texts.{joined, has_data}
use Rattle.pv_chars.specs.Units.{units_in}
use Rattle.pv_chars.proofs.MeansLemmas.{cut_data}
use Rattle.pv_model.specs.PlainForms.{plain_token}
use Rattle.pv_model.specs.declared.models.Token.{Token}
use Rattle.pv_model.specs.declared.models.Token.TheVariants.{Text}
use Rattle.pv_dtd.specs.Plain.{PlainDtd}
use Rattle.pv_tree.specs.Attributes.{IsCharacterData, IsKnownReference}
use Rattle.pv_tree.specs.Marks.{blank_mark}
use Rattle.pv_tree.specs.Plain.{Tree, short, tagged, text_node, cdata_node, misc_node}
use Rattle.pv_tree.specs.Lists.{lists_at}
use Rattle.pv_tree.specs.Words.{node_before}
use Rattle.pv_tree.specs.declared.nodes.Mark.{Mark}
use Rattle.pv_read.specs.Items.{Item, xml_declaration, doctype, comment_or_instruction, cdata_section, start_tag, empty_tag, end_tag, text_run, HasKnownReferences}
use Rattle.pv_read.specs.Kinds.{entity}
use Rattle.pv_read.specs.Left.{Left, Open, in_content, just_opened, with_kid, left_by}
use Rattle.pv_read.specs.Places.{may_stand_in_content}
use Rattle.pv_read.specs.Steps.{TakesItem}
use Rattle.pv_read.proofs.DecidedReferences.{known_is_decided}
use Rattle.pv_read.proofs.DocumentFacts.{data_are_units, data_joined}
use Rattle.pv_lists.specs.Judgements.{Judgement}
use Rattle.pv_lists.specs.WholeLists.{kids_in, next_path, whole_lists}
use Rattle.pv_lists.specs.OpenLists.{HasReadTo, HasEnded, ended_element}
use Rattle.pv_lists.specs.Contents.{IsBehind}
use Rattle.pv_lists.specs.declared.open.OpenLists.{OpenLists}
use Rattle.pv_lists.proofs.GrowingWords.{few_begun, few_ended, few_same}
use Rattle.pv_lists.proofs.Stack.{kid_added}

-- the token of data, or none
abbrev pub if_some : Bool → Option Token
if_some b = then_some b Text

word_by : (g : PlainDtd) (b c : Bool) (units : List (List ℕ)) → has_data units ≡ c → b ≡ c → map plain_token (option_to_list (if_some b)) ≡ node_before {M = Mark} g (text_node units) []
word_by g true true units is e = rw is refl
word_by g true false units is e = absurd cc
word_by g false true units is e = absurd cc
word_by g false false units is e = rw is refl

module _ {B F : Type 0} (m : Judgement B F) (root : List ℕ) (inner : Open Mark) (outer : List (Open Mark)) where
  -- an element begins
  pub behind_start : (new : OpenLists B F) (name attrs : List ℕ) → HasReadTo m root new (just_opened name attrs) (inner ∷ outer) → IsBehind m root new false inner outer (start_tag name attrs)
  behind_start new name attrs r = record {
    next = just_opened name attrs;
    around = inner ∷ outer;
    left_is = λ before. refl;
    has_read = r;
    few_kids = omega arith;
    few_lists = let same = few_begun name attrs (inner ∷ outer) in omega arith;
  }

  kid_few : (o : Open Mark) (os : List (Open Mark)) (t : Tree Mark) → kids_in (with_kid o t ∷ os) ≤ suc (kids_in (o ∷ os))
  kid_few o os t = omega (arith, length-append o.kids (t ∷ []))

  -- an element ends
  pub behind_end : (new : OpenLists B F) (whole : Bool) (name gap : List ℕ) →
      HasEnded m root new whole outer (ended_element inner inner.attrs (tagged gap) blank_mark) →
      IsBehind m root new whole inner outer (end_tag name gap)
  behind_end new whole name gap = by new whole outer
    where
      by : (new : OpenLists B F) (whole : Bool) (outer : List (Open Mark)) →
          HasEnded m root new whole outer (ended_element inner inner.attrs (tagged gap)
          blank_mark) → IsBehind m root new whole inner outer (end_tag name gap)
      by new true [] h = record { tree = ended_element inner inner.attrs (tagged gap) blank_mark; left_is = λ before. refl; has_root = h; few_lists = omega arith }
      by new true (o ∷ os) h = absurd h
      by new false [] h = absurd h
      by new false (o ∷ os) h = record {
        next = with_kid o (ended_element inner inner.attrs (tagged gap) blank_mark);
        around = os;
        left_is = λ before. refl;
        has_read = h;
        few_kids = omega (arith, length-append o.kids (ended_element inner inner.attrs (tagged gap) blank_mark ∷ []));
        few_lists = few_ended inner o os inner.attrs (tagged gap) blank_mark;
      }

  kid_behind : (new : OpenLists B F) (i : Item) (t : Tree Mark) → ((before : List ℕ) → left_by blank_mark (in_content before inner outer) i ≡ Some (in_content before (with_kid inner t) outer))
      → HasReadTo m root new (with_kid inner t) outer → length (whole_lists (with_kid inner t ∷ outer)) ≤ suc (length (whole_lists (inner ∷ outer))) → IsBehind m root new false inner outer i
  kid_behind new i t is r few = record { next = with_kid inner t; around = outer; left_is = is; has_read = r; few_kids = kid_few inner outer t; few_lists = few }

  -- an element begins and ends
  pub behind_empty : (new : OpenLists B F) (whole : Bool) (name attrs : List ℕ) →
      HasEnded m root new whole (inner ∷ outer) (ended_element (just_opened name attrs) attrs short
      blank_mark) → IsBehind m root new whole inner outer (empty_tag name attrs)
  behind_empty new true name attrs h = absurd h
  behind_empty new false name attrs h =
      let few = few_ended (just_opened name attrs) inner outer attrs short blank_mark in
      let same = few_begun name attrs (inner ∷ outer) in
      kid_behind new (empty_tag name attrs) (ended_element (just_opened name attrs) attrs short blank_mark) (λ before. refl) h (omega arith)

  -- ---- a kid without lists
  module _ (old new : OpenLists B F) (r : HasReadTo m root old inner outer) (inner_is : new.inner
      ≡ record old.inner { kids = old.inner.kids + 1 }) (outer_is : new.outer.items
      ≡ old.outer.items) (found_is : new.found ≡ old.found)
      (token : Option Token) (tokens_are : new.tokens.items ≡ old.tokens.items ++ option_to_list token) where
    kid_without : (i : Item) (t : Tree Mark) → ((before : List ℕ) →
        left_by blank_mark (in_content before inner outer) i
        ≡ Some (in_content before (with_kid inner t) outer)) → lists_at (next_path (inner ∷ outer)) t ≡ []
        → map plain_token (option_to_list token) ≡ node_before m.dtd t [] → IsBehind m root new false inner outer i
    kid_without i t is none word =
        let words = ap (map plain_token) tokens_are ∙ map-append plain_token old.tokens.items (option_to_list token) ∙ ap (λ u. map plain_token old.tokens.items ++ u) word in
        kid_behind new i t is (kid_added m root old new inner outer t r inner_is outer_is words found_is none) (few_same inner outer t none)

    pub behind_misc : (bytes : List ℕ) → token ≡ None → IsBehind m root new false inner outer (comment_or_instruction bytes)
    behind_misc bytes none = kid_without (comment_or_instruction bytes) (misc_node bytes) (λ before. refl) refl (ap (λ t. map plain_token (option_to_list t)) none)

    pub behind_cdata : (bytes : List ℕ) → token ≡ Some Text → IsBehind m root new false inner outer (cdata_section bytes)
    behind_cdata bytes some = kid_without (cdata_section bytes) (cdata_node bytes) (λ before. refl) refl (ap (λ t. map plain_token (option_to_list t)) some)

    data_is : (run : List ℕ) → IsCharacterData IsKnownReference run → has_data (units_in run) ≡ list_any (λ b. not (is_space b)) run
    data_is run d = cut_data run (length (units_in run)) record {
      units = units_in run;
      are_units = data_are_units run d;
      some = λ none. d.some (sym (data_joined run d) ∙ ap joined none);
      whole = sym (data_joined run d);
      count_is = refl;
    }

    pub behind_text : (run : List ℕ) (b : Bool) → IsCharacterData IsKnownReference run →
        b ≡ list_any (λ b. not (is_space b)) run → token ≡ if_some b →
        IsBehind m root new false inner outer (text_run run)
    behind_text run b known is token_is =
        kid_without (text_run run) (text_node (units_in run)) (λ before. refl) refl
        (ap (λ t. map plain_token (option_to_list t)) token_is ∙ word_by m.dtd b (has_data (units_in run)) (units_in run) refl (is ∙ sym (data_is run known)))

-- ---- what an item that was taken keeps
pub may_stand : (before : List ℕ) (inner : Open Mark) (outer : List (Open Mark)) (i : Item)
    (next : Left Mark) → left_by blank_mark (in_content before inner outer) i ≡ Some next →
    may_stand_in_content i ≡ true
may_stand before inner outer (xml_declaration bytes) next e = absurd cc
may_stand before inner outer (doctype name bytes) next e = absurd cc
may_stand before inner outer (comment_or_instruction bytes) next e = refl
may_stand before inner outer (cdata_section bytes) next e = refl
may_stand before inner outer (start_tag name attrs) next e = refl
may_stand before inner outer (empty_tag name attrs) next e = refl
may_stand before inner outer (end_tag name gap) next e = refl
may_stand before inner outer (text_run bytes) next e = refl

pub known_taken : {most : Option ℕ} {root rest more : List ℕ} {left : Left Mark} {i : Item} → TakesItem most blank_mark root left rest i more → HasKnownReferences i
known_taken {rest = rest} {more = more} {i = i} t = by (known_is_decided i t.begins.has_form)
  where
    by : HasKnownReferences i ⊎ (HasKnownReferences i → ⊥) → HasKnownReferences i
    by (inl known) = known
    by (inr unknown) = absurd (t.no_fault entity record { item = i; more = more; next = t.next; begins = t.begins; may_stand = t.stands; has_property = unknown })
