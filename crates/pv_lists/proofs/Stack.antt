-- What is known of the open elements where one more begins, gains a kid, or ends.
use Rattle.std.proofs.Common.{◌≡◌, ◌≤◌, ◌<◌, ℕ, ◌+◌, ◌-◌, suc, List, [], ◌∷◌, ◌++◌, length, take, drop, map, reverse, true, false, IsTrue, refl, sym}
use Rattle.std.proofs.Common.{ap, ◌∙◌, subst, append_assoc, append-nil, length-append, length-drop, arith}
use Rattle.std.specs.List.{AllByRecursion}
use Rattle.std.proofs.lemmas.List.{reverse-append, reverse-reverse, map_push, length-map, length-reverse, take-map, take_at, drop_at, drop-map}
use Rattle.std.proofs.lemmas.Grind.{reverse_onto}
use Rattle.std.proofs.Math.Seq.{take-length}
use Rattle.pv_chars.specs.Names.{IsName}
use Rattle.pv_model.specs.declared.models.Token.{Token}
use Rattle.pv_model.specs.Plain.{PlainToken}
use Rattle.pv_model.specs.PlainForms.{plain_token}
use Rattle.pv_dtd.specs.Plain.{PlainDtd, number_of}
use Rattle.pv_dtd.specs.Hedge.{token}
use Rattle.pv_tree.specs.Plain.{Tree, Ending, forest_of}
use Rattle.pv_tree.specs.Lists.{Listed, an_element, lists_at, lists_from}
use Rattle.pv_tree.specs.Words.{node_before, word_of}
use Rattle.pv_tree.specs.declared.nodes.Mark.{Mark}
use Rattle.pv_read.specs.Left.{Open, just_opened, with_kid}
use Rattle.pv_lists.specs.Judgements.{IsEnded, Judgement, MAX_KIDS, ended_list, path_in}
use Rattle.pv_lists.specs.OpenLists.{IsOpen, AreOpen, HasReadTo, HasEnded, HasRoom, MayGrow, ended_element}
use Rattle.pv_lists.specs.WholeLists.{next_path, whole_lists, kids_in}
use Rattle.pv_lists.specs.declared.open.OpenList.{OpenList}
use Rattle.pv_lists.specs.declared.open.OpenLists.{OpenLists}
use Rattle.pv_lists.proofs.GrowingWords.{few_begun, no_more, whole_lists-with_kid, word_of-behind}

-- an element that begins, as it is read
pub record Begins {B : Type 0} (g : PlainDtd) (list : OpenList B) (name : List ℕ) : Type 0 where
  pub is_name : list.name.now ≡ name
  pub is_named : IsTrue list.is_name → IsName name
  pub is_token : plain_token list.token ≡ token (number_of g name)
  pub no_kids : list.kids ≡ 0

-- the tokens from one on
pub from_on : (start : ℕ) (word tokens : List Token) → word ≡ tokens → take (length word - start) (drop start word) ≡ drop start tokens
from_on start word tokens is =
    let many : length word - start ≡ length (drop start word) = sym (length-drop start word) in
    rw many (take-length (drop start word) ∙ ap (drop start) is)

behind_one : {B : Type 0} (l : OpenList B) (ls : List (OpenList B)) → reverse (ls ++ l ∷ []) ≡ l ∷ reverse ls
behind_one l ls = reverse-append ls (l ∷ [])

pub none_popped : {B : Type 0} (items : List (OpenList B)) (len : ℕ) → len ≡ 0 → len ≡ length items → items ≡ []
none_popped [] len none same = refl
none_popped (l ∷ ls) len none same = absurd (omega arith)

-- the tokens where the word of the innermost open element is cut off and its own token comes after it
pub cut_off : {B F : Type 0} (old mid : OpenLists B F) (cut tokens : List Token) →
    mid.inner ≡ old.inner → mid.tokens ≡ old.tokens → cut ≡ take mid.inner.start mid.tokens.items →
    tokens ≡ cut ++ mid.inner.token ∷ []
    → tokens ≡ take old.inner.start old.tokens.items ++ old.inner.token ∷ []
cut_off old mid cut tokens inner_is tokens_are cut_is is =
    is ∙ ap (λ (u : List Token). u ++ mid.inner.token ∷ []) cut_is ∙ (λ i. take (inner_is i).start (tokens_are i).items ++ (inner_is i).token ∷ [])

module _ {B F : Type 0} (m : Judgement B F) (root : List ℕ) where
  begun : (list : OpenList B) (name attrs : List ℕ) (outer : List (Open Mark)) (tokens : List PlainToken) → Begins m.dtd list name → list.start ≡ length tokens
      → m.notes root (whole_lists outer) list.before → IsOpen m root list (just_opened name attrs) outer tokens tokens
  begun list name attrs outer tokens b start notes = record {
    is_name = b.is_name;
    is_named = b.is_named;
    is_token = b.is_token;
    is_count = b.no_kids;
    is_start = start;
    is_word = sym (append-nil tokens);
    notes = notes;
  }

  -- the root begins
  pub root_begun : (new : OpenLists B F) (name attrs : List ℕ) → Begins m.dtd new.inner name → new.inner.start ≡ 0 → new.outer.items ≡ [] → new.tokens.items ≡ []
      → m.notes root [] new.inner.before → m.finds root [] new.found → HasReadTo m root new (just_opened name attrs) []
  root_begun new name attrs b start outer tokens notes finds =
      let stack : reverse new.outer.items ≡ [] = ap reverse outer in
      let word : map plain_token new.tokens.items ≡ [] = ap (map plain_token) tokens in
      record {
        are_open = rw (stack, word) ([], begun new.inner name attrs [] [] b start notes, refl);
        finds = finds;
      }

  -- one more element begins
  pub element_begun : (old new : OpenLists B F) (inner : Open Mark) (outer : List (Open Mark)) (name attrs : List ℕ) → HasReadTo m root old inner outer
      → Begins m.dtd new.inner name → new.inner.start ≡ length old.tokens.items → m.notes root (whole_lists (inner ∷ outer)) new.inner.before
      → new.outer.items ≡ old.outer.items ++ old.inner ∷ [] → new.tokens.items ≡ old.tokens.items → new.found ≡ old.found
      → HasReadTo m root new (just_opened name attrs) (inner ∷ outer)
  element_begun old new inner outer name attrs r b start notes outer_is tokens_are found_is =
      let stack : reverse new.outer.items ≡ old.inner ∷ reverse old.outer.items = ap reverse outer_is ∙ behind_one old.inner old.outer.items in
      let word : map plain_token new.tokens.items ≡ map plain_token old.tokens.items = ap (map plain_token) tokens_are in
      let many : new.inner.start ≡ length (map plain_token old.tokens.items) = start ∙ sym (length-map old.tokens.items plain_token) in
      record {
        are_open = rw (stack, word) (map plain_token old.tokens.items, begun new.inner name attrs (inner ∷ outer) (map plain_token old.tokens.items) b many notes, r.are_open);
        finds = subst (λ l. m.finds root l new.found) (sym (append-nil (whole_lists (inner ∷ outer)))) (subst (m.finds root (whole_lists (inner ∷ outer))) (sym found_is) r.finds);
      }

  -- and then as many lists are whole
  pub opened_room : (old new : OpenLists B F) (room : HasRoom m old) (name attrs : List ℕ) → HasReadTo m room.root new (just_opened name attrs) (room.inner ∷ room.outer) → HasRoom m new
  opened_room old new room name attrs r = record {
    root = room.root;
    inner = just_opened name attrs;
    outer = room.inner ∷ room.outer;
    has_read = r;
    few_lists = let same = few_begun name attrs (room.inner ∷ room.outer) in omega (arith, same, room.few_lists);
  }

  grown : (l : OpenList B) (o : Open Mark) (os : List (Open Mark)) (below tokens more : List PlainToken) (t : Tree Mark) → IsOpen m root l o os below tokens → more ≡ tokens ++ node_before m.dtd t []
      → IsOpen m root (record l { kids = l.kids + 1 }) (with_kid o t) os below more
  grown l o os below tokens more t is more_is = record {
    is_name = is.is_name;
    is_named = is.is_named;
    is_token = is.is_token;
    is_count = omega (arith, is.is_count, length-append o.kids (t ∷ []));
    is_start = is.is_start;
    is_word = more_is ∙ ap (λ u. u ++ node_before m.dtd t []) is.is_word
        ∙ append_assoc below (word_of m.dtd (forest_of o.kids)) (node_before m.dtd t [])
        ∙ ap (λ u. below ++ u) (sym (word_of-behind m.dtd o.kids t));
    notes = is.notes;
  }

  -- one more kid of the innermost open element, which has no lists
  pub kid_added : (old new : OpenLists B F) (inner : Open Mark) (outer : List (Open Mark)) (t : Tree Mark) → HasReadTo m root old inner outer
      → new.inner ≡ record old.inner { kids = old.inner.kids + 1 } → new.outer.items ≡ old.outer.items → map plain_token new.tokens.items ≡ map plain_token old.tokens.items ++ node_before m.dtd t []
      → new.found ≡ old.found → lists_at (next_path (inner ∷ outer)) t ≡ [] → HasReadTo m root new (with_kid inner t) outer
  kid_added old new inner outer t r inner_is outer_is tokens_are found_is none =
      let stack : reverse new.outer.items ≡ reverse old.outer.items = ap reverse outer_is in
      let whole : whole_lists (inner ∷ outer) ≡ whole_lists (with_kid inner t ∷ outer) = sym (no_more inner outer t none) in
      record {
        are_open = rw (inner_is, stack) (
          r.are_open.0,
          grown old.inner inner outer r.are_open.0
              (map plain_token old.tokens.items) (map plain_token new.tokens.items) t r.are_open.1
              tokens_are,
          r.are_open.2,
        );
        finds = subst (λ l. m.finds root l new.found) whole (subst (m.finds root (whole_lists (inner ∷ outer))) (sym found_is) r.finds);
      }

  -- ---- the list of the innermost open element
  module _ (lists : OpenLists B F) (inner : Open Mark) (outer : List (Open Mark)) (r : HasReadTo m root lists inner outer) where
    pub inner_name : lists.inner.name.now ≡ inner.name
    inner_name = r.are_open.1.is_name

    pub inner_named : IsTrue lists.inner.is_name → IsName lists.inner.name.now
    inner_named is = subst IsName (sym r.are_open.1.is_name) (r.are_open.1.is_named is)

    pub inner_notes : m.notes root (whole_lists outer) lists.inner.before
    inner_notes = r.are_open.1.notes

    pub inner_within : lists.inner.start ≤ length lists.tokens.items
    inner_within =
        let many = ap length r.are_open.1.is_word in
        omega (arith, many, length-append r.are_open.0 (word_of m.dtd (forest_of inner.kids)), length-map lists.tokens.items plain_token, r.are_open.1.is_start)

    -- it is whole, where this is its word
    pub inner_whole : (word : List Token) → word ≡ drop lists.inner.start lists.tokens.items → IsEnded m.dtd lists.inner word inner.kids
    inner_whole word is = record {
      is_token = r.are_open.1.is_token ∙ ap (λ (n : List ℕ). token (number_of m.dtd n)) (sym r.are_open.1.is_name);
      is_count = r.are_open.1.is_count;
      is_word =
          ap (map plain_token) is ∙ sym (drop-map plain_token lists.inner.start lists.tokens.items) ∙ ap (drop lists.inner.start) r.are_open.1.is_word
          ∙ drop_at r.are_open.0 (word_of m.dtd (forest_of inner.kids)) lists.inner.start (sym r.are_open.1.is_start);
    }

  -- ---- its path
  path_of : (ls : List (OpenList B)) (os : List (Open Mark)) (tokens : List PlainToken) → AreOpen m root ls os tokens → 0 ∷ map (λ (l : OpenList B). l.kids) (reverse ls) ≡ next_path os
  path_of [] [] tokens h = refl
  path_of [] (o ∷ os) tokens h = absurd h
  path_of (l ∷ ls) [] tokens h = absurd h
  path_of (l ∷ ls) (o ∷ os) tokens h =
      let count : l.kids ≡ length o.kids = h.1.is_count in
      ap (λ (xs : List (OpenList B)). 0 ∷ map (λ (l : OpenList B). l.kids) xs) (reverse_onto ls l []) ∙ ap (λ (xs : List ℕ). 0 ∷ xs) (map_push (λ (l : OpenList B). l.kids) (reverse ls) l)
      ∙ ap (λ (p : List ℕ). p ++ l.kids ∷ []) (path_of ls os h.0 h.2) ∙ ap (λ (k : ℕ). next_path os ++ k ∷ []) count

  inner_path : (lists : OpenLists B F) (inner : Open Mark) (outer : List (Open Mark)) → HasReadTo m root lists inner outer → path_in lists.outer.items ≡ next_path outer
  inner_path lists inner outer r =
      ap (λ (xs : List (OpenList B)). 0 ∷ map (λ (l : OpenList B). l.kids) xs) (sym (reverse-reverse lists.outer.items)) ∙ path_of (reverse lists.outer.items) outer r.are_open.0 r.are_open.2

  -- what is found with its list, which ends
  pub list_found : (lists : OpenLists B F) (inner : Open Mark) (outer : List (Open Mark)) (r : HasReadTo m root lists inner outer) (around : List (OpenList B)) → around ≡ lists.outer.items
      → (found : F) (attrs : List ℕ) (ending : Ending) (mark : Mark)
      → m.finds root (whole_lists outer ++ ended_list lists.inner around inner.kids ∷ lists_from (next_path outer) 0 (forest_of inner.kids)) found
      → m.finds root (whole_lists outer ++ lists_at (next_path outer) (ended_element inner attrs ending mark)) found
  list_found lists inner outer r around around_is found attrs ending mark finds =
      let path_is : path_in around ≡ next_path outer = ap path_in around_is ∙ inner_path lists inner outer r in
      let named : Listed Mark → Type 0 = λ x. m.finds root (whole_lists outer ++ x ∷ lists_from (next_path outer) 0 (forest_of inner.kids)) found in
      subst named (λ i. record { path = path_is i; owner = an_element (r.are_open.1.is_name i); kids = forest_of inner.kids }) finds

  -- ---- how many there are
  same_length : (ls : List (OpenList B)) (os : List (Open Mark)) (tokens : List PlainToken) → AreOpen m root ls os tokens → length ls ≡ length os
  same_length [] [] tokens h = refl
  same_length [] (o ∷ os) tokens h = absurd h
  same_length (l ∷ ls) [] tokens h = absurd h
  same_length (l ∷ ls) (o ∷ os) tokens h = ap suc (same_length ls os h.0 h.2)

  pub outer_length : (lists : OpenLists B F) (inner : Open Mark) (outer : List (Open Mark)) → HasReadTo m root lists inner outer → length lists.outer.items ≡ length outer
  outer_length lists inner outer r = sym (length-reverse lists.outer.items) ∙ same_length (reverse lists.outer.items) outer r.are_open.0 r.are_open.2

  few_of : (ls : List (OpenList B)) (os : List (Open Mark)) (tokens : List PlainToken) → AreOpen m root ls os tokens → kids_in os < MAX_KIDS → AllByRecursion (λ (l : OpenList B). l.kids < MAX_KIDS) ls
  few_of [] [] tokens h less = tt
  few_of [] (o ∷ os) tokens h less = absurd h
  few_of (l ∷ ls) [] tokens h less = absurd h
  few_of (l ∷ ls) (o ∷ os) tokens h less = let count : l.kids ≡ length o.kids = h.1.is_count in (omega arith, few_of ls os h.0 h.2 (omega arith))

  pub may_grow : (lists : OpenLists B F) (inner : Open Mark) (outer : List (Open Mark)) → HasReadTo m root lists inner outer → kids_in (inner ∷ outer) < MAX_KIDS → MayGrow lists
  may_grow lists inner outer r less = record {
    few = few_of (lists.inner ∷ reverse lists.outer.items) (inner ∷ outer) (map plain_token lists.tokens.items) r.are_open less;
    within = inner_within lists inner outer r;
  }

  -- ---- the innermost open element ends
  no_outer : (ls : List (OpenList B)) (o : Open Mark) (os : List (Open Mark)) (tokens : List PlainToken) → ls ≡ [] → AreOpen m root ls (o ∷ os) tokens → ⊥
  no_outer ls o os tokens e h = subst (λ (k : List (OpenList B)). AreOpen m root k (o ∷ os) tokens) e h

  some_outer : (ls : List (OpenList B)) (l : OpenList B) (rest : List (OpenList B)) (tokens : List PlainToken) → ls ≡ l ∷ rest → AreOpen m root ls [] tokens → ⊥
  some_outer ls l rest tokens e h = subst (λ (k : List (OpenList B)). AreOpen m root k [] tokens) e h

  pub root_ended : (old new : OpenLists B F) (inner : Open Mark) (outer : List (Open Mark)) (attrs : List ℕ) (ending : Ending) (mark : Mark) → HasReadTo m root old inner outer
      → old.outer.items ≡ [] → new.inner ≡ old.inner → m.finds root (whole_lists outer ++ lists_at (next_path outer) (ended_element inner attrs ending mark)) new.found
      → HasEnded m root new true outer (ended_element inner attrs ending mark)
  root_ended old new inner [] attrs ending mark r none inner_is finds = record {
    is_named = sym (ap (λ (l : OpenList B). l.name.now) inner_is ∙ r.are_open.1.is_name);
    is_word = ap (λ (t : PlainToken). t ∷ []) (sym (ap (λ (l : OpenList B). plain_token l.token) inner_is ∙ r.are_open.1.is_token));
    finds = finds;
  }
  root_ended old new inner (o ∷ os) attrs ending mark r none inner_is finds = absurd (no_outer (reverse old.outer.items) o os r.are_open.0 (ap reverse none) r.are_open.2)

  pub kid_ended : (old new : OpenLists B F) (around : OpenList B) (rest : List (OpenList B))
      (inner : Open Mark) (outer : List (Open Mark)) (attrs : List ℕ) (ending : Ending)
      (mark : Mark) → HasReadTo m root old inner outer
      → old.outer.items ≡ rest ++ around ∷ [] → new.inner ≡ record around {
        kids = around.kids + 1;
      } → new.outer.items ≡ rest → new.tokens.items ≡ take old.inner.start old.tokens.items
      ++ old.inner.token ∷ []
      → m.finds root (whole_lists outer ++ lists_at (next_path outer) (ended_element inner attrs ending mark)) new.found
      → HasEnded m root new false outer (ended_element inner attrs ending mark)
  kid_ended old new around rest inner [] attrs ending mark r split inner_is outer_is tokens_are finds =
      some_outer (reverse old.outer.items) around (reverse rest) r.are_open.0 (ap reverse split ∙ behind_one around rest) r.are_open.2
  kid_ended old new around rest inner (o ∷ os) attrs ending mark r split inner_is outer_is tokens_are finds =
      let stack : reverse old.outer.items ≡ around ∷ reverse rest = ap reverse split ∙ behind_one around rest in
      let open_below = subst (λ (k : List (OpenList B)). AreOpen m root k (o ∷ os) r.are_open.0) stack r.are_open.2 in
      let cut : map plain_token (take old.inner.start old.tokens.items) ≡ r.are_open.0 =
      sym (take-map plain_token old.inner.start old.tokens.items)
      ∙ ap (take old.inner.start) r.are_open.1.is_word ∙ take_at r.are_open.0
      (word_of m.dtd (forest_of inner.kids)) old.inner.start (sym r.are_open.1.is_start) in
      let word : map plain_token new.tokens.items ≡ r.are_open.0 ++ node_before m.dtd (ended_element inner attrs ending mark) [] =
      ap (map plain_token) tokens_are ∙ map_push plain_token (take old.inner.start old.tokens.items)
      old.inner.token ∙ ap (λ u. u ++ plain_token old.inner.token ∷ []) cut
      ∙ ap (λ k. r.are_open.0 ++ k ∷ []) r.are_open.1.is_token in
      record {
        are_open = rw (inner_is, outer_is) (
          open_below.0,
          grown around o os open_below.0 r.are_open.0
              (map plain_token new.tokens.items) (ended_element inner attrs ending mark) open_below.1
              word,
          open_below.2,
        );
        finds = subst (λ l. m.finds root l new.found) (sym (whole_lists-with_kid o os (ended_element inner attrs ending mark))) finds;
      }
