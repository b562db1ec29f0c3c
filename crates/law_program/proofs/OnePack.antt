-- A document has one response to `complete`, but for the bodies of packs, whatever its marks are.
use Rattle.std.proofs.Common.{◌≡◌, ◌≤◌, ◌+◌, ◌⊎◌, inl, inr, List, [], ◌∷◌, ◌++◌, ap, arith, codes, get_or, length, map, refl, subst, suc, sym, ℕ, ◌∙◌}
use Rattle.std.specs.List.{AllPairs, Contains}
use Rattle.std.proofs.lemmas.List.{map-append}
use Rattle.std.proofs.lemmas.List.Elements.{All-contains}
use Rattle.pv_cert.specs.Packs.{lines_of_pack, lines_text}
use Rattle.pv_cert.specs.declared.packs.Pack.{Pack}
use Rattle.pv_cache.specs.Stamps.{doc_as}
use Rattle.pv_cache.proofs.ListMarks.{list_as, lists_as}
use Rattle.pv_cache.proofs.OtherMarks.{heads_as, word_as}
use Rattle.pv_complete.specs.NeededElements.{CanNeed, CanWeigh, IsHeavy, Needs, StopsAtWide}
use Rattle.pv_complete.specs.Tables.{HasMore, HasTables, HasTooMany, most_entries}
use Rattle.pv_complete.specs.declared.errors.NeedError.TheVariants.{TooHeavy}
use Rattle.pv_dtd.specs.Plain.{PlainDtd}
use Rattle.pv_missing.proofs.VerdictHeads.{verdict_by_heads}
use Rattle.pv_missing.specs.Verdicts.{IsVerdict}
use Rattle.pv_missing.specs.WordLaws.{OneLiveWord}
use Rattle.pv_model.specs.Plain.{PlainToken}
use Rattle.pv_read.specs.DocumentLaws.{SpellsOneDocument}
use Rattle.pv_words.specs.Paths.{path_text}
use Rattle.pv_tables.specs.TableLaws.{OneTables}
use Rattle.pv_tables.specs.Tables.{AreEntries, AreTables, IsBefore, IsEntry, IsTableOf, Precedes, entries_in, key_of, no_list, other_list, possible_list}
use Rattle.pv_tables.specs.declared.tables.Entry.{Entry}
use Rattle.pv_tables.specs.declared.tables.Table.{Table}
use Rattle.pv_tree.proofs.JoinedLists.{contains_cases, contains_first, contains_later}
use Rattle.pv_tree.proofs.FirstLists.{one_first}
use Rattle.pv_tree.specs.Lists.{Listed, lists_of}
use Rattle.pv_tree.specs.Marks.{unmarked_doc}
use Rattle.pv_tree.specs.Plain.{PlainDoc}
use Rattle.pv_tree.specs.Words.{word_of}
use Rattle.pv_tree.specs.declared.nodes.Mark.{Mark}
use Rattle.pv_tree.specs.declared.nodes.Verdict.TheVariants as verdict
use Rattle.pv_missing.specs.LiveWords.{IsLiveWord}
use Rattle.pv_commands.specs.Complete.{IsCompleteCourse, IsPackOfCompletion, TellsPack, has_too_many, is_heavy, is_pack, is_wide}
use Rattle.law_program.specs.Alike.{PacksAlike, are_one, are_packs}
use Rattle.pv_opening.specs.Course.{Course}
use Rattle.pv_opening.specs.Documents.{PlainOpened}
use Rattle.pv_opening.specs.Possibility.{possibility_stage}
use Rattle.pv_opening.specs.Response.{PlainResponse, with_line}
use Rattle.pv_opening.specs.Stage.{Behind, Responds}
use Rattle.pv_opening.specs.declared.status.Status.TheVariants.{Done, Limit}
use Rattle.pv_conversation.proofs.Completions.{completion_as, grown_as}
use Rattle.pv_conversation.proofs.MissingElements.{cause_as, needs_as, wide_as}
use Rattle.pv_opening.proofs.OnePossibility.{none_first, possibility_sure}
use Rattle.pv_opening.proofs.OneOpening.{AreSameOpened, IsEqual, RunsAs, one_like, told, unmarked_same}

-- no two keys are each before the other
before_once : (hs ks : List ℕ) → IsBefore hs ks → IsBefore ks hs → ⊥
before_once [] ks b c = b
before_once (h ∷ hs) [] b c = b
before_once (h ∷ hs) (k ∷ ks) (inl x) (inl y) = omega arith
before_once (h ∷ hs) (k ∷ ks) (inl x) (inr (e, y)) = omega arith
before_once (h ∷ hs) (k ∷ ks) (inr (e, x)) (inl y) = omega arith
before_once (h ∷ hs) (k ∷ ks) (inr (e, x)) (inr (f, y)) = before_once hs ks x y

first_before : (e : Entry) (es : List Entry) (x : Entry) → AllPairs Precedes (e ∷ es) →
    Contains es x → Precedes e x
first_before e es x a (k, lt, h) =
    let p : Precedes e (get_or es k x) = a 0 (suc k) x (omega arith) (omega arith) in
    subst (λ (y : Entry). Precedes e y) h p

behind : (e : Entry) (es : List Entry) → AllPairs Precedes (e ∷ es) → AllPairs Precedes es
behind e es a i j d lt below = a (suc i) (suc j) d (omega arith) (omega arith)

-- what stands after an entry isn't that entry
not_again : (e x : Entry) (es : List Entry) → AllPairs Precedes (e ∷ es) → Contains es x → e ≡ x → ⊥
not_again e x es a m same =
    let p = first_before e es x a m in
    let q : Precedes x x = subst (λ (y : Entry). Precedes y x) same p in
    before_once (key_of x) (key_of x) q q

-- Entries that ascend and stand among others are no more than those.
module _ (x : Entry) (xs : List Entry) (y : Entry) (ys : List Entry)
    (a : AllPairs Precedes (x ∷ xs)) (b : AllPairs Precedes (y ∷ ys)) where
  among_rest : (z : Entry) → y ≡ x → Contains xs z → (y ≡ z) ⊎ Contains ys z → Contains ys z
  among_rest z same m (inl is) = absurd (not_again x z xs a m (sym same ∙ is))
  among_rest z same m (inr k) = k

  among_later : (z : Entry) → Contains ys x → (x ≡ z) ⊎ Contains xs z → (y ≡ z) ⊎ Contains ys z →
      Contains ys z
  among_later z m (inl here) (inl is) = absurd (not_again y x ys b m (is ∙ sym here))
  among_later z m (inr k) (inl is) =
      absurd (before_once (key_of x) (key_of y)
      (subst (λ (w : Entry). Precedes x w) (sym is) (first_before x xs z a k))
      (first_before y ys x b m))
  among_later z m here (inr k) = k

  step : ((z : Entry) → Contains (x ∷ xs) z → Contains (y ∷ ys) z) →
      ((us : List Entry) → AllPairs Precedes us → ((z : Entry) → Contains us z → Contains ys z) →
      length us ≤ length ys) →
      (y ≡ x) ⊎ Contains ys x → length (x ∷ xs) ≤ length (y ∷ ys)
  step to more (inl same) =
      let few = more xs (behind x xs a)
      (λ z m. among_rest z same m (contains_cases y ys z (to z (contains_later x xs z m)))) in
      omega arith
  step to more (inr k) =
      let few = more (x ∷ xs) a
      (λ z m. among_later z k (contains_cases x xs z m) (contains_cases y ys z (to z m))) in
      omega arith

no_more : (ys xs : List Entry) → AllPairs Precedes xs → AllPairs Precedes ys →
    ((z : Entry) → Contains xs z → Contains ys z) → length xs ≤ length ys
no_more ys [] a b to = omega arith
no_more [] (x ∷ xs) a b to =
    absurd (let m = to x (contains_first x xs) in let lt = m.1 in omega arith)
no_more (y ∷ ys) (x ∷ xs) a b to =
    step x xs y ys a b to (λ us c t. no_more ys us c (behind y ys b) t)
    (contains_cases y ys x (to x (contains_first x xs)))

module _ (word : OneLiveWord) (g : PlainDtd) (root : List ℕ) {M : Type 0} where
  -- entries of a list are no more than those of its table
  within_table : (list : Listed M) (t : Table) (live : List PlainToken) (es : List Entry) →
      IsTableOf g list t → IsLiveWord g (word_of g list.kids) live → AreEntries g live es →
      length es ≤ length t.entries
  within_table list t live es is at are =
      let same : live ≡ is.live = word g (word_of g list.kids) live is.live at is.is_live in
      let moved = subst (λ (w : List PlainToken). AreEntries g w es) same are in
      no_more t.entries es moved.ascend is.entries.are.ascend
      (λ z m. is.entries.all z (All-contains (IsEntry g is.live) es z moved.each m))

  -- what the tables of some lists and entries of the next one hold, the tables of all do
  within_tables : (before : List (Listed M)) (list : Listed M) (after : List (Listed M))
      (tables ts : List Table) (live : List PlainToken) (es : List Entry) →
      AreTables g root before tables → AreTables g root (before ++ list ∷ after) ts →
      IsVerdict g root list verdict.Possible → IsLiveWord g (word_of g list.kids) live →
      AreEntries g live es → entries_in tables + length es ≤ entries_in ts
  within_tables [] list after [] ts live es no_list (possible_list _ _ t us p is all) v at are =
      let few = within_table list t live es is at are in omega arith
  within_tables [] list after [] ts live es no_list (other_list _ _ us never all) v at are =
      absurd (never v)
  within_tables [] list after (u ∷ us) ts live es none all v at are = elim none [ ]
  within_tables (b ∷ bs) list after tables ts live es (possible_list _ _ t us p is some)
      (possible_list _ _ u ws q are_too all) v at are =
      let few = within_table b u is.live t.entries are_too is.is_live is.entries.are in
      let more = within_tables bs list after us ws live es some all v at are in omega arith
  within_tables (b ∷ bs) list after tables ts live es (possible_list _ _ t us p is some)
      (other_list _ _ ws never all) v at are = absurd (never p)
  within_tables (b ∷ bs) list after tables ts live es (other_list _ _ us never some)
      (possible_list _ _ u ws q is all) v at are = absurd (never q)
  within_tables (b ∷ bs) list after tables ts live es (other_list _ _ us never some)
      (other_list _ _ ws other all) v at are =
      within_tables bs list after tables ts live es some all v at are

  not_too_many : (doc : PlainDoc M) (ts : List Table) → HasTables g root doc ts →
      HasTooMany g root doc → ⊥
  not_too_many doc ts has many =
      let h = many.many in
      let all = subst (λ (ls : List (Listed M)). AreTables g root ls ts) h.is_split
      has.are_tables in
      let held = within_tables h.before h.list h.after h.tables ts h.live h.entries h.are_tables all
      h.possible h.is_live h.are_entries in
      let more = h.more in
      let few = has.few in omega arith

-- what is told, but for the tests of a pack
data TellsLess {M : Type 0} (root : List ℕ) (g : PlainDtd) (doc : PlainDoc M) (r : PlainResponse) :
    Type 0 where
  some_pack : (pack : Pack) → IsPackOfCompletion root g doc pack →
      r ≡ record { status = Done; output = lines_text (lines_of_pack pack) } →
      TellsLess root g doc r
  first_wide : (path : List ℕ) → StopsAtWide g root doc path →
      r ≡ with_line Limit (codes "limit width " ++ path_text path) → TellsLess root g doc r
  too_heavy : IsHeavy g root doc → r ≡ with_line Limit (codes "limit weight") →
      TellsLess root g doc r
  too_many : HasTooMany g root doc → r ≡ with_line Limit (codes "limit tables") →
      TellsLess root g doc r

-- what is told is told of the document with other marks
module _ {M N : Type 0} (f : M → N) (g : PlainDtd) (root : List ℕ) where
  verdict_to : (list : Listed M) → IsVerdict g root list verdict.Possible →
      IsVerdict g root (list_as f list) verdict.Possible
  verdict_to list v =
      (verdict_by_heads M N g root list (list_as f list) verdict.Possible refl
      (sym (heads_as f list.kids))).0 v

  verdict_from : (list : Listed M) → IsVerdict g root (list_as f list) verdict.Possible →
      IsVerdict g root list verdict.Possible
  verdict_from list v =
      (verdict_by_heads N M g root (list_as f list) list verdict.Possible refl
      (heads_as f list.kids)).0 v

  table_as : (list : Listed M) (t : Table) → IsTableOf g list t → IsTableOf g (list_as f list) t
  table_as list t is =
      record {
        is_path = is.is_path;
        live = is.live;
        is_live = rw (word_as f g list.kids) is.is_live;
        entries = is.entries;
      }

  tables_as : (lists : List (Listed M)) (ts : List Table) → AreTables g root lists ts →
      AreTables g root (map (list_as f) lists) ts
  tables_as [] ts no_list = no_list
  tables_as (list ∷ lists) ts (possible_list _ _ t us v is all) =
      possible_list (list_as f list) (map (list_as f) lists) t us (verdict_to list v)
      (table_as list t is) (tables_as lists us all)
  tables_as (list ∷ lists) ts (other_list _ _ _ never all) =
      other_list (list_as f list) (map (list_as f) lists) ts (λ v. never (verdict_from list v))
      (tables_as lists ts all)

  module _ (doc : PlainDoc M) where
    has_tables_as : (ts : List Table) → HasTables g root doc ts → HasTables g root (doc_as f doc) ts
    has_tables_as ts has = record {
      least = has.least;
      needs = needs_as f g root doc has.least has.needs;
      are_tables = subst (λ (ls : List (Listed N)). AreTables g root ls ts) (sym (lists_as f doc))
          (tables_as (lists_of doc) ts has.are_tables);
      few = has.few;
    }

    more_as : (n : ℕ) → HasMore g root (lists_of doc) n → HasMore g root (lists_of (doc_as f doc)) n
    more_as n h = record {
      before = map (list_as f) h.before;
      list = list_as f h.list;
      after = map (list_as f) h.after;
      is_split = lists_as f doc ∙ ap (map (list_as f)) h.is_split
          ∙ map-append (list_as f) h.before (h.list ∷ h.after);
      tables = h.tables;
      are_tables = tables_as h.before h.tables h.are_tables;
      possible = verdict_to h.list h.possible;
      live = h.live;
      is_live = rw (word_as f g h.list.kids) h.is_live;
      entries = h.entries;
      are_entries = h.are_entries;
      more = h.more;
    }

    too_many_as : HasTooMany g root doc → HasTooMany g root (doc_as f doc)
    too_many_as many =
        record {
          least = many.least;
          needs = needs_as f g root doc many.least many.needs;
          many = more_as most_entries many.many;
        }

    tells_as : (r : PlainResponse) → TellsPack root g doc r → TellsLess root g (doc_as f doc) r
    tells_as r (is_pack pack least verifiable is) = some_pack pack (record {
      completion = completion_as f g root doc pack.total pack.marks pack.body least.completion;
      grown = grown_as f doc pack.body least.grown;
      tables = has_tables_as pack.tables least.tables;
    }) is
    tells_as r (is_wide path stops is) = first_wide path (wide_as f g root doc path stops) is
    tells_as r (is_heavy heavy is) = too_heavy (cause_as f g root doc TooHeavy heavy) is
    tells_as r (has_too_many many is) = too_many (too_many_as many) is

module _ {M : Type 0} (word : OneLiveWord) (tables : OneTables M) (root : List ℕ) (g : PlainDtd)
    (doc : PlainDoc M) where
  not_wide : (path : List ℕ) → CanNeed g root doc → StopsAtWide g root doc path → ⊥
  not_wide path can stops = none_first (CanWeigh g root) (lists_of doc) path can.weighed stops.first

  not_heavy : (k : ℕ) → Needs g root doc k → IsHeavy g root doc → ⊥
  not_heavy k needs heavy =
      let many = heavy.heavy k needs.least.completes in let few = needs.light in omega arith

  one_total : (k n : ℕ) → Needs g root doc k → Needs g root doc n → k ≡ n
  one_total k n here there =
      let low : k ≤ n = here.least.least n there.least.completes in
      let high : n ≤ k = there.least.least k here.least.completes in
      omega arith

  -- one response, but for the bodies of packs
  one_pack : (r also : PlainResponse) → TellsLess root g doc r → TellsLess root g doc also →
      PacksAlike r also
  one_pack r also (some_pack p l is) (some_pack q m are) =
      are_packs p q (one_total p.total q.total l.completion.needs m.completion.needs)
      (tables g root (lists_of doc) p.tables q.tables l.tables.are_tables m.tables.are_tables) is
      are
  one_pack r also (some_pack p l is) (first_wide path stops are) =
      absurd (not_wide path l.completion.needs.can stops)
  one_pack r also (some_pack p l is) (too_heavy heavy are) =
      absurd (not_heavy p.total l.completion.needs heavy)
  one_pack r also (some_pack p l is) (too_many many are) =
      absurd (not_too_many word g root doc p.tables l.tables many)
  one_pack r also (first_wide path stops is) (some_pack q m are) =
      absurd (not_wide path m.completion.needs.can stops)
  one_pack r also (first_wide path stops is) (first_wide other first are) =
      are_one (is ∙ ap (λ p. with_line Limit (codes "limit width " ++ path_text p))
      (one_first (CanWeigh g root) (lists_of doc) path other stops.first first.first) ∙ sym are)
  one_pack r also (first_wide path stops is) (too_heavy heavy are) =
      absurd (not_wide path heavy.can stops)
  one_pack r also (first_wide path stops is) (too_many many are) =
      absurd (not_wide path many.needs.can stops)
  one_pack r also (too_heavy heavy is) (some_pack q m are) =
      absurd (not_heavy q.total m.completion.needs heavy)
  one_pack r also (too_heavy heavy is) (first_wide path stops are) =
      absurd (not_wide path heavy.can stops)
  one_pack r also (too_heavy heavy is) (too_heavy other are) = are_one (is ∙ sym are)
  one_pack r also (too_heavy heavy is) (too_many many are) =
      absurd (not_heavy many.least many.needs heavy)
  one_pack r also (too_many many is) (some_pack q m are) =
      absurd (not_too_many word g root doc q.tables m.tables many)
  one_pack r also (too_many many is) (first_wide path stops are) =
      absurd (not_wide path many.needs.can stops)
  one_pack r also (too_many many is) (too_heavy heavy are) =
      absurd (not_heavy many.least many.needs heavy)
  one_pack r also (too_many many is) (too_many other are) = are_one (is ∙ sym are)

-- what the laws of tables say that the proof stands on
pub record ListsOnce : Type 0 where
  pub word : OneLiveWord
  pub tables : OneTables Unit

-- documents with one text and the same DTD have one response to `complete`, but for the bodies of
-- packs
pub complete_once : ListsOnce → SpellsOneDocument →
    (root : List ℕ) (x y : PlainOpened) (course other : Course) (r also : PlainResponse) →
    AreSameOpened x y → RunsAs course other r also →
    IsCompleteCourse root x course → IsCompleteCourse root y other → PacksAlike r also
complete_once lists one root x y course other r also same so is are =
    let alike = unmarked_same one x.doc y.doc same.docs in
    let moved : Behind (possibility_stage root x.dtd y.doc)
    (λ _. Responds (TellsPack root x.dtd y.doc)) other =
    subst (λ (g : PlainDtd). Behind (possibility_stage root g y.doc)
    (λ _. Responds (TellsPack root g y.doc)) other) (sym same.dtds) are in
    one_like (possibility_stage root x.dtd x.doc) (possibility_stage root x.dtd y.doc) IsEqual
    (λ _. Responds (TellsPack root x.dtd x.doc)) (λ _. Responds (TellsPack root x.dtd y.doc)) r also
    (PacksAlike r also) (λ e. are_one e)
    (possibility_sure root x.dtd x.doc y.doc alike)
    (λ u v rest more e both here there. one_of x.dtd alike
    (told (TellsPack root x.dtd x.doc) rest r here both.ends)
    (told (TellsPack root x.dtd y.doc) more also there both.ends_too)) course other so is moved
  where
    one_of : (g : PlainDtd) → unmarked_doc x.doc ≡ unmarked_doc y.doc → TellsPack root g x.doc r →
        TellsPack root g y.doc also → PacksAlike r also
    one_of g alike first second =
        one_pack lists.word lists.tables root g (unmarked_doc y.doc) r also
        (subst (λ (d : PlainDoc Unit). TellsLess root g d r) alike
        (tells_as (λ (m : Mark). tt) g root x.doc r first))
        (tells_as (λ (m : Mark). tt) g root y.doc also second)
