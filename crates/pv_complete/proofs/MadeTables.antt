-- Walks that make tables, part by part.
use Rattle.std.proofs.Common.{List, [], append-nil, append_assoc, ap, arith, drop, length, refl, sym, ℕ, ◌+◌, ◌++◌, ◌∙◌, ◌∷◌, ◌≡◌, false, inl, inr}
use Rattle.pv_dtd.specs.Plain.{PlainDtd}
use Rattle.pv_model.specs.Plain.{PlainToken}
use Rattle.pv_tree.specs.Lists.{Listed, lists_of}
use Rattle.pv_tree.specs.Plain.{Forest, PlainDoc}
use Rattle.pv_tree.specs.Words.{word_of}
use Rattle.pv_tree.proofs.JoinedLists.{all_joined}
use Rattle.pv_tree.proofs.FirstLists.{first_before, first_behind}
use Rattle.pv_tree.specs.declared.nodes.Mark.{Mark}
use Rattle.pv_tree.specs.declared.nodes.Verdict.{Verdict}
use Rattle.pv_tree.specs.declared.nodes.Verdict.TheVariants as verdict
use Rattle.pv_missing.specs.LiveWords.{IsLiveWord}
use Rattle.pv_missing.specs.Verdicts.{AreVerdicts, IsVerdict}
use Rattle.pv_missing.specs.ListWeights.{site_of}
use Rattle.pv_missing.specs.Widths.{FitsWeights, IsListForWeights}
use Rattle.pv_missing.proofs.Verdict.{one_verdict}
use Rattle.std.specs.Prelude.{None}
use Rattle.pv_tables.specs.declared.tables.Entry.{Entry}
use Rattle.pv_tables.specs.declared.tables.Table.{Table}
use Rattle.pv_complete.specs.Loads.{UsesVerdict}
use Rattle.pv_complete.specs.NeededElements.{CanWeigh, HasCause, Needs}
use Rattle.pv_tables.specs.Tables.{AreTables, IsTableOf, entries_in, no_list, other_list, possible_list}
use Rattle.pv_complete.specs.Tables.{HasTables, HasTablesCause, most_entries}
use Rattle.pv_complete.specs.TableWalks.{AreListEntries, Makes, MakesTables, PlainMade, StopsKids}
use Rattle.pv_complete.specs.TableWalks.{StopsLists, StopsTables, StopsWord}
use Rattle.pv_complete.specs.declared.errors.NeedError.{NeedError}
use Rattle.pv_complete.specs.declared.errors.NeedError.TheVariants.{Impossible, NoMemory, TooHeavy, TooMany, TooWide}
use Rattle.pv_complete.proofs.WeightSums.{live_site}

pub entries_joined : (ts us : List Table) → entries_in (ts ++ us) ≡ entries_in ts + entries_in us
entries_joined [] us = omega arith
entries_joined (t ∷ ts) us = let e = entries_joined ts us in omega arith

abbrev pub table : List ℕ → List Entry → Table
table path es = record { path = path; entries = es }

-- why a list of a live word isn't done
pub stops_kids : (g : PlainDtd) (kids : Forest Mark) (live : List PlainToken) (places : List ℕ)
    (room : ℕ) (e : NeedError) → IsLiveWord g (word_of g kids) live → length live ≡ length (word_of g kids) →
    StopsWord g live places room e → StopsKids g kids places room e
stops_kids g kids live places room (Impossible path) is n s = s
stops_kids g kids live places room (TooWide path) is n s = (s.0, rw n at s.1)
stops_kids g kids live places room TooHeavy is n s = s
stops_kids g kids live places room TooMany is n s = (live, is, s)
stops_kids g kids live places room NoMemory is n s = s

module _ (g : PlainDtd) (root : List ℕ) where
  tables_joined : (xs ys : List (Listed Mark)) (ts us : List Table) → AreTables g root xs ts → AreTables g root ys us → AreTables g root (xs ++ ys) (ts ++ us)
  tables_joined xs ys ts us no_list b = b
  tables_joined xs ys ts us (possible_list list lists t rest p i a) b = possible_list list (lists ++ ys) t (rest ++ us) p i (tables_joined lists ys rest us a b)
  tables_joined xs ys ts us (other_list list lists rest p a) b = other_list list (lists ++ ys) (rest ++ us) p (tables_joined lists ys rest us a b)

  stops_before : (lists others : List (Listed Mark)) (room : ℕ) (e : NeedError) → StopsLists g root lists room e → StopsLists g root (lists ++ others) room e
  stops_before lists others room (Impossible path) s = s
  stops_before lists others room (TooWide path) s = first_before (CanWeigh g root) lists others path s
  stops_before lists others room TooHeavy s = s
  stops_before lists others room TooMany s = record {
    before = s.before;
    list = s.list;
    after = s.after ++ others;
    is_split = ap (λ zs. zs ++ others) s.is_split ∙ append_assoc s.before (s.list ∷ s.after) others;
    tables = s.tables;
    are_tables = s.are_tables;
    possible = s.possible;
    live = s.live;
    is_live = s.is_live;
    entries = s.entries;
    are_entries = s.are_entries;
    more = s.more;
  }
  stops_before lists others room NoMemory s = s

  stops_behind : (lists others more : List (Listed Mark)) (vs : List Verdict) (old middle : PlainMade) (e : NeedError) → Makes g root lists more vs old middle →
      StopsLists g root others middle.room e → StopsLists g root (lists ++ others) old.room e
  stops_behind lists others more vs old middle (Impossible path) a s = s
  stops_behind lists others more vs old middle (TooWide path) a s = first_behind (CanWeigh g root) lists others path a.weighed s
  stops_behind lists others more vs old middle TooHeavy a s = s
  stops_behind lists others more vs old middle TooMany a s = record {
    before = lists ++ s.before;
    list = s.list;
    after = s.after;
    is_split = ap (λ zs. lists ++ zs) s.is_split ∙ sym (append_assoc lists s.before (s.list ∷ s.after));
    tables = a.tables ++ s.tables;
    are_tables = tables_joined lists s.before a.tables s.tables a.are_tables s.are_tables;
    possible = s.possible;
    live = s.live;
    is_live = s.is_live;
    entries = s.entries;
    are_entries = s.are_entries;
    more = let j = entries_joined a.tables s.tables in let r = a.room in let m = s.more in omega arith;
  }
  stops_behind lists others more vs old middle NoMemory a s = s

  module _ (vs : List Verdict) where
    pub makes_nothing : (at : PlainMade) → MakesTables g root [] vs at at
    makes_nothing at more are = record {
      left = are;
      tables = [];
      are_tables = no_list;
      added = sym (append-nil at.tables);
      room = omega arith;
      weighed = tt;
    }

    pub makes_on : (lists others : List (Listed Mark)) (old middle new : PlainMade) → MakesTables g root lists vs old middle → MakesTables g root others vs middle new →
        MakesTables g root (lists ++ others) vs old new
    makes_on lists others old middle new f h more are = record {
      left = b.left;
      tables = a.tables ++ b.tables;
      are_tables = tables_joined lists others a.tables b.tables a.are_tables b.are_tables;
      added = b.added ∙ ap (λ zs. zs ++ b.tables) a.added ∙ append_assoc old.tables a.tables b.tables;
      room = let j = entries_joined a.tables b.tables in let r = a.room in let s = b.room in omega arith;
      weighed = all_joined (CanWeigh g root) lists others a.weighed b.weighed;
    }
      where
        a : Makes g root lists (others ++ more) vs old middle
        a = f (others ++ more) (rw append_assoc at are)

        b : Makes g root others more vs middle new
        b = h more a.left

    pub tables_before : (lists others : List (Listed Mark)) (old : PlainMade) (e : NeedError) → StopsTables g root lists vs old e → StopsTables g root (lists ++ others) vs old e
    tables_before lists others old e f more are = stops_before lists others old.room e (f (others ++ more) (rw append_assoc at are))

    pub tables_behind : (lists others : List (Listed Mark)) (old middle : PlainMade) (e : NeedError) → MakesTables g root lists vs old middle → StopsTables g root others vs middle e →
        StopsTables g root (lists ++ others) vs old e
    tables_behind lists others old middle e f h more are =
        let a = f (others ++ more) (rw append_assoc at are) in
        stops_behind lists others (others ++ more) vs old middle e a (h more a.left)

    module _ (list : Listed Mark) (old new : PlainMade) where
      -- a list that isn't Possible
      makes_none : (v : Verdict) → drop old.used vs ≡ v ∷ drop new.used vs → (v ≡ verdict.Possible → ⊥) → new.tables ≡ old.tables → new.room ≡ old.room → MakesTables g root (list ∷ []) vs old new
      makes_none v next not same_tables same_room more (u, rest, e, is, others) = record {
        left = rw tail at others;
        tables = [];
        are_tables = other_list list [] [] not_possible no_list;
        added = same_tables ∙ sym (append-nil old.tables);
        room = omega arith;
        weighed = ((λ p. absurd (not_possible p)), tt);
      }
        where
          head : u ≡ v
          head = cc (e, next)

          tail : rest ≡ drop new.used vs
          tail = cc (e, next)

          not_possible : IsVerdict g root list verdict.Possible → ⊥
          not_possible p = not (one_verdict Mark g root list v verdict.Possible (rw head at is) p)

      -- nor one whose verdict hasn't come, since each has one
      pub makes_other : UsesVerdict vs old.used new.used false → new.tables ≡ old.tables → new.room ≡ old.room → MakesTables g root (list ∷ []) vs old new
      makes_other (inl none) same_tables same_room more (u, rest, e, is, others) = absurd cc
      makes_other (inr (v, next, not)) same_tables same_room more are = makes_none v next not same_tables same_room more are

      -- the owner of a Possible list has a site
      pub makes_no_owner : drop old.used vs ≡ verdict.Possible ∷ drop new.used vs → site_of g root list.owner ≡ None → MakesTables g root (list ∷ []) vs old new
      makes_no_owner next none more (u, rest, e, is, others) =
          let head : u ≡ verdict.Possible = cc (e, next) in let p : IsVerdict g root list verdict.Possible = rw head at is in absurd (live_site g root vs list p.0 none)

      -- the table of a Possible list
      pub makes_table : (kids : Forest Mark) (es : List Entry) → list.kids ≡ kids → drop old.used vs ≡ verdict.Possible ∷ drop new.used vs → AreListEntries g kids es →
          FitsWeights g (length (word_of g kids)) → new.tables ≡ old.tables ++ table list.path es ∷ [] → new.room + length es ≡ old.room → MakesTables g root (list ∷ []) vs old new
      makes_table kids es same next entries fits added room more (u, rest, e, is, others) = record {
        left = let tail : rest ≡ drop new.used vs = cc (e, next) in rw tail at others;
        tables = table list.path es ∷ [];
        are_tables = possible_list list [] (table list.path es) [] possible is_table no_list;
        added = added;
        room = omega arith;
        weighed = ((λ p. rw same fits), tt);
      }
        where
          possible : IsVerdict g root list verdict.Possible
          possible = let head : u ≡ verdict.Possible = cc (e, next) in rw head at is

          is_table : IsTableOf g list (table list.path es)
          is_table = record { is_path = refl; live = entries.0; is_live = rw same entries.1; entries = entries.2 }

    -- a Possible list whose entries aren't listed
    stops_list : (list : Listed Mark) (kids : Forest Mark) (places : List ℕ) (room : ℕ) (e : NeedError) → list.kids ≡ kids → list.path ≡ places → IsVerdict g root list verdict.Possible →
        StopsKids g kids places room e → StopsLists g root (list ∷ []) room e
    stops_list list kids places room (Impossible path) same at p s = s
    stops_list list kids places room (TooWide path) same at p s = record {
      before = [];
      list = list;
      after = [];
      is_split = refl;
      all_before = tt;
      is_not = λ can. s.1 (let f : IsListForWeights g list = can p in rw same at f);
      is_path = s.0 ∙ sym at;
    }
    stops_list list kids places room TooHeavy same at p s = s
    stops_list list kids places room TooMany same at p s = record {
      before = [];
      list = list;
      after = [];
      is_split = refl;
      tables = [];
      are_tables = no_list;
      possible = p;
      live = s.0;
      is_live = rw same s.1;
      entries = s.2.entries;
      are_entries = s.2.are_entries;
      more = let m = s.2.more in omega arith;
    }
    stops_list list kids places room NoMemory same at p s = s

    pub tables_stop : (list : Listed Mark) (kids : Forest Mark) (places : List ℕ) (rest : List Verdict) (old : PlainMade) (e : NeedError) → list.kids ≡ kids → list.path ≡ places →
        drop old.used vs ≡ verdict.Possible ∷ rest → StopsKids g kids places old.room e → StopsTables g root (list ∷ []) vs old e
    tables_stop list kids places rest old e same at next s more (u, others, f, is, are) =
        stops_list list kids places old.room e same at (let head : u ≡ verdict.Possible = cc (f, next) in rw head at is) s

  at_start : (lists : List (Listed Mark)) (vs : List Verdict) (old : PlainMade) → old.used ≡ 0 → AreVerdicts g root lists vs → AreVerdicts g root (lists ++ []) (drop old.used vs)
  at_start lists vs old none are = rw (append-nil lists, none) are

  -- what a walk over all lists has made, where the least number can be told
  pub has_tables : (doc : PlainDoc Mark) (vs : List Verdict) (old new : PlainMade) →
      AreVerdicts g root (lists_of doc) vs → (n : ℕ) × Needs g root doc n → old.used ≡ 0 →
      old.tables ≡ [] → old.room ≡ most_entries →
      MakesTables g root (lists_of doc) vs old new → HasTables g root doc new.tables
  has_tables doc vs old new are (n, needs) none nil room f = record {
    least = n;
    needs = needs;
    are_tables = let e : new.tables ≡ a.tables = a.added ∙ ap (λ ts. ts ++ a.tables) nil in rw e a.are_tables;
    few = let e : new.tables ≡ a.tables = a.added ∙ ap (λ ts. ts ++ a.tables) nil in let l = ap entries_in e in let r = a.room in omega arith;
  }
    where
      a : Makes g root (lists_of doc) [] vs old new
      a = f [] (at_start (lists_of doc) vs old none are)

  cause_of : (doc : PlainDoc Mark) (room : ℕ) (e : NeedError) → (n : ℕ) × Needs g root doc n → room ≡ most_entries → StopsLists g root (lists_of doc) room e → HasTablesCause g root doc e
  cause_of doc room (Impossible path) needs same s = absurd s
  cause_of doc room (TooWide path) (n, needs) same s = inr (record { narrow = needs.can.narrow; possible = needs.can.possible; first = s })
  cause_of doc room TooHeavy needs same s = absurd s
  cause_of doc room TooMany (n, needs) same s = record { least = n; needs = needs; many = rw same at s }
  cause_of doc room NoMemory needs same s = tt

  -- why it has stopped
  pub tables_cause : (doc : PlainDoc Mark) (vs : List Verdict) (old : PlainMade) (e : NeedError) →
      AreVerdicts g root (lists_of doc) vs → (n : ℕ) × Needs g root doc n → old.used ≡ 0 →
      old.room ≡ most_entries →
      StopsTables g root (lists_of doc) vs old e → HasTablesCause g root doc e
  tables_cause doc vs old e are needs none room f = cause_of doc old.room e needs room (f [] (at_start (lists_of doc) vs old none are))

  -- the causes before too many entries
  pub cause_kept : (doc : PlainDoc Mark) (e : NeedError) → HasCause g root doc e → HasTablesCause g root doc e
  cause_kept doc (Impossible path) c = c
  cause_kept doc (TooWide path) c = c
  cause_kept doc TooHeavy c = c
  cause_kept doc TooMany c = absurd c
  cause_kept doc NoMemory c = c
