-- A document has one response to `why`, and a denial of it one to `deny`, whatever the document's
-- marks are.
use Rattle.std.proofs.Common.{◌≡◌, inl, inr, List, [], ◌∷◌, ◌++◌, Option, ap, arith, codes, decimal}
use Rattle.std.proofs.Common.{map, refl, subst, sym, ℕ, ◌∙◌}
use Rattle.std.specs.List.{Contains}
use Rattle.pv_cache.specs.Stamps.{doc_as}
use Rattle.pv_cache.proofs.ListMarks.{all_narrow_to, first_to, list_as, lists_as}
use Rattle.pv_cache.proofs.OtherMarks.{heads_as, word_as}
use Rattle.pv_reach.proofs.OtherMarks.{view_as}
use Rattle.pv_denial.specs.Causes.{HasKidsInEmpty, HoldsOfList, IsCause}
use Rattle.pv_denial.specs.Judgements.{IsAbout, IsDenialJudged, IsNarrowFor, IsReached}
use Rattle.pv_denial.specs.Judgements.{IsRightCause}
use Rattle.pv_denial.specs.Judgements.{IsRightTable, IsTooWideFor, JudgesAt}
use Rattle.pv_denial.specs.Laws.{OneJudged}
use Rattle.pv_denial.specs.declared.denials.Cause.{Cause}
use Rattle.pv_denial.specs.declared.denials.Cause.TheVariants as cause
use Rattle.pv_denial.specs.declared.denials.Denial.{Denial}
use Rattle.pv_denial.specs.declared.denials.Flaw.TheVariants as flaw
use Rattle.pv_denial.specs.declared.denials.Judged.{Judged}
use Rattle.pv_denial.specs.declared.denials.Judged.TheVariants as judged
use Rattle.pv_denial_text.specs.Laws.{OneMeaning}
use Rattle.pv_denial_text.specs.Meaning.{DenialMeans, MAX_DENIAL_BYTES, is_denial, is_fault}
use Rattle.pv_denial_text.specs.Meaning.{is_past_limit}
use Rattle.pv_denial_text.specs.Texts.{lines_of_denial, lines_text}
use Rattle.pv_deny.specs.DocumentDenials.{HasTooMany, IsDenialOf}
use Rattle.pv_deny.specs.Laws.{OneDenial}
use Rattle.pv_dtd.specs.Plain.{PlainDtd}
use Rattle.pv_missing.proofs.VerdictHeads.{live_alike}
use Rattle.pv_missing.specs.Completions.{IsPotentiallyValid}
use Rattle.pv_missing.specs.Verdicts.{IsLive}
use Rattle.pv_missing.specs.Widths.{IsListForVerdict}
use Rattle.pv_read.specs.DocumentLaws.{SpellsOneDocument}
use Rattle.pv_tree.proofs.JoinedLists.{contains_cases, contains_first, contains_later}
use Rattle.pv_tree.specs.Lists.{Listed, Owner, an_element, lists_of, the_document}
use Rattle.pv_tree.specs.Marks.{unmarked_doc}
use Rattle.pv_tree.specs.Plain.{Forest, PlainDoc, map_marks_all, no_trees, tree}
use Rattle.pv_tree.specs.View.{view}
use Rattle.pv_tree.specs.declared.nodes.Mark.{Mark}
use Rattle.pv_opening.specs.Course.{Course}
use Rattle.pv_commands.specs.DenialFiles.{RefusesDenial, denial_file_stage, denial_stage, no_denial}
use Rattle.pv_commands.specs.DenialFiles.{too_large}
use Rattle.pv_commands.specs.Deny.{TellsJudgement, flaw_text, is_denied, is_rejected, is_too_wide}
use Rattle.pv_opening.specs.Documents.{PlainOpened}
use Rattle.pv_opening.specs.Opening.{fetch_stage}
use Rattle.pv_opening.specs.Possibility.{width_stage}
use Rattle.pv_opening.specs.Response.{PlainResponse, with_line}
use Rattle.pv_opening.specs.Stage.{Behind, Responds}
use Rattle.pv_commands.specs.Why.{IsWhyCourse, TellsWhy, has_too_many, is_denied as is_explained}
use Rattle.pv_commands.specs.Why.{is_possible}
use Rattle.pv_opening.specs.declared.status.Status.TheVariants.{BadPack, Done, Negative}
use Rattle.pv_opening.proofs.OnePossibility.{width_sure}
use Rattle.pv_opening.proofs.OneOpening.{AreSameOpened, IsEqual, IsSure, RunsAs, fetch_sure}
use Rattle.pv_opening.proofs.OneOpening.{followed_sure, one_like, reading_sure, sure_at, told}
use Rattle.pv_opening.proofs.OneOpening.{unmarked_same}
use Rattle.law_program.proofs.OneVerification.{AreSameFiles}

-- kids are none where they are none with other marks
kept_none : {M N : Type 0} (f : M → N) (kids : Forest M) → map_marks_all f kids ≡ no_trees →
    kids ≡ no_trees
kept_none f no_trees e = refl
kept_none f (tree t ts) e = cc

-- what is told is told of the document with other marks
module _ {M N : Type 0} (f : M → N) (g : PlainDtd) (root : List ℕ) where
  empty_to : (owner : Owner) (kids : Forest M) → HasKidsInEmpty g owner kids →
      HasKidsInEmpty g owner (map_marks_all f kids)
  empty_to the_document kids h = h
  empty_to (an_element name) kids (x, is, model, some) =
      (x, is, model, λ none. some (kept_none f kids none))

  empty_from : (owner : Owner) (kids : Forest M) → HasKidsInEmpty g owner (map_marks_all f kids) →
      HasKidsInEmpty g owner kids
  empty_from the_document kids h = h
  empty_from (an_element name) kids (x, is, model, some) =
      (x, is, model, λ none. some (ap (map_marks_all f) none))

  module _ (list : Listed M) where
    holds_to : (c : Cause) → HoldsOfList g root list c → HoldsOfList g root (list_as f list) c
    holds_to cause.Undeclared h = h
    holds_to cause.Unproductive h = h
    holds_to cause.Empty h = empty_to list.owner list.kids h
    holds_to cause.Word h = h

    holds_from : (c : Cause) → HoldsOfList g root (list_as f list) c → HoldsOfList g root list c
    holds_from cause.Undeclared h = h
    holds_from cause.Unproductive h = h
    holds_from cause.Empty h = empty_from list.owner list.kids h
    holds_from cause.Word h = h

    cause_to : (c : Cause) → IsCause g root list c → IsCause g root (list_as f list) c
    cause_to cause.Undeclared h = h
    cause_to cause.Unproductive h = h
    cause_to cause.Empty h = (empty_to list.owner list.kids h.0, h.1)
    cause_to cause.Word h = (h.0, h.1, λ has. h.2 (empty_from list.owner list.kids has))

    live_from : IsLive g root (list_as f list) → IsLive g root list
    live_from =
        live_alike g root list.owner (map_marks_all f list.kids) list.kids (heads_as f list.kids)

    fits_to : IsListForVerdict g list → IsListForVerdict g (list_as f list)
    fits_to fits = rw (word_as f g list.kids) fits

    fits_from : IsListForVerdict g (list_as f list) → IsListForVerdict g list
    fits_from fits = rw (word_as f g list.kids) at fits

    module _ (d : Denial) where
      narrow_to : IsNarrowFor g d list → IsNarrowFor g d (list_as f list)
      narrow_to narrow is = fits_to (narrow is)

      right_to : IsRightCause g root d list → IsRightCause g root d (list_as f list)
      right_to right = record { holds = holds_to d.cause right.holds; rows = right.rows }

      right_from : IsRightCause g root d (list_as f list) → IsRightCause g root d list
      right_from right = record { holds = holds_from d.cause right.holds; rows = right.rows }

      table_to : IsRightTable g d list → IsRightTable g d (list_as f list)
      table_to right is w live = right is w (rw (word_as f g list.kids) at live)

      table_from : IsRightTable g d (list_as f list) → IsRightTable g d list
      table_from right is w live = right is w (rw (word_as f g list.kids) live)

      reached_to : IsReached g root d list → IsReached g root d (list_as f list)
      reached_to r =
          record {
            by_word = r.by_word;
            site = r.site;
            is_site = r.is_site;
            is_value = rw (word_as f g list.kids) r.is_value;
          }

      reached_from : IsReached g root d (list_as f list) → IsReached g root d list
      reached_from r =
          record {
            by_word = r.by_word;
            site = r.site;
            is_site = r.is_site;
            is_value = rw (word_as f g list.kids) at r.is_value;
          }

      judges_to : (j : Judged) → JudgesAt g root d list j → JudgesAt g root d (list_as f list) j
      judges_to judged.Denied (n, c, t, r) =
          (narrow_to n, right_to c, table_to t, λ reached. r (reached_from reached))
      judges_to (judged.Rejected flaw.List) never = never
      judges_to (judged.Rejected flaw.Cause) (n, c) = (narrow_to n, λ right. c (right_from right))
      judges_to (judged.Rejected flaw.Table) (n, c, t) =
          (narrow_to n, right_to c, λ right. t (table_from right))
      judges_to (judged.Rejected flaw.Reached) (n, c, t, r) =
          (narrow_to n, right_to c, table_to t, reached_to r)

  contains_to : (lists : List (Listed M)) (list : Listed M) → Contains lists list →
      Contains (map (list_as f) lists) (list_as f list)
  contains_to [] list h = absurd (let below = h.1 in omega arith)
  contains_to (x ∷ xs) list h =
      elim (contains_cases x xs list h) [
        | inl is ↦ subst (λ (y : Listed N). Contains (map (list_as f) (x ∷ xs)) y)
            (ap (list_as f) is) (contains_first (list_as f x) (map (list_as f) xs))
        | inr k ↦ contains_later (list_as f x) (map (list_as f) xs) (list_as f list)
            (contains_to xs list k)
      ]

  contains_from : (lists : List (Listed M)) (other : Listed N) →
      Contains (map (list_as f) lists) other →
      (list : Listed M) × Contains lists list × (list_as f list ≡ other)
  contains_from [] other h = absurd (let below = h.1 in omega arith)
  contains_from (x ∷ xs) other h =
      elim (contains_cases (list_as f x) (map (list_as f) xs) other h) [
        | inl is ↦ (x, contains_first x xs, is)
        | inr k ↦ (let rest = contains_from xs other k in
            (rest.0, contains_later x xs rest.0 rest.1, rest.2))
      ]

  module _ (doc : PlainDoc M) where
    listed_to : (list : Listed M) → Contains (lists_of doc) list →
        Contains (lists_of (doc_as f doc)) (list_as f list)
    listed_to list h =
        subst (λ (ls : List (Listed N)). Contains ls (list_as f list)) (sym (lists_as f doc))
        (contains_to (lists_of doc) list h)

    about_to : (d : Denial) (list : Listed M) → IsAbout doc d list →
        IsAbout (doc_as f doc) d (list_as f list)
    about_to d list about =
        record { is_listed = listed_to list about.is_listed; is_path = about.is_path }

    judged_to : (d : Denial) (j : Judged) → IsDenialJudged g root doc d j →
        IsDenialJudged g root (doc_as f doc) d j
    judged_to d j (inl (none, is)) = inl (λ other about. no_list other about, is)
      where
        no_list : (other : Listed N) → IsAbout (doc_as f doc) d other → ⊥
        no_list other about =
            let found = contains_from (lists_of doc) other
            (subst (λ (ls : List (Listed N)). Contains ls other) (lists_as f doc)
            about.is_listed) in
            none found.0
            record {
              is_listed = found.1;
              is_path = ap (λ (l : Listed N). l.path) found.2 ∙ about.is_path;
            }
    judged_to d j (inr (list, about, judges)) =
        inr (list_as f list, about_to d list about, judges_to list d j judges)

    wide_to : (d : Denial) → IsTooWideFor g doc d → IsTooWideFor g (doc_as f doc) d
    wide_to d (list, about, is, wide) =
        (list_as f list, about_to d list about, is, λ fits. wide (fits_from list fits))

    possible_to : IsPotentiallyValid g root (view doc.root) →
        IsPotentiallyValid g root (view (doc_as f doc).root)
    possible_to can = rw (view_as f doc.root) can

    possible_from : IsPotentiallyValid g root (view (doc_as f doc).root) →
        IsPotentiallyValid g root (view doc.root)
    possible_from can = rw (view_as f doc.root) at can

    judgement_to : (d : Denial) (r : PlainResponse) → TellsJudgement root g doc d r →
        TellsJudgement root g (doc_as f doc) d r
    judgement_to d r (is_denied judges never is) =
        is_denied (judged_to d judged.Denied judges) (λ can. never (possible_from can)) is
    judgement_to d r (is_rejected test judges is) =
        is_rejected test (judged_to d (judged.Rejected test) judges) is
    judgement_to d r (is_too_wide wide is) = is_too_wide (wide_to d wide) is

    denial_to : (d : Denial) → IsDenialOf g root doc d → IsDenialOf g root (doc_as f doc) d
    denial_to d h = record {
      list = list_as f h.list;
      is_about = about_to d h.list h.is_about;
      is_first = first_to f doc g root d.path h.is_first;
      impossible = λ live. h.impossible (live_from h.list live);
      narrow = all_narrow_to f doc g h.narrow;
      is_cause = cause_to h.list d.cause h.is_cause;
      by_word = λ is.
          (let word = h.by_word is in (word.0, rw (word_as f g h.list.kids) word.1, word.2));
      few = h.few;
      no_rows = h.no_rows;
    }

    too_many_to : HasTooMany g root doc → HasTooMany g root (doc_as f doc)
    too_many_to h = record {
      list = list_as f h.list;
      is_listed = listed_to h.list h.is_listed;
      is_first = first_to f doc g root h.list.path h.is_first;
      impossible = λ live. h.impossible (live_from h.list live);
      narrow = all_narrow_to f doc g h.narrow;
      is_cause = cause_to h.list cause.Word h.is_cause;
      live = h.live;
      is_live = rw (word_as f g h.list.kids) h.is_live;
      sites = h.sites;
      are_sites = h.are_sites;
      many = h.many;
    }

    why_to : (r : PlainResponse) → TellsWhy root g doc r → TellsWhy root g (doc_as f doc) r
    why_to r (is_explained d never denies is) =
        is_explained d (λ can. never (possible_from can)) (denial_to d denies) is
    why_to r (has_too_many never many is) =
        has_too_many (λ can. never (possible_from can)) (too_many_to many) is
    why_to r (is_possible can is) = is_possible (possible_to can) is

module _ {M : Type 0} (root : List ℕ) (g : PlainDtd) (doc : PlainDoc M) where
  one_judgement : OneJudged M → (d : Denial) (r also : PlainResponse) →
      TellsJudgement root g doc d r → TellsJudgement root g doc d also → r ≡ also
  one_judgement once d r also (is_denied judges never is) (is_denied too not are) = is ∙ sym are
  one_judgement once d r also (is_denied judges never is) (is_rejected test fails are) =
      let same : judged.Denied ≡ judged.Rejected test =
      (once g root doc d).0 judged.Denied (judged.Rejected test) judges fails in cc
  one_judgement once d r also (is_denied judges never is) (is_too_wide wide are) =
      absurd ((once g root doc d).1 judged.Denied judges wide)
  one_judgement once d r also (is_rejected test fails is) (is_denied judges never are) =
      let same : judged.Denied ≡ judged.Rejected test =
      (once g root doc d).0 judged.Denied (judged.Rejected test) judges fails in cc
  one_judgement once d r also (is_rejected test fails is) (is_rejected other again are) =
      let same : judged.Rejected test ≡ judged.Rejected other =
      (once g root doc d).0 (judged.Rejected test) (judged.Rejected other) fails again in
      let tests : test ≡ other = cc in
      is ∙ ap (λ t. with_line Negative (codes "rejected " ++ flaw_text t)) tests ∙ sym are
  one_judgement once d r also (is_rejected test fails is) (is_too_wide wide are) =
      absurd ((once g root doc d).1 (judged.Rejected test) fails wide)
  one_judgement once d r also (is_too_wide wide is) (is_denied judges never are) =
      absurd ((once g root doc d).1 judged.Denied judges wide)
  one_judgement once d r also (is_too_wide wide is) (is_rejected test fails are) =
      absurd ((once g root doc d).1 (judged.Rejected test) fails wide)
  one_judgement once d r also (is_too_wide wide is) (is_too_wide too are) = is ∙ sym are

  one_explanation : OneDenial M → (r also : PlainResponse) → TellsWhy root g doc r →
      TellsWhy root g doc also → r ≡ also
  one_explanation one r also (is_explained d never here is) (is_explained e not there are) =
      is ∙ ap (λ (x : Denial). record { status = Done; output = lines_text (lines_of_denial x) })
      ((one g root doc).0 d e here there) ∙ sym are
  one_explanation one r also (is_explained d never here is) (has_too_many not many are) =
      absurd ((one g root doc).1 d here many)
  one_explanation one r also (is_explained d never here is) (is_possible can are) =
      absurd (never can)
  one_explanation one r also (has_too_many never many is) (is_explained d not here are) =
      absurd ((one g root doc).1 d here many)
  one_explanation one r also (has_too_many never many is) (has_too_many not too are) = is ∙ sym are
  one_explanation one r also (has_too_many never many is) (is_possible can are) = absurd (never can)
  one_explanation one r also (is_possible can is) (is_explained d never here are) =
      absurd (never can)
  one_explanation one r also (is_possible can is) (has_too_many never many are) = absurd (never can)
  one_explanation one r also (is_possible can is) (is_possible too are) = is ∙ sym are

-- what the laws of denials say that the proof stands on
pub record DeniesOnce : Type 0 where
  pub texts : OneMeaning
  pub judged : OneJudged Unit
  pub denials : OneDenial Unit

-- documents with one text and the same DTD have one response to `why`
pub why_once : DeniesOnce → SpellsOneDocument →
    (root : List ℕ) (x y : PlainOpened) (course other : Course) (r also : PlainResponse) →
    AreSameOpened x y → RunsAs course other r also →
    IsWhyCourse root x course → IsWhyCourse root y other → r ≡ also
why_once known one root x y course other r also same so is are =
    let alike = unmarked_same one x.doc y.doc same.docs in
    let moved : Behind (width_stage x.dtd y.doc) (λ _. Responds (TellsWhy root x.dtd y.doc)) other =
    subst (λ (g : PlainDtd). Behind (width_stage g y.doc) (λ _. Responds (TellsWhy root g y.doc))
    other) (sym same.dtds) are in
    one_like (width_stage x.dtd x.doc) (width_stage x.dtd y.doc) IsEqual
    (λ _. Responds (TellsWhy root x.dtd x.doc)) (λ _. Responds (TellsWhy root x.dtd y.doc)) r also
    (r ≡ also) (λ e. e)
    (width_sure x.dtd x.doc y.doc alike)
    (λ u v rest more e both here there. one_of x.dtd alike
    (told (TellsWhy root x.dtd x.doc) rest r here both.ends)
    (told (TellsWhy root x.dtd y.doc) more also there both.ends_too)) course other so is moved
  where
    one_of : (g : PlainDtd) → unmarked_doc x.doc ≡ unmarked_doc y.doc → TellsWhy root g x.doc r →
        TellsWhy root g y.doc also → r ≡ also
    one_of g alike first second =
        one_explanation root g (unmarked_doc y.doc) known.denials r also
        (subst (λ (d : PlainDoc Unit). TellsWhy root g d r) alike
        (why_to (λ (m : Mark). tt) g root x.doc r first))
        (why_to (λ (m : Mark). tt) g root y.doc also second)

-- and a denial of them one to `deny`
one_told : DeniesOnce →
    (root : List ℕ) (g : PlainDtd) (doc same : PlainDoc Mark) (d : Denial)
    (r also : PlainResponse) → unmarked_doc doc ≡ unmarked_doc same →
    TellsJudgement root g doc d r →
    TellsJudgement root g same d also → r ≡ also
one_told known root g doc same d r also alike here there =
    one_judgement root g (unmarked_doc same) known.judged d r also
    (subst (λ (u : PlainDoc Unit). TellsJudgement root g u d r) alike
    (judgement_to (λ (m : Mark). tt) g root doc d r here))
    (judgement_to (λ (m : Mark). tt) g root same d also there)

pub one_denial : DeniesOnce → SpellsOneDocument →
    (root : List ℕ) (x y : PlainOpened × Denial) (r also : PlainResponse) → AreSameFiles x y →
    TellsJudgement root x.0.dtd x.0.doc x.1 r → TellsJudgement root y.0.dtd y.0.doc y.1 also →
    r ≡ also
one_denial known one root x y r also same here there =
    one_told known root x.0.dtd x.0.doc y.0.doc x.1 r also
    (unmarked_same one x.0.doc y.0.doc same.0.docs) here
    (subst (λ (g : PlainDtd). TellsJudgement root g y.0.doc x.1 also) (sym same.0.dtds)
    (subst (λ (d : Denial). TellsJudgement root y.0.dtd y.0.doc d also) (sym same.1) there))

-- reading a denial
module _ (one : OneMeaning) (bytes : List ℕ) where
  denial_or : (d : Denial) (r : PlainResponse) → DenialMeans bytes (is_denial d) →
      RefusesDenial bytes r → ⊥
  denial_or d r means (no_denial k faulty is) =
      let same = one bytes (is_denial d) (is_fault k) means faulty in cc
  denial_or d r means (too_large past is) =
      let same = one bytes (is_denial d) is_past_limit means past in cc

  one_denial_refusal : (r also : PlainResponse) → RefusesDenial bytes r → RefusesDenial bytes also →
      r ≡ also
  one_denial_refusal r also (no_denial k faulty is) (no_denial n again are) =
      let same = one bytes (is_fault k) (is_fault n) faulty again in
      let lines : k ≡ n = cc in
      is ∙ ap (λ l. with_line BadPack (codes "table line " ++ decimal l)) lines ∙ sym are
  one_denial_refusal r also (no_denial k faulty is) (too_large past are) =
      let same = one bytes (is_fault k) is_past_limit faulty past in cc
  one_denial_refusal r also (too_large past is) (no_denial n again are) =
      let same = one bytes is_past_limit (is_fault n) past again in cc
  one_denial_refusal r also (too_large past is) (too_large again are) = is ∙ sym are

  denial_sure : IsSure (denial_stage bytes) IsEqual
  denial_sure =
      reading_sure (λ d. DenialMeans bytes (is_denial d)) (λ d. DenialMeans bytes (is_denial d))
      (RefusesDenial bytes) (RefusesDenial bytes) IsEqual
      denial_or (λ d r denies means. denial_or d r means denies) one_denial_refusal
      (λ d other means again. let same = one bytes (is_denial d) (is_denial other) means again in
      cc)

pub denial_file_sure : OneMeaning → (file : Option (List ℕ)) →
    IsSure (denial_file_stage file) IsEqual
denial_file_sure one file =
    let fetch = fetch_stage file MAX_DENIAL_BYTES (codes "limit table-file") in
    followed_sure fetch fetch IsEqual denial_stage denial_stage IsEqual
    (fetch_sure file MAX_DENIAL_BYTES (codes "limit table-file"))
    (sure_at denial_stage IsEqual (denial_sure one))
