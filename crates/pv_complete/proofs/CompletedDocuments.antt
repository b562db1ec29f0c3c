-- A document whose list is completed is a least completion.
use Rattle.std.proofs.Common.{IsTrue, List, None, Option, Some, [], ap, append-nil, arith, length, refl, subst, suc, sym, true, ℕ, ◌&&◌, ◌++◌, ◌+◌, ◌∙◌, ◌∷◌, ◌≡◌}
use Rattle.std.proofs.lemmas.Bool.{and_parts}
use Rattle.std.proofs.lemmas.List.{length-append}
use Rattle.std.specs.List.{AllByRecursion}
use Rattle.pv_model.specs.Plain.{named}
use Rattle.pv_dtd.specs.Hedge.{AreGood, IsValid, done, elements, token}
use Rattle.pv_dtd.specs.Plain.{PlainDtd, number_of}
use Rattle.pv_dtd.specs.Proper.{IsProperDtd}
use Rattle.pv_dtd.proofs.ProperDtds.{one_name}
use Rattle.pv_rules.specs.Sites.{name_site}
use Rattle.pv_tree.specs.Legal.{has_names, has_no_close_mark, is_formed, starts_no_close_mark}
use Rattle.pv_tree.specs.Lists.{IsValidList, Listed, lists_at, lists_from, lists_of, the_document}
use Rattle.pv_tree.specs.Plain.{Ending, Forest, PlainDoc, Tree, cdata_node, element, is_element, misc_node, no_trees, text_node, tree}
use Rattle.pv_tree.specs.Prolog.{IsEpilog, IsProlog}
use Rattle.pv_tree.specs.View.{view}
use Rattle.pv_tree.specs.Words.{word_of}
use Rattle.pv_tree.specs.declared.nodes.Mark.{Mark}
use Rattle.pv_tree.specs.declared.nodes.Verdict.{Verdict}
use Rattle.pv_tree.proofs.JoinedLists.{all_joined}
use Rattle.pv_tree.proofs.ValidLists.{valid_lists}
use Rattle.pv_write.specs.Laws.{WritesEveryView}
use Rattle.pv_write.specs.Pieces.{PlainPiece}
use Rattle.pv_write.specs.TaggedTexts.{IsTaggedText}
use Rattle.pv_write.specs.Text.{doc_text, tree_text}
use Rattle.pv_write.specs.Writes.{IsLegalDocument, SpellsView}
use Rattle.pv_missing.specs.Completions.{HasCompletion, LeavesOut, out_done}
use Rattle.pv_missing.specs.DocumentLaws.{TagsExtend}
use Rattle.pv_missing.specs.Extensions.{Extends}
use Rattle.pv_missing.specs.Proper.{IsProperDoc}
use Rattle.pv_missing.specs.Verdicts.{AreVerdicts, IsLiveRoot}
use Rattle.pv_missing.specs.ListWeights.{SumIsLeast}
use Rattle.pv_tables.specs.WeightLaws.{PossibleWeightsAddUp}
use Rattle.pv_complete.specs.LeastCompletions.{IsLeastCompletion}
use Rattle.pv_complete.specs.GrownTrees.{Grows, HasShortNames, IsBounded, IsGrownText}
use Rattle.pv_write.specs.Events.{Event, events_text, marks_from, new_end, new_start, news}
use Rattle.pv_write.specs.Events.{old_bytes, old_start, opens}
use Rattle.pv_complete.specs.MergedLists.{AreValidTrees, IsCompletedList, IsValidTree}
use Rattle.pv_complete.specs.NeededElements.{Needs}
use Rattle.pv_complete.specs.Pieces.{Writes, WritesAt}
use Rattle.pv_complete.specs.Writable.{AreElements, AreWritable, HasNames, KeepsWritable}
use Rattle.pv_complete.specs.ListPieces.{ArePieces, ArePiecesOf, HavePieces}
use Rattle.pv_complete.proofs.CompletedTrees.{merged_completed}
use Rattle.pv_complete.proofs.WritableTrees.{keeps_none}
use Rattle.pv_complete.proofs.MergedPieces.{trees_and-none}
use Rattle.pv_complete.proofs.Sizes.{tree_sizes}
use Rattle.pv_complete.proofs.FilledLists.{AreMerged, are_merged, suits_at, takes_first}

marks_length : (m : ℕ) (es : List Event) → length (marks_from m es) ≡ news es
marks_length m [] = refl
marks_length m (new_start x ∷ es) = ap suc (marks_length (suc m) es)
marks_length m (new_end x ∷ es) = marks_length m es
marks_length m (old_start b ∷ es) = marks_length (suc m) es
marks_length m (old_bytes b ∷ es) = marks_length m es

token_number : (o : Option ℕ) (y : ℕ) → token o ≡ named y → o ≡ Some y
token_number None y e = absurd cc
token_number (Some z) y e = let f : z ≡ y = cc in rw f refl

-- lists that are valid at all depths
mutual
  tree_lists : (g : PlainDtd) (root path : List ℕ) (t : Tree Mark) → IsValidTree g t → AllByRecursion (IsValidList g root) (lists_at path t)
  tree_lists g root path (element x a e k m) v = (v.0, kids_lists g root path 0 k v.1)
  tree_lists g root path (text_node us) v = tt
  tree_lists g root path (cdata_node b) v = tt
  tree_lists g root path (misc_node b) v = tt

  kids_lists : (g : PlainDtd) (root path : List ℕ) (i : ℕ) (kids : Forest Mark) → AreValidTrees g kids → AllByRecursion (IsValidList g root) (lists_from path i kids)
  kids_lists g root path i no_trees v = tt
  kids_lists g root path i (tree t rest) v = all_joined (IsValidList g root) (lists_at (path
      ++ i ∷ []) t) (lists_from path (suc i) rest) (tree_lists g root (path ++ i ∷ []) t v.0)
      (kids_lists g root path (suc i) rest v.1)

-- one element of a name
record IsOne (g : PlainDtd) (y : ℕ) (new : Forest Mark) : Type 0 where
  pub name : List ℕ
  pub attrs : List ℕ
  pub ending : Ending
  pub kids : Forest Mark
  pub mark : Mark
  pub is_one : new ≡ tree (element name attrs ending kids mark) no_trees
  pub number : number_of g name ≡ Some y

one_tree : (g : PlainDtd) (y : ℕ) (new : Forest Mark) → AreElements new → word_of g new ≡ named y ∷ [] → IsOne g y new
one_tree g y no_trees e w = absurd cc
one_tree g y (tree (element x a f k m) no_trees) e w = record { name = x; attrs = a; ending = f; kids = k; mark = m; is_one = refl; number = token_number (number_of g x) y cc }
one_tree g y (tree (element x a f k m) (tree (element x2 a2 f2 k2 m2) rest)) e w = absurd cc
one_tree g y (tree (element x a f k m) (tree (text_node us) rest)) e w = absurd (let b = e.1 in let c = b.0 in cc)
one_tree g y (tree (element x a f k m) (tree (cdata_node b) rest)) e w = absurd (let b = e.1 in let c = b.0 in cc)
one_tree g y (tree (element x a f k m) (tree (misc_node b) rest)) e w = absurd (let b = e.1 in let c = b.0 in cc)
one_tree g y (tree (text_node us) rest) e w = absurd (let c = e.0 in cc)
one_tree g y (tree (cdata_node b) rest) e w = absurd (let c = e.0 in cc)
one_tree g y (tree (misc_node b) rest) e w = absurd (let c = e.0 in cc)

legal_document : (root : List ℕ) (doc : PlainDoc Mark) → IsTrue (is_element doc.root) → AreWritable (tree doc.root no_trees) → IsProlog root doc.before → IsEpilog doc.after → IsLegalDocument root doc
legal_document root doc rooted w prolog epilog = record {
  rooted = rooted;
  named = let a = w.named in (and_parts (has_names doc.root) true a).0;
  formed = let a = w.formed in (and_parts (is_formed doc.root) true a).0;
  units = let u = w.units in u.0;
  legal = let l = w.legal in l.0;
  no_close_mark = let a = w.no_close_mark in
      let b = (and_parts (has_no_close_mark doc.root && starts_no_close_mark doc.root no_trees) true a).0 in
      (and_parts (has_no_close_mark doc.root) (starts_no_close_mark doc.root no_trees) b).0;
  prolog = prolog;
  epilog = epilog;
}

-- the root completed, with s new elements
record IsCompletedRoot (g : PlainDtd) (root : List ℕ) (old : Tree Mark) (es : List Event) (s : ℕ) : Type 0 where
  pub new : Tree Mark
  pub text : tree_text new ≡ events_text es
  pub is_root : IsTrue (is_element new)
  pub valid : IsValid g root (view new)
  pub writable : AreWritable (tree new no_trees)
  pub tags : LeavesOut 0 (opens es) (marks_from 0 es) (view old) (view new)
  pub count : news es ≡ s
  pub grows : Grows (tree old no_trees) (tree new no_trees)

-- a completed list of one element is that element
root_of_list : (g : PlainDtd) (root : List ℕ) (y : ℕ) (old : Tree Mark) (before after : List ℕ)
    (mark : Mark) (new : Forest Mark) (es : List Event) (n k : ℕ) → number_of g root ≡ Some y →
    IsTrue (is_element old) →
    AreWritable (tree old no_trees) → IsCompletedList g (tree old no_trees) new (named y ∷ []) es n k → IsCompletedRoot g root old es (n + k)
root_of_list g root y old before after mark new es n k is rooted writable c = record {
  new = t;
  text = let e = c.text in sym (append-nil (tree_text t)) ∙ rw one at e;
  is_root = refl;
  valid = (valid_lists g root body (let u = kept.units in u.0)).0 ((same_name, refl), tree_lists g root (0 ∷ []) t (let v = rw one at c.valid in v.0));
  writable = kept;
  tags = rw (append-nil, one) at (c.tags 0 (opens es) [] done done (out_done (0 + opens es) (opens es) (omega arith)));
  count = c.count;
  grows = let q = keeps.grows in rw one at q;
}
  where
    keeps : KeepsWritable (tree old no_trees) new
    keeps = rw (trees_and-none new) at (c.keeps no_trees no_trees keeps_none)

    o : IsOne g y new
    o = one_tree g y new (keeps.elements (rooted, tt)) c.word

    t : Tree Mark
    t = element o.name o.attrs o.ending o.kids o.mark

    one : new ≡ tree t no_trees
    one = o.is_one

    body : PlainDoc Mark
    body = record { before = before; root = t; after = after; mark = mark }

    kept : AreWritable (tree t no_trees)
    kept = rw one at (keeps.writable writable)

    same_name : o.name ≡ root
    same_name = one_name g o.name root y o.number is

-- the text of a completed document, and how long it is where names are short
completed_whole : (g : PlainDtd) (root : List ℕ) (doc : PlainDoc Mark) (es : List Event)
    (s count : ℕ) (marks body : List ℕ) → WritesEveryView → TagsExtend → IsProlog root doc.before →
    IsEpilog doc.after →
    Needs g root doc count → SumIsLeast g root s (view doc.root) → IsCompletedRoot g root doc.root es s → marks ≡ marks_from 0 es → body ≡ doc.before ++ events_text es ++ doc.after →
    IsLeastCompletion g root doc count marks body × (HasShortNames g → IsTrue (is_formed doc.root) → IsBounded doc count body)
completed_whole g root doc es s count marks body written tags_extend prolog epilog needs sum c are_marks is_body = (least, bounded)
  where
    new_doc : PlainDoc Mark
    new_doc = record { before = doc.before; root = c.new; after = doc.after; mark = doc.mark }

    v : SpellsView root (doc_text new_doc) new_doc
    v = written root new_doc (legal_document root new_doc c.is_root c.writable prolog epilog)

    same_text : doc_text new_doc ≡ body
    same_text = let t = c.text in ap (λ x. doc.before ++ x ++ doc.after) t ∙ sym is_body

    view_same : view v.tree ≡ view c.new
    view_same = v.same_view

    extended : Extends (view doc.root) (view c.new)
    extended = (tags_extend 0 (opens es) (marks_from 0 es) (view doc.root) (view c.new) c.tags).0

    opens_are : opens es ≡ elements (view c.new)
    opens_are = let q = (tags_extend 0 (opens es) (marks_from 0 es) (view doc.root) (view c.new) c.tags).2 in omega arith

    added : elements (view c.new) ≡ s + elements (view doc.root)
    added = let q = (tags_extend 0 (opens es) (marks_from 0 es) (view doc.root) (view c.new) c.tags).1 in let r = marks_length 0 es in let n = c.count in omega arith

    completion : HasCompletion g root s (view doc.root)
    completion = record { hedge = view c.new; extends = extended; valid = c.valid; inserted = added }

    same_count : count ≡ s
    same_count = let l = needs.least in let a = l.least s completion in let b = sum.below count l.completes in omega arith

    inserted : elements (view c.new) ≡ count + elements (view doc.root)
    inserted = rw same_count added

    length_is : length marks ≡ count
    length_is = let n = c.count in ap length are_marks ∙ marks_length 0 es ∙ n ∙ sym same_count

    least : IsLeastCompletion g root doc count marks body
    least = record {
      needs = needs;
      tree = v.tree;
      spelled = let q = v.spelled in rw same_text at q;
      completes = record {
        valid = let q = c.valid in rw view_same q;
        extends = rw view_same extended;
        inserted = rw view_same inserted;
        same_before = refl;
        same_after = refl;
        counted = length_is;
        tags = rw (view_same, are_marks) (let q = c.tags in rw opens_are at q);
      };
    }

    good : AreGood g (view c.new)
    good = let v = c.valid in v.good

    bounded : HasShortNames g → IsTrue (is_formed doc.root) → IsBounded doc count body
    bounded names formed =
        let size = tree_sizes g names doc.root c.new c.grows formed good in
        subst (λ (b : List ℕ). IsBounded doc count b) same_text
        (omega (
          arith,
          size,
          inserted,
          length-append (doc.before ++ tree_text c.new) doc.after,
          length-append doc.before (tree_text c.new),
          length-append (doc.before
              ++ tree_text doc.root) doc.after,
          length-append doc.before (tree_text doc.root),
        ))

-- the lists of a document, as a walk goes over them
pub whole_lists : (doc : PlainDoc Mark) → lists_of doc ≡ record { path = []; owner = the_document; kids = tree doc.root no_trees } ∷ (lists_from [] 0 (tree doc.root no_trees) ++ [])
whole_lists doc =
    let top : Listed Mark = record { path = []; owner = the_document; kids = tree doc.root no_trees } in
    ap (λ x. top ∷ x) (sym (append-nil (lists_at (0 ∷ []) doc.root)) ∙ sym (append-nil (lists_at (0 ∷ []) doc.root ++ [])))

-- the root that is written by the pieces of all lists
filled_root : (g : PlainDtd) (root : List ℕ) (doc : PlainDoc Mark) (lists : List (List PlainPiece))
    (marks body : List ℕ) (n : ℕ) → IsProperDtd g → HasNames g → IsTrue (is_element doc.root) →
    AreWritable (tree doc.root no_trees) → HavePieces g root (lists_of doc) lists n →
    (w : IsTaggedText g doc lists marks body) → IsCompletedRoot g root doc.root w.events n
filled_root g root doc lists marks body n proper names rooted writable have w = rw same completed
  where
    all : HavePieces g root (record {
      path = [];
      owner = the_document;
      kids = tree doc.root no_trees;
    } ∷ (lists_from [] 0 (tree doc.root no_trees) ++ [])) lists n
    all = subst (λ xs. HavePieces g root xs lists n) (whole_lists doc) have

    next : (w.pieces ≡ all.0) × (w.below ≡ all.1)
    next = takes_first lists w.below all.1 w.pieces all.0 w.takes all.4

    p : ArePiecesOf g root (record {
      path = [];
      owner = the_document;
      kids = tree doc.root no_trees;
    }) w.pieces all.2
    p = rw next.0 all.6

    live : IsLiveRoot g root (tree doc.root no_trees)
    live = p.live

    r : AreMerged g proper names root (tree doc.root no_trees) [] p.all w.left w.events all.3
    r = are_merged g proper names root w.pieces (tree doc.root no_trees) w.below w.left w.events
        w.fills p.all [] 0 [] all.3 p.stand
        (suits_at g p.site all.2 (word_of g (tree doc.root no_trees)) p.all p.writes)
        (rw next.1 all.7)

    at_root : p.site ≡ name_site live.number
    at_root = let i = live.is_owner in let j = p.is_site in let k = rw i at j in cc

    writes : Writes g all.2 (named live.number ∷ []) (word_of g (tree doc.root no_trees)) p.all
    writes =
        let c = p.writes in
        subst (λ t. WritesAt g t all.2 (word_of g (tree doc.root no_trees)) p.all) at_root c

    completed : IsCompletedRoot g root doc.root w.events (all.2 + r.within)
    completed =
        let c = merged_completed Mark doc.mark g all.2 r.within (named live.number ∷ []) p.all
        (tree doc.root no_trees) w.events proper names writes r.merges in
        root_of_list g root live.number doc.root doc.before doc.after doc.mark c.0 w.events all.2
        r.within live.is_owner rooted writable c.1

    same : n ≡ all.2 + r.within
    same = let s = r.sum in let none : r.others ≡ 0 = r.left in omega (arith, all.5, s, none)

-- what is written by the pieces of all lists
whole : (g : PlainDtd) (root : List ℕ) (doc : PlainDoc Mark) (vs : List Verdict)
    (lists : List (List PlainPiece)) (count : ℕ) (marks body : List ℕ) → IsProperDtd g →
    HasNames g → WritesEveryView →
    TagsExtend → PossibleWeightsAddUp Mark → IsProperDoc doc →
    AreWritable (tree doc.root no_trees) → IsProlog root doc.before → IsEpilog doc.after →
    Needs g root doc count →
    AreVerdicts g root (lists_of doc) vs → ArePieces g root (lists_of doc) vs lists →
    IsTaggedText g doc lists marks body →
    IsLeastCompletion g root doc count marks body ×
    (HasShortNames g → IsTrue (is_formed doc.root) → IsBounded doc count body)
whole g root doc vs lists count marks body proper names written tags_extend adds_up proper_doc
    writable prolog epilog needs are p w =
    completed_whole g root doc w.events p.sum count marks body written tags_extend prolog epilog
    needs
    (adds_up g root doc vs p.sum proper proper_doc are needs.can.possible p.weigh)
    (filled_root g root doc lists marks body p.sum proper names proper_doc.rooted writable p.have w)
    w.are_marks w.is_body

pub least_completion : (g : PlainDtd) (root : List ℕ) (doc : PlainDoc Mark) (vs : List Verdict)
    (lists : List (List PlainPiece)) (count : ℕ) (marks body : List ℕ) → IsProperDtd g →
    HasNames g →
    WritesEveryView → TagsExtend → PossibleWeightsAddUp Mark → IsProperDoc doc →
    AreWritable (tree doc.root no_trees) → IsProlog root doc.before → IsEpilog doc.after →
    Needs g root doc count →
    AreVerdicts g root (lists_of doc) vs → ArePieces g root (lists_of doc) vs lists →
    IsTaggedText g doc lists marks body → IsLeastCompletion g root doc count marks body
least_completion g root doc vs lists count marks body proper names written tags_extend adds_up
    proper_doc writable prolog epilog needs are p w =
    (whole g root doc vs lists count marks body proper names written tags_extend adds_up proper_doc
    writable prolog epilog needs are p w).0

pub bounded_text : (g : PlainDtd) (root : List ℕ) (doc : PlainDoc Mark) (vs : List Verdict)
    (lists : List (List PlainPiece)) (count : ℕ) (marks body : List ℕ) → IsProperDtd g →
    HasNames g →
    WritesEveryView → TagsExtend → PossibleWeightsAddUp Mark → IsProperDoc doc →
    AreWritable (tree doc.root no_trees) → IsProlog root doc.before → IsEpilog doc.after →
    Needs g root doc count →
    AreVerdicts g root (lists_of doc) vs → ArePieces g root (lists_of doc) vs lists →
    IsTaggedText g doc lists marks body → HasShortNames g → IsTrue (is_formed doc.root) →
    IsBounded doc count body
bounded_text g root doc vs lists count marks body proper names written tags_extend adds_up
    proper_doc writable prolog epilog needs are p w =
    (whole g root doc vs lists count marks body proper names written tags_extend adds_up proper_doc
    writable prolog epilog needs are p w).1

-- its text is that of the document with new elements
pub grown_text : (g : PlainDtd) (root : List ℕ) (doc : PlainDoc Mark) (vs : List Verdict)
    (lists : List (List PlainPiece)) (marks body : List ℕ) → IsProperDtd g → HasNames g →
    IsProperDoc doc →
    AreWritable (tree doc.root no_trees) → ArePieces g root (lists_of doc) vs lists →
    IsTaggedText g doc lists marks body → IsGrownText doc body
grown_text g root doc vs lists marks body proper names proper_doc writable p w =
    let c = filled_root g root doc lists marks body p.sum proper names proper_doc.rooted writable
    p.have w in
    record { root = c.new; grows = c.grows; text = let t = c.text in let b = w.is_body in b ∙ ap (λ x. doc.before ++ x ++ doc.after) (sym t) }
