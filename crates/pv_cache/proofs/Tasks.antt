-- What holds of a task that can be done, and of its verdicts.
use Rattle.std.proofs.Common.{◌≡◌, ◌∙◌, ap, sym, refl, ℕ, ◌<◌, ◌≤◌, ◌^◌, true, false, List, [], ◌∷◌}
use Rattle.std.proofs.Common.{length, not, Option, Some, None, arith, subst}
use Rattle.std.specs.Prelude.{Err, IfErr, IfOk, IfSome, MatchOption, Ok, Result}
use Rattle.std.specs.List.{between}
use Rattle.std.proofs.lemmas.List.{length-map}
use Rattle.pv_dtd.specs.Plain.{PlainDtd}
use Rattle.pv_edit.specs.BroughtElements.{brings_element}
use Rattle.pv_edit.specs.Changes.{Change, in_place_of, list_after}
use Rattle.pv_edit.specs.FittingChanges.{CanChange, SuitsChange}
use Rattle.pv_edit.specs.Reasons.{is_given, is_top, kids_at, lacks_list}
use Rattle.pv_edit.proofs.ListsKeptByUndo.{can-made}
use Rattle.pv_edit.proofs.Levels.{forest-trees}
use Rattle.pv_edit.proofs.NodePlaces.{KidAt, NodeAt, at_node, down, first, here, later}
use Rattle.pv_edit.proofs.DocumentAsElement.{Made, list-whole, owner-kids}
use Rattle.pv_edit.specs.declared.answers.EditAnswer.TheVariants.{Impossible}
use Rattle.pv_missing.specs.ListWeights.{site_of}
use Rattle.pv_missing.specs.Widths.{FitsVerdict}
use Rattle.pv_missing.specs.WordVerdicts.{HoldsOne}
use Rattle.pv_model.specs.PlainForms.{plain_token}
use Rattle.pv_rules.specs.Sites.{PlainSite}
use Rattle.pv_tree.specs.Legal.{MAX_NODES}
use Rattle.std.specs.Option.{option_and_then}
use Rattle.pv_tree.specs.Places.{list_of}
use Rattle.pv_tree.specs.Plain.{Ending, Forest, PlainDoc, Tree, cdata_node, element, forest_of}
use Rattle.pv_tree.specs.Plain.{misc_node, nodes_in, nodes_in_all, no_trees, text_node, tree}
use Rattle.pv_tree.specs.Plain.{trees_of}
use Rattle.pv_tree.specs.Words.{word_of}
use Rattle.pv_tree.specs.declared.nodes.Mark.{Mark}
use Rattle.pv_tree.specs.declared.nodes.Verdict.{Verdict}
use Rattle.pv_cache.specs.BadLists.{bad_gained, bad_lost}
use Rattle.pv_cache.specs.VerdictsAfterChange.{AreJudged, IsFirstAmong, IsInnerJudged, owner_at}
use Rattle.pv_cache.specs.MarkedTasks.{AreNarrowAfter, IsUnaccepted}
use Rattle.pv_cache.specs.ChangedWords.{AreFound, AreNarrow, AreWords, IsInnerWord, IsWordOf}
use Rattle.pv_cache.specs.declared.updates.ChangedVerdicts.{ChangedVerdicts}
use Rattle.pv_cache.specs.declared.updates.InnerVerdict.{InnerVerdict}
use Rattle.pv_cache.specs.declared.words.InnerWord.{InnerWord}
use Rattle.pv_cache.specs.declared.words.ListWord.{ListWord}
use Rattle.pv_cache.specs.declared.words.Words.{Words}
use Rattle.pv_cache.proofs.VerdictsByWords.{found-judged}
use Rattle.pv_reach.specs.declared.errors.ReachError.{ReachError}
use Rattle.pv_reach.specs.declared.errors.ReachError.TheVariants as reach

one-tree : {M : Type 0} (ts : List (Tree M)) → length ts ≡ 1 →
    (t : Tree M) × (forest_of ts ≡ tree t no_trees)
one-tree [] n = absurd (omega arith)
one-tree (t ∷ []) n = (t, refl)
one-tree (t ∷ u ∷ ts) n = absurd (omega arith)

some-node : (t : Tree Mark) → 1 ≤ nodes_in t
some-node (element x a e k m) = omega arith
some-node (text_node us) = omega arith
some-node (cdata_node b) = omega arith
some-node (misc_node b) = omega arith

kids-few : (kids : Forest Mark) → length (trees_of kids) ≤ nodes_in_all kids
kids-few no_trees = omega arith
kids-few (tree t rest) = let a = some-node t in let b = kids-few rest in omega arith

kid-few : {i : ℕ} {kids : Forest Mark} {k : Tree Mark} → KidAt i kids k →
    nodes_in k ≤ nodes_in_all kids
kid-few first = omega arith
kid-few (later q) = let a = kid-few q in omega arith

node-few : {path : List ℕ} {t u : Tree Mark} → NodeAt path t u → nodes_in u ≤ nodes_in t
node-few here = omega arith
node-few (down q n) = let a = kid-few q in let b = node-few n in omega arith

module _ (root : Tree Mark) (c : Change Mark) (can : CanChange c.list c root)
    (unshort : is_top c.list ≡ true → c.shorten ≡ false) (m : Mark) where
  made : (ts : List (Tree Mark)) × Made m c.list c root ts
  made = can-made m c.list c root can unshort

  their-kids : kids_at c.list root ≡ made.0
  their-kids = owner-kids made.1.owner

  pub task-suits : SuitsChange c (kids_at c.list root)
  task-suits =
      subst (SuitsChange c) (sym their-kids) (record {
        order = made.1.order;
        within = made.1.within;
        fits = made.1.fits;
      })

  pub task-one : HoldsOne (owner_at c.list root) (forest_of (list_after c (kids_at c.list root)))
  task-one = by c.list refl
    where
      by : (list : List ℕ) → c.list ≡ list →
          HoldsOne (owner_at list root) (forest_of (list_after c (kids_at c.list root)))
      by [] e =
          one-tree (list_after c (kids_at c.list root))
          (ap (λ (l : List (Tree Mark)). length (list_after c l)) their-kids
          ∙ made.1.one (ap is_top e))
      by (i ∷ path) e = tt

  pub task-place : nodes_in root ≤ MAX_NODES → c.from < 2 ^ 32
  task-place n =
      let o = made.1.owner in
      let a = node-few o.node in
      let b = kids-few o.kids in
      let k : length (trees_of o.kids) ≡ length made.0 = ap length o.are in
      let f = made.1.order in
      let w = made.1.within in
      omega arith

  -- its nodes are among those of the document
  pub task-few : nodes_in_all (forest_of (kids_at c.list root)) ≤ nodes_in root
  task-few =
      let o = made.1.owner in
      let a = node-few o.node in
      let e : nodes_in_all (forest_of made.0) ≡ nodes_in_all o.kids =
      ap (λ (ts : List (Tree Mark)). nodes_in_all (forest_of ts)) (sym o.are)
      ∙ ap nodes_in_all (forest-trees o.kids) in
      let k = ap (λ (ts : List (Tree Mark)). nodes_in_all (forest_of ts)) their-kids in
      omega arith

  pub task-list : lacks_list c.list root ≡ false
  task-list =
      ap (λ (o : Option (List (Tree Mark))). not (is_given o)) (list-whole m c.list root
      ∙ ap (option_and_then list_of) (at_node made.1.owner.node))

module _ (g : PlainDtd) (root : List ℕ) where
  narrow-back : (kids : Forest Mark) (word : ListWord) → IsWordOf g kids word →
      FitsVerdict g (length (word_of g kids)) → FitsVerdict g (length word.tokens.items)
  narrow-back kids word w f =
      subst (FitsVerdict g) (sym (ap length w.tokens) ∙ length-map word.tokens.items plain_token) f

  narrow-inner : (c : Change Mark) (kids : List (Tree Mark)) (inner : Option InnerWord) →
      MatchOption inner (brings_element c.filling ≡ false)
      (IsInnerWord g c.filling (in_place_of c.filling (between c.from c.to kids))) →
      AreNarrowAfter g c kids →
      IfSome inner (λ i. FitsVerdict g (length i.word.tokens.items))
  narrow-inner c kids None w n = tt
  narrow-inner c kids (Some i) w n =
      narrow-back w.kids i.word w.word
      (n.inner w.brought i.name.now w.attrs w.ending w.kids w.mark w.is_one)

  narrow-words : (c : Change Mark) (kids : List (Tree Mark)) (words : Words) →
      AreWords g c kids words → AreNarrowAfter g c kids → AreNarrow g words
  narrow-words c kids words w n =
      record {
        outer = narrow-back (forest_of (list_after c kids)) words.outer.word w.outer.word
            n.outer;
        inner = narrow-inner c kids words.inner w.inner n;
      }

  -- ---- verdicts of changed lists
  judged-inside : (c : Change Mark) (new : List (Tree Mark)) (inner : Option InnerVerdict) →
      IsInnerJudged g root c new inner → brings_element c.filling ≡ true →
      (name attrs : List ℕ) (ending : Ending) (below : Forest Mark) (mark : Mark) →
      new ≡ element name attrs ending below mark ∷ [] → FitsVerdict g (length (word_of g below))
  judged-inside c new None j b name attrs e ks m is =
      absurd (let z : false ≡ true = sym j ∙ b in cc)
  judged-inside c new (Some i) (b', p, o) b name attrs e ks m is =
      let same : ks ≡ o.kids = (let p = o.is_one in cc) in
      subst (λ (k : Forest Mark). FitsVerdict g (length (word_of g k))) (sym same) o.list.narrow

  module _ (doc : PlainDoc Mark) (c : Change Mark) (can : CanChange c.list c doc.root)
      (unshort : is_top c.list ≡ true →
      c.shorten ≡ false) (v : Verdict) (inner : Option InnerVerdict)
      (j : AreJudged g root (owner_at c.list doc.root) (kids_at c.list doc.root) c v inner) where
    abbrev new : List (Tree Mark)
    new = in_place_of c.filling (between c.from c.to (kids_at c.list doc.root))

    -- none of the lists is too wide
    pub judged-narrow : AreNarrowAfter g c (kids_at c.list doc.root)
    judged-narrow = record { outer = j.outer.narrow; inner = judged-inside c new inner j.within }

    -- the first of them that is Impossible is the ground, where more of them are than before
    pub first-unaccepted : (path : List ℕ) → bad_lost c doc < bad_gained v inner →
        IsFirstAmong c.list v inner path → IsUnaccepted g root doc c (Impossible path)
    first-unaccepted path more is =
        (judged-narrow, record { verdict = v; inner = inner; judged = j; more = more; first = is })

  -- what is answered of the words of a task is answered of the task
  module _ (doc : PlainDoc Mark) (c : Change Mark) (can : CanChange c.list c doc.root)
      (unshort : is_top c.list ≡ true →
      c.shorten ≡ false) (words : Words) (w : AreWords g c (kids_at c.list doc.root) words)
      (site : Option PlainSite) (is_site : site_of g root (owner_at c.list doc.root) ≡ site)
      (r : Result ChangedVerdicts ReachError) where
    one : HoldsOne (owner_at c.list doc.root) (forest_of (list_after c (kids_at c.list doc.root)))
    one = task-one doc.root c can unshort doc.mark

    pub answer-judged : IfOk r (AreFound g site c.from words) →
        IfOk r (λ vs.
        AreJudged g root (owner_at c.list doc.root) (kids_at c.list doc.root) c vs.outer vs.inner)
    answer-judged f = by r f
      where
        by : (r : Result ChangedVerdicts ReachError) → IfOk r (AreFound g site c.from words) →
            IfOk r (λ vs.
            AreJudged g root (owner_at c.list doc.root) (kids_at c.list doc.root) c
            vs.outer vs.inner)
        by (Ok vs) f =
            found-judged g root (owner_at c.list doc.root) (kids_at c.list doc.root) c words vs one
            w (subst (λ (s : Option PlainSite). AreFound g s c.from words vs) (sym is_site) f)
        by (Err e) f = tt

    pub answer-wide : IfErr r (λ e. e ≡ reach.TooWide → ¬ AreNarrow g words) →
        IfErr r (λ e. e ≡ reach.TooWide → ¬ AreNarrowAfter g c (kids_at c.list doc.root))
    answer-wide f = by r f
      where
        by : (r : Result ChangedVerdicts ReachError) →
            IfErr r (λ e. e ≡ reach.TooWide → ¬ AreNarrow g words) →
            IfErr r (λ e. e ≡ reach.TooWide → ¬ AreNarrowAfter g c (kids_at c.list doc.root))
        by (Ok vs) f = tt
        by (Err e) f = λ is n. f is (narrow-words c (kids_at c.list doc.root) words w n)
