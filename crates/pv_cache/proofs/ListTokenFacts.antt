-- What is kept of a list stays right where others come into it, and where marks are updated.
use Rattle.std.proofs.Common.{◌≡◌, ◌∙◌, ap, sym, refl, ℕ, true, false, List, [], Option, Some, None}
use Rattle.std.proofs.Common.{map}
use Rattle.std.specs.Option.{option_map}
use Rattle.pv_dtd.specs.Plain.{PlainDtd}
use Rattle.pv_edit.specs.Changes.{Change, doc_after, list_after}
use Rattle.pv_edit.specs.FittingChanges.{CanChange}
use Rattle.pv_edit.specs.Reasons.{is_top, items_of, kids_at}
use Rattle.pv_edit.proofs.ListsKeptByUndo.{can-made}
use Rattle.pv_edit.proofs.RemarkedChanges.{forest-as}
use Rattle.pv_edit.proofs.DocumentAsElement.{owner-kids}
use Rattle.pv_missing.proofs.VerdictHeads.{same_word}
use Rattle.pv_missing.specs.WordVerdicts.{has_no_trees}
use Rattle.pv_tree.specs.Heads.{Head, has_token, heads_of}
use Rattle.pv_tree.specs.Marks.{unmarked_doc}
use Rattle.pv_tree.specs.Places.{list_at}
use Rattle.pv_tree.specs.Plain.{Forest, PlainDoc, Tree, forest_of, map_marks, no_trees, tree}
use Rattle.pv_tree.specs.Plain.{without_marks}
use Rattle.pv_tree.specs.declared.nodes.Mark.{Mark}
use Rattle.pv_tree.specs.declared.nodes.Verdict.{Verdict}
use Rattle.pv_cache.specs.ChangedWords.{AreListTokens, AreKeptTokens}
use Rattle.pv_cache.specs.Updates.{update_doc}
use Rattle.pv_cache.specs.declared.updates.InnerVerdict.{InnerVerdict}
use Rattle.pv_cache.specs.declared.kept_lists.KeptTokens.{KeptTokens}
use Rattle.pv_cache.specs.declared.words.ListTokens.{ListTokens}
use Rattle.pv_cache.proofs.RemarkedDocuments.{list_at_as}
use Rattle.pv_cache.proofs.Limits.{list_stands}
use Rattle.pv_cache.proofs.OtherMarks.{heads_as}
use Rattle.pv_cache.proofs.MarksAlone.{doc-as}

same-bare : (a b : Forest Mark) → heads_of a ≡ heads_of b → has_no_trees a ≡ has_no_trees b
same-bare no_trees no_trees e = refl
same-bare no_trees (tree t rest) e = absurd cc
same-bare (tree t rest) no_trees e = absurd cc
same-bare (tree t rest) (tree u more) e = refl

-- lists of the same heads have the same tokens
pub tokens-alike : (g : PlainDtd) (a b : Forest Mark) (tokens : ListTokens) →
    heads_of a ≡ heads_of b → AreListTokens g a tokens → AreListTokens g b tokens
tokens-alike g a b tokens e t = record {
  word =
      record { tokens = t.word.tokens ∙ same_word g a b e; bare = t.word.bare ∙ same-bare a b e };
  shown = t.shown ∙ ap (map has_token) e;
}

abbrev pub heads-in : {M : Type 0} → List (Tree M) → List Head
heads-in ts = heads_of (forest_of ts)

-- no mark
abbrev no-mark : {M : Type 0} → M → Unit {0}
no-mark m = tt

heads-all : {M : Type 0} (o : Option (List (Tree M))) →
    heads-in (items_of (option_map (map (map_marks no-mark)) o)) ≡ heads-in (items_of o)
heads-all None = refl
heads-all (Some ts) = ap heads_of (forest-as no-mark ts) ∙ heads_as no-mark (forest_of ts)

heads-bare : (path : List ℕ) (doc : PlainDoc Mark) →
    heads-in (kids_at path (without_marks doc.root)) ≡ heads-in (kids_at path doc.root)
heads-bare path doc =
    ap (λ (o : Option (List (Tree Unit))). heads-in (items_of o))
    (list_at_as no-mark doc (record { names = []; models = [] }) [] path)
    ∙ heads-all (list_at path doc.root)

-- so have the lists at a path in documents that differ in marks alone
pub heads-kids : (path : List ℕ) (doc other : PlainDoc Mark) →
    unmarked_doc doc ≡ unmarked_doc other →
    heads-in (kids_at path doc.root) ≡ heads-in (kids_at path other.root)
heads-kids path doc other e =
    sym (heads-bare path doc) ∙ ap (λ (d : PlainDoc Unit). heads-in (kids_at path d.root)) e
    ∙ heads-bare path other

module _ (g : PlainDtd) (doc : PlainDoc Mark) (c : Change Mark) (can : CanChange c.list c doc.root)
    (unshort : is_top c.list ≡ true → c.shorten ≡ false)
    (v : Verdict) (inner : Option InnerVerdict) (stamp : ℕ) where
  list-made : kids_at c.list (doc_after c doc).root ≡ list_after c (kids_at c.list doc.root)
  list-made =
      let d = can-made doc.mark c.list c doc.root can unshort in
      ap items_of (list_stands doc.mark c.list c doc.root d.0 d.1)
      ∙ ap (list_after c) (sym (owner-kids d.1.owner))

  -- the tokens of a changed list are those of the list in the updated document
  pub kept-after : (tokens : ListTokens) →
      AreListTokens g (forest_of (list_after c (kids_at c.list doc.root))) tokens →
      AreListTokens g
      (forest_of (kids_at c.list (update_doc c.list v inner stamp (doc_after c doc)).root)) tokens
  kept-after tokens t =
      let new = update_doc c.list v inner stamp (doc_after c doc) in
      let e =
      heads-kids c.list new (doc_after c doc) (doc-as c.list v inner stamp (doc_after c doc)) in
      tokens-alike g (forest_of (list_after c (kids_at c.list doc.root)))
      (forest_of (kids_at c.list new.root)) tokens (sym (e ∙ ap heads-in list-made)) t

-- what is kept of a list tells its tokens, and the other way round
pub some-kept : (g : PlainDtd) (doc : PlainDoc Mark) (kept : KeptTokens) →
    AreListTokens g (forest_of (kids_at kept.list doc.root)) kept.tokens → AreKeptTokens g doc kept
some-kept g doc kept t = (t.word.tokens, t.word.bare, t.shown)

pub of-kept : (g : PlainDtd) (doc : PlainDoc Mark) (kept : KeptTokens) → AreKeptTokens g doc kept →
    AreListTokens g (forest_of (kids_at kept.list doc.root)) kept.tokens
of-kept g doc kept k = record { word = record { tokens = k.0; bare = k.1 }; shown = k.2 }
