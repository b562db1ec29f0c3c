-- Completed trees.
use Rattle.std.proofs.Common.{List, Some, [], append-nil, arith, append_assoc, codes, refl, suc, sym, ℕ, ◌++◌, ◌+◌, ◌∙◌, ◌∷◌, ◌≡◌, inl, inr, ap, ◌≢◌}
use Rattle.pv_chars.specs.Texts.{joined}
use Rattle.pv_model.specs.Plain.{PlainToken, empty}
use Rattle.pv_dtd.specs.Hedge.{Hedge, cdata, done, misc}
use Rattle.pv_dtd.specs.Plain.{PlainDtd, model_of, number_of}
use Rattle.pv_tree.specs.Plain.{Ending, Forest, cdata_node, element, misc_node, no_trees, short, tagged, text_node}
use Rattle.pv_tree.specs.Lists.{IsOwnValid}
use Rattle.pv_tree.specs.View.{spread, unit_leaf, view_all}
use Rattle.pv_tree.specs.Words.{word_of}
use Rattle.pv_write.specs.Text.{forest_text}
use Rattle.pv_missing.specs.Completions.{LeavesOut, out_done, out_kept, out_leaf}
use Rattle.pv_missing.proofs.CoversToInsertions.{allows-empty}
use Rattle.pv_write.specs.Events.{Event, marks_from, old_bytes, opens}
use Rattle.pv_complete.specs.MergedLists.{IsCompletedList}
use Rattle.pv_complete.specs.MergingLaws.{BareIsCompleted, ElementIsCompleted, LeafIsCompleted, MergedIsCompleted}
use Rattle.pv_write.specs.Pieces.{PlainPiece}
use Rattle.pv_complete.specs.Pieces.{Writes, WritesContent, write_kept, write_new, write_none}
use Rattle.pv_complete.specs.Pieces.{write_text}
use Rattle.pv_write.specs.TaggedTexts.{gap_of}
use Rattle.pv_complete.specs.GrownTrees.{KeepsEnding}
use Rattle.pv_complete.specs.Writable.{KeepsWritable}
use Rattle.pv_chars.specs.Spaces.{IsOptionalSpace}
use Rattle.pv_tree.specs.Legal.{IsLegalEnding}
use Rattle.pv_complete.proofs.WritableTrees.{keeps_element, keeps_none, keeps_tree, none_grown}
use Rattle.pv_write.proofs.EventLists.{events-join, marks-join, opens-join}
use Rattle.pv_complete.proofs.MergedPieces.{trees_and-done, trees_and-none, merged}

-- the text of an element, cut at its content
tag_text : (lt x attrs gt k lt2 gap : List ℕ) → lt ++ x ++ attrs ++ gt ++ k ++ lt2 ++ x ++ gap ++ gt ≡ (lt ++ x ++ attrs ++ gt) ++ (k ++ ((lt2 ++ x ++ gap ++ gt) ++ []))
tag_text lt x attrs gt k lt2 gap = simp (append_assoc, append-nil)

spread_out : (us : List (List ℕ)) (m e : ℕ) (more : List ℕ) (h h' : Hedge) → LeavesOut m e more h h' → LeavesOut m e more (spread us h) (spread us h')
spread_out [] m e more h h' l = l
spread_out (u ∷ us) m e more h h' l = out_leaf m e more (unit_leaf u) (spread us h) (spread us h') (spread_out us m e more h h' l)

pub leaf_completed : (M : Type 0) → LeafIsCompleted M
leaf_completed M g (element x attrs e kids mark) f = absurd cc
leaf_completed M g (text_node us) f = record {
  text = sym (append-nil (joined us));
  tags = λ m e more h h' l. let z : m + 0 ≡ m = omega arith in spread_out us m e more h h' (rw z at l);
  valid = tt;
  head = λ u. refl;
  keeps = λ f f' k. keeps_tree (text_node us) f f' k;
}
leaf_completed M g (cdata_node b) f = record {
  text = sym (append-nil b);
  tags = λ m e more h h' l. let z : m + 0 ≡ m = omega arith in out_leaf m e more (cdata b) h h' (rw z at l);
  valid = tt;
  head = λ u. refl;
  keeps = λ f f' k. keeps_tree (cdata_node b) f f' k;
}
leaf_completed M g (misc_node b) f = record {
  text = sym (append-nil b);
  tags = λ m e more h h' l. let z : m + 0 ≡ m = omega arith in out_leaf m e more (misc b) h h' (rw z at l);
  valid = tt;
  head = λ u. refl;
  keeps = λ f f' k. keeps_tree (misc_node b) f f' k;
}

pub merged_completed : (M : Type 0) → MergedIsCompleted M
merged_completed M blank g n k u ps kids es proper names c d = merged blank g proper names n k u ps kids es c d

own_valid : {M : Type 0} (g : PlainDtd) (x : List ℕ) (y n k : ℕ) (kids new : Forest M)
    (ps : List PlainPiece) (es : List Event) → number_of g x ≡ Some y → (model_of g y ≡ Some empty →
    kids ≡ no_trees) →
    (c : WritesContent g y n (word_of g kids) ps) → IsCompletedList g kids new c.whole es n k → IsOwnValid g (number_of g x) new
own_valid g x y n k kids new ps es is none c l = record {
  number = y;
  is_owner = is;
  model = c.model;
  is_model = c.is_model;
  no_kids = λ z. let i = c.is_model in l.none (none (rw z at i)) (allows-empty g c.model c.whole z c.allowed);
  allowed = let w = l.word in rw w c.allowed;
}

gap_legal : (e : Ending) → IsLegalEnding e → IsOptionalSpace (gap_of e)
gap_legal short l = refl
gap_legal (tagged gap) l = l

ending_kept : {M : Type 0} (e : Ending) (gap : List ℕ) (new : Forest M) → gap ≡ gap_of e → (e ≡ short → new ≢ no_trees) → KeepsEnding e new (tagged gap)
ending_kept short gap new is some = inr (refl, some refl, rw is refl)
ending_kept (tagged gap) other new is some = inl (rw is refl)

no_pieces_for : (g : PlainDtd) (n : ℕ) (u w : List PlainToken) (ps : List PlainPiece) → Writes g n u w ps → u ≡ [] → ps ≡ []
no_pieces_for g n u w ps (write_none _ z) e = refl
no_pieces_for g n u w ps (write_text _ u2 w2 os c) e = absurd cc
no_pieces_for g n u w ps (write_kept _ y u2 w2 os c) e = absurd cc
no_pieces_for g n u w ps (write_new _ a b y m z u2 w1 w2 _ one two _ f j h is ok c1 c2) e = absurd cc

pub element_completed : (M : Type 0) → ElementIsCompleted M
element_completed M blank g x attrs gap y n k ending kids mark ps es proper names end bare is none c d =
    let r = merged blank g proper names n k c.whole ps kids es c.writes d in
    let l = r.1 in (
      r.0,
      record {
        text = rw (events-join es (old_bytes (codes "</" ++ x ++ gap ++ codes ">") ∷ [])) (let t = l.text in rw (← t) (tag_text (codes "<") x attrs (codes ">") (forest_text r.0) (codes "</") gap));
        tags = λ m e more h h' o.
            let z : m + suc (opens (es ++ old_bytes (codes "</" ++ x ++ gap ++ codes ">") ∷ []))
            ≡ suc m + opens es =
            omega (arith, opens-join es (old_bytes (codes "</" ++ x ++ gap ++ codes ">") ∷ [])) in
            out_kept m (suc m + opens es) e (marks_from (suc m) (es ++ old_bytes (codes "</" ++ x
            ++ gap ++ codes ">") ∷ []) ++ more) (marks_from (suc m) es) more x attrs
            (view_all kids) (view_all r.0) h h'
            (rw (marks-join (suc m) es (old_bytes (codes "</" ++ x ++ gap ++ codes ">") ∷ []), append-nil) refl)
            (rw (append-nil, trees_and-done kids, trees_and-done r.0) at (l.tags (suc m) (suc m + opens es) [] done done (out_done (suc m + opens es) (suc m + opens es) refl)))
            (rw z at o);
        valid = (own_valid g x y n k kids r.0 ps es is none c l, l.valid);
        head = λ u. refl;
        keeps = λ f f' h. keeps_element x attrs gap ending kids r.0 f f' mark mark
            (rw end (gap_legal ending)) (ending_kept ending gap r.0 end
            (λ s e. bare s (kids_none r.0 l e) (no_pieces_for g n c.whole (word_of g kids) ps
            c.writes (whole_none r.0 l e)))) (inner r.0 l) h;
      },
    )
  where
    inner : (new : Forest M) → IsCompletedList g kids new c.whole es n k → KeepsWritable kids new
    inner new l = rw (trees_and-none kids, trees_and-none new) at (l.keeps no_trees no_trees keeps_none)

    kids_none : (new : Forest M) → IsCompletedList g kids new c.whole es n k → new ≡ no_trees → kids ≡ no_trees
    kids_none new l e = let i = inner new l in none_grown kids new i.grows e

    whole_none : (new : Forest M) → IsCompletedList g kids new c.whole es n k → new ≡ no_trees → c.whole ≡ []
    whole_none new l e = let w = l.word in sym w ∙ ap (word_of g) e

nothing_written : (g : PlainDtd) (n : ℕ) (u w : List PlainToken) (ps : List PlainPiece) → ps ≡ [] → Writes g n u w ps → u ≡ []
nothing_written g n u w ps e (write_none _ z) = refl
nothing_written g n u w ps e (write_text _ u2 w2 os c) = absurd cc
nothing_written g n u w ps e (write_kept _ y u2 w2 os c) = absurd cc
nothing_written g n u w ps e (write_new _ a b y m z u2 w1 w2 _ one two _ f j h is ok c1 c2) = absurd (let i = sym h ∙ e in cc)

pub bare_completed : (M : Type 0) → BareIsCompleted M
bare_completed M g x attrs y n mark is c = record {
  text = sym (append-nil (codes "<" ++ x ++ attrs ++ codes "/>"));
  tags = λ m e more h h' l. let z : m + 1 ≡ suc m = omega arith in out_kept m (suc m) e more [] more x attrs done done h h' refl (out_done (suc m) (suc m) refl) (rw z at l);
  valid = (
    record {
      number = y;
      is_owner = is;
      model = c.model;
      is_model = c.is_model;
      no_kids = λ z. refl;
      allowed = let e = nothing_written g n c.whole [] [] refl c.writes in rw e at c.allowed;
    },
    tt,
  );
  head = λ u. refl;
  keeps = λ f f' k. keeps_tree (element x attrs short no_trees mark) f f' k;
}
