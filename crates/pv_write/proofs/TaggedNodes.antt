-- Nodes and pieces that are written one after the other.
use Rattle.std.proofs.Common.{List, [], ap, append-nil, append_assoc, codes, drop, false, get_or}
use Rattle.std.proofs.Common.{length, refl, rules, sym, ℕ, ◌++◌, ◌+◌, ◌<◌, ◌∙◌, ◌∷◌, ◌≡◌}
use Rattle.std.specs.Prelude.{◌==◌}
use Rattle.std.proofs.lemmas.List.{drop_more}
use Rattle.pv_dtd.specs.Plain.{PlainDtd, spelling_of}
use Rattle.pv_tree.specs.Plain.{Ending, Forest, Tree, cdata_node, element, is_element, misc_node}
use Rattle.pv_tree.specs.Plain.{no_trees, short, text_node, tree}
use Rattle.pv_tree.specs.PlainForms.{forest, plain}
use Rattle.pv_tree.specs.declared.nodes.Mark.{Mark}
use Rattle.pv_tree.specs.declared.nodes.Node.{Cdata, Misc, Node, Text, the_lemmas}
use Rattle.pv_write.specs.Events.{new_end, new_start, old_bytes, old_start}
use Rattle.pv_write.specs.PieceForms.{plain_piece, plain_pieces}
use Rattle.pv_write.specs.Pieces.{AwaitsNode, PlainPiece, TakesNext, after_node, finish, is_token}
use Rattle.pv_write.specs.Pieces.{others_of, start}
use Rattle.pv_write.specs.TaggedTexts.{Appends, PlainWriting, WritesAll, WritesUpTo, put_bare}
use Rattle.pv_write.specs.TaggedTexts.{put_end, put_finish, put_leaf, put_start, put_tags, gap_of}
use Rattle.pv_write.specs.Text.{tree_text}
use Rattle.pv_write.specs.declared.pieces.Piece.{Piece}
use Rattle.pv_write.proofs.EventLists.{appends_after, appends_join, appends_none}

-- ---- nodes and pieces of the program
pub plain-Text : (us : List (List ℕ)) → plain (Text us) ≡ text_node us
plain-Text us = search (rules, the_lemmas)

pub plain-Cdata : (b : List ℕ) → plain (Cdata b) ≡ cdata_node b
plain-Cdata b = search (rules, the_lemmas)

pub plain-Misc : (b : List ℕ) → plain (Misc b) ≡ misc_node b
plain-Misc b = search (rules, the_lemmas)

pub no_nodes : (ns : List Node) → forest ns ≡ no_trees → ns ≡ []
no_nodes [] e = refl
no_nodes (n ∷ ns) e = absurd cc

pub some_length : {A : Type 0} (xs : List A) → false ≡ (length xs == 0) → xs ≡ [] → ⊥
some_length [] h e = cc
some_length (x ∷ xs) h e = cc

pub next_piece : (ps : List Piece) (k : ℕ) (p d : Piece) → k < length ps → p ≡ get_or ps k d →
    plain_pieces (drop k ps) ≡ plain_piece p ∷ plain_pieces (drop (k + 1) ps)
next_piece ps k p d l e =
    ap plain_pieces (drop_more ps k d l) ∙ ap (λ x. plain_piece x ∷ plain_pieces (drop (k + 1) ps))
    (sym e)

-- the pieces after the first of those from a place
pub after_next : (ps : List Piece) (k : ℕ) (d : Piece) → k < length ps →
    plain_pieces (drop (k + 1) ps) ≡ others_of (plain_pieces (drop k ps))
after_next ps k d l = sym (ap (λ x. others_of (plain_pieces x)) (drop_more ps k d l))

-- ---- what is written up to others
module _ (g : PlainDtd) where
  pub up_none : (ps : List PlainPiece) (k : Forest Mark) (at : PlainWriting) →
      WritesUpTo g ps k ps k at at
  up_none ps k at = record { events = []; appends = appends_none at; goes_on = λ rs es h. h }

  pub up_join : (ps qs os : List PlainPiece) (a b c : Forest Mark) (old mid new : PlainWriting) →
      WritesUpTo g ps a qs b old mid → WritesUpTo g qs b os c mid new →
      WritesUpTo g ps a os c old new
  up_join ps qs os a b c old mid new f s = record {
    events = f.events ++ s.events;
    appends = appends_join old mid new f.events s.events f.appends s.appends;
    goes_on =
        λ rs es h. rw (append_assoc f.events s.events es)
        (f.goes_on rs (s.events ++ es) (s.goes_on rs es h));
  }

  pub up_start : (y : ℕ) (name : List ℕ) (ps : List PlainPiece) (k : Forest Mark)
      (old new : PlainWriting) → name ≡ spelling_of g y → Appends old new (new_start name ∷ []) →
      new.lists ≡ old.lists →
      WritesUpTo g (start y ∷ ps) k ps k old new
  up_start y name ps k old new e a u = record {
    events = new_start name ∷ [];
    appends = a;
    goes_on =
        λ rs es h. put_start y k ps old.lists rs es (new_start name ∷ es) (rw e refl) (rw u at h);
  }

  pub up_finish : (y : ℕ) (name : List ℕ) (ps : List PlainPiece) (k : Forest Mark)
      (old new : PlainWriting) → name ≡ spelling_of g y → Appends old new (new_end name ∷ []) →
      new.lists ≡ old.lists →
      WritesUpTo g (finish y ∷ ps) k ps k old new
  up_finish y name ps k old new e a u = record {
    events = new_end name ∷ [];
    appends = a;
    goes_on =
        λ rs es h. put_finish y k ps old.lists rs es (new_end name ∷ es) (rw e refl) (rw u at h);
  }

  pub up_leaf : (node : Node) (t : Tree Mark) (ps : List PlainPiece) (k : Forest Mark)
      (bytes : List ℕ) (old new : PlainWriting) → plain node ≡ t → is_element t ≡ false →
      bytes ≡ tree_text t →
      AwaitsNode ps → Appends old new (old_bytes bytes ∷ []) → new.lists ≡ old.lists →
      WritesUpTo g ps (tree (plain node) k) (after_node (is_token (plain node)) ps) k old new
  up_leaf node t ps k bytes old new is leaf text awaits a u = rw is (record {
    events = old_bytes bytes ∷ [];
    appends = a;
    goes_on =
        λ rs es h. put_leaf t k ps old.lists rs es (old_bytes bytes ∷ es) leaf awaits (rw text refl)
        (rw u at h);
  })

  pub up_bare : (x attrs : List ℕ) (e : Ending) (kids : Forest Mark) (m : Mark)
      (ps inside : List PlainPiece) (k : Forest Mark) (old mid new : PlainWriting) → e ≡ short →
      kids ≡ no_trees →
      AwaitsNode ps → TakesNext old.lists inside mid.lists → AwaitsNode inside →
      mid.body ≡ old.body → mid.marks ≡ old.marks → mid.begun ≡ old.begun →
      Appends mid new (old_start (codes "<" ++ x ++ attrs ++ codes "/>") ∷ []) →
      new.lists ≡ mid.lists → WritesUpTo g ps (tree (element x attrs e kids m) k) (others_of ps)
      k old new
  up_bare x attrs e kids m ps inside k old mid new is_short none awaits takes no_tag body marks
      begun a u = rw (is_short, none) (record {
        events = old_start (codes "<" ++ x ++ attrs ++ codes "/>") ∷ [];
        appends = appends_after old mid new _ body marks begun a;
        goes_on =
            λ rs es h. put_bare x attrs m k ps inside old.lists mid.lists rs es _ awaits takes
            no_tag
            refl (rw u at h);
      })

  pub up_tags : (x attrs : List ℕ) (e : Ending) (kids : Forest Mark) (m : Mark)
      (ps inside : List PlainPiece) (k : Forest Mark) (old mid first second new : PlainWriting) →
      AwaitsNode ps →
      TakesNext old.lists inside mid.lists → (e ≡ short → kids ≡ no_trees → AwaitsNode inside → ⊥) →
      mid.body ≡ old.body → mid.marks ≡ old.marks → mid.begun ≡ old.begun →
      Appends mid first (old_start (codes "<" ++ x ++ attrs ++ codes ">") ∷ []) →
      first.lists ≡ mid.lists → WritesAll g inside kids first second →
      Appends second new (old_bytes (codes "</" ++ x ++ gap_of e ++ codes ">") ∷ []) →
      new.lists ≡ second.lists → WritesUpTo g ps (tree (element x attrs e kids m) k)
      (others_of ps) k old new
  up_tags x attrs e kids m ps inside k old mid first second new awaits takes some body marks begun a
      u w b v =
      let top = old_start (codes "<" ++ x ++ attrs ++ codes ">") in
      let end = old_bytes (codes "</" ++ x ++ gap_of e ++ codes ">") in
      record {
        events = top ∷ (w.events ++ end ∷ []);
        appends = appends_after old mid new (top ∷ (w.events ++ end ∷ [])) body marks begun
            (appends_join mid first new (top ∷ []) (w.events ++ end ∷ []) a
            (appends_join first second new w.events (end ∷ []) w.appends b));
        goes_on = λ rs es h.
            put_tags x attrs e kids k m ps inside old.lists mid.lists second.lists rs w.events es _
            awaits takes some
            (ap (λ x. top ∷ x) (append_assoc w.events (end ∷ []) es)) (let f = w.fills in rw u at f)
            (rw v at h);
      }

  -- up to the end
  pub up_end : (ps qs os : List PlainPiece) (kids : Forest Mark) (old mid new : PlainWriting) →
      WritesUpTo g ps kids qs no_trees old mid → WritesUpTo g qs no_trees os no_trees mid new →
      AwaitsNode os →
      WritesAll g ps kids old new
  up_end ps qs os kids old mid new f s awaits =
      let all = up_join ps qs os kids no_trees no_trees old mid new f s in
      record {
        events = all.events;
        appends = all.appends;
        fills =
            rw append-nil at (all.goes_on new.lists []
            (put_end os new.lists new.lists awaits refl));
      }
