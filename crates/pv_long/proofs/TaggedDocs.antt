-- The text of a document with tags of new elements, whose names the DTD has.
use Rattle.std.proofs.Common.{Bool, Global, List, Vec, [], ap, append-nil, append_assoc, codes}
use Rattle.std.proofs.Common.{drop, false, get_or, length, refl, subst, sym, true, ℕ, ◌++◌, ◌+◌}
use Rattle.std.proofs.Common.{◌<◌, ◌≤◌, ◌∙◌, ◌∷◌, ◌≡◌, ◌≢◌, IsTrue}
use Rattle.std.proofs.lemmas.Bool.{and_from, and_parts}
use Rattle.std.proofs.lemmas.List.{drop_all, drop_more}
use Rattle.std.proofs.lemmas.Option.{slice_get-get_or}
use Rattle.std.specs.List.{AllByRecursion}
use Rattle.pv_dtd.specs.Plain.{PlainDtd, spelling_of}
use Rattle.pv_tree.specs.Legal.{are_formed, fits_kids, is_formed}
use Rattle.pv_tree.specs.Plain.{Ending, Forest, PlainDoc, element, no_trees, short, tree}
use Rattle.pv_tree.specs.declared.nodes.Mark.{Mark}
use Rattle.pv_write.specs.Events.{Event, events_text, old_bytes}
use Rattle.pv_write.specs.PieceForms.{plain_lists, plain_piece, plain_pieces}
use Rattle.pv_write.specs.Pieces.{AwaitsNode, PlainPiece, TakesNext, after_node, is_token}
use Rattle.pv_write.specs.Pieces.{others_of}
use Rattle.pv_write.specs.TaggedTexts.{PutsIn, IsTaggedText, put_bare, put_end, put_finish}
use Rattle.pv_write.specs.TaggedTexts.{put_leaf, put_start, put_tags, gap_of}
use Rattle.pv_write.specs.Text.{tree_text}
use Rattle.pv_write.specs.declared.pieces.Piece.{Piece}
use Rattle.pv_write.proofs.EventLists.{events-join}
use Rattle.pv_long.specs.NewTags.{HasNamesOf, HasNewTags, HasNameOf, IsWrittenWithTags, new_end}
use Rattle.pv_long.specs.NewTags.{new_start, no_more, same_tags, same_text}

-- ---- names of tags
module _ (g : PlainDtd) where
  pub named_before : (ps : List Piece) (i : ℕ) (d : Piece) → i < length ps →
      HasNameOf g (plain_piece (get_or ps i d)) → HasNamesOf g (plain_pieces (drop (i + 1) ps)) →
      HasNamesOf g
      (plain_pieces (drop i ps))
  named_before ps i d h one more =
      subst (λ (xs : List Piece). HasNamesOf g (plain_pieces xs)) (sym (drop_more ps i d h))
      (one, more)

  pub named_end : (ps : List Piece) (i : ℕ) → length ps ≤ i →
      HasNamesOf g (plain_pieces (drop i ps))
  named_end ps i h = rw (drop_all i ps h) tt

  pub lists_before : (qs : List (Vec Piece Global)) (i : ℕ) (q : Vec Piece Global) → i < length qs →
      q ≡ get_or qs i q → HasNamesOf g (plain_pieces q.items) →
      AllByRecursion (HasNamesOf g) (plain_lists (drop (i + 1) qs)) →
      AllByRecursion (HasNamesOf g) (plain_lists (drop i qs))
  lists_before qs i q h e one more =
      subst (λ (xs : List (Vec Piece Global)). AllByRecursion (HasNamesOf g) (plain_lists xs))
      (sym (drop_more qs i q h ∙ ap (λ (x : Vec Piece Global). x ∷ drop (i + 1) qs) (sym e)))
      (one, more)

  pub lists_end : (qs : List (Vec Piece Global)) (i : ℕ) → length qs ≤ i →
      AllByRecursion (HasNamesOf g) (plain_lists (drop i qs))
  lists_end qs i h = rw (drop_all i qs h) tt

  others_named : (ps : List PlainPiece) → HasNamesOf g ps → HasNamesOf g (others_of ps)
  others_named [] n = tt
  others_named (p ∷ ps) n = n.1

  after_named : (b : Bool) (ps : List PlainPiece) → HasNamesOf g ps → HasNamesOf g (after_node b ps)
  after_named true ps n = others_named ps n
  after_named false ps n = n

  next_named : (qs rest : List (List PlainPiece)) (ps : List PlainPiece) → TakesNext qs ps rest →
      AllByRecursion (HasNamesOf g) qs → HasNamesOf g ps × AllByRecursion (HasNamesOf g) rest
  next_named [] rest ps t n = rw (t.0, t.1) (tt, tt)
  next_named (q ∷ qs) rest ps t n = rw (t.0, t.1) n

-- ---- texts
-- where a tag comes first, something is written
some_text : (g : PlainDtd) (ps : List PlainPiece) (kids : Forest Mark)
    (qs rs : List (List PlainPiece)) (es : List Event) → PutsIn g ps kids qs rs es →
    (AwaitsNode ps → ⊥) → events_text es ≢ []
some_text g ps kids qs rs es (put_end _ _ _ awaits same) some = absurd (some awaits)
some_text g ps kids qs rs es (put_start y _ us _ _ ts _ is f) some =
    λ none. let t = ap events_text is in absurd cc
some_text g ps kids qs rs es (put_finish y _ us _ _ ts _ is f) some =
    λ none. let t = ap events_text is in absurd cc
some_text g ps kids qs rs es (put_leaf t k _ _ _ ts _ leaf awaits is f) some = absurd (some awaits)
some_text g ps kids qs rs es (put_bare x attrs m k _ inside _ below _ ts _ awaits takes no_tag is f)
    some = absurd (some awaits)
some_text g ps kids qs rs es (put_tags x attrs e ks k m _ inside _ below after _ ws ts _ awaits
    takes tags is f1 f2) some = absurd (some awaits)

-- an empty-element tag has no kids
short_none : (e : Ending) (kids : Forest Mark) → IsTrue (fits_kids e kids) → e ≡ short →
    kids ≡ no_trees
short_none e no_trees h is = refl
short_none e (tree t rest) h is = absurd (let f = rw is at h in cc)

five_parts : (s c e m : List ℕ) → s ++ (c ++ (e ++ m)) ≡ s ++ c ++ e ++ m
five_parts s c e m = sym (append_assoc (s ++ c) e m ∙ append_assoc s c (e ++ m))

has_new_tags : (g : PlainDtd) (ps : List PlainPiece) (kids : Forest Mark)
    (qs rs : List (List PlainPiece)) (es : List Event) → PutsIn g ps kids qs rs es →
    HasNamesOf g ps → AllByRecursion
    (HasNamesOf g) qs →
    IsTrue (are_formed kids) → HasNewTags g kids (events_text es) × AllByRecursion (HasNamesOf g) rs
has_new_tags g ps kids qs rs es (put_end _ _ _ awaits same) n ns formed =
    (no_more [] refl, rw same ns)
has_new_tags g ps kids qs rs es (put_start y _ us _ _ ts _ is f) n ns formed =
    let r = has_new_tags g us kids qs rs ts f n.1 ns formed in (
      new_start kids y (spelling_of g y) (events_text ts) (events_text es)
          (slice_get-get_or g.names y [] n.0) (ap events_text is) r.0,
      r.1,
    )
has_new_tags g ps kids qs rs es (put_finish y _ us _ _ ts _ is f) n ns formed =
    let r = has_new_tags g us kids qs rs ts f n.1 ns formed in (
      new_end kids y (spelling_of g y) (events_text ts) (events_text es)
          (slice_get-get_or g.names y [] n.0) (ap events_text is) r.0,
      r.1,
    )
has_new_tags g ps kids qs rs es (put_leaf t k _ _ _ ts _ leaf awaits is f) n ns formed =
    let parts = and_parts (is_formed t) (are_formed k) formed in
    let r = has_new_tags g (after_node (is_token t) ps) k qs rs ts f
    (after_named g (is_token t) ps n) ns parts.1 in
    (same_text t k (events_text ts) (events_text es) (ap events_text is) r.0, r.1)
has_new_tags g ps kids qs rs es (put_bare x attrs m k _ inside _ below _ ts _ awaits takes no_tag is
    f) n ns formed =
    let parts = and_parts (is_formed (element x attrs short no_trees m)) (are_formed k) formed in
    let next = next_named g qs below inside takes ns in
    let r = has_new_tags g (others_of ps) k below rs ts f (others_named g ps n) next.1 parts.1 in (
      same_text (element x attrs short no_trees m) k (events_text ts) (events_text es)
          (ap events_text is) r.0,
      r.1,
    )
has_new_tags g ps kids qs rs es (put_tags x attrs e ks k m _ inside _ below after _ ws ts _ awaits
    takes tags is f1 f2) n ns formed =
    let parts = and_parts (is_formed (element x attrs e ks m)) (are_formed k) formed in
    let inner = and_parts (fits_kids e ks) (are_formed ks) parts.0 in
    let next = next_named g qs below inside takes ns in
    let r1 = has_new_tags g inside ks below after ws f1 next.0 next.1 inner.1 in
    let r2 = has_new_tags g (others_of ps) k after rs ts f2 (others_named g ps n) r1.1 parts.1 in
    let top = codes "<" ++ x ++ attrs ++ codes ">" in
    let end = codes "</" ++ x ++ gap_of e ++ codes ">" in
    let text : events_text es ≡ top ++ events_text ws ++ end ++ events_text ts = ap events_text is
    ∙ ap (λ (z : List ℕ). top ++ z) (events-join ws (old_bytes end ∷ ts)) ∙ five_parts top
    (events_text ws) end (events_text ts) in (
      same_tags x attrs e ks k m (events_text ws) (events_text ts) (events_text es)
          (λ is_short. some_text g inside ks below after ws f1
          (tags is_short (short_none e ks inner.0 is_short))) text r1.0 r2.0,
      r2.1,
    )

pub written_with_tags : (g : PlainDtd) (doc : PlainDoc Mark) (lists : List (List PlainPiece))
    (marks body : List ℕ) → IsTaggedText g doc lists marks body →
    AllByRecursion (HasNamesOf g) lists →
    IsTrue (is_formed doc.root) → IsWrittenWithTags g doc body
written_with_tags g doc lists marks body w named formed =
    let next = next_named g lists w.below w.pieces w.takes named in
    record {
      text = events_text w.events;
      has_tags =
          (has_new_tags g w.pieces (tree doc.root no_trees) w.below w.left w.events w.fills next.0
          next.1 (and_from (is_formed doc.root) true formed refl)).0;
      is_body = w.is_body;
    }

-- a document's own text has no new tags
pub own_tags : (g : PlainDtd) (doc : PlainDoc Mark) (body : List ℕ) →
    body ≡ doc.before ++ tree_text doc.root ++ doc.after → IsWrittenWithTags g doc body
own_tags g doc body is =
    record {
      text = tree_text doc.root;
      has_tags = same_text doc.root no_trees [] _
          (sym (append-nil (tree_text doc.root))) (no_more [] refl);
      is_body = is;
    }
