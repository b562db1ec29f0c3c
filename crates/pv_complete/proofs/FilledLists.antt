-- A list that is filled with its pieces, and the lists below it with theirs, is merged with them.
use Rattle.std.proofs.Common.{Bool, List, Some, [], ap, append-nil, append_assoc, arith, codes}
use Rattle.std.proofs.Common.{false, inl, inr, refl, subst, suc, sym, true, ℕ, ◌++◌, ◌+◌, ◌∙◌, ◌∷◌}
use Rattle.std.proofs.Common.{◌≡◌}
use Rattle.pv_chars.specs.Texts.{has_data}
use Rattle.pv_model.specs.Plain.{PlainToken, named, text}
use Rattle.pv_dtd.specs.Hedge.{token}
use Rattle.pv_dtd.specs.Plain.{PlainDtd, number_of}
use Rattle.pv_dtd.specs.Proper.{IsProperDtd}
use Rattle.pv_rules.specs.Sites.{PlainSite, content_site, name_site, part_site, rest_site}
use Rattle.pv_tree.specs.Lists.{Listed, an_element, lists_at, lists_from}
use Rattle.pv_tree.specs.Plain.{Forest, Tree, cdata_node, element, is_element, misc_node, no_trees}
use Rattle.pv_tree.specs.Plain.{short, tagged, text_node, tree}
use Rattle.pv_tree.specs.Words.{node_before, word_of}
use Rattle.pv_tree.specs.declared.nodes.Mark.{Mark}
use Rattle.pv_write.specs.Events.{Event, news, old_bytes, old_start}
use Rattle.pv_write.specs.Pieces.{AwaitsNode, PlainPiece, TakesNext, after_node, finish, is_token}
use Rattle.pv_write.specs.Pieces.{kept, others_of, start}
use Rattle.pv_write.specs.TaggedTexts.{PutsIn, put_bare, put_end, put_finish, put_leaf, put_start}
use Rattle.pv_write.specs.TaggedTexts.{put_tags, gap_of}
use Rattle.pv_write.specs.Text.{tree_text}
use Rattle.pv_write.proofs.EventLists.{news-join}
use Rattle.pv_missing.specs.Verdicts.{IsLiveContent}
use Rattle.pv_complete.specs.ListPieces.{ArePiecesOf, HavePieces, StandFor, kept_for}
use Rattle.pv_complete.specs.MergedLists.{IsCompletedTree, Merges, merge_along, merge_end}
use Rattle.pv_complete.specs.MergedLists.{merge_finish, merge_kept, merge_left, merge_start}
use Rattle.pv_complete.specs.Pieces.{Writes, WritesAt, WritesContent, write_kept, write_new}
use Rattle.pv_complete.specs.Pieces.{write_none, write_text}
use Rattle.pv_complete.specs.Writable.{HasNames}
use Rattle.pv_complete.proofs.CompletedTrees.{bare_completed, element_completed, leaf_completed}
use Rattle.pv_complete.proofs.CompletedTrees.{merged_completed}

-- ---- pieces that suit a word: each token of it is kept by one
abbrev pub SuitsWord : List PlainPiece → List PlainToken → Type 0
SuitsWord [] w = w ≡ []
SuitsWord (kept ∷ ps) w =
    (token : PlainToken) × (rest : List PlainToken) × (w ≡ token ∷ rest) × SuitsWord ps rest
SuitsWord (start y ∷ ps) w = SuitsWord ps w
SuitsWord (finish y ∷ ps) w = SuitsWord ps w

suits_writes : (g : PlainDtd) (n : ℕ) (u w : List PlainToken) (ps : List PlainPiece) →
    Writes g n u w ps → (qs : List PlainPiece) (v : List PlainToken) → SuitsWord qs v →
    SuitsWord (ps ++ qs) (w ++ v)
suits_writes g n u w ps (write_none _ z) qs v s = s
suits_writes g n u w ps (write_text _ u2 w2 os c) qs v s =
    (text, w2 ++ v, refl, suits_writes g n u2 w2 os c qs v s)
suits_writes g n u w ps (write_kept _ y u2 w2 os c) qs v s =
    (named y, w2 ++ v, refl, suits_writes g n u2 w2 os c qs v s)
suits_writes g n u w ps (write_new _ a b y m z u2 w1 w2 _ one two _ e j h is ok c1 c2) qs v s =
    let p : ps ++ qs ≡ start y ∷ (one ++ (finish y ∷ (two ++ qs))) = ap (λ x. x ++ qs) h
    ∙ ap (λ x. start y ∷ x) (append_assoc one (finish y ∷ two) qs) in
    let q : w ++ v ≡ w1 ++ (w2 ++ v) = ap (λ x. x ++ v) j ∙ append_assoc w1 w2 v in
    rw (p, q) (suits_writes g a z w1 one c1 (finish y ∷ (two ++ qs)) (w2 ++ v)
    (suits_writes g b u2 w2 two c2 qs v s))

all_suits : (g : PlainDtd) (n : ℕ) (u w : List PlainToken) (ps : List PlainPiece) →
    Writes g n u w ps → SuitsWord ps w
all_suits g n u w ps c = rw (append-nil ps, append-nil w) at (suits_writes g n u w ps c [] [] refl)

pub suits_at : (g : PlainDtd) (s : PlainSite) (n : ℕ) (w : List PlainToken) (ps : List PlainPiece) →
    WritesAt g s n w ps → SuitsWord ps w
suits_at g (name_site x) n w ps c = all_suits g n (named x ∷ []) w ps c
suits_at g (content_site x) n w ps c = all_suits g n c.whole w ps c.writes
suits_at g (part_site q) n w ps c = absurd c
suits_at g (rest_site q) n w ps c = absurd c

no_pieces : (ps : List PlainPiece) → AwaitsNode ps → SuitsWord ps [] → ps ≡ []
no_pieces [] a s = refl
no_pieces (kept ∷ ps) a (t, w, e, s) = absurd cc
no_pieces (start y ∷ ps) a s = absurd a
no_pieces (finish y ∷ ps) a s = absurd a

-- ---- pieces that stand for others
kept_awaits : (w : List PlainToken) → AwaitsNode (kept_for w)
kept_awaits [] = tt
kept_awaits (t ∷ w) = tt

stands_await : (os ps : List PlainPiece) (w : List PlainToken) → StandFor os ps w → AwaitsNode os →
    AwaitsNode ps
stands_await os ps w (inl e) a = subst AwaitsNode (sym e) a
stands_await os ps w (inr e) a = subst AwaitsNode (sym e.1) (kept_awaits w)

stands_none : (os ps : List PlainPiece) (w : List PlainToken) → StandFor os ps w → ps ≡ [] →
    AwaitsNode os
stands_none os ps w (inl e) none = subst AwaitsNode (sym (sym e ∙ none)) tt
stands_none os ps w (inr e) none = subst AwaitsNode (sym e.0) tt

stands_tag : (p : PlainPiece) (os ps : List PlainPiece) (w : List PlainToken) →
    StandFor (p ∷ os) ps w → ps ≡ p ∷ os
stands_tag p os ps w (inl e) = e
stands_tag p os ps w (inr e) = absurd (let none = e.0 in cc)

pub takes_first : (qs rest others : List (List PlainPiece)) (ps p : List PlainPiece) →
    TakesNext qs ps rest → qs ≡ p ∷ others → (ps ≡ p) × (rest ≡ others)
takes_first qs rest others ps p t e = rw e at t

-- ---- a node
-- the node is a token, or nothing in a word
abbrev HasToken : Bool → Tree Mark → Type 0
HasToken true t =
    (g : PlainDtd) → (token : PlainToken) × ((u : List PlainToken) → node_before g t u ≡ token ∷ u)
HasToken false t = (g : PlainDtd) (u : List PlainToken) → node_before g t u ≡ u

text_token : (b : Bool) (us : List (List ℕ)) → has_data us ≡ b → HasToken b (text_node us)
text_token true us e = λ g. (text, λ u. rw e refl)
text_token false us e = λ g u. rw e refl

tells_token : (t : Tree Mark) → HasToken (is_token t) t
tells_token (element x a e k m) = λ g. (token (number_of g x), λ u. refl)
tells_token (text_node us) = text_token (has_data us) us refl
tells_token (cdata_node b) = λ g. (text, λ u. refl)
tells_token (misc_node b) = λ g u. refl

leaf_lists : (path : List ℕ) (t : Tree Mark) → is_element t ≡ false → lists_at path t ≡ []
leaf_lists path (element x a e k m) f = absurd cc
leaf_lists path (text_node us) f = refl
leaf_lists path (cdata_node b) f = refl
leaf_lists path (misc_node b) f = refl

-- the pieces that are next after a node
abbrev IsBehind : Bool → List PlainPiece → List PlainPiece → Type 0
IsBehind true ps qs = ps ≡ kept ∷ qs
IsBehind false ps qs = qs ≡ ps

nothing_new : (g : PlainDtd) (n : ℕ) (u w : List PlainToken) (ps : List PlainPiece) → ps ≡ [] →
    Writes g n u w ps → n ≡ 0
nothing_new g n u w ps e (write_none _ z) = z
nothing_new g n u w ps e (write_text _ u2 w2 os c) = absurd cc
nothing_new g n u w ps e (write_kept _ y u2 w2 os c) = absurd cc
nothing_new g n u w ps e (write_new _ a b y m z u2 w1 w2 _ one two _ f j h is ok c1 c2) =
    absurd (let i = sym h ∙ e in cc)

module _ (g : PlainDtd) where
  -- no piece is next in front of a token
  kept_next : (t : Tree Mark) (rest : Forest Mark) (ps : List PlainPiece) → HasToken true t →
      AwaitsNode ps → SuitsWord ps (word_of g (tree t rest)) → (qs : List PlainPiece)
      × (ps ≡ kept ∷ qs) × SuitsWord qs (word_of g rest)
  kept_next t rest [] h a s = absurd (let i = h g in let e = i.1 (word_of g rest) in cc)
  kept_next t rest (kept ∷ qs) h a (token, w, e, s) = (
    qs,
    refl,
    (let i = h g in let f = i.1 (word_of g rest) in
        let same : w ≡ word_of g rest = cc in rw same at s),
  )
  kept_next t rest (start y ∷ qs) h a s = absurd a
  kept_next t rest (finish y ∷ qs) h a s = absurd a

  -- after a node
  record After (b : Bool) (os ps : List PlainPiece) (rest : Forest Mark) : Type 0 where
    pub suits : SuitsWord (after_node b ps) (word_of g rest)
    pub stand : StandFor (after_node b os) (after_node b ps) (word_of g rest)
    pub behind : IsBehind b ps (after_node b ps)

  stand_after : (b : Bool) (t : Tree Mark) (rest : Forest Mark) (os ps : List PlainPiece) →
      HasToken b t → StandFor os ps (word_of g (tree t rest)) → StandFor (after_node b os)
      (after_node b ps) (word_of g rest)
  stand_after true t rest os ps h (inl e) = inl (ap others_of e)
  stand_after true t rest os ps h (inr e) =
      inr (ap others_of e.0, ap others_of (e.1 ∙ ap kept_for (let i = h g in i.1 (word_of g rest))))
  stand_after false t rest os ps h (inl e) = inl e
  stand_after false t rest os ps h (inr e) = inr (e.0, e.1 ∙ ap kept_for (h g (word_of g rest)))

  after : (b : Bool) (t : Tree Mark) (rest : Forest Mark) (os ps : List PlainPiece) → HasToken b t →
      AwaitsNode ps → SuitsWord ps (word_of g (tree t rest)) →
      StandFor os ps (word_of g (tree t rest)) →
      After b os ps rest
  after true t rest os ps h a s e =
      let q = kept_next t rest ps h a s in
      record {
        suits = rw q.1 q.2;
        stand = stand_after true t rest os ps h e;
        behind = rw q.1 refl;
      }
  after false t rest os ps h a s e =
      record {
        suits = let n = h g (word_of g rest) in rw n at s;
        stand = stand_after false t rest os ps h e;
        behind = refl;
      }

  merge_node : (b : Bool) (t new : Tree Mark) (rest : Forest Mark) (ps qs : List PlainPiece)
      (one es : List Event) (k : ℕ) → IsCompletedTree g t new one → HasToken b t → AwaitsNode ps →
      IsBehind b ps qs →
      Merges g qs rest es k → Merges g ps (tree t rest) (one ++ es) (news one + k)
  merge_node true t new rest ps qs one es k c h a e d =
      let i = h g in
      rw e (merge_kept t new rest qs one es (one ++ es) i.0 (news one + k) k refl refl c i.1
      d)
  merge_node false t new rest [] qs one es k c h a e d =
      merge_left t new rest one es (one ++ es) (news one + k) k refl refl c (rw e at d)
  merge_node false t new rest (kept ∷ os) qs one es k c h a e d =
      merge_along t new rest os one es (one ++ es) (news one + k) k refl refl c (h g) (rw e at d)
  merge_node false t new rest (start y ∷ os) qs one es k c h a e d = absurd a
  merge_node false t new rest (finish y ∷ os) qs one es k c h a e d = absurd a

-- ---- nodes side by side
module _ (g : PlainDtd) (proper : IsProperDtd g) (names : HasNames g) (root : List ℕ) where
  -- the list of an element's kids
  abbrev kids_list : List ℕ → List ℕ → Forest Mark → Listed Mark
  kids_list path x kids = record { path = path; owner = an_element x; kids = kids }

  -- the pieces of its list, by the element's number
  content_writes : (path x : List ℕ) (kids : Forest Mark) (ps : List PlainPiece) (n : ℕ)
      (p : ArePiecesOf g root (kids_list path x kids) ps n) (l : IsLiveContent g x kids) →
      WritesContent g l.number n (word_of g kids) p.all
  content_writes path x kids ps n p l =
      let s : p.site ≡ content_site l.number = let i = l.is_owner in let j = p.is_site in
      let k = rw i at j in
      cc in
      subst (λ t. WritesAt g t n (word_of g kids) p.all) s p.writes

  -- the nodes are merged with their pieces, and others are left for the lists after them
  pub record AreMerged (kids : Forest Mark) (more : List (Listed Mark)) (ps : List PlainPiece)
      (rs : List (List PlainPiece)) (es : List Event) (n : ℕ) : Type 0 where
    pub within : ℕ
    pub others : ℕ
    pub merges : Merges g ps kids es within
    pub left : HavePieces g root more rs others
    pub sum : n ≡ within + others

  pub are_merged : (os : List PlainPiece) (kids : Forest Mark) (qs rs : List (List PlainPiece))
      (es : List Event) → PutsIn g os kids qs rs es → (ps : List PlainPiece) (path : List ℕ) (i : ℕ)
      (more : List (Listed Mark)) (n : ℕ) → StandFor os ps (word_of g kids) →
      SuitsWord ps (word_of g kids) → HavePieces g root (lists_from path i kids ++ more) qs n →
      AreMerged kids more ps rs es n
  are_merged os kids qs rs es (put_end _ _ _ awaits same) ps path i more n stand suits have =
      record {
        within = 0;
        others = n;
        merges =
            let none = no_pieces ps (stands_await os ps [] stand awaits) suits in
            rw none (merge_end 0 refl);
        left = rw same have;
        sum = omega arith;
      }
  are_merged os kids qs rs es (put_start y _ us _ _ ts _ is f) ps path i more n stand suits have =
      let e = stands_tag (start y) us ps (word_of g kids) stand in
      let r = are_merged us kids qs rs ts f us path i more n (inl refl)
      (subst (λ os. SuitsWord os (word_of g kids)) e suits) have in
      record {
        within = r.within;
        others = r.others;
        merges =
            subst (λ os. Merges g os kids es r.within) (sym e)
            (merge_start y r.within kids us ts es is r.merges);
        left = r.left;
        sum = r.sum;
      }
  are_merged os kids qs rs es (put_finish y _ us _ _ ts _ is f) ps path i more n stand suits have =
      let e = stands_tag (finish y) us ps (word_of g kids) stand in
      let r = are_merged us kids qs rs ts f us path i more n (inl refl)
      (subst (λ os. SuitsWord os (word_of g kids)) e suits) have in
      record {
        within = r.within;
        others = r.others;
        merges =
            subst (λ os. Merges g os kids es r.within) (sym e)
            (merge_finish y r.within kids us ts es is r.merges);
        left = r.left;
        sum = r.sum;
      }
  are_merged os kids qs rs es (put_leaf t k _ _ _ ts _ leaf awaits is f) ps path i more n stand
      suits have =
      let here = stands_await os ps (word_of g (tree t k)) stand awaits in
      let a = after g (is_token t) t k os ps (tells_token t) here suits stand in
      let lists : lists_from path i (tree t k) ++ more ≡ lists_from path (suc i) k
      ++ more =
      ap (λ x. (x ++ lists_from path (suc i) k) ++ more) (leaf_lists (path ++ i ∷ []) t leaf) in
      let r = are_merged (after_node (is_token t) os) k qs rs ts f (after_node (is_token t) ps) path
      (suc i) more n a.stand a.suits (subst (λ x. HavePieces g root x qs n) lists have) in
      let one = old_bytes (tree_text t) ∷ [] in
      record {
        within = news one + r.within;
        others = r.others;
        merges =
            subst (λ xs. Merges g ps (tree t k) xs (news one + r.within)) (sym is)
            (merge_node g (is_token t) t t k ps (after_node (is_token t) ps) one ts r.within
            (leaf_completed Mark g t leaf) (tells_token t) here a.behind r.merges);
        left = r.left;
        sum = omega (arith, r.sum);
      }
  are_merged os kids qs rs es (put_bare x attrs m k _ inside _ below _ ts _ awaits takes no_tag is
      f) ps path i more n stand suits have =
      let t = element x attrs short no_trees m in
      let here = stands_await os ps (word_of g (tree t k)) stand awaits in
      let a = after g true t k os ps (tells_token t) here suits stand in
      let next = takes_first qs below have.1 inside have.0 takes have.4 in
      let p : ArePiecesOf g root (kids_list (path ++ i ∷ []) x no_trees) inside have.2 = rw next.0
      have.6 in
      let c = content_writes (path ++ i ∷ []) x no_trees inside have.2 p p.live in
      let none = no_pieces p.all (stands_await inside p.all [] p.stand no_tag)
      (suits_at g p.site have.2 [] p.all p.writes) in
      let zero = nothing_new g have.2 c.whole [] p.all none c.writes in
      let l : IsLiveContent g x no_trees = p.live in
      let r = are_merged (others_of os) k below rs ts f (others_of ps) path (suc i) more have.3
      a.stand a.suits (rw next.1 have.7) in
      let one = old_start (codes "<" ++ x ++ attrs ++ codes "/>") ∷ [] in
      record {
        within = news one + r.within;
        others = r.others;
        merges =
            subst (λ xs. Merges g ps (tree t k) xs (news one + r.within)) (sym is)
            (merge_node g true t t k ps (others_of ps) one ts r.within
            (bare_completed Mark g x attrs l.number have.2 m l.is_owner (rw none at c))
            (tells_token t) here a.behind r.merges);
        left = r.left;
        sum = omega (arith, have.5, zero, r.sum);
      }
  are_merged os kids qs rs es (put_tags x attrs e ks k m _ inside _ below after_ks _ ws ts _ awaits
      takes some is f1 f2) ps path i more n stand suits have =
      let t = element x attrs e ks m in
      let here = stands_await os ps (word_of g (tree t k)) stand awaits in
      let a = after g true t k os ps (tells_token t) here suits stand in
      let next = takes_first qs below have.1 inside have.0 takes have.4 in
      let own = path ++ i ∷ [] in
      let behind = lists_from path (suc i) k ++ more in
      let p : ArePiecesOf g root (kids_list own x ks) inside have.2 = rw next.0 have.6 in
      let l : IsLiveContent g x ks = p.live in
      let c = content_writes own x ks inside have.2 p l in
      let below_have : HavePieces g root (lists_from own 0 ks ++ behind) below have.3 =
      subst (λ xs. HavePieces g root xs below have.3)
      (append_assoc (lists_from own 0 ks) (lists_from path (suc i) k) more) (rw next.1 have.7)
      in
      let r1 = are_merged inside ks below after_ks ws f1 p.all own 0 behind have.3 p.stand
      (suits_at g p.site have.2 (word_of g ks) p.all p.writes) below_have in
      let r2 = are_merged (others_of os) k after_ks rs ts f2 (others_of ps) path (suc i) more
      r1.others a.stand a.suits r1.left in
      let top = old_start (codes "<" ++ x ++ attrs ++ codes ">") in
      let end = old_bytes (codes "</" ++ x ++ gap_of e ++ codes ">") in
      let one = top ∷ (ws ++ end ∷ []) in
      let done = element_completed Mark m g x attrs (gap_of e) l.number have.2 r1.within e ks m
      p.all ws proper names refl
      (λ s z q. some s z (stands_none inside p.all (word_of g ks) p.stand q)) l.is_owner l.no_kids c
      r1.merges in
      let whole = merged_completed Mark m g have.2 r1.within c.whole p.all ks ws proper names
      c.writes r1.merges in
      let count : news one ≡ have.2 + r1.within = let w = whole.1 in let n = w.count in
      omega (
        arith,
        news-join
            ws (end ∷ []),
      ) in
      let same : es ≡ one ++ ts = is ∙ sym (ap (λ z. top ∷ z) (append_assoc ws (end ∷ []) ts)) in
      record {
        within = news one + r2.within;
        others = r2.others;
        merges =
            subst (λ xs. Merges g ps (tree t k) xs (news one + r2.within)) (sym same)
            (merge_node g true t (element x attrs (tagged (gap_of e)) done.0 m) k ps (others_of ps)
            one ts r2.within done.1 (tells_token t) here a.behind r2.merges);
        left = r2.left;
        sum = omega (arith, have.5, r1.sum, r2.sum, count);
      }
