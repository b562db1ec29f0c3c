-- A tree whose marks are right but for one node and what stands below it.
use Rattle.std.proofs.Common.{◌≡◌, ap, sym, refl, ℕ, zero, suc, ◌+◌, List, [], ◌∷◌, arith}
use Rattle.pv_dtd.specs.Plain.{PlainDtd}
use Rattle.pv_edit.specs.Changes.{change_kid, change_below}
use Rattle.pv_edit.proofs.NodePlaces.{KidAt, first, later, NodeAt, here, down}
use Rattle.pv_missing.proofs.VerdictHeads.{same_word, verdict_by_heads}
use Rattle.pv_tree.specs.Heads.{head_of, heads_of}
use Rattle.pv_tree.specs.Lists.{Owner, an_element}
use Rattle.pv_tree.specs.Plain.{Ending, Forest, Tree, element, tree}
use Rattle.pv_tree.specs.declared.nodes.Mark.{Mark}
use Rattle.pv_cache.specs.WellMarked.{EachList, EachListIn, TellsList, told_left, told_left_in}
use Rattle.pv_cache.specs.WellMarked.{told_nodes, told_nodes_in}
use Rattle.pv_cache.specs.Updates.{count_again, update_below}
use Rattle.pv_cache.proofs.NodeLists.{kid-has}

-- two trees that look alike in a list, and tell the same numbers
pub record ShowsSame (t u : Tree Mark) : Type 0 where
  pub head : head_of t ≡ head_of u
  pub left : told_left t ≡ told_left u
  pub nodes : told_nodes t ≡ told_nodes u

-- lists of them
pub record ShowSame (kids kids' : Forest Mark) : Type 0 where
  pub heads : heads_of kids ≡ heads_of kids'
  pub left : told_left_in kids ≡ told_left_in kids'
  pub nodes : told_nodes_in kids ≡ told_nodes_in kids'

pub kid-shows : {i : ℕ} {kids : Forest Mark} {k : Tree Mark} (h : Tree Mark → Tree Mark) →
    KidAt i kids k → ShowsSame (h k) k → ShowSame (change_kid h i kids) kids
kid-shows h (first {rest = rest}) s = record {
  heads = ap (λ d. d ∷ heads_of rest) s.head;
  left = ap (λ n. n + told_left_in rest) s.left;
  nodes = ap (λ n. n + told_nodes_in rest) s.nodes;
}
kid-shows h (later {t = t} q) s = let r = kid-shows h q s in record {
  heads = ap (λ l. head_of t ∷ l) r.heads;
  left = ap (λ n. told_left t + n) r.left;
  nodes = ap (λ n. told_nodes t + n) r.nodes;
}

pub kid-heads : {i : ℕ} {kids : Forest Mark} {k : Tree Mark} (h : Tree Mark → Tree Mark) →
    KidAt i kids k → head_of (h k) ≡ head_of k → heads_of (change_kid h i kids) ≡ heads_of kids
kid-heads h (first {rest = rest}) e = ap (λ d. d ∷ heads_of rest) e
kid-heads h (later {t = t} q) e = ap (λ l. head_of t ∷ l) (kid-heads h q e)

pub below-shows : {path : List ℕ} {t u : Tree Mark} (h : Tree Mark → Tree Mark) → NodeAt path t u →
    ShowsSame (h u) u → ShowsSame (change_below path h t) t
below-shows h here s = s
below-shows h (down q n) s = record { head = refl; left = refl; nodes = refl }

pub below-head : {path : List ℕ} {t u : Tree Mark} (f : Tree Mark → Tree Mark) → NodeAt path t u →
    head_of (f u) ≡ head_of u → head_of (update_below path f t) ≡ head_of t
below-head f here e = e
below-head f (down q n) e = refl

module _ (g : PlainDtd) (root : List ℕ) where
  -- a mark tells of kids that show the same
  pub tells-same : (owner : Owner) (kids kids' : Forest Mark) (m : Mark) → ShowSame kids' kids →
      TellsList g root owner kids m → TellsList g root owner kids' m
  tells-same owner kids kids' m s t = record {
    judged =
        (verdict_by_heads Mark Mark g root (record { path = []; owner = owner; kids = kids })
        (record { path = []; owner = owner; kids = kids' }) m.verdict refl
        (sym s.heads)).0 t.judged;
    narrow = rw (same_word g kids' kids s.heads) t.narrow;
    left = let h = t.left in let l = s.left in omega arith;
    nodes = let h = t.nodes in let l = s.nodes in omega arith;
  }

  -- and of kids that have the same heads, where its numbers are told again
  pub tells-again : (owner : Owner) (kids kids' : Forest Mark) (m : Mark) →
      heads_of kids' ≡ heads_of kids → TellsList g root owner kids m →
      TellsList g root owner kids' (count_again kids kids' m)
  tells-again owner kids kids' m e t = record {
    judged =
        (verdict_by_heads Mark Mark g root (record { path = []; owner = owner; kids = kids })
        (record { path = []; owner = owner; kids = kids' }) m.verdict refl (sym e)).0 t.judged;
    narrow = rw (same_word g kids' kids e) t.narrow;
    left = let h = t.left in omega arith;
    nodes = let h = t.nodes in omega arith;
  }

  -- The kids but the one at a place are marked.
  pub data Beside : ℕ → Forest Mark → Tree Mark → Type 0 where
    at-first : {t : Tree Mark} {rest : Forest Mark} → EachListIn (TellsList g root) rest →
        Beside zero (tree t rest) t
    behind : {i : ℕ} {t k : Tree Mark} {rest : Forest Mark} → EachList (TellsList g root) t →
        Beside i rest k → Beside (suc i) (tree t rest) k

  -- The tree is marked but for the node at a path and what stands below it.
  pub data Around : List ℕ → Tree Mark → Tree Mark → Type 0 where
    right-here : {t : Tree Mark} → Around [] t t
    further : {i : ℕ} {path x attrs : List ℕ} {e : Ending} {kids : Forest Mark} {m : Mark}
        {k u : Tree Mark} → TellsList g root (an_element x) kids m → Beside i kids k →
        Around path k u → Around (i ∷ path) (element x attrs e kids m) u

  pub beside-kid : {i : ℕ} {kids : Forest Mark} {k : Tree Mark} → Beside i kids k → KidAt i kids k
  beside-kid (at-first w) = first
  beside-kid (behind h b) = later (beside-kid b)

  pub around-node : {path : List ℕ} {t u : Tree Mark} → Around path t u → NodeAt path t u
  around-node right-here = here
  around-node (further h b a) = down (beside-kid b) (around-node a)

  kid-beside : {i : ℕ} {kids : Forest Mark} {k : Tree Mark} (h : Tree Mark → Tree Mark) →
      KidAt i kids k → EachListIn (TellsList g root) kids → Beside i (change_kid h i kids) (h k)
  kid-beside h first w = at-first w.1
  kid-beside h (later q) w = behind w.0 (kid-beside h q w.1)

  -- A marked tree with a changed node, which looks as before, is marked but for it.
  pub changed-around : {path : List ℕ} {t u : Tree Mark} (h : Tree Mark → Tree Mark) →
      NodeAt path t u → ShowsSame (h u) u → EachList (TellsList g root) t →
      Around path (change_below path h t) (h u)
  changed-around h here s w = right-here
  changed-around h (down {path = path} {x = x} {kids = kids} {m = m} q n) s w =
      further (tells-same (an_element x) kids (change_kid (change_below path h) _ kids) m
      (kid-shows (change_below path h) q (below-shows h n s)) w.0)
      (kid-beside (change_below path h) q w.1)
      (changed-around h n s (kid-has (TellsList g root) q w.1))

  beside-changed : {i : ℕ} {kids : Forest Mark} {k : Tree Mark} (f : Tree Mark → Tree Mark) →
      Beside i kids k → EachList (TellsList g root) (f k) →
      EachListIn (TellsList g root) (change_kid f i kids)
  beside-changed f (at-first w) h = (h, w)
  beside-changed f (behind t b) h = (t, beside-changed f b h)

  -- Updated there and above it, it is marked.
  pub updated-around : {path : List ℕ} {t u : Tree Mark} (f : Tree Mark → Tree Mark) →
      Around path t u → head_of (f u) ≡ head_of u → EachList (TellsList g root) (f u) →
      EachList (TellsList g root) (update_below path f t)
  updated-around f right-here e m = m
  updated-around f (further {path = path} {x = x} {kids = kids} {m = mark} h b a) e m = (
    tells-again (an_element x) kids (change_kid (update_below path f) _ kids) mark
        (kid-heads (update_below path f) (beside-kid b) (below-head f (around-node a) e)) h,
    beside-changed (update_below path f) b (updated-around f a e m),
  )
