-- The lists of a tree, in document order, miss what the lists of the hedge that it shows miss.
use Rattle.std.proofs.Common.{List, Some, [], ap, arith, refl, suc, ℕ, ◌++◌, ◌+◌, ◌∷◌, ◌≡◌}
use Rattle.pv_dtd.specs.Plain.{PlainDtd, number_of}
use Rattle.pv_dtd.specs.Hedge.{Hedge, word}
use Rattle.pv_tree.specs.Lists.{Listed, lists_at, lists_from}
use Rattle.pv_tree.specs.Plain.{Forest, Tree, cdata_node, element, misc_node, no_trees, text_node, tree}
use Rattle.pv_tree.specs.View.{spread, view_all, view_before}
use Rattle.pv_tree.specs.Words.{word_of}
use Rattle.pv_missing.specs.MissingNumbers.{MissInAll, MissesInContent}
use Rattle.pv_tree.specs.Units.{HasUnits, HaveUnits}
use Rattle.pv_missing.proofs.HedgeLists.{AllLive, IsLiveHedge}
use Rattle.pv_missing.proofs.Texts.{possible_texts}
use Rattle.pv_missing.proofs.TreeWords.{from_view, to_view, view_none}

spread_live : (g : PlainDtd) (n : ℕ) (us : List (List ℕ)) (h : Hedge) → AllLive g n h → AllLive g n (spread us h)
spread_live g n [] h p = p
spread_live g n (u ∷ us) h p = spread_live g n us h p

live_spread : (g : PlainDtd) (n : ℕ) (us : List (List ℕ)) (h : Hedge) → AllLive g n (spread us h) → AllLive g n h
live_spread g n [] h p = p
live_spread g n (u ∷ us) h p = live_spread g n us h p

no_more : (g : PlainDtd) (n a : ℕ) (h : Hedge) → a ≡ 0 → AllLive g n h → AllLive g (a + n) h
no_more g n a h e l = let s : a + n ≡ n = omega arith in rw s l

module _ {M : Type 0} (g : PlainDtd) (root : List ℕ) where
  pub miss_join : (a b : List (Listed M)) (m n : ℕ) → MissInAll g root a m → MissInAll g root b n → MissInAll g root (a ++ b) (m + n)
  miss_join [] b m n p q = let e : m + n ≡ n = omega (arith, p) in rw e q
  miss_join (l ∷ a) b m n (c, d, e, s, p) q = (c, d + n, omega (arith, e), s, miss_join a b d n p q)

  pub record Parted (a b : List (Listed M)) (n : ℕ) : Type 0 where
    pub left : ℕ
    pub right : ℕ
    pub is_sum : n ≡ left + right
    pub front : MissInAll g root a left
    pub back : MissInAll g root b right

  pub miss_split : (a b : List (Listed M)) (n : ℕ) → MissInAll g root (a ++ b) n → Parted a b n
  miss_split [] b n p = record { left = 0; right = n; is_sum = omega arith; front = refl; back = p }
  miss_split (l ∷ a) b n (c, d, e, s, p) = go (miss_split a b d p)
    where
      go : Parted a b d → Parted (l ∷ a) b n
      go q = record { left = c + q.left; right = q.right; is_sum = let f = q.is_sum in omega arith; front = (c, q.left, refl, s, q.front); back = q.back }

  -- one element's list
  content_live : (x : List ℕ) (k : Forest M) (n : ℕ) → (p : MissesInContent g x k n) → IsLiveHedge g p.number n (view_all k)
  content_live x k n p = record {
    productive = p.productive;
    no_kids = λ z. ap view_all (p.no_kids z);
    possible = possible_texts g p.number n (word_of g k) (word g (view_all k)) (to_view g k) p.possible;
  }

  live_content : (x : List ℕ) (y : ℕ) (k : Forest M) (n : ℕ) → HaveUnits k → number_of g x ≡ Some y → IsLiveHedge g y n (view_all k) → MissesInContent g x k n
  live_content x y k n u is l = record {
    number = y;
    is_owner = is;
    productive = l.productive;
    no_kids = λ z. view_none k u (l.no_kids z);
    possible = possible_texts g y n (word g (view_all k)) (word_of g k) (from_view g k) l.possible;
  }

  mutual
    pub before_live : (path : List ℕ) (t : Tree M) (a n : ℕ) (h : Hedge) → MissInAll g root (lists_at path t) a → AllLive g n h → AllLive g (a + n) (view_before t h)
    before_live path (element x s e k m) a n h (c, d, f, p, q) l =
        (p.number, c, d, n, omega (arith, f), p.is_owner, content_live x k c p, all_live path 0 k d q, l)
    before_live path (text_node us) a n h p l = spread_live g (a + n) us h (no_more g n a h p l)
    before_live path (cdata_node b) a n h p l = no_more g n a h p l
    before_live path (misc_node b) a n h p l = no_more g n a h p l

    all_live : (path : List ℕ) (i : ℕ) (k : Forest M) (n : ℕ) → MissInAll g root (lists_from path i k) n → AllLive g n (view_all k)
    all_live path i no_trees n p = p
    all_live path i (tree t r) n p = let s = miss_split (lists_at (path ++ i ∷ []) t) (lists_from path (suc i) r) n p in
        let e = s.is_sum in rw e (before_live (path ++ i ∷ []) t s.left s.right (view_all r) s.front (all_live path (suc i) r s.right s.back))

  pub record BeforeMisses (path : List ℕ) (t : Tree M) (n : ℕ) (h : Hedge) : Type 0 where
    pub within : ℕ
    pub after : ℕ
    pub is_sum : n ≡ within + after
    pub lists : MissInAll g root (lists_at path t) within
    pub rest : AllLive g after h

  none_before : (path : List ℕ) (t : Tree M) (n : ℕ) (h : Hedge) → MissInAll g root (lists_at path t) 0 → AllLive g n h → BeforeMisses path t n h
  none_before path t n h p l = record { within = 0; after = n; is_sum = omega arith; lists = p; rest = l }

  mutual
    pub live_before : (path : List ℕ) (t : Tree M) (n : ℕ) (h : Hedge) → HasUnits t → AllLive g n (view_before t h) → BeforeMisses path t n h
    live_before path (element x s e k m) n h u (y, a, b, c, f, is, l, inside, after) = record {
      within = a + b;
      after = c;
      is_sum = omega (arith, f);
      lists = (a, b, refl, live_content x y k a u is l, live_all path 0 k b u inside);
      rest = after;
    }
    live_before path (text_node us) n h u l = none_before path (text_node us) n h refl (live_spread g n us h l)
    live_before path (cdata_node b) n h u l = none_before path (cdata_node b) n h refl l
    live_before path (misc_node b) n h u l = none_before path (misc_node b) n h refl l

    live_all : (path : List ℕ) (i : ℕ) (k : Forest M) (n : ℕ) → HaveUnits k → AllLive g n (view_all k) → MissInAll g root (lists_from path i k) n
    live_all path i no_trees n u l = l
    live_all path i (tree t r) n u l = let s = live_before (path ++ i ∷ []) t n (view_all r) u.0 l in
        let e = s.is_sum in rw e (miss_join (lists_at (path ++ i ∷ []) t) (lists_from path (suc i) r) s.within s.after s.lists (live_all path (suc i) r s.after u.1 s.rest))
