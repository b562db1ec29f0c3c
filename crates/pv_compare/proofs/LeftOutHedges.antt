-- Events without the tags of marked elements are those of a hedge without them.
use Rattle.std.proofs.Common.{Bool, List, [], append_assoc, ap, arith, false, refl, subst, suc, sym, true, ℕ, ◌+◌, ◌++◌, ◌∙◌, ◌∷◌, ◌≡◌, ◌≤◌, ◌==◌}
use Rattle.std.proofs.lemmas.Bool.{eq-eqb, eqb-true}
use Rattle.pv_dtd.specs.Hedge.{Hedge, Leaf, cdata, data_unit, done, elem, elements, leaf, misc, white}
use Rattle.pv_missing.specs.Completions.{LeavesOut, out_done, out_kept, out_leaf, out_new}
use Rattle.pv_flat.specs.Plain.{PlainEvent, begin_element, cdata_here, end_element, misc_here, text_here}
use Rattle.pv_missing.specs.Extensions.{join}
use Rattle.pv_compare.specs.LeftOut.{behind_first, is_marked, kept_events, marks_left}

-- the event of a leaf
abbrev pub leaf_event : Leaf → PlainEvent
leaf_event (white u) = text_here u
leaf_event (data_unit u) = text_here u
leaf_event (cdata b) = cdata_here b
leaf_event (misc b) = misc_here b

-- the events of a hedge, a text for each unit
abbrev pub shown : Hedge → List PlainEvent
shown done = []
shown (leaf l h) = leaf_event l ∷ shown h
shown (elem x t k h) = begin_element x t ∷ (shown k ++ end_element ∷ shown h)

pub shown-join : (a b : Hedge) → shown (join a b) ≡ shown a ++ shown b
shown-join done b = refl
shown-join (leaf l a) b = ap (λ es. leaf_event l ∷ es) (shown-join a b)
shown-join (elem x t k a) b = ap (λ es. begin_element x t ∷ (shown k ++ end_element ∷ es))
    (shown-join a b) ∙ ap (λ es. begin_element x t ∷ es)
    (sym (append_assoc (shown k) (end_element ∷ shown a) (shown b)))

-- a leaf stays
kept-leaf : (n : ℕ) (marks : List ℕ) (outs : List Bool) (l : Leaf) (es : List PlainEvent) → kept_events n marks outs (leaf_event l ∷ es) ≡ leaf_event l ∷ kept_events n marks outs es
kept-leaf n marks outs (white u) es = refl
kept-leaf n marks outs (data_unit u) es = refl
kept-leaf n marks outs (cdata b) es = refl
kept-leaf n marks outs (misc b) es = refl

left-leaf : (n : ℕ) (marks : List ℕ) (l : Leaf) (es : List PlainEvent) → marks_left n marks (leaf_event l ∷ es) ≡ marks_left n marks es
left-leaf n marks (white u) es = refl
left-leaf n marks (data_unit u) es = refl
left-leaf n marks (cdata b) es = refl
left-leaf n marks (misc b) es = refl

-- From the number n on, after some marks and before others, the events of the second hedge leave
-- those of the first, and these marks.
pub record Runs (n e : ℕ) (marks rest : List ℕ) (h h' : Hedge) : Type 0 where
  pub kept : (outs : List Bool) (es : List PlainEvent) → kept_events n marks outs (shown h' ++ es) ≡ shown h ++ kept_events e rest outs es
  pub left : (es : List PlainEvent) → marks_left n marks (shown h' ++ es) ≡ marks_left e rest es

runs-done : (n : ℕ) (marks : List ℕ) → Runs n n marks marks done done
runs-done n marks = record { kept = λ outs es. refl; left = λ es. refl }

runs-leaf : (n e : ℕ) (marks rest : List ℕ) (l : Leaf) (h h' : Hedge) → Runs n e marks rest h h' → Runs n e marks rest (leaf l h) (leaf l h')
runs-leaf n e marks rest l h h' r = record {
  kept = λ outs es. kept-leaf n marks outs l (shown h' ++ es) ∙ ap (λ fs. leaf_event l ∷ fs) (r.kept outs es);
  left = λ es. left-leaf n marks l (shown h' ++ es) ∙ r.left es;
}

behind-kids : (x t : List ℕ) (k' h' : Hedge) (es : List PlainEvent) → shown (elem x t k' h') ++ es ≡ begin_element x t ∷ (shown k' ++ end_element ∷ (shown h' ++ es))
behind-kids x t k' h' es = ap (λ fs. begin_element x t ∷ fs) (append_assoc (shown k') (end_element ∷ shown h') es)

-- an element that isn't marked
runs-kept : (n i e : ℕ) (marks between rest x t : List ℕ) (k k' h h' : Hedge) →
    is_marked n marks t ≡ false → Runs (suc n) i marks between k k' → Runs i e between rest h h' →
    Runs n e marks rest (elem x t k h) (elem x t k' h')
runs-kept n i e marks between rest x t k k' h h' unmarked a b = record {
  kept = λ outs es. ap (kept_events n marks outs) (behind-kids x t k' h' es) ∙ inside outs es;
  left = λ es. ap (marks_left n marks) (behind-kids x t k' h' es) ∙ left-inside es;
}
  where
    inside : (outs : List Bool) (es : List PlainEvent) →
        kept_events n marks outs (begin_element x t ∷ (shown k' ++ end_element ∷ (shown h' ++ es)))
        ≡ shown (elem x t k h) ++ kept_events e rest outs es
    inside outs es = rw unmarked (ap (λ fs. begin_element x t ∷ fs) (a.kept (false ∷ outs)
        (end_element ∷ (shown h' ++ es)) ∙ ap (λ fs. shown k ++ end_element ∷ fs) (b.kept outs es)
        ∙ sym (append_assoc (shown k) (end_element ∷ shown h) (kept_events e rest outs es))))

    left-inside : (es : List PlainEvent) → marks_left n marks (begin_element x t ∷ (shown k' ++ end_element ∷ (shown h' ++ es))) ≡ marks_left e rest es
    left-inside es = rw unmarked (a.left (end_element ∷ (shown h' ++ es)) ∙ b.left es)

-- one that is
runs-new : (n i e : ℕ) (marks between rest x t : List ℕ) (h1 h2 k' h' : Hedge) →
    is_marked n marks t ≡ true → Runs (suc n) i (behind_first marks) between h1 k' →
    Runs i e between rest h2 h' → Runs n e marks rest (join h1 h2) (elem x t k' h')
runs-new n i e marks between rest x t h1 h2 k' h' marked a b = record {
  kept = λ outs es. ap (kept_events n marks outs) (behind-kids x t k' h' es) ∙ inside outs es;
  left = λ es. ap (marks_left n marks) (behind-kids x t k' h' es) ∙ left-inside es;
}
  where
    inside : (outs : List Bool) (es : List PlainEvent) → kept_events n marks outs (begin_element x t ∷ (shown k' ++ end_element ∷ (shown h' ++ es))) ≡ shown (join h1 h2) ++ kept_events e rest outs es
    inside outs es = rw marked (a.kept (true ∷ outs) (end_element ∷ (shown h' ++ es))
        ∙ ap (λ fs. shown h1 ++ fs) (b.kept outs es) ∙ sym (append_assoc (shown h1) (shown h2)
        (kept_events e rest outs es)) ∙ ap (λ fs. fs ++ kept_events e rest outs es) (sym (shown-join h1 h2)))

    left-inside : (es : List PlainEvent) → marks_left n marks (begin_element x t ∷ (shown k' ++ end_element ∷ (shown h' ++ es))) ≡ marks_left e rest es
    left-inside es = rw marked (a.left (end_element ∷ (shown h' ++ es)) ∙ b.left es)

-- each hedge has one that its events leave
pub record Leaves (n : ℕ) (marks : List ℕ) (h' : Hedge) : Type 0 where
  pub hedge : Hedge
  pub used : List ℕ
  pub rest : List ℕ
  pub split : marks ≡ used ++ rest
  pub out : LeavesOut n (n + elements h') used hedge h'
  pub runs : Runs n (n + elements h') marks rest hedge h'

marked-is : (n : ℕ) (marks t : List ℕ) → is_marked n marks t ≡ true → (marks ≡ n ∷ behind_first marks) × (t ≡ [])
marked-is n [] t e = absurd (cc)
marked-is n (m ∷ marks) [] e = (ap (λ k. k ∷ marks) (eqb-true m n e), refl)
marked-is n (m ∷ marks) (b ∷ bs) e = absurd (cc)

pub leaves : (h' : Hedge) (n : ℕ) (marks : List ℕ) → Leaves n marks h'
leaves done n marks =
    let same : n + 0 ≡ n = omega arith in
    record { hedge = done; used = []; rest = marks; split = refl; out = out_done n (n + 0) same; runs = subst (λ e. Runs n e marks marks done done) (sym same) (runs-done n marks) }
leaves (leaf l h') n marks =
    let r = leaves h' n marks in
    record {
      hedge = leaf l r.hedge;
      used = r.used;
      rest = r.rest;
      split = r.split;
      out = out_leaf n (n + elements h') r.used l r.hedge h' r.out;
      runs =
          runs-leaf n (n + elements h') marks r.rest l r.hedge h' r.runs;
    }
leaves (elem x t k' h') n marks = by (leaves k' (suc n)) (leaves h' (suc n + elements k')) (is_marked n marks t) refl
  where
    i : ℕ
    i = suc n + elements k'

    same : i + elements h' ≡ n + suc (elements k' + elements h')
    same = let e : (suc n + elements k') + elements h' ≡ n + suc (elements k' + elements h') = omega arith in e

    by : ((ms : List ℕ) → Leaves (suc n) ms k') → ((ms : List ℕ) → Leaves i ms h') → (b : Bool) → is_marked n marks t ≡ b → Leaves n marks (elem x t k' h')
    by kids behind false unmarked =
        let a = kids marks in
        let b = behind a.rest in
        record {
          hedge = elem x t a.hedge b.hedge;
          used = a.used ++ b.used;
          rest = b.rest;
          split = a.split ∙ ap (λ l. a.used ++ l) b.split ∙ sym (append_assoc a.used b.used b.rest);
          out = subst (λ e. LeavesOut n e (a.used ++ b.used) (elem x t a.hedge b.hedge)
              (elem x t k' h')) same (out_kept n i (i + elements h') (a.used ++ b.used) a.used
              b.used x t a.hedge k' b.hedge h' refl a.out b.out);
          runs = subst (λ e. Runs n e marks b.rest (elem x t a.hedge b.hedge) (elem x t k' h')) same
              (runs-kept n i (i + elements h') marks a.rest b.rest x t a.hedge k' b.hedge h'
              unmarked a.runs b.runs);
        }
    by kids behind true marked =
        let a = kids (behind_first marks) in
        let b = behind a.rest in
        let is = marked-is n marks t marked in
        record {
          hedge = join a.hedge b.hedge;
          used = n ∷ (a.used ++ b.used);
          rest = b.rest;
          split = is.0 ∙ ap (λ l. n ∷ l) (a.split ∙ ap (λ l. a.used ++ l) b.split ∙ sym (append_assoc a.used b.used b.rest));
          out = subst (λ u. LeavesOut n (n + suc (elements k' + elements h')) (n ∷ (a.used
              ++ b.used)) (join a.hedge b.hedge) (elem x u k' h')) (sym is.1)
              (subst (λ e. LeavesOut n e (n ∷ (a.used ++ b.used)) (join a.hedge b.hedge)
              (elem x [] k' h')) same
              (out_new n i (i + elements h') (n ∷ (a.used ++ b.used)) a.used b.used x (join a.hedge b.hedge) a.hedge b.hedge k' h' refl refl a.out b.out));
          runs = subst (λ e. Runs n e marks b.rest (join a.hedge b.hedge) (elem x t k' h')) same (runs-new n i (i + elements h') marks a.rest b.rest x t a.hedge b.hedge k' h' marked a.runs b.runs);
        }

-- ---- the other way round
-- these numbers are no less than the first
abbrev AreFrom : ℕ → List ℕ → Type 0
AreFrom n [] = Unit {0}
AreFrom n (m ∷ ms) = (n ≤ m) × AreFrom n ms

from-less : (i j : ℕ) (ms : List ℕ) → i ≤ j → AreFrom j ms → AreFrom i ms
from-less i j [] le a = tt
from-less i j (m ∷ ms) le (a, more) = (omega arith, from-less i j ms le more)

from-both : (n : ℕ) (one two : List ℕ) → AreFrom n one → AreFrom n two → AreFrom n (one ++ two)
from-both n [] two a b = b
from-both n (m ∷ one) two (a, more) b = (a, from-both n one two more b)

ordered : {m e : ℕ} {added : List ℕ} {h h' : Hedge} → LeavesOut m e added h h' → m ≤ e
ordered (out_done m e same) = omega arith
ordered (out_leaf m e added l h h' o) = ordered o
ordered (out_kept m i e added one two x t k k' h h' is a b) = let p = ordered a in let q = ordered b in omega arith
ordered (out_new m i e added one two x h h1 h2 k' h' is same a b) = let p = ordered a in let q = ordered b in omega arith

used-from : {m e : ℕ} {added : List ℕ} {h h' : Hedge} → LeavesOut m e added h h' → AreFrom m added
used-from (out_done m e same) = tt
used-from (out_leaf m e added l h h' o) = used-from o
used-from (out_kept m i e added one two x t k k' h h' is a b) =
    let p = ordered a in
    let le : m ≤ suc m = omega arith in
    let leq : m ≤ i = omega arith in
    subst (AreFrom m) (sym is) (from-both m one two (from-less m (suc m) one le (used-from a)) (from-less m i two leq (used-from b)))
used-from (out_new m i e added one two x h h1 h2 k' h' is same a b) =
    let p = ordered a in
    let le : m ≤ suc m = omega arith in
    let leq : m ≤ i = omega arith in
    let here : m ≤ m = omega arith in
    subst (AreFrom m) (sym is) (here, from-both m one two (from-less m (suc m) one le (used-from a)) (from-less m i two leq (used-from b)))

not-marked : (m : ℕ) (marks t : List ℕ) → AreFrom (suc m) marks → is_marked m marks t ≡ false
not-marked m [] t a = refl
not-marked m (k ∷ marks) (b ∷ bs) a = refl
not-marked m (k ∷ marks) [] (a, more) = by (k == m) refl
  where
    by : (b : Bool) → (k == m) ≡ b → (k == m) ≡ false
    by false e = e
    by true e = let same = eqb-true k m e in absurd (omega arith)

pub runs : {m e : ℕ} {added : List ℕ} {h h' : Hedge} → LeavesOut m e added h h' → (rest : List ℕ) → AreFrom e rest → Runs m e (added ++ rest) rest h h'
runs (out_done m e same) rest from = subst (λ i. Runs m i rest rest done done) (sym same) (runs-done m rest)
runs (out_leaf m e added l h h' o) rest from = runs-leaf m e (added ++ rest) rest l h h' (runs o rest from)
runs (out_kept m i e added one two x t k k' h h' is a b) rest from =
    let p = ordered a in
    let q = ordered b in
    let le : i ≤ e = omega arith in
    let lie : suc m ≤ i = omega arith in
    let behind : AreFrom i (two ++ rest) = from-both i two rest (used-from b) (from-less i e rest le from) in
    let all : AreFrom (suc m) (one ++ (two ++ rest)) = from-both (suc m) one (two ++ rest) (used-from a) (from-less (suc m) i (two ++ rest) lie behind) in
    subst (λ l. Runs m e l rest (elem x t k h) (elem x t k' h')) (sym (ap (λ l. l ++ rest) is ∙ append_assoc one two rest))
    (runs-kept m i e (one ++ (two ++ rest)) (two ++ rest) rest x t k k' h h' (not-marked m (one ++ (two ++ rest)) t all) (runs a (two ++ rest) behind) (runs b rest from))
runs (out_new m i e added one two x h h1 h2 k' h' is same a b) rest from =
    let q = ordered b in
    let le : i ≤ e = omega arith in
    let behind : AreFrom i (two ++ rest) = from-both i two rest (used-from b) (from-less i e rest le from) in
    subst (λ l. Runs m e l rest h (elem x [] k' h')) (sym (ap (λ l. l ++ rest) is ∙ ap (λ l. m ∷ l) (append_assoc one two rest)))
    (subst (λ u. Runs m e (m ∷ (one ++ (two ++ rest))) rest u (elem x [] k' h')) (sym same)
    (runs-new m i e (m ∷ (one ++ (two ++ rest))) (two ++ rest) rest x [] h1 h2 k' h' (eq-eqb m m refl) (runs a (two ++ rest) behind) (runs b rest from)))
