-- What a walk keeps over the tokens that it reads.
use Rattle.std.proofs.Common.{◌≡◌, ℕ, ◌+◌, ◌<◌, ◌≤◌, Bool, false, List, [], ◌∷◌, ◌++◌, length, map}
use Rattle.std.proofs.Common.{take, drop, get_or, refl, sym, ap, ◌∙◌, subst, arith, append_assoc}
use Rattle.std.proofs.Common.{append-nil, length-append, take-append-drop, ap₂, length-drop}
use Rattle.std.proofs.Common.{get_or-drop, Result, Ok, Err, IfOk}
use Rattle.std.proofs.lemmas.List.{take_at, drop_at, drop_all, drop_more, take_all, length-take-le}
use Rattle.std.proofs.lemmas.List.{take-map, drop-map, map_more}
use Rattle.pv_model.specs.Plain.{PlainPart, PlainToken}
use Rattle.pv_model.specs.PlainForms.{plain_token}
use Rattle.pv_model.specs.declared.models.Token.{Token}
use Rattle.pv_rematch.specs.States.{IsAfter, is_word}
use Rattle.pv_rematch.specs.Points.{LeadOver, ArePoints}
use Rattle.pv_rematch.specs.Walks.{HasRead, HasWalked, Wait}
use Rattle.pv_rematch.specs.declared.points.Point.{Point}
use Rattle.pv_rematch.specs.declared.states.State.{State}
use Rattle.pv_rematch.specs.declared.walkers.Walker.{Walker}
use Rattle.pv_rematch.specs.declared.walkers.Walked.{Walked}
use Rattle.pv_rematch.proofs.LeadingPoints.{leads_both, leads_behind, wait_next}
use Rattle.pv_rematch.proofs.ReadStates.{after_same, same_behind}

module _ (p : PlainPart) (u : List PlainToken) where
  pub read_none : (k : Walker) → k.since ≡ 0 → k.points.items ≡ [] → IsAfter p u k.state →
      HasRead p u [] k
  read_none k z n h =
      let Q : List PlainToken → Type 0 = λ l. IsAfter p l k.state in
      let R : List Point → Type 0 = λ ps. LeadOver p u ps [] in
      record {
        kept = [];
        since = [];
        is = refl;
        gap = sym z;
        points = subst R (sym n) refl;
        state = subst Q (sym (append-nil u)) h;
      }

  pub read_more : (a : List PlainToken) (t : PlainToken) (k m : Walker) → m.since ≡ k.since + 1 →
      m.points.items ≡ k.points.items → HasRead p u a k → IsAfter p ((u ++ a) ++ t ∷ []) m.state →
      HasRead p u (a ++ t ∷ []) m
  read_more a t k m s n h after =
      let Q : List PlainToken → Type 0 = λ l. IsAfter p l m.state in
      let R : List Point → Type 0 = λ ps. LeadOver p u ps h.kept in
      record {
        kept = h.kept;
        since = h.since ++ t ∷ [];
        is = ap (λ l. l ++ t ∷ []) h.is ∙ append_assoc h.kept h.since (t ∷ []);
        gap = omega (arith, length-append h.since (t ∷ []), h.gap, s);
        points = subst R (sym n) h.points;
        state = subst Q (append_assoc u a (t ∷ [])) after;
      }

  -- a point is left where the walk is
  pub left_here : (a : List PlainToken) (k : Walker) (r : Point) → r.gap ≡ k.since →
      r.state.is_start ≡ k.state.is_start → r.state.is_end ≡ k.state.is_end →
      r.state.positions.items ≡ k.state.positions.items →
      HasRead p u a k → LeadOver p u (k.points.items ++ r ∷ []) a
  left_here a k r g b e m h =
      let Q : List PlainToken → Type 0 = λ l. LeadOver p u (k.points.items ++ r ∷ []) l in
      let A : List PlainToken → Type 0 = λ l. IsAfter p l r.state in
      let there : u ++ a ≡ (u ++ h.kept) ++ h.since =
      ap (λ l. u ++ l) h.is ∙ sym (append_assoc u h.kept h.since) in
      let last : LeadOver p (u ++ h.kept) (r ∷ []) h.since = (
        h.since,
        [],
        sym (append-nil h.since),
        h.gap
            ∙ sym g,
        subst A there (after_same p (u ++ a) k.state r.state b e m h.state),
        refl,
      ) in
      subst Q (sym h.is) (leads_both p u k.points.items (r ∷ []) h.kept h.since h.points last)

  pub read_left : (a : List PlainToken) (k m : Walker) (r : Point) → r.gap ≡ k.since →
      r.state.is_start ≡ k.state.is_start → r.state.is_end ≡ k.state.is_end →
      r.state.positions.items ≡ k.state.positions.items →
      m.since ≡ 0 → m.state ≡ k.state → m.points.items ≡ k.points.items ++ r ∷ [] →
      HasRead p u a k → HasRead p u a m
  read_left a k m r g b e f z s n h =
      let R : List Point → Type 0 = λ ps. LeadOver p u ps a in
      let A : State → Type 0 = λ t. IsAfter p (u ++ a) t in
      record {
        kept = a;
        since = [];
        is = sym (append-nil a);
        gap = sym z;
        points = subst R (sym n) (left_here a k r g b e f h);
        state = subst A (sym s) h.state;
      }

  -- what was left before the walk went nowhere
  pub read_points : (a v : List PlainToken) (k : Walker) → HasRead p u a k →
      ArePoints p u (a ++ v) k.points.items
  read_points a v k h =
      (h.kept, h.since ++ v, ap (λ l. l ++ v) h.is ∙ append_assoc h.kept h.since v, h.points)

  -- the walk ends before it meets an old point
  pub walked_end : (a : List PlainToken) (old points : List Point) (f : Walked) →
      f.passed ≡ length old → f.points.items ≡ points → ArePoints p u a points →
      f.is_allowed ≡ is_word p (u ++ a) → HasWalked p u a old f
  walked_end a old points f q n h b =
      let R : List Point → Type 0 = λ ps. ArePoints p u a ps in
      let none : drop f.passed old ≡ [] = drop_all f.passed old (omega (arith, q)) in
      record {
        points =
            subst R (sym (ap (λ l. f.points.items ++ l) none ∙ append-nil f.points.items ∙ n)) h;
        answer = b;
      }

  -- the walk has read all
  pub word_now : (a : List PlainToken) (k : Walker) → HasRead p u a k →
      k.state.is_end ≡ is_word p (u ++ a)
  word_now a k h = h.state.goes_on [] ∙ ap (is_word p) (append-nil (u ++ a))

-- the parts of a list that begins with as many elements
same_parts : {T : Type 0} (x v b z : List T) (i : ℕ) → i ≤ length v → x ++ v ≡ b ++ z →
    length b ≡ length x + i → (b ≡ x ++ take i v) × (z ≡ drop i v)
same_parts x v b z i h e n =
    let parts : x ++ v ≡ (x ++ take i v) ++ drop i v =
    ap (λ l. x ++ l) (sym (take-append-drop i v)) ∙ sym (append_assoc x (take i v) (drop i v)) in
    let len : length (x ++ take i v) ≡ length b =
    omega (arith, length-append x (take i v), length-take-le i v h, n) in (
      sym (take_at b z (length b) refl) ∙ ap (take (length b)) (sym e ∙ parts)
          ∙ take_at (x ++ take i v) (drop i v) (length b) len,
      sym (drop_at b z (length b) refl) ∙ ap (drop (length b)) (sym e ∙ parts)
          ∙ drop_at (x ++ take i v) (drop i v) (length b) len,
    )

-- the walk meets an old point, and the others follow as before
pub walked_on : (p : PlainPart) (u a x v : List PlainToken) (i : ℕ) (k : Walker) (r s : Point)
    (rs old : List Point) (was : Bool) (f : Walked) → i ≤ length v → HasRead p u (a ++ take i v) k →
    Wait p (x ++ v) was (length x + i) (r ∷ rs) → k.state.is_start ≡ r.state.is_start →
    k.state.is_end ≡ r.state.is_end → k.state.positions.items ≡ r.state.positions.items →
    s.gap ≡ k.since → s.state ≡ k.state → drop f.passed old ≡ rs → f.is_allowed ≡ was →
    f.points.items ≡ k.points.items ++ s ∷ [] → HasWalked p u (a ++ v) old f
walked_on p u a x v i k r s rs old was f lt h w b e m g t d q n =
    let now = a ++ take i v in
    let after = w.0 in
    let same : (l : List PlainToken) → is_word p (after ++ l) ≡ is_word p ((u ++ now) ++ l) =
    same_behind p after (u ++ now) r.state k.state (sym b) (sym e) (sym m) w.5 h.state in
    let parts = same_parts x v after (w.1 ++ w.2) i lt w.3 w.4 in
    let whole : a ++ v ≡ now ++ (w.1 ++ w.2) =
    ap (λ l. a ++ l) (sym (take-append-drop i v)) ∙ sym (append_assoc a (take i v) (drop i v))
    ∙ ap (λ l. now ++ l) (sym parts.1) in
    let all : a ++ v ≡ (now ++ w.1) ++ w.2 = whole ∙ sym (append_assoc now w.1 w.2) in
    let R : List Point → Type 0 = λ ps. LeadOver p u ps (now ++ w.1) in
    let here =
    left_here p u now k s g (ap (λ (z : State). z.is_start) t) (ap (λ (z : State). z.is_end) t)
    (ap (λ (z : State). z.positions.items) t) h in
    let behind = leads_behind p after (u ++ now) rs w.1 same w.6 in
    record {
      points = (
        now ++ w.1,
        w.2,
        all,
        subst R (sym (ap₂ (λ (y z : List Point). y ++ z) n d))
            (leads_both p u (k.points.items ++ s ∷ []) rs now w.1 here behind),
      );
      answer =
          q ∙ w.7 ∙ ap (is_word p) w.3 ∙ same (w.1 ++ w.2)
          ∙ ap (is_word p) (append_assoc u now (w.1 ++ w.2) ∙ ap (λ l. u ++ l) (sym whole));
    }

-- one token more of those that are read
pub map_more_token : (ts : List Token) (n : ℕ) (d : Token) → n < length ts →
    take (n + 1) (map plain_token ts) ≡ take n (map plain_token ts) ++ plain_token
    (get_or ts n d) ∷ []
map_more_token ts n d lt =
    take-map plain_token (n + 1) ts ∙ map_more plain_token ts n d lt
    ∙ ap (λ l. l ++ plain_token (get_or ts n d) ∷ []) (sym (take-map plain_token n ts))

map_at : (ts : List Token) (n : ℕ) (d : Token) → n < length ts →
    map plain_token ts ≡ take n (map plain_token ts)
    ++ (plain_token (get_or ts n d) ∷ drop (n + 1) (map plain_token ts))
map_at ts n d lt =
    let rest : drop n (map plain_token ts) ≡ plain_token (get_or ts n d) ∷ drop (n + 1)
    (map plain_token ts) =
    drop-map plain_token n ts ∙ ap (map plain_token) (drop_more ts n d lt)
    ∙ ap (λ l. plain_token (get_or ts n d) ∷ l) (sym (drop-map plain_token (n + 1) ts)) in
    sym (take-append-drop n (map plain_token ts)) ∙ ap (λ l. take n (map plain_token ts) ++ l) rest

-- all tokens, around one of them
pub around_token : (a v : List PlainToken) (ts : List Token) (n : ℕ) (d : Token) → n < length ts →
    (a ++ take n (map plain_token ts))
    ++ (plain_token (get_or ts n d) ∷ (drop (n + 1) (map plain_token ts) ++ v))
    ≡ a ++ (map plain_token ts ++ v)
around_token a v ts n d lt =
    let m = take n (map plain_token ts) in
    let z = plain_token (get_or ts n d) ∷ drop (n + 1) (map plain_token ts) in
    append_assoc a m (z ++ v)
    ∙ ap (λ l. a ++ l) (sym (append_assoc m z v) ∙ ap (λ l. l ++ v) (sym (map_at ts n d lt)))

-- with one token more
pub read_token : (p : PlainPart) (u a : List PlainToken) (ts : List Token) (n : ℕ) (d : Token)
    (k : Walker) → n < length ts →
    HasRead p u ((a ++ take n (map plain_token ts)) ++ plain_token (get_or ts n d) ∷ []) k →
    HasRead p u (a ++ take (n + 1) (map plain_token ts)) k
read_token p u a ts n d k lt h =
    let Q : List PlainToken → Type 0 = λ l. HasRead p u l k in
    subst Q (append_assoc a (take n (map plain_token ts)) (plain_token (get_or ts n d) ∷ [])
    ∙ ap (λ l. a ++ l) (sym (map_more_token ts n d lt))) h

pub lost_token : (p : PlainPart) (u a v : List PlainToken) (ts : List Token) (n : ℕ) (d : Token) →
    n < length ts →
    is_word p (u
    ++ ((a ++ take n (map plain_token ts)) ++ plain_token (get_or ts n d) ∷
    (drop (n + 1) (map plain_token ts) ++ v))) ≡ false →
    is_word p (u ++ (a ++ (map plain_token ts ++ v))) ≡ false
lost_token p u a v ts n d lt h = ap (λ l. is_word p (u ++ l)) (sym (around_token a v ts n d lt)) ∙ h

pub lost_points : (p : PlainPart) (u a v : List PlainToken) (ts : List Token) (n : ℕ) (d : Token)
    (k : Walker) (points : List Point) → n < length ts → points ≡ k.points.items →
    HasRead p u (a ++ take n (map plain_token ts)) k →
    ArePoints p u (a ++ (map plain_token ts ++ v)) points
lost_points p u a v ts n d k points lt e h =
    let Q : List PlainToken → Type 0 = λ l. ArePoints p u l points in
    let R : List Point → Type 0 =
    λ ps. ArePoints p u
    ((a ++ take n (map plain_token ts))
    ++ (plain_token (get_or ts n d) ∷ (drop (n + 1) (map plain_token ts) ++ v))) ps in
    subst Q (around_token a v ts n d lt)
    (subst R (sym e)
    (read_points p u (a ++ take n (map plain_token ts))
    (plain_token (get_or ts n d) ∷ (drop (n + 1) (map plain_token ts) ++ v)) k h))

pub walked_lost : (p : PlainPart) (u a : List PlainToken) (ts : List Token) (n : ℕ) (d : Token)
    (k : Walker) (old points : List Point) (f : Walked) → n < length ts → f.passed ≡ length old →
    f.is_allowed ≡ false → f.points.items ≡ points →
    points ≡ k.points.items → HasRead p u (a ++ take n (map plain_token ts)) k →
    is_word p (u
    ++ ((a ++ take n (map plain_token ts)) ++ plain_token (get_or ts n d) ∷
    (drop (n + 1) (map plain_token ts) ++ []))) ≡ false →
    HasWalked p u (a ++ map plain_token ts) old f
walked_lost p u a ts n d k old points f lt q b i e h lost =
    let m = map plain_token ts in
    let all : a ++ (m ++ []) ≡ a ++ m = ap (λ l. a ++ l) (append-nil m) in
    let Q : List PlainToken → Type 0 = λ l. ArePoints p u l points in
    let never : is_word p (u ++ (a ++ m)) ≡ false =
    ap (λ l. is_word p (u ++ l)) (sym all) ∙ lost_token p u a [] ts n d lt lost in
    walked_end p u (a ++ m) old points f q i
    (subst Q all (lost_points p u a [] ts n d k points lt e h)) (b ∙ sym never)

pub walked_all : (p : PlainPart) (u a m : List PlainToken) (n : ℕ) (k : Walker) (old : List Point)
    (f : Walked) → length m ≤ n → f.passed ≡ length old → f.is_allowed ≡ k.state.is_end →
    f.points.items ≡ k.points.items →
    HasRead p u (a ++ take n m) k → HasWalked p u (a ++ m) old f
walked_all p u a m n k old f lt q b i h =
    let Q : List PlainToken → Type 0 = λ l. HasRead p u (a ++ l) k in
    let R : List PlainToken → Type 0 = λ l. ArePoints p u l k.points.items in
    let g = subst Q (take_all n m lt) h in
    walked_end p u (a ++ m) old k.points.items f q i
    (subst R (append-nil (a ++ m)) (read_points p u (a ++ m) [] k g)) (b
    ∙ word_now p u (a ++ m) k g)

-- an old point is passed
pub wait_passed : (p : PlainPart) (w : List PlainToken) (was : Bool) (n m : ℕ) (ps : List Point)
    (next ahead : ℕ) → next < length ps →
    (next + 1 < length ps → (d : Point) → ahead ≡ (get_or ps (next + 1) d).gap) → m ≡ n + ahead →
    Wait p w was n (drop next ps) → Wait p w was m (drop (next + 1) ps)
wait_passed p w was n m [] next ahead lt g e h = absurd (omega (arith, lt))
wait_passed p w was n m (y ∷ ys) next ahead lt g e h =
    let ps = y ∷ ys in
    let Q : List Point → Type 0 = λ l. Wait p w was n l in
    let first : (d : Point) → 0 < length (drop (next + 1) ps) →
    m ≡ n + (get_or (drop (next + 1) ps) 0 d).gap =
    λ d more.
    let at : get_or (drop (next + 1) ps) 0 d ≡ get_or ps (next + 1 + 0) d =
    get_or-drop (next + 1) ps 0 d in
    let same : get_or ps (next + 1 + 0) d ≡ get_or ps (next + 1) d =
    ap (λ i. get_or ps i d) (omega arith) in
    let gap = g (omega (arith, more, length-drop (next + 1) ps)) d in
    let both = ap (λ (r : Point). r.gap) (at ∙ same) in
    omega (arith, gap, both, e) in
    wait_next p w was n m (get_or ps next y) (drop (next + 1) ps) first
    (subst Q (drop_more ps next y lt) h)

-- three facts on a result
pub ok_three : {A E : Type 0} (P Q R S : A → Type 0) (r : Result A E) →
    ((x : A) → P x → Q x → R x → S x) → IfOk r P → IfOk r Q → IfOk r R → IfOk r S
ok_three P Q R S (Ok x) f a b d = f x a b d
ok_three P Q R S (Err e) f a b d = tt

pub ok_one : {A E : Type 0} (P S : A → Type 0) (r : Result A E) → ((x : A) → P x → S x) → IfOk r P →
    IfOk r S
ok_one P S (Ok x) f a = f x a
ok_one P S (Err e) f a = tt
