-- Points of a word, and what becomes of them where the word changes.
use Rattle.std.proofs.Common.{◌≡◌, ℕ, suc, ◌+◌, ◌-◌, ◌<◌, ◌≤◌, Bool, List, [], ◌++◌, length, map}
use Rattle.std.proofs.Common.{take, drop, get_or, sym, ap, ◌∙◌, subst, arith, append_assoc}
use Rattle.std.proofs.Common.{append-nil, take-append-drop, add-one, eq-or-lt_of_le, inl, inr}
use Rattle.std.proofs.Common.{length-append, ap₂, false}
use Rattle.std.specs.List.{splice}
use Rattle.std.proofs.lemmas.List.{take_at, take-take, take-append-le, length-take-le, drop_all}
use Rattle.std.proofs.lemmas.List.{drop-drop, drop-map, take-map, map-append, length-map}
use Rattle.std.proofs.lemmas.List.{length-drop}
use Rattle.pv_model.specs.Plain.{PlainPart, PlainToken}
use Rattle.pv_model.specs.PlainForms.{plain_token}
use Rattle.pv_model.specs.declared.models.Token.{Token}
use Rattle.pv_rematch.specs.States.{IsAfter, is_word}
use Rattle.pv_rematch.specs.Points.{LeadOver, ArePoints, span}
use Rattle.pv_rematch.specs.Walks.{HasWalked, Wait}
use Rattle.pv_rematch.specs.Stretches.{AreOf, ReplacesPoints, replaced, StaysBefore}
use Rattle.pv_rematch.specs.declared.points.Point.{Point}
use Rattle.pv_rematch.specs.declared.states.State.{State}
use Rattle.pv_rematch.specs.declared.stretches.Points.{Points}
use Rattle.pv_rematch.specs.declared.stretches.Stretch.{Stretch}
use Rattle.pv_rematch.specs.declared.walkers.Walked.{Walked}
use Rattle.pv_rematch.proofs.LeadingPoints.{leads_both, leads_split, leads_span, wait_at, after_last}
use Rattle.pv_rematch.proofs.ReadStates.{after_same}

-- the first points of a word are points of it
pub put_points : (p : PlainPart) (w : List PlainToken) (ps : List Point) (s : Stretch)
    (new : Points) → ReplacesPoints p w ps s → new.is_allowed ≡ s.is_allowed →
    (rest : List Point) × (replaced ps s ≡ new.items.items ++ rest) → AreOf p w new
put_points p w ps s new h b r =
    let Q : List Point → Type 0 = λ l. LeadOver p [] l h.points.0 in
    let cut = leads_split p [] new.items.items r.0 h.points.0 (subst Q r.1 h.points.3) in
    record {
      points = (
        cut.0,
        cut.1 ++ h.points.1,
        h.points.2 ∙ ap (λ l. l ++ h.points.1) cut.2
            ∙ append_assoc cut.0 cut.1 h.points.1,
        cut.3,
      );
      answer = b ∙ h.answer;
    }

-- a walk over the whole word
pub walked_whole : (p : PlainPart) (w : List PlainToken) (f : Walked) (ps : Points) →
    HasWalked p [] w [] f → ps.items.items ≡ f.points.items → ps.is_allowed ≡ f.is_allowed →
    AreOf p w ps
walked_whole p w f ps h i b =
    let none : f.points.items ++ drop f.passed [] ≡ ps.items.items =
    ap (λ l. f.points.items ++ l) (drop_all f.passed [] (omega arith)) ∙ append-nil f.points.items
    ∙ sym i in
    let Q : List Point → Type 0 = λ l. ArePoints p [] w l in
    record { points = subst Q none h.points; answer = b ∙ h.answer }

-- what is reached at the last of some points
pub after_point : (p : PlainPart) (ps : List Point) (n : ℕ) (u : List PlainToken) (r : Point)
    (t : State) → 0 < n → n ≤ length ps → r ≡ get_or ps (n - 1) r → t.is_start ≡ r.state.is_start →
    t.is_end ≡ r.state.is_end →
    t.positions.items ≡ r.state.positions.items → LeadOver p [] (take n ps) u → IsAfter p u t
after_point p ps n u r t pos lt is b e m l =
    let Q : ℕ → Type 0 = λ k. LeadOver p [] (take k ps) u in
    let R : Point → Type 0 = λ x. IsAfter p u x.state in
    let e2 : n ≡ suc (n - 1) = omega arith in
    let last = after_last p [] ps (n - 1) u r (omega arith) (subst Q e2 l) in
    after_same p u r.state t b e m (subst R (sym is) last)

pub stays : (p : PlainPart) (w gone : List PlainToken) (ps : Points) (from came n place : ℕ) →
    from + came ≤ length w → place ≡ span (take n ps.items.items) → place ≤ from →
    AreOf p (splice w from (from + came) gone) ps → StaysBefore p w ps.items.items n place
stays p w gone ps from came n place room at lt h =
    let items = ps.items.items in
    let a = h.points.0 in
    let b = h.points.1 in
    let Q : List Point → Type 0 = λ l. LeadOver p [] l a in
    let cut =
    leads_split p [] (take n items) (drop n items) a
    (subst Q (sym (take-append-drop n items)) h.points.3) in
    let u = cut.0 in
    let len : length u ≡ place = leads_span p [] (take n items) u cut.3 ∙ sym at in
    let old = splice w from (from + came) gone in
    let whole : old ≡ u ++ (cut.1 ++ b) =
    h.points.2 ∙ ap (λ l. l ++ b) cut.2 ∙ append_assoc u cut.1 b in
    let first : take place old ≡ u = ap (take place) whole ∙ take_at u (cut.1 ++ b) place len in
    let room2 : length (take from w) ≡ from = length-take-le from w (omega (arith, room)) in
    let same : take place old ≡ take place w =
    take-append-le place (take from w) (gone ++ drop (from + came) w) (omega (arith, room2, lt))
    ∙ take-take place from w lt in
    record {
      before = u;
      lead = cut.3;
      len = len;
      is = sym (take-append-drop place w) ∙ ap (λ l. l ++ drop place w) (sym same ∙ first);
    }

-- where a point of this number stands in the word before
pub waits : (p : PlainPart) (w : List PlainToken) (ps : Points) (n k : ℕ) → AreOf p w ps →
    n ≤ length ps.items.items →
    (n < length ps.items.items → span (take (n + 1) ps.items.items) ≡ k) →
    Wait p w ps.is_allowed k (drop n ps.items.items)
waits p w ps n k h lt at =
    let items = ps.items.items in
    let Q : List Point → Type 0 = λ l. Wait p w ps.is_allowed k l in
    elim (eq-or-lt_of_le lt) [
      | inl e ↦ subst Q (sym (drop_all n items (omega (arith, e)))) tt
      | inr more ↦ let place =
          rw add-one at (at more) in
          wait_at p w ps.is_allowed h.answer [] items n h.points.0 h.points.1 k h.points.2
          (omega (arith, place)) more h.points.3
    ]

-- the points before the change, the new ones and those after it
pub turned : (p : PlainPart) (w t : List PlainToken) (ps : List Point) (s : Stretch) (place : ℕ) →
    (k : StaysBefore p w ps s.first place) → t ≡ drop place w → s.first ≤ s.last →
    s.last ≤ length ps → ArePoints p k.before t (s.points.items ++ drop s.last ps) →
    s.is_allowed ≡ is_word p (k.before ++ t) → ReplacesPoints p w ps s
turned p w t ps s place k e order within h b =
    let is : w ≡ k.before ++ t = k.is ∙ ap (λ l. k.before ++ l) (sym e) in
    record {
      order = order;
      within = within;
      points = (
        k.before ++ h.0,
        h.1,
        is ∙ ap (λ l. k.before ++ l) h.2 ∙ sym (append_assoc k.before h.0 h.1),
        leads_both p [] (take s.first ps) (s.points.items ++ drop s.last ps)
            k.before h.0 k.lead h.3,
      );
      answer = b ∙ ap (is_word p) (sym is);
    }

-- the changed tokens and the rest, which the program has as parts of the word
pub parts_read : (ts : List Token) (place end : ℕ) → place ≤ end →
    map plain_token (take (end - place) (drop place ts)) ++ map plain_token (drop end ts)
    ≡ drop place (map plain_token ts)
parts_read ts place end lt =
    let rest : drop (end - place) (drop place ts) ≡ drop end ts =
    drop-drop (end - place) place ts ∙ ap (λ i. drop i ts) (omega arith) in
    sym (map-append plain_token (take (end - place) (drop place ts)) (drop end ts))
    ∙ ap (map plain_token) (ap (λ l. take (end - place) (drop place ts) ++ l) (sym rest)
    ∙ take-append-drop (end - place) (drop place ts)) ∙ sym (drop-map plain_token place ts)

-- the word before the change: its tokens up to the place, what is gone, and those after what came
pub before_rest : (ts : List Token) (gone : List PlainToken) (from came : ℕ) →
    splice (map plain_token ts) from (from + came) gone ≡ (take from (map plain_token ts) ++ gone)
    ++ map plain_token (drop (from + came) ts)
before_rest ts gone from came =
    let w = map plain_token ts in
    sym (append_assoc (take from w) gone (drop (from + came) w))
    ∙ ap (λ l. (take from w ++ gone) ++ l) (drop-map plain_token (from + came) ts)

-- the whole turn, once the changed tokens are read
pub turn_lost : (p : PlainPart) (ts : List Token) (ps : List Point) (s : Stretch) (place end : ℕ) →
    (k : StaysBefore p (map plain_token ts) ps s.first place) → place ≤ end → s.first ≤ s.last →
    s.last ≡ length ps →
    s.is_allowed ≡ false →
    ArePoints p k.before (map plain_token (take (end - place) (drop place ts)) ++ map plain_token
    (drop end ts)) s.points.items →
    is_word p (k.before
    ++ (map plain_token (take (end - place) (drop place ts)) ++ map plain_token (drop end ts)))
    ≡ false → ReplacesPoints p (map plain_token ts) ps s
turn_lost p ts ps s place end k lt order all b h never =
    let t = map plain_token (take (end - place) (drop place ts)) ++ map plain_token (drop end ts) in
    let Q : List Point → Type 0 = λ l. ArePoints p k.before t l in
    let none : s.points.items ≡ s.points.items ++ drop s.last ps =
    sym (ap (λ l. s.points.items ++ l) (drop_all s.last ps (omega (arith, all)))
    ∙ append-nil s.points.items) in
    turned p (map plain_token ts) t ps s place k (parts_read ts place end lt) order
    (omega (arith, all)) (subst Q none h) (b ∙ sym never)

pub turn_walked : (p : PlainPart) (ts rest : List Token) (ps old : List Point) (s : Stretch)
    (f : Walked) (place end n : ℕ) → (k : StaysBefore p (map plain_token ts) ps s.first place) →
    place ≤ end → s.first ≤ n → n ≤ length ps → rest ≡ drop end ts → old ≡ drop n ps →
    f.passed ≤ length old → s.last ≡ n + f.passed → s.is_allowed ≡ f.is_allowed →
    s.points.items ≡ f.points.items →
    HasWalked p k.before
    (map plain_token (take (end - place) (drop place ts)) ++ map plain_token rest) old f →
    ReplacesPoints p (map plain_token ts) ps s
turn_walked p ts rest ps old s f place end n k lt order within r o few last b i h =
    let t = map plain_token (take (end - place) (drop place ts)) ++ map plain_token (drop end ts) in
    let Q : List Point → Type 0 = λ l. ArePoints p k.before t l in
    let R : List Token → Type 0 =
    λ l. HasWalked p k.before
    (map plain_token (take (end - place) (drop place ts)) ++ map plain_token l) old f in
    let g = subst R r h in
    let left : drop f.passed old ≡ drop s.last ps =
    ap (drop f.passed) o ∙ drop-drop f.passed n ps ∙ ap (λ j. drop j ps) (sym last) in
    let all : f.points.items ++ drop f.passed old ≡ s.points.items ++ drop s.last ps =
    ap₂ (λ (x y : List Point). x ++ y) (sym i) left in
    turned p (map plain_token ts) t ps s place k (parts_read ts place end lt)
    (omega (arith, last, order))
    (omega (arith, last, few, within, ap length o, length-drop n ps)) (subst Q all g.points) (b
    ∙ g.answer)

-- what waits is told of parts of the lists as the program takes them, which equal these
pub wait_parts : (p : PlainPart) (x : List PlainToken) (rest rest2 : List Token) (was : Bool)
    (k : ℕ) (old old2 : List Point) → rest ≡ rest2 → old ≡ old2 →
    Wait p (x ++ map plain_token rest2) was k old2 → Wait p (x ++ map plain_token rest) was k old
wait_parts p x rest rest2 was k old old2 r o w =
    let Q : List Token → Type 0 = λ l. Wait p (x ++ map plain_token l) was k old in
    let R : List Point → Type 0 = λ l. Wait p (x ++ map plain_token rest2) was k l in
    subst Q (sym r) (subst R (sym o) w)

-- what waits, in the parts of the word before
pub waits_behind : (p : PlainPart) (ts : List Token) (gone : List PlainToken) (ps : Points)
    (from came limit n distance : ℕ) → from ≤ length ts → limit ≡ from + length gone →
    AreOf p (splice (map plain_token ts) from (from + came) gone) ps → n ≤ length ps.items.items →
    (n < length ps.items.items → span (take (n + 1) ps.items.items) ≡ limit + distance) →
    Wait p ((take from (map plain_token ts) ++ gone) ++ map plain_token (drop (from + came) ts))
    ps.is_allowed (length (take from (map plain_token ts) ++ gone) + distance)
    (drop n ps.items.items)
waits_behind p ts gone ps from came limit n distance room e h lt at =
    let w = map plain_token ts in
    let Q : List PlainToken → Type 0 =
    λ l. Wait p l ps.is_allowed (length (take from w ++ gone) + distance) (drop n ps.items.items) in
    let R : ℕ → Type 0 =
    λ k. Wait p (splice w from (from + came) gone) ps.is_allowed k (drop n ps.items.items) in
    let count : limit + distance ≡ length (take from w ++ gone) + distance =
    omega (
      arith,
      e,
      length-append (take from w) gone,
      length-take-le from w (omega (arith, room, length-map ts plain_token)),
      length-map ts plain_token,
    ) in
    subst Q (before_rest ts gone from came)
    (subst R count (waits p (splice w from (from + came) gone) ps n (limit + distance) h lt at))

-- the word before, in plain tokens
pub before_map : (ts gone : List Token) (from came : ℕ) →
    map plain_token (splice ts from (from + came) gone)
    ≡ splice (map plain_token ts) from (from + came) (map plain_token gone)
before_map ts gone from came =
    map-append plain_token (take from ts) (gone ++ drop (from + came) ts)
    ∙ ap₂ (λ (x y : List PlainToken). x ++ y) (sym (take-map plain_token from ts))
    (map-append plain_token gone (drop (from + came) ts)
    ∙ ap (λ l. map plain_token gone ++ l) (sym (drop-map plain_token (from + came) ts)))
