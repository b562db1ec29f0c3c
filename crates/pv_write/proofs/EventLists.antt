-- Events side by side, and what they are written as.
use Rattle.std.proofs.Common.{List, [], ap, append-nil, append_assoc, arith, codes, refl, suc, sym}
use Rattle.std.proofs.Common.{ℕ, ◌++◌, ◌+◌, ◌∙◌, ◌∷◌, ◌≡◌}
use Rattle.pv_write.specs.Events.{Event, events_text, marks_from, new_end, new_start, news}
use Rattle.pv_write.specs.Events.{old_bytes, old_start, opens}
use Rattle.pv_write.specs.TaggedTexts.{Appends, PlainWriting}

pub events-join : (a b : List Event) → events_text (a ++ b) ≡ events_text a ++ events_text b
events-join [] b = refl
events-join (new_start x ∷ a) b =
    ap (λ s. codes "<" ++ x ++ codes ">" ++ s) (events-join a b)
    ∙ sym (append_assoc (codes "<" ++ x ++ codes ">") (events_text a) (events_text b))
events-join (new_end x ∷ a) b =
    ap (λ s. codes "</" ++ x ++ codes ">" ++ s) (events-join a b)
    ∙ sym (append_assoc (codes "</" ++ x ++ codes ">") (events_text a) (events_text b))
events-join (old_start x ∷ a) b =
    ap (λ s. x ++ s) (events-join a b) ∙ sym (append_assoc x (events_text a) (events_text b))
events-join (old_bytes x ∷ a) b =
    ap (λ s. x ++ s) (events-join a b) ∙ sym (append_assoc x (events_text a) (events_text b))

pub opens-join : (a b : List Event) → opens (a ++ b) ≡ opens a + opens b
opens-join [] b = omega arith
opens-join (new_start x ∷ a) b = omega (arith, opens-join a b)
opens-join (new_end x ∷ a) b = opens-join a b
opens-join (old_start x ∷ a) b = omega (arith, opens-join a b)
opens-join (old_bytes x ∷ a) b = opens-join a b

pub news-join : (a b : List Event) → news (a ++ b) ≡ news a + news b
news-join [] b = omega arith
news-join (new_start x ∷ a) b = omega (arith, news-join a b)
news-join (new_end x ∷ a) b = news-join a b
news-join (old_start x ∷ a) b = news-join a b
news-join (old_bytes x ∷ a) b = news-join a b

pub marks-join : (m : ℕ) (a b : List Event) → marks_from m (a ++ b) ≡ marks_from m a
    ++ marks_from (m + opens a) b
marks-join m [] b = let e : m + 0 ≡ m = omega arith in rw e refl
marks-join m (new_start x ∷ a) b =
    let e : suc m + opens a ≡ m + suc (opens a) = omega arith in let r = marks-join (suc m) a b in
    ap (λ s. m ∷ s) (rw e at r)
marks-join m (new_end x ∷ a) b = marks-join m a b
marks-join m (old_start x ∷ a) b =
    let e : suc m + opens a ≡ m + suc (opens a) = omega arith in let r = marks-join (suc m) a b in
    rw e at r
marks-join m (old_bytes x ∷ a) b = marks-join m a b

pub appends_none : (a : PlainWriting) → Appends a a []
appends_none a =
    record { body = sym (append-nil a.body); marks = sym (append-nil a.marks); begun = omega arith }

pub appends_join : (a b c : PlainWriting) (es fs : List Event) → Appends a b es → Appends b c fs →
    Appends a c (es ++ fs)
appends_join a b c es fs p q = record {
  body =
      let x = p.body in let y = q.body in
      y ∙ ap (λ s. s ++ events_text fs) x
      ∙ append_assoc a.body (events_text es) (events_text fs)
      ∙ ap (λ s. a.body ++ s) (sym (events-join es fs));
  marks = let x = p.marks in let y = q.marks in let z = p.begun in
      y ∙ ap (λ s. s ++ marks_from b.begun fs) x
      ∙ append_assoc a.marks (marks_from a.begun es) (marks_from b.begun fs)
      ∙ ap (λ n. a.marks ++ (marks_from a.begun es ++ marks_from n fs)) z
      ∙ ap (λ s. a.marks ++ s) (sym (marks-join a.begun es fs));
  begun = let x = p.begun in let y = q.begun in omega (arith, opens-join es fs);
}

-- which lists are to come is no matter
pub appends_after : (a b c : PlainWriting) (es : List Event) → b.body ≡ a.body → b.marks ≡ a.marks →
    b.begun ≡ a.begun → Appends b c es → Appends a c es
appends_after a b c es e f h p = record {
  body = let x = p.body in x ∙ ap (λ s. s ++ events_text es) e;
  marks =
      let x = p.marks in
      x ∙ ap (λ s. s ++ marks_from b.begun es) f ∙ ap (λ n. a.marks ++ marks_from n es) h;
  begun = let x = p.begun in omega arith;
}

-- the text and the marks of a whole document
pub whole_text : (s a b c : PlainWriting) (before after : List ℕ) (es : List Event) → s.body ≡ [] →
    s.marks ≡ [] → s.begun ≡ 0 → Appends s a (old_bytes before ∷ []) → Appends a b es →
    Appends b c (old_bytes after ∷ []) →
    (c.marks ≡ marks_from 0 es) × (c.body ≡ before ++ events_text es ++ after)
whole_text s a b c before after es no_body no_marks none p q r =
    let all = appends_join s a c (old_bytes before ∷ []) (es ++ old_bytes after ∷ []) p
    (appends_join a b c es (old_bytes after ∷ []) q r) in (
      (let m = all.marks in m ∙ ap (λ x. x ++ marks_from s.begun (es ++ old_bytes after ∷ []))
          no_marks ∙ ap (λ n. marks_from n (es ++ old_bytes after ∷ [])) none
          ∙ marks-join 0 es (old_bytes after ∷ []) ∙ append-nil (marks_from 0 es)),
      (let t = all.body in t ∙ ap (λ x. x ++ (before ++ events_text (es ++ old_bytes after ∷ [])))
          no_body ∙ ap (λ x. before ++ x) (events-join es (old_bytes after ∷ [])
          ∙ ap (λ x. events_text es ++ x) (append-nil after))
          ∙ sym (append_assoc before (events_text es) after)),
    )
