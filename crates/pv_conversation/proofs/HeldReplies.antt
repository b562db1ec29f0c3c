-- Replies that are written or held.
use Rattle.std.proofs.Common.{◌≡◌, ℕ, List, [], ◌++◌, Option, arith, refl, sym, ap, ◌∙◌, subst, append_assoc}
use Rattle.std.proofs.lemmas.List.{append-nil, length-append, take-append-le}
use Rattle.std.specs.Io.KnownBytes.{Appends}
use Rattle.pv_io.specs.Causes.{AppendsFront}
use Rattle.pv_conversation.specs.ReplyBuffer.{HoldsReplies}
use Rattle.pv_io.proofs.Streams.{appends_behind, appends_none, front_behind}

-- Where replies were written and held, those after them are held or written too, or written in part where the output fails.
pub holds_more : (old mid now : Option (List ℕ)) (held still text out : List ℕ) → HoldsReplies old mid held out → HoldsReplies mid now still (held ++ text) → HoldsReplies old now still (out ++ text)
holds_more old mid now held still text out so more = record {
  sent = so.sent ++ more.sent;
  written = appends_behind old mid now so.sent more.sent so.written more.written;
  is_cut = ap (λ (h : List ℕ). h ++ text) so.is_cut ∙ append_assoc so.sent held text ∙ ap (λ (h : List ℕ). so.sent ++ h) more.is_cut ∙ sym (append_assoc so.sent more.sent still);
}

pub holds_failed : (old mid now : Option (List ℕ)) (held text out : List ℕ) → HoldsReplies old mid held out → AppendsFront mid now (held ++ text) → AppendsFront old now (out ++ text)
holds_failed old mid now held text out so front =
    let is : so.sent ++ (held ++ text) ≡ out ++ text = sym (append_assoc so.sent held text) ∙ ap (λ (h : List ℕ). h ++ text) (sym so.is_cut) in
    subst (λ (h : List ℕ). AppendsFront old now h) is (front_behind old mid now so.sent (held ++ text) so.written front)

-- where nothing was held, and where all is written
pub holds_none : (old now : Option (List ℕ)) (out : List ℕ) → Appends old now out → HoldsReplies old now [] out
holds_none old now out written = record { sent = out; written = written; is_cut = sym (append-nil out) }

pub holds_written : (old mid now : Option (List ℕ)) (held out : List ℕ) → HoldsReplies old mid held out → Appends mid now held → Appends old now out
holds_written old mid now held out so written = subst (λ (h : List ℕ). Appends old now h) (sym so.is_cut) (appends_behind old mid now so.sent held so.written written)

pub holds_cut : (old mid now : Option (List ℕ)) (held out : List ℕ) → HoldsReplies old mid held out → AppendsFront mid now held → AppendsFront old now out
holds_cut old mid now held out so front = subst (λ (h : List ℕ). AppendsFront old now h) (sym so.is_cut) (front_behind old mid now so.sent held so.written front)

-- a reply that is written at once, with all that was held
pub holds_no_more : (old mid now : Option (List ℕ)) (held reply still : List ℕ) → Appends old mid held → Appends mid now reply → still ≡ [] → HoldsReplies old now still (held ++ reply)
holds_no_more old mid now held reply still first written none = record {
  sent = held ++ reply;
  written = appends_behind old mid now held reply first written;
  is_cut = sym (append-nil (held ++ reply)) ∙ ap (λ (h : List ℕ). (held ++ reply) ++ h) (sym none);
}

-- ---- a reply that is put part by part
pub front_more : (old now : Option (List ℕ)) (text more : List ℕ) → AppendsFront old now text → AppendsFront old now (text ++ more)
front_more old now text more front = (front.0, omega (arith, front.1, length-append text more), subst (λ (h : List ℕ). Appends old now h) (sym (take-append-le front.0 text more front.1)) front.2)

-- Of the whole reply these parts were written and held, and the rest is left.
pub record PutSoFar (old now : Option (List ℕ)) (held still whole rest : List ℕ) : Type 0 where
  pub done : List ℕ
  pub holds : HoldsReplies old now still (held ++ done)
  pub goes : whole ≡ done ++ rest

pub put_none : (old : Option (List ℕ)) (held whole : List ℕ) → PutSoFar old old held held whole whole
put_none old held whole = record {
  done = [];
  holds = record { sent = []; written = appends_none old; is_cut = append-nil held };
  goes = refl;
}

pub put_more : (old mid now : Option (List ℕ)) (held still after whole rest text more : List ℕ) →
    PutSoFar old mid held still whole rest → rest ≡ text ++ more → HoldsReplies mid now after (still
    ++ text) → PutSoFar old now held after whole more
put_more old mid now held still after whole rest text more so is holds = record {
  done = so.done ++ text;
  holds = subst (λ (h : List ℕ). HoldsReplies old now after h) (append_assoc held so.done text) (holds_more old mid now still after text (held ++ so.done) so.holds holds);
  goes = so.goes ∙ ap (λ (h : List ℕ). so.done ++ h) is ∙ sym (append_assoc so.done text more);
}

pub put_cut : (old mid now : Option (List ℕ)) (held still whole rest text more : List ℕ) →
    PutSoFar old mid held still whole rest → rest ≡ text ++ more →
    AppendsFront mid now (still ++ text) → AppendsFront old now (held ++ whole)
put_cut old mid now held still whole rest text more so is front =
    let all : (held ++ so.done) ++ (text ++ more) ≡ held ++ whole = append_assoc held so.done (text
    ++ more) ∙ ap (λ (h : List ℕ). held ++ (so.done ++ h)) (sym is) ∙ ap (λ (h : List ℕ). held
    ++ h) (sym so.goes) in
    let longer : ((held ++ so.done) ++ text) ++ more ≡ held ++ whole = append_assoc (held ++ so.done) text more ∙ all in
    subst (λ (h : List ℕ). AppendsFront old now h) longer (front_more old now ((held ++ so.done) ++ text) more (holds_failed old mid now still text (held ++ so.done) so.holds front))

pub put_whole : (old now : Option (List ℕ)) (held still whole rest : List ℕ) → PutSoFar old now held still whole rest → rest ≡ [] → HoldsReplies old now still (held ++ whole)
put_whole old now held still whole rest so none =
    let all : whole ≡ so.done = so.goes ∙ ap (λ (h : List ℕ). so.done ++ h) none ∙ append-nil so.done in
    subst (λ (h : List ℕ). HoldsReplies old now still (held ++ h)) (sym all) so.holds

-- ---- one part after another
pub put_then : (old mid now : Option (List ℕ)) (held still after text more : List ℕ) →
    HoldsReplies old mid still (held ++ text) → HoldsReplies mid now after (still ++ more) →
    HoldsReplies old now after (held ++ (text ++ more))
put_then old mid now held still after text more first next =
    subst (λ (h : List ℕ). HoldsReplies old now after h) (append_assoc held text more)
    (holds_more old mid now still after more (held ++ text) first next)

pub cut_first : (old now : Option (List ℕ)) (held text more : List ℕ) → AppendsFront old now (held ++ text) → AppendsFront old now (held ++ (text ++ more))
cut_first old now held text more front = subst (λ (h : List ℕ). AppendsFront old now h) (append_assoc held text more) (front_more old now (held ++ text) more front)

pub cut_then : (old mid now : Option (List ℕ)) (held still text more : List ℕ) →
    HoldsReplies old mid still (held ++ text) → AppendsFront mid now (still ++ more) →
    AppendsFront old now (held ++ (text ++ more))
cut_then old mid now held still text more first front = subst (λ (h : List ℕ). AppendsFront old now h) (append_assoc held text more) (holds_failed old mid now still more (held ++ text) first front)
