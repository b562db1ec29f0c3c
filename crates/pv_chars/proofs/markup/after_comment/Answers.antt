use Rattle.std.proofs.Common.{◌≡◌, ◌≢◌, ◌++◌, List, ℕ}
use Rattle.std.specs.Prelude.{codes}
use Rattle.std.proofs.lemmas.Bool.{iff_false}
use Rattle.pv_chars.specs.Fronts.{Begins, BeginsNone}
use Rattle.pv_chars.specs.Markup.{IsComment}
use Rattle.pv_chars.proofs.Options.{match_same}
use Rattle.pv_chars.proofs.MarkupLemmas.{comment_by, no_comment_text, no_comment_close}
use Rattle.pv_chars.proofs.markup.after_comment.Goals as goal

pub returns-then-not-are_chars : goal.returns-then-not-are_chars
returns-then-not-are_chars c =
    no_comment_text c.args.bytes.now c.in_ok-inside.inside.now c.in_ok-text.text.now
    c.in_ok-text.end.now c.in_ok-inside.ensures.found c.in_ok-text.ensures
    (iff_false c.are_chars.ensures c.if-not-are_chars.true)

pub returns : goal.returns
returns c =
    let bytes = c.args.bytes.now in
    let inside = c.in_ok-inside.inside.now in
    let text = c.in_ok-text.text.now in
    let end = c.in_ok-text.end.now in
    let chars = c.are_chars.ensures.0 c.if-not-are_chars.false in
    match_same _ ((rest : List ℕ) → end ≢ codes ">" ++ rest) (BeginsNone IsComment bytes) (λ r. end ≡ codes ">" ++ r.now) (λ r. Begins IsComment bytes r.now)
    (no_comment_close bytes inside text end c.in_ok-inside.ensures.found c.in_ok-text.ensures)
    (λ r closes. comment_by bytes inside text end r.now c.in_ok-inside.ensures.found c.in_ok-text.ensures chars closes)
    c.after_bytes-2.ensures.found
