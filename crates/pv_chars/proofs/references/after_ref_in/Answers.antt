use Rattle.std.proofs.Common.{◌≡◌, ◌≢◌, ◌++◌, List, ℕ, sym, ◌∙◌, false}
use Rattle.std.specs.Prelude.{codes}
use Rattle.pv_chars.specs.Characters.{is_char}
use Rattle.pv_chars.specs.Fronts.{Begins, BeginsNone}
use Rattle.pv_chars.specs.References.{IsCharRefIn}
use Rattle.pv_chars.proofs.Options.{match_same}
use Rattle.pv_chars.proofs.ReferenceLemmas.{ref_ends, ref_by}
use Rattle.pv_chars.proofs.references.after_ref_in.Goals as goal

pub returns-then-end-start : goal.returns-then-end-start
returns-then-end-start c = λ rest b.
    (ref_ends c.args.base c.requires.known c.args.front.now c.args.bytes.now c.in_ok-start.start.now
    rest c.digits_at-value.result.1.now c.digits_at-value.result.0 c.in_ok-start.ensures.found
    c.digits_at-value.ensures b).2 c.if-end-start.true

pub returns-then-not-is_char : goal.returns-then-not-is_char
returns-then-not-is_char c = λ rest b.
    let other : is_char c.digits_at-value.result.0 ≡ false = sym c.is_char.ensures ∙ c.if-not-is_char.true in
    let is = (ref_ends c.args.base c.requires.known c.args.front.now c.args.bytes.now
    c.in_ok-start.start.now rest c.digits_at-value.result.1.now c.digits_at-value.result.0
    c.in_ok-start.ensures.found c.digits_at-value.ensures b).1 in cc

pub returns : goal.returns
returns c =
    let base = c.args.base in
    let front = c.args.front.now in
    let bytes = c.args.bytes.now in
    let end = c.digits_at-value.result.1.now in
    match_same _ ((rest : List ℕ) → end ≢ codes ";" ++ rest) (BeginsNone (IsCharRefIn base front) bytes) (λ r. end ≡ codes ";" ++ r.now) (λ r. Begins (IsCharRefIn base front) bytes r.now)
    (λ none rest b. none rest (ref_ends base c.requires.known front bytes c.in_ok-start.start.now rest end c.digits_at-value.result.0 c.in_ok-start.ensures.found c.digits_at-value.ensures b).0)
    (λ r closes. ref_by base c.requires.known front bytes c.in_ok-start.start.now r.now end
    c.digits_at-value.result.0 c.in_ok-start.ensures.found c.digits_at-value.ensures
    (sym c.is_char.ensures ∙ c.if-not-is_char.false) c.if-end-start.false closes)
    c.after_bytes-2.ensures.found
