use Rattle.std.proofs.Common.{◌≡◌, List, ℕ, sym, false}
use Rattle.pv_chars.specs.Spaces.{is_space, begins, TakesBlank}
use Rattle.pv_chars.proofs.Options.{match_none, match_same}
use Rattle.pv_read.specs.Takes.{TakesWord}
use Rattle.pv_read.proofs.ExternalLemmas.{word_by, no_word_blank, no_word_start, no_word_black}
use Rattle.pv_read.proofs.forms.external_ids.after_word.Goals as goal

pub returns-in_err-start : goal.returns-in_err-start
returns-in_err-start c =
    let word = c.args.word.now in
    let bytes = c.args.bytes.now in
    match_none _ ((rest : List ℕ) → TakesWord word bytes rest → ⊥) (λ r. TakesWord word bytes r.now)
    c.from_residual.ensures (no_word_blank word c.requires.some c.requires.black bytes
    (sym c.in_err-start.ensures.after))

pub returns-in_err-named : goal.returns-in_err-named
returns-in_err-named c =
    let word = c.args.word.now in
    let bytes = c.args.bytes.now in
    match_none _ ((rest : List ℕ) → TakesWord word bytes rest → ⊥) (λ r. TakesWord word bytes r.now) c.from_residual-in_err-named.ensures
    (no_word_start word c.requires.some c.requires.black bytes c.in_ok-start.start.now (sym c.in_ok-start.ensures.after) c.in_err-named.ensures.found)

pub returns : goal.returns
returns c =
    let word = c.args.word.now in
    let bytes = c.args.bytes.now in
    let start = c.in_ok-start.start.now in
    let named = c.in_ok-named.named.now in
    let blank = sym c.in_ok-start.ensures.after in
    match_same _ (begins is_space named ≡ false) ((rest : List ℕ) → TakesWord word bytes rest → ⊥) (λ r. TakesBlank named r.now) (λ r. TakesWord word bytes r.now)
    (no_word_black word c.requires.some c.requires.black bytes start named blank c.in_ok-named.ensures.found)
    (λ r gap. word_by word c.requires.some c.requires.black bytes start named r.now blank c.in_ok-named.ensures.found gap)
    c.after_blank-2.ensures.found
