use Rattle.std.proofs.Common.{sym, ◌∙◌}
use Rattle.pv_chars.specs.Fronts.{Begins}
use Rattle.pv_chars.specs.Declarations.{IsQuoted, BeginsNoQuoted, IsPart, BeginsNoPart}
use Rattle.pv_chars.proofs.Options.{match_none, match_same}
use Rattle.pv_chars.proofs.PartLemmas.{part_by, no_part_blank, no_part_word, no_part_eq, no_part_quoted}
use Rattle.pv_chars.proofs.declarations.declaration_part_at.Goals as goal

pub returns-in_err-start : goal.returns-in_err-start
returns-in_err-start c =
    let word = c.args.word.now in
    let bytes = c.args.bytes.now in
    match_none _ (BeginsNoPart word bytes) (λ r. Begins (IsPart word r.0.now) bytes r.1.now) c.from_residual.ensures
    (no_part_blank word bytes c.requires.some c.requires.black (sym c.in_err-start.ensures.after))

pub returns-in_err-named : goal.returns-in_err-named
returns-in_err-named c =
    let word = c.args.word.now in
    let bytes = c.args.bytes.now in
    match_none _ (BeginsNoPart word bytes) (λ r. Begins (IsPart word r.0.now) bytes r.1.now) c.from_residual-in_err-named.ensures
    (no_part_word word bytes c.requires.some c.requires.black c.in_ok-start.start.now (sym c.in_ok-start.ensures.after) c.in_err-named.ensures.found)

pub returns-in_err-valued : goal.returns-in_err-valued
returns-in_err-valued c =
    let word = c.args.word.now in
    let bytes = c.args.bytes.now in
    match_none _ (BeginsNoPart word bytes) (λ r. Begins (IsPart word r.0.now) bytes r.1.now) c.from_residual-in_err-valued.ensures
    (no_part_eq word bytes c.requires.some c.requires.black c.in_ok-start.start.now
    c.in_ok-named.named.now (sym c.in_ok-start.ensures.after) c.in_ok-named.ensures.found
    (λ valued e. c.in_err-valued.ensures.found valued (c.after_space.ensures.after ∙ e)))

pub returns : goal.returns
returns c =
    let word = c.args.word.now in
    let bytes = c.args.bytes.now in
    let start = c.in_ok-start.start.now in
    let named = c.in_ok-named.named.now in
    let valued = c.in_ok-valued.valued.now in
    let blank = sym c.in_ok-start.ensures.after in
    let equals = sym c.after_space.ensures.after ∙ c.in_ok-valued.ensures.found in
    match_same _ (BeginsNoQuoted c.after_space-2.result.now) (BeginsNoPart word bytes)
    (λ r. Begins (IsQuoted r.0.now) c.after_space-2.result.now r.1.now)
    (λ r. Begins (IsPart word r.0.now) bytes r.1.now)
    (λ none. no_part_quoted word bytes c.requires.some c.requires.black start named valued blank
    c.in_ok-named.ensures.found equals (λ value rest b. none value rest
    (rw c.after_space-2.ensures.after b)))
    (λ r b. part_by word bytes r.0.now r.1.now
    record {
      start = start;
      named = named;
      valued = valued;
      blank = blank;
      is_word = c.in_ok-named.ensures.found;
      is_eq = equals;
      is_quoted =
          rw (← c.after_space-2.ensures.after) b;
    })
    c.quoted_at.ensures
