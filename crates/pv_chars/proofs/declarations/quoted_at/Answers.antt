use Rattle.std.proofs.Common.{◌∷◌, [], sym, ◌∙◌, get_or, take, drop, length, ◌-◌}
use Rattle.pv_chars.specs.Fronts.{Begins, ContainsBytes, EndsAt}
use Rattle.pv_chars.specs.Declarations.{IsQuoted, BeginsNoQuoted}
use Rattle.pv_chars.proofs.Options.{match_same}
use Rattle.pv_chars.proofs.QuoteLemmas.{quoted_by, no_quoted_by_end}
use Rattle.pv_chars.proofs.Arms.{cons_of}
use Rattle.pv_chars.proofs.declarations.quoted_at.Goals as goal

pub returns-in-len1-up : goal.returns-in-len1-up
returns-in-len1-up c =
    let bytes = c.args.bytes.now in
    let quote = get_or bytes 0 0 in
    let inside = take (length bytes - 1) (drop 1 bytes) in
    let e = cons_of bytes c.in-len1-up.len_at_least in
    match_same _ (ContainsBytes inside (quote ∷ []) → ⊥) (BeginsNoQuoted bytes) (λ r. EndsAt (quote ∷ []) inside r.0.now r.1.now) (λ r. Begins (IsQuoted r.0.now) bytes r.1.now)
    (no_quoted_by_end bytes inside quote e)
    (λ r ends. quoted_by bytes inside r.0.now r.1.now quote e (sym c.is_quote.ensures ∙ c.if-is_quote.true) ends)
    c.up_to_byte.ensures
