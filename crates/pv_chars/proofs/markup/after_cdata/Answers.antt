use Rattle.std.proofs.lemmas.Bool.{iff_false}
use Rattle.pv_chars.proofs.MarkupLemmas.{cdata_by, no_cdata_text}
use Rattle.pv_chars.proofs.markup.after_cdata.Goals as goal

pub returns-then-not-are_chars : goal.returns-then-not-are_chars
returns-then-not-are_chars c =
    no_cdata_text c.args.bytes.now c.in_ok-inside.inside.now c.in_ok-text.text.now
    c.in_ok-text.rest.now c.in_ok-inside.ensures.found c.in_ok-text.ensures
    (iff_false c.are_chars.ensures c.if-not-are_chars.true)

pub returns : goal.returns
returns c =
    cdata_by c.args.bytes.now c.in_ok-inside.inside.now c.in_ok-text.text.now c.in_ok-text.rest.now c.in_ok-inside.ensures.found c.in_ok-text.ensures (c.are_chars.ensures.0 c.if-not-are_chars.false)
