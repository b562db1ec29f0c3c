use Rattle.std.proofs.Common.{◌∙◌, sym}
use Rattle.pv_chars.proofs.NameLemmas.{no_name_by_start, name_cut}
use Rattle.pv_chars.proofs.names.name_at.Goals as goal

pub returns-then-not-is_name_start-clause-found : goal.returns-then-not-is_name_start-clause-found
returns-then-not-is_name_start-clause-found c =
    no_name_by_start c.args.bytes.now c.in_ok-c.others.now c.in_ok-c.c c.in_ok-c.ensures.found (sym c.is_name_start.ensures ∙ c.if-not-is_name_start.true)

pub returns-clause-found : goal.returns-clause-found
returns-clause-found c =
    name_cut c.args.bytes.now c.in_ok-c.others.now c.after_name_chars-rest.result.now
    c.split_at.result.0.now c.split_at.result.1.now c.in_ok-c.c c.in_ok-c.ensures.found
    (sym c.is_name_start.ensures ∙ c.if-not-is_name_start.false)
    c.after_name_chars-rest.ensures.taken c.split_at.ensures.front c.split_at.ensures.back
