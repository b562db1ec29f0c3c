use Rattle.std.proofs.lemmas.Bool.{iff_false}
use Rattle.pv_chars.specs.Fronts.{Begins, BeginsNone}
use Rattle.pv_chars.specs.Markup.{IsInstruction}
use Rattle.pv_chars.proofs.Options.{match_none}
use Rattle.pv_chars.proofs.InstructionLemmas.{instruction_by, no_instruction_target, no_instruction_end, no_instruction_text}
use Rattle.pv_chars.proofs.markup.after_instruction.Goals as goal

pub returns-then-eq_ignore_ascii_case : goal.returns-then-eq_ignore_ascii_case
returns-then-eq_ignore_ascii_case c =
    no_instruction_target c.args.bytes.now c.in_ok-start.start.now c.in_ok-target.target.now
    c.in_ok-target.after.now c.in_ok-start.ensures.found c.in_ok-target.ensures.found
    (c.eq_ignore_ascii_case.ensures.test.0 c.if-eq_ignore_ascii_case.true)

pub returns-in_err-text : goal.returns-in_err-text
returns-in_err-text c =
    let bytes = c.args.bytes.now in
    match_none _ (BeginsNone IsInstruction bytes) (λ r. Begins IsInstruction bytes r.now) c.from_residual-in_err-text.ensures
    (no_instruction_end bytes c.in_ok-start.start.now c.in_ok-target.target.now c.in_ok-target.after.now c.in_ok-start.ensures.found c.in_ok-target.ensures.found c.in_err-text.ensures)

pub returns-then-not-is_behind_target : goal.returns-then-not-is_behind_target
returns-then-not-is_behind_target c =
    no_instruction_text c.args.bytes.now c.in_ok-start.start.now c.in_ok-target.target.now
    c.in_ok-target.after.now c.in_ok-text.text.now c.in_ok-text.rest.now
    c.in_ok-start.ensures.found c.in_ok-target.ensures.found c.in_ok-text.ensures
    (iff_false c.is_behind_target.ensures c.if-not-is_behind_target.true)

pub returns : goal.returns
returns c =
    instruction_by c.args.bytes.now c.in_ok-start.start.now c.in_ok-target.target.now c.in_ok-target.after.now c.in_ok-text.text.now c.in_ok-text.rest.now c.in_ok-start.ensures.found record {
      named = c.in_ok-target.ensures.found;
      not_xml = iff_false c.eq_ignore_ascii_case.ensures.test c.if-eq_ignore_ascii_case.false;
      ends = c.in_ok-text.ensures;
      is_behind = c.is_behind_target.ensures.0 c.if-not-is_behind_target.false;
    }
