use Rattle.std.proofs.Common.{sym, ap, subst}
use Rattle.pv_params.specs.Meaning.{IsBetween}
use Rattle.pv_params.specs.PlainForms.{plain_mode}
use Rattle.pv_params.proofs.Steps.{syntax_inside, syntax_value, section_stops, external_stops, syntax_between, rest_unread}
use Rattle.pv_params.proofs.open_texts.copy_unread.Goals as goal

pub returns-then-begins_section-clause-faulty : goal.returns-then-begins_section-clause-faulty
returns-then-begins_section-clause-faulty c = λ reading. section_stops _ _ _ _ (subst IsBetween (sym (ap plain_mode c.in-Between.is)) tt) c.if-begins_section.ensures

pub returns-then-begins_external-clause-faulty : goal.returns-then-begins_external-clause-faulty
returns-then-begins_external-clause-faulty c = λ reading. external_stops _ _ _ _ (subst IsBetween (sym (ap plain_mode c.in-Between.is)) tt) c.if-begins_external.ensures

pub returns-then-begins_section-2-clause-faulty : goal.returns-then-begins_section-2-clause-faulty
returns-then-begins_section-2-clause-faulty c = λ reading. section_stops _ _ _ _ (subst IsBetween (sym (ap plain_mode c.in-File.is)) tt) c.if-begins_section-2.ensures

pub returns-then-begins_external-2-clause-faulty : goal.returns-then-begins_external-2-clause-faulty
returns-then-begins_external-2-clause-faulty c = λ reading. external_stops _ _ _ _ (subst IsBetween (sym (ap plain_mode c.in-File.is)) tt) c.if-begins_external-2.ensures

pub returns-in-Inside-clause-faulty : goal.returns-in-Inside-clause-faulty
returns-in-Inside-clause-faulty c = λ reading. syntax_inside _ _ _ _ (ap plain_mode c.in-Inside.is) c.requires.some c.requires.none

pub returns-in-Value-clause-faulty : goal.returns-in-Value-clause-faulty
returns-in-Value-clause-faulty c = λ reading. syntax_value _ _ _ _ (ap plain_mode c.in-Value.is) c.requires.some c.requires.none

pub returns-else-begins_external-clause-faulty : goal.returns-else-begins_external-clause-faulty
returns-else-begins_external-clause-faulty c = λ reading. syntax_between _ _ _ _
    (ap plain_mode c.in-Between.is) c.requires.some c.requires.none c.if-begins_section.ensures
    c.if-begins_external.ensures

pub returns-in_ok-put-in-File-2-clause-stopped : goal.returns-in_ok-put-in-File-2-clause-stopped
returns-in_ok-put-in-File-2-clause-stopped c = λ reading. rest_unread _ _ _ _ _ _
    c.blank_before.result.now _ (ap plain_mode c.in-File.is) c.requires.some c.requires.none
    c.if-begins_section-2.ensures c.if-begins_external-2.ensures
    c.blank_before.ensures c.in_ok-put-in-File.ensures c.in_ok-put-in-File-2.ensures
