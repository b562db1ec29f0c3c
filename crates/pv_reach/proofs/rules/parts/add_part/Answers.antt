use Rattle.std.proofs.Common.{arith, sym, ◌∙◌}
use Rattle.pv_rules.proofs.FlatKinds.{choice_at, name_at, no_part, opt_at, plus_at, seq_at, star_at}
use Rattle.pv_productive.specs.PlainForms.{dtd_of}
use Rattle.pv_reach.specs.AddedRules.{IsRuleOfPart}
use Rattle.pv_reach.specs.Columns.{part_column}
use Rattle.pv_reach.proofs.PartRules.{laid_none}
use Rattle.pv_reach.proofs.rules.parts.add_part.Goals as goal

pub returns-in_default : goal.returns-in_default
returns-in_default c =
    laid_none (dtd_of c.args.grammar.now) c.args.rules.now.items (part_column (dtd_of c.args.grammar.now) c.args.number) (IsRuleOfPart (dtd_of c.args.grammar.now) c.args.number)
    (λ o cs s. let e = s.1 in let n = no_part (dtd_of c.args.grammar.now) c.args.number (sym c.part_of.ensures ∙ c.in_default.is) in cc)

pub add_name-requires : goal.add_name-requires
add_name-requires c = name_at (dtd_of c.args.grammar.now) c.args.number c.in-Name.id.0 c.in-Some.part (sym c.part_of.ensures ∙ c.in-Some.is) c.in-Name.is

pub add_seq-requires-clause-seq : goal.add_seq-requires-clause-seq
add_seq-requires-clause-seq c =
    let a = seq_at (dtd_of c.args.grammar.now) c.args.number c.in-Some.part (sym c.part_of.ensures ∙ c.in-Some.is) c.in-Seq.is in (a.0, a.1)

pub add_choice-requires : goal.add_choice-requires
add_choice-requires c =
    let a = choice_at (dtd_of c.args.grammar.now) c.args.number c.in-Some.part (sym c.part_of.ensures ∙ c.in-Some.is) c.in-Choice.is in
    (a.0, a.1, let z = a.2 in omega arith)

pub add_opt-requires : goal.add_opt-requires
add_opt-requires c = let a = opt_at (dtd_of c.args.grammar.now) c.args.number c.in-Some.part (sym c.part_of.ensures ∙ c.in-Some.is) c.in-Opt.is in (a.0, a.1)

pub add_star-requires : goal.add_star-requires
add_star-requires c = let a = star_at (dtd_of c.args.grammar.now) c.args.number c.in-Some.part (sym c.part_of.ensures ∙ c.in-Some.is) c.in-Star.is in (a.0, a.1)

pub add_plus-requires : goal.add_plus-requires
add_plus-requires c = let a = plus_at (dtd_of c.args.grammar.now) c.args.number c.in-Some.part (sym c.part_of.ensures ∙ c.in-Some.is) c.in-Plus.is in (a.0, a.1)
