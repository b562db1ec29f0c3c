use Rattle.std.proofs.Common.{arith, refl, suc, sym, ◌+◌, ◌≡◌}
use Rattle.pv_model.specs.Plain.{seq}
use Rattle.pv_dtd.specs.PlainForms.{plain_dtd}
use Rattle.pv_rules.proofs.FlatKinds.{choice_at, name_at, no_part, opt_at, plus_at, seq_at, star_at}
use Rattle.pv_rules.proofs.FormedParts.{parts_formed}
use Rattle.pv_productive.specs.PlainForms.{table_of}
use Rattle.pv_productive.proofs.LeastSums.{choice_sum, no_part_sum, opt_sum, part_name_sum, plus_sum, seq_sum, star_sum}
use Rattle.pv_productive.proofs.sums.size_of_part.Goals as goal

pub returns-in_default : goal.returns-in_default
returns-in_default c =
    no_part_sum (plain_dtd c.args.layout.now.dtd) (table_of c.args.sizes.now) c.args.number _
    (no_part (plain_dtd c.args.layout.now.dtd) c.args.number (sym c.in_default.ensures)) (omega arith)

pub returns-in-Name : goal.returns-in-Name
returns-in-Name c =
    let e = name_at (plain_dtd c.args.layout.now.dtd) c.args.number c.in-Name.name.0 c.in-Some.part (sym c.in-Some.ensures) c.in-Name.is in
    part_name_sum (plain_dtd c.args.layout.now.dtd) (table_of c.args.sizes.now) c.args.number c.in-Name.name.0 _ e c.of_name.ensures

pub returns-in-Seq : goal.returns-in-Seq
returns-in-Seq c =
    let a = seq_at (plain_dtd c.args.layout.now.dtd) c.args.number c.in-Some.part (sym c.in-Some.ensures) c.in-Seq.is in
    let z : c.args.number + 1 ≡ suc c.args.number = omega arith in
    seq_sum (plain_dtd c.args.layout.now.dtd) (table_of c.args.sizes.now) c.args.number _ a.0
    (parts_formed (plain_dtd c.args.layout.now.dtd) c.args.layout.now.dtd.formed c.args.number (seq a.0) a.1) a.1 (let e = c.of_rest.ensures in rw z at e)

pub least_member-requires : goal.least_member-requires
least_member-requires c =
    let a = choice_at (plain_dtd c.args.layout.now.dtd) c.args.number c.in-Some.part (sym c.in-Some.ensures) c.in-Choice.is in
    (a.0, a.1, let z = a.2 in omega arith)

pub returns-in-Choice : goal.returns-in-Choice
returns-in-Choice c =
    let a = choice_at (plain_dtd c.args.layout.now.dtd) c.args.number c.in-Some.part (sym c.in-Some.ensures) c.in-Choice.is in
    choice_sum (plain_dtd c.args.layout.now.dtd) (table_of c.args.sizes.now) c.args.number _ a.0 a.1 (c.least_member.ensures a.0 a.1)

pub returns-in-Plus : goal.returns-in-Plus
returns-in-Plus c =
    let a = plus_at (plain_dtd c.args.layout.now.dtd) c.args.number c.in-Some.part (sym c.in-Some.ensures) c.in-Plus.is in
    let z : c.args.number + 1 ≡ suc c.args.number = omega arith in
    plus_sum (plain_dtd c.args.layout.now.dtd) (table_of c.args.sizes.now) c.args.number _ a.0 a.1 (let e = c.of_part.ensures in rw z at e)

pub returns-in-Opt : goal.returns-in-Opt
returns-in-Opt c =
    let a = opt_at (plain_dtd c.args.layout.now.dtd) c.args.number c.in-Some.part (sym c.in-Some.ensures) c.in-Opt.is in
    opt_sum (plain_dtd c.args.layout.now.dtd) (table_of c.args.sizes.now) c.args.number 0 a.0 a.1 refl

pub returns-in-Star : goal.returns-in-Star
returns-in-Star c =
    let a = star_at (plain_dtd c.args.layout.now.dtd) c.args.number c.in-Some.part (sym c.in-Some.ensures) c.in-Star.is in
    star_sum (plain_dtd c.args.layout.now.dtd) (table_of c.args.sizes.now) c.args.number 0 a.0 a.1 refl
