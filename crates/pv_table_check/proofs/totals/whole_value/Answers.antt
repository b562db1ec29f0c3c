use Rattle.std.proofs.Common.{ap, arith, map, ◌∙◌, ◌≡◌}
use Rattle.pv_model.specs.PlainForms.{plain_token}
use Rattle.pv_dtd.specs.PlainForms.{plain_dtd}
use Rattle.pv_tree.specs.PlainForms.{forest}
use Rattle.pv_tree.specs.Words.{word_of}
use Rattle.pv_table_check.proofs.WordLengths.{tokens_few}
use Rattle.pv_table_check.proofs.totals.whole_value.Goals as goal

pub overflow_cast-places : goal.overflow_cast-places
overflow_cast-places c =
    let e : map plain_token c.as_slice.result.now ≡ word_of (plain_dtd c.args.dtd.now) (forest c.in-Some.list.kids.now) = ap (λ x. map plain_token x) c.as_slice.ensures ∙ c.in_ok-tokens.ensures in
    let l = tokens_few (plain_dtd c.args.dtd.now) (forest c.in-Some.list.kids.now) c.as_slice.result.now e c.in-Some.ensures.few in omega arith
