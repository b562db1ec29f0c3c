use Rattle.std.proofs.Common.{false}
use Rattle.pv_chars.proofs.NameLemmas.{name_where_empty, no_name_exact, name_test}
use Rattle.pv_chars.proofs.names.is_name.Goals as goal

pub returns-in-Some-clause-exact : goal.returns-in-Some-clause-exact
returns-in-Some-clause-exact c = name_where_empty c.args.bytes.now c.in-Some.field-0-0.now c.in-Some.rest.now c.is_empty.result c.in-Some.ensures.found c.is_empty.ensures

pub returns-in-Some-clause-value : goal.returns-in-Some-clause-value
returns-in-Some-clause-value c = name_test c.args.bytes.now c.is_empty.result (returns-in-Some-clause-exact c)

pub returns-in-None-clause-value : goal.returns-in-None-clause-value
returns-in-None-clause-value c = name_test c.args.bytes.now false (no_name_exact c.args.bytes.now c.in-None.ensures.found)
