use Rattle.std.proofs.Common.{◌≡◌, ◌++◌, ◌+◌, ◌<◌, drop, length}
use Rattle.pv_dtd.specs.Plain.{parts_in_models}
use Rattle.pv_dtd.specs.PlainForms.{plain_dtd}
use Rattle.pv_rules.specs.Flat.{flat_contents, flat_models}
use Rattle.pv_rules.proofs.flat_dtd.FlatDtd.of.Given as goal

abbrev pub invariant-loop-name : goal.invariant-loop-name
invariant-loop-name l = record {
  parts : l.parts.items ++ flat_models (length l.parts.items) (drop l.name (plain_dtd l.dtd).models) ≡ flat_models 0 (plain_dtd l.dtd).models;
  contents : l.contents.items ++ flat_contents (length l.parts.items) (drop l.name (plain_dtd l.dtd).models) ≡ flat_contents 0 (plain_dtd l.dtd).models;
  fits : length l.parts.items + parts_in_models (drop l.name (plain_dtd l.dtd).models) < 4294967296;
}
