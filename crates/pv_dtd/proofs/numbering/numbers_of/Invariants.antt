use Rattle.std.proofs.Common.{◌≡◌, map, take}
use Rattle.pv_model.specs.PlainForms.{numbers_of}
use Rattle.pv_dtd.specs.NameOrder.{with_names, NumbersNames}
use Rattle.pv_dtd.proofs.numbering.numbers_of.Given as goal

abbrev pub invariant-loop-name : goal.invariant-loop-name
invariant-loop-name l = record {
  names : l.names ≡ with_names l.initial.names (map (λ n. n.now) (take l.name-index l.listed));
  numbers : NumbersNames l.names (map (λ n. n.now) (take l.name-index l.listed)) (numbers_of l.numbers.items);
}
