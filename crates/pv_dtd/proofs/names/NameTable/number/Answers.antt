use Rattle.pv_dtd.proofs.Places.{place-seen, known_name, next_number, name_inserted}
use Rattle.pv_dtd.proofs.names.NameTable.number.Goals as goal

pub returns-in-Some-clause-number : goal.returns-in-Some-clause-number
returns-in-Some-clause-number c = (known_name c.args.self.now c.args.name.now _ (place-seen c.args.name.now c.self.inside.set.keys _ c.self.view_is _ c.in-Some.ensures.index)).0

pub returns-in-Some-clause-names : goal.returns-in-Some-clause-names
returns-in-Some-clause-names c = (known_name c.args.self.now c.args.name.now _ (place-seen c.args.name.now c.self.inside.set.keys _ c.self.view_is _ c.in-Some.ensures.index)).1

pub returns-clause-number : goal.returns-clause-number
returns-clause-number c =
    next_number _ c.self.inside.set.keys c.args.name.now c.args.self.now c.len-number.ensures.len c.self.view_is
    (place-seen c.args.name.now c.self.inside.set.keys _ c.self.view_is _ c.in_default.ensures.index)

pub returns-clause-names : goal.returns-clause-names
returns-clause-names c =
    name_inserted c.self.inside.set.keys c.insert.new.self.keys c.in_ok-to_vec.field-0 c.args.name.now c.args.self.now c.self.view_is
    (c.in_ok-to_vec.ensures.items_if_clones_equal (λ _ _ e. e))
    (place-seen c.args.name.now c.self.inside.set.keys _ c.self.view_is _ c.in_default.ensures.index)
    c.in_ok-insert.ensures.keys
