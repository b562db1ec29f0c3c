use Rattle.std.proofs.Common.{sym, ◌∙◌}
use Rattle.std.specs.Str.{bytes_eq}
use Rattle.pv_dtd.proofs.Places.{place-position, position-map}
use Rattle.pv_dtd.proofs.dtd.Dtd.name_id.Goals as goal

pub returns-in-Some : goal.returns-in-Some
returns-in-Some c =
    sym (place-position c.args.name.now _ ∙ position-map (λ v. v.items) (bytes_eq c.args.name.now) c.args.self.now.names.keys ∙ sym c.in-Some.ensures.index)

pub returns-in-None : goal.returns-in-None
returns-in-None c =
    sym (place-position c.args.name.now _ ∙ position-map (λ v. v.items) (bytes_eq c.args.name.now) c.args.self.now.names.keys ∙ sym c.in-None.ensures.index)
