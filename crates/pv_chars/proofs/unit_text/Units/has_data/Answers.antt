use Rattle.std.proofs.Common.{ap, sym, ◌∙◌, not}
use Rattle.std.specs.List.{list_any}
use Rattle.pv_chars.specs.Spaces.{is_space}
use Rattle.pv_chars.specs.Texts.{has_data}
use Rattle.pv_chars.proofs.MeansLemmas.{cut_data}
use Rattle.pv_chars.proofs.unit_text.Units.has_data.Goals as goal

pub returns : goal.returns
returns c = c.has_black.ensures ∙ ap (list_any (λ b. not (is_space b))) c.as_slice.ensures.value
    ∙ sym (cut_data c.self.inside.bytes.items c.self.inside.count c.self.invariant)
    ∙ ap has_data c.self.view_is
