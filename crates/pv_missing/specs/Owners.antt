-- The owners of lists.
use Rattle.std.specs.Prelude.{List, Option, option_map, ℕ, ◌≡◌}
use Rattle.pv_dtd.specs.Plain.{PlainDtd}
use Rattle.pv_tree.specs.Lists.{Listed}
use Rattle.pv_missing.specs.PlainForms.{plain_of}
use Rattle.pv_missing.specs.ListWeights.{site_of}
use Rattle.pv_missing.specs.declared.owners.Of.{Of}

-- the owner of a list, where the DTD has its name; for the document node that is the root's name
abbrev pub IsOwner : {M : Type 0} → PlainDtd → List ℕ → Listed M → Option Of → Type 0
IsOwner g root list owner = site_of g root list.owner ≡ option_map plain_of owner
