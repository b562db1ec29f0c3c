use Rattle.std.proofs.Common.{◌≡◌, ℕ, List, Result, Ok, Err, IfOk, ap, ◌∙◌}
use Rattle.pv_chars.specs.declared.memory.NoMemory.{NoMemory}
use Rattle.pv_io.specs.Files.{byte_lists}
use Rattle.pv_io.specs.Memory.{HeldFiles}
use Rattle.test_rows.proofs.runs.runs.shelf_of.Goals as goal

shelf_names : (result : Result HeldFiles NoMemory) (held : HeldFiles) (names : List (List ℕ)) → IfOk result (λ s. s ≡ held) → held.names ≡ names → IfOk result (λ s. s.names ≡ names)
shelf_names (Ok shelf) held names is same = ap (λ (s : HeldFiles). s.names) is ∙ same
shelf_names (Err e) held names is same = tt

pub returns : goal.returns
returns c = shelf_names c.new.result _ _ c.new.ensures (ap byte_lists c.deref.ensures.value ∙ c.in_ok-names.ensures)
