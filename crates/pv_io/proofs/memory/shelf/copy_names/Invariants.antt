use Rattle.std.proofs.Common.{◌≡◌, take}
use Rattle.pv_io.specs.Files.{byte_lists}
use Rattle.pv_io.proofs.memory.shelf.copy_names.Given as goal

abbrev pub invariant-loop-name : goal.invariant-loop-name
invariant-loop-name l = byte_lists l.copies.items ≡ byte_lists (take l.name-index l.names)
