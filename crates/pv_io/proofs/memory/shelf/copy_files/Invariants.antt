use Rattle.std.proofs.Common.{◌≡◌, take}
use Rattle.pv_io.specs.Files.{named_files}
use Rattle.pv_io.proofs.memory.shelf.copy_files.Given as goal

abbrev pub invariant-loop-file : goal.invariant-loop-file
invariant-loop-file l = named_files l.copies.items ≡ named_files (take l.file-index l.files)
