use Rattle.std.proofs.Common.{◌≡◌, drop}
use Rattle.pv_io.specs.Files.{file_named, named_files}
use Rattle.pv_io.proofs.memory.shelf.file_of.Given as goal

abbrev pub invariant-loop-file : goal.invariant-loop-file
invariant-loop-file l = file_named l.name (named_files (drop l.file-index l.files)) ≡ file_named l.name (named_files l.files)
