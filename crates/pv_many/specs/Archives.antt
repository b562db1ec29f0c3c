-- What an archive tells at the start of a run.
use Rattle.std.specs.Prelude.{None}
use Rattle.pv_io.specs.Files.{ShelfNow}

-- it tells no file, and was neither asked nor did it fail
abbrev pub untold : ShelfNow
untold = record { files = None; calls = 0; faults = 0 }
