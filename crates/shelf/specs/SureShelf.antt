-- What a shelf that never fails holds, of which contracts see the files.
use Rattle.std.specs.Prelude.{List, Some, None}
use Rattle.shelf.specs.declared.file.File.{File}
use Rattle.shelf.specs.Files.{bytes_or_empty}
use Rattle.shelf.specs.Shelf.{ShelfState}

-- it holds the first file of each name that it was given, and an empty file under every other name;
-- no call on it ever failed
abbrev pub state_of : List File → ShelfState
state_of files = record { held = Some (bytes_or_empty files); faults = 0; last = None }
