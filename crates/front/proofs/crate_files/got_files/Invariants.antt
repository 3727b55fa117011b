use Rattle.std.proofs.Common.{take}
use Rattle.front.specs.CrateFiles.{AreGotAll}
use Rattle.front.proofs.crate_files.got_files.Given as goal

-- the files so far were got
abbrev pub invariant-loop-path : goal.invariant-loop-path
invariant-loop-path g l = AreGotAll l.directory (take l.path-index l.paths) l.files (g.F.Shelf.state l.initial.shelf) (g.F.Shelf.state l.shelf)
