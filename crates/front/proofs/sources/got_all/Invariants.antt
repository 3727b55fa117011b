use Rattle.std.proofs.Common.{take}
use Rattle.clap.specs.Walk.{texts}
use Rattle.front.specs.Sources.{AreGot}
use Rattle.front.proofs.sources.got_all.Given as goal

-- the files so far were got
abbrev pub invariant-loop-name : goal.invariant-loop-name
invariant-loop-name g l = AreGot (texts (take l.name-index l.names)) l.sources (g.F.Shelf.state l.initial.shelf) (g.F.Shelf.state l.shelf)
