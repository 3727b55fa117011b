use Rattle.std.proofs.Common.{◌≡◌, ◌≤◌, take}
use Rattle.front.specs.Files.{with_files}
use Rattle.front.proofs.files.put_all.Given as goal

-- the files so far were put
abbrev pub invariant-loop-place : goal.invariant-loop-place
invariant-loop-place g l = record {
  held : (g.F.Shelf.state l.shelf).held ≡ with_files (take l.place l.files) (g.F.Shelf.state l.initial.shelf).held;
  later : (g.F.Shelf.state l.initial.shelf).faults ≤ (g.F.Shelf.state l.shelf).faults;
}
