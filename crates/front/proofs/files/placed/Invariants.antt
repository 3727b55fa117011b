use Rattle.std.proofs.Common.{◌≡◌, map}
use Rattle.front.specs.Files.{file_in}
use Rattle.front.proofs.files.placed.Given as goal

-- the files so far are named in the directory
abbrev pub invariant-loop-file : goal.invariant-loop-file
invariant-loop-file l = l.all ≡ map (file_in l.directory) l.yielded
