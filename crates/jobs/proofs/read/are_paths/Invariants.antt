use Rattle.std.proofs.Common.{◌≡◌, drop}
use Rattle.std.specs.List.{list_all}
use Rattle.clap.specs.Walk.{texts}
use Rattle.jobs.specs.Job.{is_path}
use Rattle.jobs.proofs.read.are_paths.Given as goal

abbrev pub invariant-loop-word : goal.invariant-loop-word
invariant-loop-word l = list_all is_path (texts (drop l.word-index l.words)) ≡ list_all is_path (texts l.words)
