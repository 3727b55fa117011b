use Rattle.std.proofs.Common.{◌≡◌, drop, map, string_bytes}
use Rattle.jobs.specs.Job.{has_end}
use Rattle.jobs.proofs.read.has_end.Given as goal

abbrev pub invariant-loop-word : goal.invariant-loop-word
invariant-loop-word l = has_end (map string_bytes (drop l.word-index l.words)) ≡ has_end (map string_bytes l.words)
