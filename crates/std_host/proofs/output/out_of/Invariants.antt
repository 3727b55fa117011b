use Rattle.std.proofs.Common.{◌≡◌, drop, Some}
use Rattle.std_host.specs.Formats.{joined}
use Rattle.std_host.specs.Output.{out_of}
use Rattle.std_host.proofs.output.out_of.Given as goal

-- what all calls write is what those so far have written, with what those that are left write
abbrev pub invariant-loop-call : goal.invariant-loop-call
invariant-loop-call l = out_of l.calls ≡ joined (Some l.written) (out_of (drop l.call-index l.calls))
