use Rattle.std_host.specs.Formats.{formatted}
use Rattle.std_host.proofs.PrintingLemmas.{stopped}
use Rattle.std_host.proofs.printing.formatted.Goals as goal

pub returns-then-not-branch : goal.returns-then-not-branch
returns-then-not-branch c =
    stopped (formatted c.args.format.now c.args.args.now) c.args.format.now c.loop-byte.byte-index c.loop-byte.printing c.read.new.self c.in_ok-read.field-0 c.loop-byte-test.true c.loop-byte.invariant c.in_ok-read.ensures c.if-not-branch.true
