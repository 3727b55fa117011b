use Rattle.std.proofs.Common.{◌≡◌, drop}
use Rattle.std_host.specs.Formats.{formatted}
use Rattle.std_host.specs.Printing.{continued}
use Rattle.std_host.proofs.printing.formatted.Given as goal

-- what comes of the whole is what comes of the bytes that are left
abbrev pub invariant-loop-byte : goal.invariant-loop-byte
invariant-loop-byte l = formatted l.format l.args ≡ continued l.printing (drop l.byte-index l.format)
