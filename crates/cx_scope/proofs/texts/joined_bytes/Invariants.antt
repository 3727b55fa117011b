use Rattle.std.proofs.Common.{◌≡◌, ◌++◌, drop}
use Rattle.cx_rules.specs.Initial.{joined_bytes}
use Rattle.cx_scope.proofs.texts.joined_bytes.Given as goal

-- what was joined, and what the parts that are left give
abbrev pub invariant-loop-part : goal.invariant-loop-part
invariant-loop-part l = l.joined.items ++ joined_bytes (drop l.part-index l.parts) ≡ joined_bytes l.parts
