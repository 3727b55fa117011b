use Rattle.std.proofs.Common.{◌≡◌, ◌++◌, map, drop}
use Rattle.cx_core.specs.Views.{view_put}
use Rattle.cx_rules.specs.Texts.{byte_puts}
use Rattle.cx_scope.proofs.texts.byte_puts.Given as goal

-- what was made of bytes, and what the bytes that are left give
abbrev pub invariant-loop-index : goal.invariant-loop-index
invariant-loop-index l = map view_put l.puts ++ byte_puts l.place l.index (drop l.index l.bytes) ≡ byte_puts l.place 0 l.bytes
