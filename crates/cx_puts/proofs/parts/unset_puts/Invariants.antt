use Rattle.std.proofs.Common.{◌≡◌, drop, map}
use Rattle.cx_access.specs.Views.{view_setting}
use Rattle.cx_core.specs.Views.{puts_of, view_put}
use Rattle.cx_mean.specs.Initialisers.{unset_puts}
use Rattle.cx_puts.proofs.parts.unset_puts.Given as goal

-- what is left to be done gives what all gives
abbrev pub invariant-loop-put : goal.invariant-loop-put
invariant-loop-put l = unset_puts (view_setting l.setting) (puts_of (map view_put (drop l.put-index l.puts))) l.cells.items ≡ unset_puts (view_setting l.fn.setting) (puts_of (map view_put l.puts)) l.fn.cells.items
