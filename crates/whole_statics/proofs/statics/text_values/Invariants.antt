use Rattle.std.proofs.Common.{◌≡◌, [], map, drop}
use Rattle.cx_core.specs.Views.{puts_of, view_put}
use Rattle.whole_statics.specs.Statics.{values_behind}
use Rattle.whole_statics.proofs.statics.text_values.Given as goal

abbrev pub invariant-loop-one : goal.invariant-loop-one
invariant-loop-one l = values_behind (puts_of (map view_put (drop l.one-index l.puts))) l.values ≡ values_behind (puts_of (map view_put l.puts)) []
