-- What stored values and the objects that are initialised stand for.
use Rattle.std.specs.Prelude.{map, option_map}
use Rattle.cx_core.specs.Views.{view_type, view_expr, view_puts}
use Rattle.cx_init.specs.declared.puts.Filled.{Filled}
use Rattle.cx_init.specs.declared.stored.Filling.{Filling}
use Rattle.cx_init.specs.declared.stored.Stored.{Stored}
use Rattle.cx_init.specs.declared.stored.Target.{Target}
use Rattle.cx_parts.specs.Views.{view_at}
use Rattle.cx_rules.specs.Initial.{CStored}
use Rattle.cx_rules.specs.Pieces.{CFilled, CFilling, CTarget}

abbrev pub view_stored : Stored → CStored
view_stored one = record { path = one.path; type = view_type one.ty; value = view_expr one.value }

abbrev pub view_filling : Filling → CFilling
view_filling filling = record { stored = map view_stored filling.stored; next = option_map view_at filling.next }

abbrev pub view_target : Target → CTarget
view_target target = record { is_static = target.is_static; base = option_map view_at target.base }

abbrev pub view_filled : Filled → CFilled
view_filled one = record { type = view_type one.ty; puts = view_puts one.puts }
