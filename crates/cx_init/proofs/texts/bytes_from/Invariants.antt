use Rattle.std.proofs.Common.{◌≡◌, ◌++◌, map, drop}
use Rattle.cx_core.specs.Views.{view_type}
use Rattle.cx_parts.specs.Views.{view_at}
use Rattle.cx_rules.specs.Initial.{bytes_from}
use Rattle.cx_init.specs.Views.{view_stored}
use Rattle.cx_kinds.specs.Known.{types_in}
use Rattle.cx_init.proofs.texts.bytes_from.Given as goal

-- the bytes that are left give the rest
abbrev pub invariant-loop-index : goal.invariant-loop-index
invariant-loop-index l =
    map view_stored l.made ++ bytes_from (types_in l.known) l.place (view_at l.at) (view_type l.element) l.length l.index (drop l.index l.bytes)
    ≡ bytes_from (types_in l.known) l.place (view_at l.at) (view_type l.element) l.length 0 l.bytes
