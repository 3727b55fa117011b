-- What questions about types are asked with: the types of a unit, and their layouts.
use Rattle.cx_core.specs.Trees.{CTypes}
use Rattle.cx_core.specs.Views.{view_types}
use Rattle.cx_layout.specs.Calls.{AreLayoutsOf}
use Rattle.cx_kinds.specs.declared.known.Known.{Known}

-- the types of a unit
abbrev pub types_in : Known → CTypes
types_in known = view_types known.types.now

-- the layouts are those of the types
abbrev pub IsKnown : Known → Type 0
IsKnown known = AreLayoutsOf (types_in known) known.layouts.now
