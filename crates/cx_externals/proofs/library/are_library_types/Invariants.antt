use Rattle.std.proofs.Common.{◌≡◌, map, drop}
use Rattle.cx_core.specs.Trees.{unqualified}
use Rattle.cx_core.specs.Views.{view_type}
use Rattle.cx_externals.specs.LibraryTypes.{types_of_library}
use Rattle.cx_externals.specs.Functions.{same_lists}
use Rattle.cx_externals.proofs.library.are_library_types.Given as goal

-- what is left answers for all
abbrev pub invariant-loop-one : goal.invariant-loop-one
invariant-loop-one l =
    same_lists (map unqualified (map view_type l.rest)) (types_of_library (drop l.one-index l.known))
    ≡ same_lists (map unqualified (map view_type l.params)) (types_of_library l.known)
