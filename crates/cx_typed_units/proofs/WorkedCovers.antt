-- Worked types: which says all that another one says (ISO C99, 6.2.7p3).
use Rattle.std.specs.Prelude.{◌≡◌, true, false, [], ◌∷◌, Some, None}
use mathlib.Core.Path.{refl}
use Rattle.cx_core.specs.declared.ty.Basic.{Basic}
use Rattle.cx_core.specs.declared.ty.Basic.TheVariants.{Char, Int, Unsigned}
use Rattle.cx_core.specs.Conversions.{same_basic}
use Rattle.cx_core.specs.Trees.{CTy, ty, basic, enum_type, pointer, array, function, CParams, unlisted, listed, no_types, more_types, CTypes}
use Rattle.cx_typed_units.specs.Covers.{Covers}

abbrev plain : Basic → CTy
plain which = ty (basic which) false

-- one enumerated type, which is compatible with `unsigned int`
abbrev types : CTypes
types = record { records = []; record_tags = []; record_units = []; enums = false ∷ []; enum_units = 0 ∷ [] }

abbrev color : CTy
color = ty (enum_type 0) false

-- `int (which)`
abbrev code : CParams → CTy
code params = ty (function (plain Int) params false) false

-- an array with a length, beside one without
sized : Covers types (ty (array (plain Int) (Some 5)) false) (ty (array (plain Int) None) false)
sized = (refl, (tt, (refl, refl)))

not_unsized : Covers types (ty (array (plain Int) None) false) (ty (array (plain Int) (Some 5)) false) → ⊥
not_unsized held = held.1.0

-- an enumerated type, beside its integer type
enumerated : Covers types color (plain Unsigned)
unfolding same_basic
enumerated = (refl, refl)

not_of_int : Covers types color (plain Int) → ⊥
unfolding same_basic
not_of_int held = let h : false ≡ true = held.1 in cc

not_by_unsigned : Covers types (plain Unsigned) color → ⊥
not_by_unsigned held = held.1

-- qualifiers are the same
not_const : Covers types (ty (pointer (ty (basic Int) true)) false) (ty (pointer (plain Int)) false) → ⊥
not_const held = let h : true ≡ false = held.1.0 in cc

-- a parameter list stands for one that is left out, where each parameter takes its argument as it is promoted
listed_int : Covers types (code (listed (more_types (plain Int) no_types))) (code unlisted)
unfolding same_basic
listed_int = (refl, ((refl, refl), (refl, refl)))

not_listed_char : Covers types (code (listed (more_types (plain Char) no_types))) (code unlisted) → ⊥
unfolding same_basic
not_listed_char held = let h : false ≡ true = held.1.1.1 in cc

not_unlisted : Covers types (code unlisted) (code (listed (more_types (plain Int) no_types))) → ⊥
not_unlisted held = held.1.1

-- what parameters are qualified with doesn't count
unqualified_param : Covers types (code (listed (more_types (ty (basic Int) true) no_types))) (code (listed (more_types (plain Int) no_types)))
unqualified_param = (refl, ((refl, refl), (refl, (refl, tt))))
