-- Linkage by what a name meant before (ISO C99, 6.2.2).
use Rattle.std.specs.Prelude.{Option, None, Some, Bool, true, false, not, ◌&&◌, ◌||◌}
use Rattle.cx_core.specs.declared.program.Linkage.{Linkage}
use Rattle.cx_core.specs.declared.program.Linkage.TheVariants.{External, Internal, Nothing}
use Rattle.cx_core.specs.Trees.{CTy, CTypes}
use Rattle.cx_lex.specs.declared.token.Keyword.TheVariants as keyword
use Rattle.cx_rules.specs.Declare.{is_linked, same_linkage}
use Rattle.cx_rules.specs.Scope.{CMeant, an_object, a_function, CThing}
use Rattle.cx_rules.specs.Shapes.{CSpecs, has_storage}
use Rattle.cx_rules.specs.Types.{compatible}

abbrev pub linkage_before : Option CMeant → Linkage
linkage_before (Some (an_object number type is_register linkage)) = linkage
linkage_before (Some (a_function number type linkage)) = linkage
linkage_before _ = Nothing

-- that of the visible declaration, where it has linkage, else external (6.2.2p4)
abbrev pub or_external : Linkage → Linkage
or_external External = External
or_external Internal = Internal
or_external Nothing = External

abbrev pub is_external : Linkage → Bool
is_external External = true
is_external Internal = false
is_external Nothing = false

abbrev pub is_internal : Linkage → Bool
is_internal External = false
is_internal Internal = true
is_internal Nothing = false

-- an object that lives as long as the program
abbrev pub lives_on : Linkage → CSpecs → Bool
lives_on linkage specs = is_linked linkage || has_storage keyword.Static specs

-- ---- declarations that go together (6.2.7, 6.7p3)

-- what has this type and linkage goes with a declaration that gave those
abbrev pub goes_with_one : CTypes → Bool → CTy → Linkage → CTy → Linkage → Bool
goes_with_one types typedef type linkage before other =
    not typedef && (is_linked linkage && (same_linkage linkage other && compatible types type before))

abbrev pub goes_with : CTypes → Bool → CTy → Linkage → CMeant → Bool
goes_with types typedef type linkage (an_object number before is_register other) = goes_with_one types typedef type linkage before other
goes_with types typedef type linkage (a_function number before other) = goes_with_one types typedef type linkage before other
goes_with types typedef type linkage _ = false

abbrev pub clashes_with : CTypes → Bool → CTy → Linkage → Option CMeant → Bool
clashes_with types typedef type linkage None = false
clashes_with types typedef type linkage (Some before) = not (goes_with types typedef type linkage before)
