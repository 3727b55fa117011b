-- What steps of a declarator ask of the types between them. Named by the contracts of parts alone.
use Rattle.std.specs.Prelude.{ℕ, ◌==◌, Bool, true, false, not, ◌&&◌, ◌||◌, List, [], ◌∷◌, Option, None, Some}
use Rattle.cx_core.specs.Trees.{CTy, CTypes}
use Rattle.cx_rules.specs.Shapes.{CStep, to_pointer, to_array, to_function, has_restrict_fault, has_incomplete_elements, has_function_fault}
use Rattle.cx_rules.specs.Types.{is_function, is_array, has_size}
use Rattle.cx_type_breaks.specs.declared.derivation.Outline.{Outline}
use Rattle.cx_type_breaks.specs.declared.derivation.Faults.{Faults}

abbrev pub outline_of : CTypes → CTy → Outline
outline_of types type = record { is_function = is_function type; is_array = is_array type; has_size = has_size types type }

-- the rules that some step from a type breaks
abbrev pub faults_of : CTypes → CTy → List CStep → Faults
faults_of types type steps = record {
  of_restrict = has_restrict_fault type steps;
  of_elements = has_incomplete_elements types type steps;
  of_functions = has_function_fault type steps;
}

-- ---- by what is asked of the types alone

abbrev pub sized : Option ℕ → Bool → Bool
sized None has = false
sized (Some count) has = not (count == 0) && has

abbrev pub after_by : Outline → CStep → Outline
after_by here (to_pointer is_const is_restrict) = record { is_function = false; is_array = false; has_size = true }
after_by here (to_array length) = record { is_function = false; is_array = true; has_size = sized length here.has_size }
after_by here (to_function params variadic within) = record { is_function = true; is_array = false; has_size = false }

abbrev pub faults_at : Outline → CStep → Faults
faults_at here (to_pointer is_const is_restrict) =
    record { of_restrict = is_restrict && here.is_function; of_elements = false; of_functions = false }
faults_at here (to_array length) =
    record { of_restrict = false; of_elements = not here.is_function && not here.has_size; of_functions = here.is_function }
faults_at here (to_function params variadic within) =
    record { of_restrict = false; of_elements = false; of_functions = here.is_function || here.is_array }

abbrev pub joined : Faults → Faults → Faults
joined one other = record {
  of_restrict = one.of_restrict || other.of_restrict;
  of_elements = one.of_elements || other.of_elements;
  of_functions = one.of_functions || other.of_functions;
}

abbrev pub faults_by : Outline → List CStep → Faults
faults_by here [] = record { of_restrict = false; of_elements = false; of_functions = false }
faults_by here (step ∷ steps) = joined (faults_at here step) (faults_by (after_by here step) steps)
