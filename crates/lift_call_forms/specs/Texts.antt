-- What is written for calls, by itself: the types of its temporaries are kept with their names.
use Rattle.std.specs.Prelude.{ℕ, Bool, not, ◌&&◌, if◌then◌else◌, List, [], ◌∷◌}
use Rattle.cx_core.specs.Trees.{CTy}
use Rattle.lift_exprs.specs.Calls.{Argument, Called, result_type, result_argument}
use Rattle.lift_exprs.specs.Names.{Names, type_in}
use Rattle.lift_exprs.specs.Written.{temporary_place}
use Rattle.lift_forms.specs.Given.{nothing, value}
use Rattle.lift_forms.specs.Operators.{as_type}
use Rattle.lift_held.specs.Held.{is_void, is_record}
use Rattle.lift_stores.specs.Texts.{then_does, then_takes}
use Rattle.lift_stores.specs.Views.{Text}
use Rattle.rs_text.specs.Tree.{AddressOf, Eval}

-- a pointer to the temporary of a number, as an argument
abbrev pub result_argument_at : Names → CTy → (number : ℕ) → Argument
result_argument_at names type number = result_argument (type_in names type) (AddressOf (temporary_place names number))

-- the result goes to a temporary, to which a first argument points
abbrev pub called_for_record : Names → CTy → Called → List Argument → Text → Text
called_for_record names type called args one =
    let address = AddressOf (temporary_place names one.next) in
    then_takes (Eval (called.call (result_argument (type_in names type) address ∷ args)) ∷ []) (value address) one

abbrev pub called_for_value : Names → CTy → Called → List Argument → Text → Text
called_for_value names type called args one =
    record { body = one.body; given = value (as_type (result_type called.result) (type_in names type) (called.call args)); next = one.next }

-- its value isn't used, or there is none
abbrev pub called_alone : Called → List Argument → Text → Text
called_alone called args one = then_does (Eval (called.call args) ∷ []) nothing one

abbrev pub called_with : Names → (used : Bool) → CTy → Called → List Argument → Text → Text
called_with names used type called args one =
    if is_record type then called_for_record names type called args one
    else (if used && not (is_void type) then called_for_value names type called args one else called_alone called args one)
