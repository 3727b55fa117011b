-- What the things that an expression of C names have become in the crate (ISO C99, 6.2.1; the Rust Reference, "Paths").
use Rattle.std.specs.Prelude.{ℕ, Bool, List, [], Option, Some, None}
use Rattle.std.specs.Option.{option_and_then}
use Rattle.cx_core.specs.Trees.{CTy, CTyForm, record_type, form_of_type}
use Rattle.lift_forms.specs.Places.{Kept}
use Rattle.rs_items.specs.Known.{MemberField}
use Rattle.rs_items.specs.Types.{TypeNames, rust_type}
use Rattle.rs_items_fields.specs.Fields.{name_at}
use Rattle.rs_text.specs.Tree.{Ty, Void, Pointer, Code, Tys, no_tys, OptionTy, no_ty, Local}

-- a function, as an item of the crate
pub record KeptFunction : Type 0 where
  pub home : List ℕ
  pub name : List ℕ
  -- the type of a pointer to it
  pub ty : Ty
  -- its name in C, where no unit defines it
  pub symbol : Option (List ℕ)

pub record Names : Type 0 where
  -- objects, functions and the members of structures and unions, by the numbers that they have in C
  pub objects : ℕ → Option Kept
  pub functions : ℕ → Option KeptFunction
  -- the second item of an external function, without parameters, for calls without arguments
  pub bare_functions : ℕ → Option KeptFunction
  pub fields : ℕ → Option (List MemberField)
  pub types : TypeNames
  -- the size of a type in bytes
  pub size_of : CTy → ℕ
  -- the name of a temporary, by its number
  pub temporary : ℕ → List ℕ
  -- the program has a bit-field member
  pub has_bits : Bool

-- ---- types

abbrev pub type_in : Names → CTy → Ty
type_in names type = rust_type names.types type

-- where a pointer points to
abbrev pub pointed_type : Ty → Ty
pointed_type (Pointer target) = target
pointed_type _ = Void

abbrev pub params_of : Ty → Tys
params_of (Code params result) = params
params_of _ = no_tys

abbrev pub result_of : Ty → OptionTy
result_of (Code params result) = result
result_of _ = no_ty

-- ---- members

abbrev pub number_in_form : CTyForm → ℕ
number_in_form (record_type number) = number
number_in_form _ = 0

abbrev pub record_number : CTy → ℕ
record_number type = number_in_form (form_of_type type)

-- the field of a member of a structure or union
abbrev pub field_in : Names → (holder : CTy) → (byte : ℕ) → Ty → Option (List ℕ)
field_in names holder byte ty = option_and_then (name_at byte ty) (names.fields (record_number holder))

-- ---- things

-- each object that an expression names is kept
abbrev pub kept_or : Option Kept → Kept
kept_or None = record { place = Local []; ty = Void }
kept_or (Some kept) = kept

-- and each function
abbrev pub function_or : Option KeptFunction → KeptFunction
function_or None = record { home = []; name = []; ty = Void; symbol = None }
function_or (Some kept) = kept
