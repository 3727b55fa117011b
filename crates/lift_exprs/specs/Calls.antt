-- Calls (ISO C99, 6.5.2.2; the Rust Reference, "Call expressions"): a structure or union is passed by a pointer to it, and is given back in a place to which a first argument points.
use Rattle.std.specs.Prelude.{ℕ, suc, ◌==◌, ◌&&◌, Bool, false, not, if◌then◌else◌, pos, List, [], ◌∷◌, map, length, Option, Some, None, bytes_eq, codes}
use Rattle.cx_core.specs.Trees.{CTy, CExpr, type_of}
use Rattle.lift_exprs.specs.Names.{Names, KeptFunction, function_or, type_in, params_of, result_of}
use Rattle.lift_exprs.specs.Written.{Written, then_gives, then_does, then_takes, temporary_place, address_of_given}
use Rattle.lift_forms.specs.Given.{Given, nothing, value}
use Rattle.lift_forms.specs.Operators.{Operand, as_type, value_of, given_value}
use Rattle.lift_held.specs.Held.{is_void, is_record}
use Rattle.rs_text.specs.Tree.{Ty, Integer, Void, Pointer, Code, Tys, no_tys, more_tys, tys, OptionTy, no_ty, some_ty, Expr, Literal, Call, CallBy, AddressOf, SomeFunction, Transmute, exprs, Eval}
use Rattle.rs_text.specs.declared.integer.IntegerTy.TheVariants.{U64}

-- ---- arguments

pub record Argument : Type 0 where
  pub ty : Ty
  pub passed : Expr

-- a value, or the address of a structure or union
abbrev pub argument_of : Names → CExpr → Given → Argument
argument_of names e given =
    if is_record (type_of e) then record { ty = Pointer (type_in names (type_of e)); passed = address_of_given given }
    else record { ty = type_in names (type_of e); passed = given_value given }

-- arguments, and the statements in front of them
pub record Arguments : Type 0 where
  pub written : Written
  pub list : List Argument

-- each in the type of its parameter; those that follow are passed as they are
abbrev pub as_params : Tys → List Argument → List Expr
as_params no_tys args = map (λ (one : Argument). one.passed) args
as_params (more_tys param params) [] = []
as_params (more_tys param params) (one ∷ others) = as_type one.ty param one.passed ∷ as_params params others

abbrev pub as_they_are : List Argument → List Expr
as_they_are args = map (λ (one : Argument). one.passed) args

-- the type of a pointer to a function that takes just these
abbrev pub code_taking : List Argument → OptionTy → Ty
code_taking args result = Code (tys (map (λ (one : Argument). one.ty) args)) result

abbrev pub count_of : Tys → ℕ
count_of no_tys = 0
count_of (more_tys first others) = suc (count_of others)

-- as many arguments as parameters
abbrev pub are_enough : Tys → List Argument → Bool
are_enough params args = count_of params == length args

-- ---- functions

abbrev pub call_of : KeptFunction → List Argument → Expr
call_of kept args = Call kept.home kept.name (exprs (as_params (params_of kept.ty) args))

-- by a pointer to a function that takes just these arguments: such a call of a function that takes others has no meaning in C, when it is reached (6.5.2.2p6)
abbrev pub call_as : Ty → Expr → List Argument → Expr
call_as ty pointer args = CallBy (Transmute ty (code_taking args (result_of ty)) pointer) (exprs (as_they_are args))

abbrev pub pointer_to : KeptFunction → Expr
pointer_to kept = SomeFunction kept.home kept.name (params_of kept.ty) (result_of kept.ty)

-- a function of the program
abbrev pub call_of_own : KeptFunction → List Argument → Expr
call_of_own kept args = if are_enough (params_of kept.ty) args then call_of kept args else call_as kept.ty (pointer_to kept) args

-- an external function that is called without arguments though its item lists some has an item without parameters beside that
abbrev pub is_bare : KeptFunction → List Argument → Bool
is_bare kept [] = not (count_of (params_of kept.ty) == 0)
is_bare kept (one ∷ others) = false

abbrev pub outer_called : KeptFunction → Option KeptFunction → List Argument → KeptFunction
outer_called kept None args = kept
outer_called kept (Some bare) args = if is_bare kept args then bare else kept

-- in a program with a bit-field member `malloc(n)` is called as `calloc(1, n)`: a bit-field is stored by reading its bytes first
abbrev pub is_malloc : Names → List ℕ → Bool
is_malloc names symbol = names.has_bits && bytes_eq symbol (codes "malloc")

abbrev pub one_item : Argument
one_item = record { ty = Integer U64; passed = Literal (pos 1) U64 }

abbrev pub outer_arguments : Names → List ℕ → List Argument → List Argument
outer_arguments names symbol args = if is_malloc names symbol then one_item ∷ args else args

abbrev pub called_by_symbol : Names → ℕ → KeptFunction → Option (List ℕ) → List Argument → Expr
called_by_symbol names number kept None args = call_of_own kept args
called_by_symbol names number kept (Some symbol) args =
    call_of (outer_called kept (names.bare_functions number) args) (outer_arguments names symbol args)

-- what is called, and the type that it gives
pub record Called : Type 0 where
  pub result : OptionTy
  pub call : List Argument → Expr

-- a call by name
abbrev pub called_by_name : Names → ℕ → Called
called_by_name names number =
    let kept = function_or (names.functions number) in
    record { result = result_of kept.ty; call = called_by_symbol names number kept kept.symbol }

-- a call of what a pointer points to: `...` isn't part of its type, so further arguments make another type of it
abbrev pub call_through : Ty → Expr → List Argument → Expr
call_through ty pointer args =
    if are_enough (params_of ty) args then CallBy pointer (exprs (as_params (params_of ty) args)) else call_as ty pointer args

abbrev pub called_by_pointer : Operand → Called
called_by_pointer pointer = record { result = result_of pointer.ty; call = call_through pointer.ty (value_of pointer) }

-- ---- calls

abbrev pub result_type : OptionTy → Ty
result_type no_ty = Void
result_type (some_ty ty) = ty

abbrev pub result_argument : Ty → Expr → Argument
result_argument ty address = record { ty = Pointer ty; passed = address }

-- the result goes to a temporary, to which a first argument points
abbrev pub called_for_record : Names → CTy → Called → Arguments → Written
called_for_record names type called args =
    let address = AddressOf (temporary_place names args.written.next) in
    then_takes (type_in names type) (Eval (called.call (result_argument (type_in names type) address ∷ args.list)) ∷ []) (value address) args.written

abbrev pub called_for_value : Names → CTy → Called → Arguments → Written
called_for_value names type called args =
    then_gives (value (as_type (result_type called.result) (type_in names type) (called.call args.list))) args.written

-- its value isn't used, or there is none
abbrev pub called_alone : Called → Arguments → Written
called_alone called args = then_does (Eval (called.call args.list) ∷ []) nothing args.written

abbrev pub called_with : Names → (used : Bool) → CTy → Called → Arguments → Written
called_with names used type called args =
    if is_record type then called_for_record names type called args
    else (if used && not (is_void type) then called_for_value names type called args else called_alone called args)
