-- The kinds of three forms, by those of their operands.
use Rattle.std.specs.Prelude.{ℕ, List, ◌&&◌, Option, Some, None, option_and_then, if◌then◌else◌}
use Rattle.rs_text.specs.Tree.{Ty, Tys, OptionTy, Pointer, Code, ModuleTree, Expr, Wrapped, Offset, OffsetFrom, Binary, And, Or, Choose, Exprs, option_ty}
use Rattle.rs_mean.specs.Lookups.{Signature}
use Rattle.rs_mean.specs.Typing.{Kind, Scope, args_fit, given_kind, is_code, is_function_of, is_of_type, is_target, only_if, own_function_at, type_stands}

-- the address of a place
abbrev pub address_kind : Option Ty → Option Kind
address_kind found = option_and_then (λ ty. only_if (is_target ty) (Pointer ty)) found

-- a function pointer as one of another type
abbrev pub transmute_kind : List ModuleTree → Ty → Ty → Option Kind → Option Kind
transmute_kind modules from to kind =
    only_if (is_code from && is_code to && type_stands modules from && type_stands modules to && is_of_type from kind) to

-- the address of a function
abbrev pub function_kind : List ModuleTree → List ℕ → List ℕ → Tys → OptionTy → Option Kind
function_kind modules m x params result =
    only_if (type_stands modules (Code params result) && is_function_of params result (own_function_at modules m x)) (Code params result)

-- what a call gives
abbrev pub call_kind : Scope → Option Signature → Exprs → Option Kind
call_kind scope None args = None
call_kind scope (Some types) args = if args_fit scope types.params types.variadic args then given_kind (option_ty types.result) else None

-- a kind, of an expression with two operands or more alone
abbrev pub where_several : Expr → Option Kind → Option Kind
where_several (Wrapped e op arg) kind = kind
where_several (Offset e arg) kind = kind
where_several (OffsetFrom e arg) kind = kind
where_several (Binary left op right) kind = kind
where_several (And left right) kind = kind
where_several (Or left right) kind = kind
where_several (Choose condition if_true if_false) kind = kind
where_several _ kind = None
