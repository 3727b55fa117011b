-- Trees that break a condition aren't typed.
use Rattle.std.proofs.Common.{◌≡◌, inl, inr, ℕ, zero, suc, pos, true, false, List, [], ◌∷◌, Option, Some, None, refl, ap, arith, codes}
use Rattle.std.proofs.lemmas.Int.{ints}
use Rattle.std.specs.List.{Contains, IsDistinct}
use Rattle.cx_core.specs.declared.expr.Op2.TheVariants.{Add, Less}
use Rattle.cx_core.specs.declared.ty.Basic.TheVariants.{Truth, Char, Int, Unsigned}
use Rattle.cx_core.specs.Examples.{example, s_types, int_type, void_type, to_int, at_line, byte_at, b_spot, number_at, i_at, x_at, sum_type}
use Rattle.cx_core.specs.Layouts.{layouts_of}
use Rattle.cx_core.specs.Linked.{home_of}
use Rattle.cx_core.specs.Statements.{CBody, IsTypedStmt, IsSwitch}
use Rattle.cx_core.specs.Trees.{ty, basic, pointer, array, function, unlisted, listed, no_types, more_types, expr, member, binary, assign, no_exprs, more_exprs, stmt, block, case, expression, continue, break, goto, returns, begin, no_stmts, more_stmts}
use Rattle.cx_core.specs.Typing.{CHome, IsTyped, IsNamed, IsAddressOf, IsConversion, IsBinaryOf, IsAssignOf, IsCallOf, IsLoadOf, IsPutOf}
use Rattle.cx_core.specs.ValidTypes.{IsTypeIn, holds_const, CPart, part_at}

abbrev home : CHome
home = home_of example None 0

-- `i + 5` with an lvalue that isn't loaded
unloaded : IsTyped home (expr int_type (at_line 4) (binary Add (i_at 4) (number_at 4 (pos 5)))) → ⊥
unloaded typed = typed.1.0.1

-- `5 = 6`
stored_in_value : IsTyped home (expr int_type (at_line 4) (assign (number_at 4 (pos 5)) (number_at 4 (pos 6)))) → ⊥
stored_in_value typed = typed.1.0.2

-- 2147483648 is no `int`
large_constant : IsTyped home (number_at 4 (pos 2147483648)) → ⊥
large_constant typed = omega (arith, ints, typed.1.in_range)

-- no object has the number 9, and `i` doesn't live outside its function
undeclared : IsNamed home int_type 9 → ⊥
undeclared named = let h = named.0 in cc

outside_its_block : IsNamed home int_type 2 → ⊥
outside_its_block named = let k = named.1.there in omega (arith, k.1)

-- the address of a bit-field, and of an `int` as a pointer to `struct s`
address_of_bits : IsAddressOf to_int (expr int_type (at_line 9) (member (x_at 9) b_spot)) → ⊥
address_of_bits is = let h = is.no_bits in cc

-- a pointer becomes no `int`, an integer no pointer, and a pointer to an object none to a function
pointer_to_int : IsConversion s_types to_int int_type → ⊥
pointer_to_int is = let h = is.allowed in cc

int_to_pointer : IsConversion s_types int_type to_int → ⊥
int_to_pointer is = is.allowed.0

object_to_function : IsConversion s_types to_int (ty (pointer sum_type) false) → ⊥
object_to_function is = let h = is.allowed.1 in cc

-- a pointer becomes a `_Bool`
pointer_to_truth : IsConversion s_types to_int (ty (basic Truth) false)
pointer_to_truth = record { plain = refl; allowed = refl }

-- `p + p`, and `1 + 1u` without a conversion
two_pointers : IsBinaryOf s_types Add to_int to_int to_int → ⊥
two_pointers (inl common) = let h = common.promoted.0 in cc
two_pointers (inr (inl moved)) = let h = moved.integer in cc
two_pointers (inr (inr moved)) = let h = moved.integer in cc

unconverted : IsBinaryOf s_types Add (ty (basic Unsigned) false) int_type (ty (basic Unsigned) false) → ⊥
unconverted (inl common) = let h = common.left_is in cc
unconverted (inr (inl moved)) = moved.elements
unconverted (inr (inr moved)) = moved.elements

-- `char` operands aren't promoted
unpromoted : IsBinaryOf s_types Less int_type (ty (basic Char) false) (ty (basic Char) false) → ⊥
unpromoted (inl numbers) = let h = numbers.promoted.0 in cc
unpromoted (inr ordered) = let h = ordered.objects in cc

-- a `const int` isn't stored in
const_target : IsAssignOf s_types int_type (ty (basic Int) true) int_type → ⊥
unfolding holds_const
const_target is = let h = is.modifiable.plain in cc

-- an array, and an incomplete record, aren't loaded
loaded_array : IsLoadOf s_types (ty (array int_type (Some 2)) false) (ty (array int_type (Some 2)) false) → ⊥
loaded_array is = is.no_array

-- a call with two arguments of a function that takes one, and with none
two_arguments : IsCallOf s_types int_type (more_exprs (number_at 4 (pos 1)) (more_exprs (number_at 4 (pos 2)) no_exprs)) (function int_type (listed (more_types int_type no_types)) false) → ⊥
two_arguments is = let h = is.2.1.0 in cc

no_argument : IsCallOf s_types int_type no_exprs (function int_type (listed (more_types int_type no_types)) false) → ⊥
no_argument is = is.2

-- a call through `()` has no arguments, and may be one of a function with parameters
unlisted_argument : IsCallOf s_types int_type (more_exprs (number_at 4 (pos 1)) no_exprs) (function int_type unlisted false) → ⊥
unlisted_argument is = let h = is.2 in cc

unlisted_call : IsCallOf s_types int_type no_exprs (function int_type unlisted false)
unfolding layouts_of
unlisted_call = (refl, refl, refl)

-- an array of no elements, a qualified array, a function that gives an array, and a `void` parameter
no_elements : IsTypeIn s_types 0 (ty (array int_type (Some 0)) false) → ⊥
no_elements is = omega (arith, is.1.length.0)

const_array : IsTypeIn s_types 0 (ty (array int_type None) true) → ⊥
const_array is = let h = is.1.plain in cc

gives_array : IsTypeIn s_types 0 (ty (function (ty (array int_type (Some 2)) false) unlisted false) false) → ⊥
gives_array is = is.1

void_param : IsTypeIn s_types 0 (ty (function int_type (listed (more_types void_type no_types)) false) false) → ⊥
void_param is = is.2.1.1

-- a put that would leave its object
abbrev byte_of : Option CPart → ℕ
byte_of None = 0
byte_of (Some part) = part.spot.byte

leads_outside : (path : List ℕ) → part_at s_types path int_type ≡ Some (record { spot = byte_at 4; type = int_type }) → ⊥
leads_outside [] leads = let same : 0 ≡ 4 = ap byte_of leads in omega (arith, same)
leads_outside (index ∷ path) leads = cc

put_outside : IsPutOf s_types int_type (byte_at 4) int_type int_type → ⊥
put_outside is = leads_outside is.part.path is.part.leads

-- ---- statements

abbrev body : CBody
body = record { home = home; result = int_type; labels = codes "out" ∷ []; in_loop = false; in_switch = None }

continue_outside : IsTypedStmt body [] (stmt (at_line 4) [] continue) → ⊥
continue_outside is = let h = is.1 in cc

case_outside : IsTypedStmt body [] (stmt (at_line 4) [] (case (pos 1) (stmt (at_line 4) [] (expression None)))) → ⊥
case_outside is = let h = is.1.0.0 in cc

only_out : Contains (codes "out" ∷ []) (codes "in") → ⊥
only_out (zero, less, found) = cc
only_out (suc more, less, found) = omega (arith, less)

goto_nowhere : IsTypedStmt body [] (stmt (at_line 4) [] (goto (codes "in"))) → ⊥
goto_nowhere is = only_out is.1

-- `x;` whose value isn't converted to `void`, and `return;` in a function that gives an `int`
undropped : IsTypedStmt body [] (stmt (at_line 4) [] (expression (Some (number_at 4 (pos 1))))) → ⊥
undropped is = let h = is.1.1 in cc

no_value : IsTypedStmt body [] (stmt (at_line 4) [] (returns None)) → ⊥
no_value is = let h = is.1 in cc

-- a declaration that doesn't stand right in the block of its object
declared_elsewhere : IsTypedStmt body [] (stmt (at_line 4) [] (begin 2 None)) → ⊥
declared_elsewhere is = omega (arith, is.1.0.1)

-- two equal cases
equal_cases : IsSwitch int_type (stmt (at_line 4) [] (block (more_stmts (stmt (at_line 4) [] (case (pos 1) (stmt (at_line 4) [] break))) (more_stmts (stmt (at_line 5) [] (case (pos 1) (stmt (at_line 5) [] break))) no_stmts)))) → ⊥
unfolding IsDistinct
equal_cases is = let h = is.cases_differ.0.0 in cc
