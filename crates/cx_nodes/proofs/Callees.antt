-- What is called, by its form.
use Rattle.std.proofs.Common.{◌≡◌, rules, refl, Bool, true, false}
use Rattle.std.specs.Prelude.{List, Option, None, Some}
use Rattle.cr_base.specs.declared.refusal.Place.{Place as TextPlace}
use Rattle.cx_core.specs.declared.ty.FunctionTy.{FunctionTy, fold_out-FunctionTy}
use Rattle.cx_core.specs.Trees.{CTypes, CTyForm, void, basic, enum_type, pointer, array, record_type, function, CExprs, CExpr, expr, whole, null, object, code, load, deref, member, address, convert, unary, binary, and, or, cond, assign, assign_by, step, call, call_by, comma, literal}
use Rattle.cx_core.specs.Views.{view_type, view_params, view_function_type}
use Rattle.cx_nodes.specs.Calls.{called_number, call_with}
use Rattle.cx_pairs.specs.Callees.{callee_form}
use Rattle.cx_rules.specs.Meanings.{call_form, call_as, trailing_as}
use Rattle.cx_rules.specs.Operands.{COperand}

pub by_number : (by_name : Bool) (callee : CExpr) (args : CExprs) → call_form by_name callee args ≡ call_with (called_number by_name callee) callee args
by_number true (expr type place (whole value)) args = refl
by_number true (expr type place null) args = refl
by_number true (expr type place (object number)) args = refl
by_number true (expr type place (code number)) args = refl
by_number true (expr type place (load from)) args = refl
by_number true (expr type place (deref from)) args = refl
by_number true (expr type place (member of spot)) args = refl
by_number true (expr type place (address of)) args = refl
by_number true (expr type place (convert value)) args = refl
by_number true (expr type place (unary op value)) args = refl
by_number true (expr type place (binary op left right)) args = refl
by_number true (expr type place (and left right)) args = refl
by_number true (expr type place (or left right)) args = refl
by_number true (expr type place (cond test first second)) args = refl
by_number true (expr type place (assign target value)) args = refl
by_number true (expr type place (assign_by op computes target value)) args = refl
by_number true (expr type place (step up post on)) args = refl
by_number true (expr type place (call other others)) args = refl
by_number true (expr type place (call_by other others)) args = refl
by_number true (expr type place (comma left right)) args = refl
by_number true (expr type place (literal number puts)) args = refl
by_number false callee args = refl

pub by_callee : (at : TextPlace) (types : CTypes) (by_name : Bool) (callee : COperand) (args : List COperand) (form : Option CTyForm)
    → call_as at types by_name callee args form ≡ call_as at types by_name callee args (callee_form form)
by_callee at types by_name callee args None = refl
by_callee at types by_name callee args (Some void) = refl
by_callee at types by_name callee args (Some (basic which)) = refl
by_callee at types by_name callee args (Some (enum_type number)) = refl
by_callee at types by_name callee args (Some (pointer to)) = refl
by_callee at types by_name callee args (Some (array element length)) = refl
by_callee at types by_name callee args (Some (record_type number)) = refl
by_callee at types by_name callee args (Some (function result params variadic)) = refl

pub by_called : (types : CTypes) (args : List COperand) (form : Option CTyForm) → trailing_as types args form ≡ trailing_as types args (callee_form form)
by_called types args None = refl
by_called types args (Some void) = refl
by_called types args (Some (basic which)) = refl
by_called types args (Some (enum_type number)) = refl
by_called types args (Some (pointer to)) = refl
by_called types args (Some (array element length)) = refl
by_called types args (Some (record_type number)) = refl
by_called types args (Some (function result params variadic)) = refl

pub function_view : (f : FunctionTy) → view_function_type f ≡ function (view_type f.result_ty) (view_params f.params) f.is_variadic
function_view f = search (rules, fold_out-FunctionTy)
