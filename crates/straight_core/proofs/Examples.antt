-- The worked example is typed and linked, and trees that break a condition aren't.
use Rattle.std.proofs.Common.{◌≡◌, pos, true, [], None, rules, arith}
use Rattle.std.proofs.lemmas.Int.{ints}
use Rattle.std.proofs.lemmas.List.Elements.{All-nil, All-cons}
use Rattle.std.specs.List.{IsDistinct}
use Rattle.straight_core.specs.declared.program.Parts.{Parts}
use Rattle.straight_core.specs.Views.{view_program}
use Rattle.straight_core.specs.Examples.{adds_answer, x_object, main_function, putchar_outer, body_stmts, int_type, at_line, number_at, read_at, name_at, two_at}
use Rattle.straight_core.specs.Linked.{IsLinked, IsTypedObject, IsTypedFunction, IsTypedOuter, IsPutOf, known_names}
use Rattle.straight_core.specs.declared.expr.Op2.TheVariants.{Add}
use Rattle.straight_core.specs.Trees.{ty, int, expr, object, load, assign, call, no_exprs, more_exprs, stmt, expression, returns}
use Rattle.straight_core.specs.Typing.{IsScalarType, IsTyped, IsAssignOf, IsTypedStmt, AreTypedStmts}

typed_body : AreTypedStmts adds_answer int_type body_stmts
typed_body = search rules

pub linked : IsLinked adds_answer
unfolding IsDistinct known_names
linked = record {
  objects_differ = search rules;
  functions_differ = search rules;
  names_differ = search rules;
  objects = All-cons (IsTypedObject adds_answer) x_object [] (record {
    scalar = search rules;
    puts = search rules;
  }) (All-nil (IsTypedObject adds_answer));
  functions = All-cons (IsTypedFunction adds_answer) main_function [] (search rules) (All-nil (IsTypedFunction adds_answer));
  externals = All-cons IsTypedOuter putchar_outer [] (record {
    opaque = (tt, All-cons IsScalarType int_type [] (search rules) (All-nil IsScalarType));
    unknown = search rules;
  }) (All-nil IsTypedOuter);
  main_defined = search rules;
  main_typed = search rules;
}

-- parts that stand for the example are linked
pub linked_as : (parts : Parts) → view_program parts ≡ adds_answer → IsLinked (view_program parts)
linked_as parts same = rw same linked

-- ---- trees that aren't typed

-- an lvalue is no value: the operands of `x + 5` are loaded first
unloaded : IsTyped adds_answer (two_at 4 Add (name_at 4) (number_at 4 (pos 5))) → ⊥
unloaded typed = typed.0

-- a value is no lvalue: `5 = 6`
stored_in_value : IsTyped adds_answer (expr int_type (at_line 4) (assign (number_at 4 (pos 5)) (number_at 4 (pos 6)))) → ⊥
stored_in_value typed = typed.0

-- 2147483648 is no `int`
large_constant : IsTyped adds_answer (number_at 4 (pos 2147483648)) → ⊥
large_constant typed = omega (arith, ints, typed.in_range)

-- the object 1 isn't there
undeclared : IsTyped adds_answer (expr int_type (at_line 4) (load (expr int_type (at_line 4) (object 1)))) → ⊥
undeclared typed = cc typed.0.0

-- a call with two arguments, of a function that takes one, and with none
two_arguments : IsTyped adds_answer (expr int_type (at_line 4) (call 1 (more_exprs (number_at 4 (pos 1)) (more_exprs (number_at 4 (pos 2)) no_exprs)))) → ⊥
two_arguments typed = cc typed.1.1.1.1.0

no_argument : IsTyped adds_answer (expr int_type (at_line 4) (call 1 no_exprs)) → ⊥
no_argument typed = typed.1.1.1

-- a statement `x;` whose value isn't converted to `void`
unconverted : IsTypedStmt adds_answer int_type (stmt (at_line 4) [] (expression (read_at 4))) → ⊥
unconverted typed = cc typed.1.1

-- `return;` in a function that gives an `int`
no_value : IsTypedStmt adds_answer int_type (stmt (at_line 4) [] (returns None)) → ⊥
no_value typed = cc typed.1

-- a `const` object isn't stored in
const_target : IsAssignOf int_type (ty int true) int_type → ⊥
const_target typed = cc typed.modifiable

-- a value is stored inside its object
put_outside : IsPutOf adds_answer int_type (record { byte = 1; bit = 0; width = 0 }) int_type (number_at 2 (pos 60)) → ⊥
put_outside typed = omega (arith, typed.inside)
