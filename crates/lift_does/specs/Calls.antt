-- What is asked of the calls of an expression, so that they can be written (ISO C99, 6.5.2.2; the Rust Reference, "Items" and "External blocks").
use Rattle.std.specs.Prelude.{◌≡◌, ◌⊎◌, ℕ, false, IsSome}
use Rattle.cx_core.specs.Trees.{CExpr, expr, CForm, whole, null, object, code, load, deref, member, address, convert, unary, binary, and, or, cond, assign, assign_by, step, call, call_by, comma, literal, CExprs, no_exprs, more_exprs, put, CPuts, no_puts, more_puts, type_of}
use Rattle.cx_core.specs.Typing.{function_with}
use Rattle.lift_calls.specs.Programs.{Setting}
use Rattle.lift_does.specs.Outers.{OuterItem, ZeroedItem}
use Rattle.lift_exprs.specs.Names.{Names}
use Rattle.lift_held.specs.Held.{is_void}

-- a function that is called by its name is one that a unit defines, or an external one that the module declares so that it takes these arguments
abbrev pub CalleeMeans : Setting → Names → ℕ → CExprs → Type 0
CalleeMeans s names callee args = IsSome (function_with callee s.program.functions) ⊎ (OuterItem s names callee args ⊎ ZeroedItem s names callee args)

abbrev mutual
  -- so it is with each call in an expression
  pub CallsMean : Setting → Names → CExpr → Type 0
  CallsMean s names (expr type at form) = FormCallsMean s names form

  pub FormCallsMean : Setting → Names → CForm → Type 0
  FormCallsMean s names (whole value) = Unit {0}
  FormCallsMean s names null = Unit {0}
  FormCallsMean s names (object number) = Unit {0}
  FormCallsMean s names (code number) = Unit {0}
  FormCallsMean s names (load from) = CallsMean s names from
  FormCallsMean s names (deref from) = CallsMean s names from
  FormCallsMean s names (member of spot) = CallsMean s names of
  FormCallsMean s names (address of) = CallsMean s names of
  FormCallsMean s names (convert value) = CallsMean s names value
  FormCallsMean s names (unary op value) = CallsMean s names value
  FormCallsMean s names (binary op left right) = CallsMean s names left × CallsMean s names right
  FormCallsMean s names (and left right) = CallsMean s names left × CallsMean s names right
  FormCallsMean s names (or left right) = CallsMean s names left × CallsMean s names right
  FormCallsMean s names (cond test first second) = CallsMean s names test × CallsMean s names first × CallsMean s names second
  FormCallsMean s names (assign target value) = CallsMean s names target × CallsMean s names value
  FormCallsMean s names (assign_by op computes target value) = CallsMean s names target × CallsMean s names value
  FormCallsMean s names (step up post on) = CallsMean s names on
  FormCallsMean s names (call callee args) = CalleeMeans s names callee args × ArgumentsMean s names args
  FormCallsMean s names (call_by callee args) = CallsMean s names callee × ArgumentsMean s names args
  FormCallsMean s names (comma first second) = CallsMean s names first × CallsMean s names second
  FormCallsMean s names (literal number puts) = PutCallsMean s names puts

  -- arguments have values (6.5.2.2p4); that is said here, since a typed call may be one by a type that lists a parameter of type `void`, which no declaration has (6.7.5.3p10)
  pub ArgumentsMean : Setting → Names → CExprs → Type 0
  ArgumentsMean s names no_exprs = Unit {0}
  ArgumentsMean s names (more_exprs first others) = (is_void (type_of first) ≡ false) × CallsMean s names first × ArgumentsMean s names others

  -- the values of a compound literal
  pub PutCallsMean : Setting → Names → CPuts → Type 0
  PutCallsMean s names no_puts = Unit {0}
  PutCallsMean s names (more_puts (put spot type value) others) = CallsMean s names value × PutCallsMean s names others
