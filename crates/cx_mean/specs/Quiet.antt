-- Expressions that call nothing (ISO C99, 6.5.2.2): what their marks don't say that they wrote stays (Unwritten.antt).
use Rattle.std.specs.Prelude.{Bool, true, false, ◌&&◌}
use Rattle.cx_core.specs.Trees.{CExpr, expr, CForm, whole, null, object, code, load, deref, member, address, convert, unary, binary, and, or, cond, assign, assign_by, step, call, call_by, comma, literal, CPut, put, CPuts, no_puts, more_puts}

abbrev mutual
  -- no call stands in an expression, of a function of the library either
  pub calls_nothing : CExpr → Bool
  calls_nothing (expr type place form) = form_calls_nothing form

  pub form_calls_nothing : CForm → Bool
  form_calls_nothing (whole value) = true
  form_calls_nothing null = true
  form_calls_nothing (object number) = true
  form_calls_nothing (code number) = true
  form_calls_nothing (load from) = calls_nothing from
  form_calls_nothing (deref from) = calls_nothing from
  form_calls_nothing (member of spot) = calls_nothing of
  form_calls_nothing (address of) = calls_nothing of
  form_calls_nothing (convert value) = calls_nothing value
  form_calls_nothing (unary op value) = calls_nothing value
  form_calls_nothing (binary op left right) = calls_nothing left && calls_nothing right
  form_calls_nothing (and left right) = calls_nothing left && calls_nothing right
  form_calls_nothing (or left right) = calls_nothing left && calls_nothing right
  form_calls_nothing (cond test first second) = calls_nothing test && calls_nothing first && calls_nothing second
  form_calls_nothing (assign target value) = calls_nothing target && calls_nothing value
  form_calls_nothing (assign_by op computes target value) = calls_nothing target && calls_nothing value
  form_calls_nothing (step up post on) = calls_nothing on
  form_calls_nothing (call callee args) = false
  form_calls_nothing (call_by callee args) = false
  form_calls_nothing (comma first second) = calls_nothing first && calls_nothing second
  form_calls_nothing (literal number puts) = puts_call_nothing puts

  pub puts_call_nothing : CPuts → Bool
  puts_call_nothing no_puts = true
  puts_call_nothing (more_puts first others) = put_calls_nothing first && puts_call_nothing others

  pub put_calls_nothing : CPut → Bool
  put_calls_nothing (put spot type value) = calls_nothing value
