-- Expressions whose bit-fields are those of the profile (ISO C99, 6.7.2.1p3, p9).
use Rattle.cx_core.specs.Trees.{CExpr, expr, CForm, whole, null, object, code, load, deref, member, address, convert, unary, binary, and, or, cond, assign, assign_by, step, call, call_by, comma, literal, CExprs, no_exprs, more_exprs, CPut, put, CPuts, no_puts, more_puts}
use Rattle.lift_stores.specs.Fits.{Fits}

abbrev mutual
  -- each bit-field that an expression names is one of the profile
  pub FieldsFit : CExpr → Type 0
  FieldsFit (expr type place form) = FormFits form

  pub FormFits : CForm → Type 0
  FormFits (whole value) = Unit {0}
  FormFits null = Unit {0}
  FormFits (object number) = Unit {0}
  FormFits (code number) = Unit {0}
  FormFits (load from) = FieldsFit from
  FormFits (deref from) = FieldsFit from
  FormFits (member of spot) = Fits spot × FieldsFit of
  FormFits (address of) = FieldsFit of
  FormFits (convert value) = FieldsFit value
  FormFits (unary op value) = FieldsFit value
  FormFits (binary op left right) = FieldsFit left × FieldsFit right
  FormFits (and left right) = FieldsFit left × FieldsFit right
  FormFits (or left right) = FieldsFit left × FieldsFit right
  FormFits (cond test first second) = FieldsFit test × (FieldsFit first × FieldsFit second)
  FormFits (assign target value) = FieldsFit target × FieldsFit value
  FormFits (assign_by op computes target value) = FieldsFit target × FieldsFit value
  FormFits (step up post on) = FieldsFit on
  FormFits (call callee args) = ArgsFit args
  FormFits (call_by callee args) = FieldsFit callee × ArgsFit args
  FormFits (comma first second) = FieldsFit first × FieldsFit second
  FormFits (literal number puts) = PutsFit puts

  pub ArgsFit : CExprs → Type 0
  ArgsFit no_exprs = Unit {0}
  ArgsFit (more_exprs first others) = FieldsFit first × ArgsFit others

  pub PutFits : CPut → Type 0
  PutFits (put spot type value) = Fits spot × FieldsFit value

  pub PutsFit : CPuts → Type 0
  PutsFit no_puts = Unit {0}
  PutsFit (more_puts first others) = PutFits first × PutsFit others
