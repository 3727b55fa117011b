-- Addresses, by whether they are of what a pointer points to. Named by the contracts of parts alone.
use Rattle.std.specs.Prelude.{Bool, true, false, if◌then◌else◌, Option, None, Some}
use Rattle.cr_base.specs.declared.refusal.Place.{Place as TextPlace}
use Rattle.cx_core.specs.Trees.{CTy, ty, pointer, CExpr, expr, CForm, deref, address, type_of}
use Rattle.cx_rules.specs.Meanings.{no_meaning}
use Rattle.cx_rules.specs.Operands.{COperand, a_place}

abbrev is_deref_form : CForm → Bool
is_deref_form (deref from) = true
is_deref_form _ = false

-- it is what a pointer points to
abbrev pub is_deref : CExpr → Bool
is_deref (expr type place form) = is_deref_form form

-- the pointer behind a `*`
abbrev pub pointer_in : CExpr → CExpr
pointer_in (expr type place (deref from)) = from
pointer_in core = core

-- the address of an lvalue, by whether it is what a pointer points to
abbrev pub address_by : TextPlace → CExpr → CExpr
address_by at core = if is_deref core then pointer_in core else expr (ty (pointer (type_of core)) false) at (address core)

-- the object to which a pointer points
abbrev pub deref_plain : TextPlace → CExpr → Option CTy → COperand
deref_plain at from None = no_meaning at
deref_plain at from (Some to) = a_place false (expr to at (deref from))
