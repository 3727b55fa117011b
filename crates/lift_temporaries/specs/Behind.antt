-- The temporaries of an expression behind others, as they are gone through.
use Rattle.std.specs.Prelude.{Bool, true, false, not, List, [], ◌∷◌, ◌++◌}
use Rattle.cx_core.specs.Trees.{CTy, CExpr, expr, CForm, whole, null, object, code, load, deref, member, address, convert, unary, binary, and, or, cond, assign, assign_by, step, call, call_by, comma, literal, CExprs, no_exprs, more_exprs, CPut, put, CPuts, no_puts, more_puts}
use Rattle.lift_exprs.specs.Names.{Names}
use Rattle.lift_exprs.specs.Written.{kind_in, held_type}
use Rattle.lift_held.specs.Held.{is_void, holds_call, some_holds_call, operand, operand_before, part_of, whole_of, is_held_form, value_for}
use Rattle.lift_held.specs.declared.asked.Asked.{Asked}
use Rattle.lift_stores.specs.Names.{lift_names}
use Rattle.rs_items.specs.Known.{view_names}
use Rattle.rs_items.specs.declared.map.NameMap.{NameMap}
use Rattle.rs_text.specs.Tree.{Ty}

-- the names with which expressions are written
unfoldable pub names_of : NameMap → Names
names_of names = lift_names (view_names names)

abbrev pub own_behind : Bool → Names → CTy → CForm → List Ty → List Ty
own_behind true names type form before = before ++ held_type (kind_in names type form) ∷ []
own_behind false names type form before = before

abbrev mutual
  pub types_behind : Names → Asked → CExpr → List Ty → List Ty
  types_behind names asked (expr type place form) before =
      own_behind (is_held_form asked type form) names type form (types_behind_form names asked type form before)

  pub types_behind_form : Names → Asked → CTy → CForm → List Ty → List Ty
  types_behind_form names asked type (whole value) before = before
  types_behind_form names asked type null before = before
  types_behind_form names asked type (object number) before = before
  types_behind_form names asked type (code number) before = before
  types_behind_form names asked type (load from) before = types_behind names operand from before
  types_behind_form names asked type (deref from) before = types_behind names operand from before
  types_behind_form names asked type (member of spot) before = types_behind names (whole_of spot) of before
  types_behind_form names asked type (address of) before = types_behind names operand of before
  types_behind_form names asked type (convert value) before = types_behind names (part_of (not (is_void type))) value before
  types_behind_form names asked type (unary op value) before = types_behind names operand value before
  types_behind_form names asked type (binary op left right) before = types_behind names operand right (types_behind names (operand_before (holds_call right)) left before)
  types_behind_form names asked type (and left right) before = types_behind names operand right (types_behind names operand left before)
  types_behind_form names asked type (or left right) before = types_behind names operand right (types_behind names operand left before)
  types_behind_form names asked type (cond test first second) before = types_behind names (part_of asked.used) second (types_behind names (part_of asked.used) first (types_behind names operand test before))
  types_behind_form names asked type (assign target value) before = types_behind names operand value (types_behind names (operand_before (holds_call value)) target before)
  types_behind_form names asked type (assign_by op computes target value) before = types_behind names operand value (types_behind names (operand_before (holds_call value)) target before)
  types_behind_form names asked type (step up post on) before = types_behind names operand on before
  types_behind_form names asked type (call callee args) before = types_behind_args names args before
  types_behind_form names asked type (call_by callee args) before = types_behind_args names args (types_behind names (operand_before (some_holds_call args)) callee before)
  types_behind_form names asked type (comma first second) before = types_behind names (part_of asked.used) second (types_behind names (part_of false) first before)
  types_behind_form names asked type (literal number puts) before = types_behind_puts names puts before

  pub types_behind_args : Names → CExprs → List Ty → List Ty
  types_behind_args names no_exprs before = before
  types_behind_args names (more_exprs first others) before =
      types_behind_args names others (types_behind names (operand_before (some_holds_call others)) first before)

  pub types_behind_put : Names → CPut → List Ty → List Ty
  types_behind_put names (put spot type value) before = types_behind names (value_for spot) value before

  pub types_behind_puts : Names → CPuts → List Ty → List Ty
  types_behind_puts names no_puts before = before
  types_behind_puts names (more_puts first others) before = types_behind_puts names others (types_behind_put names first before)

-- those of the parts of a node
abbrev pub types_behind_parts : Names → Asked → CExpr → List Ty → List Ty
types_behind_parts names asked (expr type place form) before = types_behind_form names asked type form before
