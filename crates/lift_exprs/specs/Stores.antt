-- How values are stored: scalars by an assignment, structures and unions as bytes, bit-fields byte by byte (ISO C99, 6.5.2.4, 6.5.3.1, 6.5.16 and 6.7.2.1p9).
use Rattle.std.specs.Prelude.{ℕ, ◌^◌, nat_lt, Bool, true, false, ◌||◌, if◌then◌else◌, pos, List, [], ◌∷◌, Option, Some}
use Rattle.cr_base.specs.declared.layout.Spot.{Spot}
use Rattle.cx_core.specs.Trees.{CTy, CExpr, expr, member, type_of}
use Rattle.cx_core.specs.Typing.{width_of}
use Rattle.cx_core.specs.declared.expr.Op2.{Op2}
use Rattle.cx_core.specs.declared.expr.Op2.TheVariants.{Add, Subtract}
use Rattle.lift_exprs.specs.Names.{Names, type_in}
use Rattle.lift_exprs.specs.Written.{Written, then_takes, then_does, Both, in_turn, temporary_place, place_of_given, address_of_given, copied}
use Rattle.lift_forms.specs.BitFields.{bit_read, bit_write, half, read_type, word}
use Rattle.lift_forms.specs.Given.{Given, nothing, value, address_of}
use Rattle.lift_forms.specs.Operators.{Operand, given_value, constant, binary_form, converted}
use Rattle.lift_held.specs.Held.{is_record}
use Rattle.rs_mean.specs.Scalars.{is_signed_integer}
use Rattle.rs_text.specs.Tree.{Ty, Integer, Boolean, Pointer, Place, Expr, Literal, Read, Cast, Binary, AddressOf, Stmt, Assign}
use Rattle.rs_text.specs.declared.integer.IntegerTy.{IntegerTy}
use Rattle.rs_text.specs.declared.integer.IntegerTy.TheVariants.{I8, I16, I32, I64, U8, U16, U32, U64, Isize}
use Rattle.rs_text.specs.declared.operator.Operator.TheVariants as rust

-- ---- what is stored to

pub data Target : Type 0 where
  a_scalar : Place → Ty → Target
  -- a structure or union, of a size
  a_structure : Place → Ty → (size : ℕ) → Target
  -- a bit-field of a type, at a spot behind an address
  a_field : (base : Expr) → Spot → Ty → Target

abbrev pub whole_target : Names → CTy → Place → Target
whole_target names type p = if is_record type then a_structure p (type_in names type) (names.size_of type) else a_scalar p (type_in names type)

abbrev pub member_target : Names → CTy → Spot → Given → Target
member_target names type spot given =
    if nat_lt 0 spot.width then a_field (address_of_given given) spot (type_in names type) else whole_target names type (place_of_given given)

-- where an lvalue that was written is, which gets a value of a type
abbrev pub target_of : Names → CTy → CExpr → Given → Target
target_of names type (expr own place (member of spot)) given = member_target names type spot given
target_of names type (expr own place form) given = whole_target names type (place_of_given given)

-- ---- bit-fields

abbrev pub is_signed_type : Ty → Bool
is_signed_type (Integer which) = is_signed_integer which
is_signed_type _ = false

-- what a bit-field of a type holds
abbrev pub field_form : (base : Expr) → Spot → Ty → Given
field_form base spot ty =
    converted ty (record { ty = Integer (read_type (is_signed_type ty)); given = value (bit_read base spot (is_signed_type ty)) })

-- as many low bits of a number as a bit-field has
abbrev pub low_bits : Spot → Expr → Expr
low_bits spot e = Binary (Cast e (Integer U64)) rust.Rem (word (2 ^ spot.width))

abbrev pub signed_low_bits : Spot → Expr → Expr
signed_low_bits spot e =
    Binary (Cast (Binary (Binary (low_bits spot e) rust.Add (word (half spot))) rust.Rem (word (2 ^ spot.width))) (Integer I64)) rust.Sub (Literal (pos (half spot)) I64)

-- what a bit-field of a type holds behind the store of a value of that type: that is the value of the assignment (6.5.16p3)
abbrev pub narrowed : Spot → Ty → Expr → Expr
narrowed spot (Integer which) e = if is_signed_integer which then Cast (signed_low_bits spot e) (Integer which) else Cast (low_bits spot e) (Integer which)
narrowed spot ty e = e

-- ---- stores

-- what is stored: a value, or the address of a structure or union
abbrev pub stored_value : Target → Given → Expr
stored_value (a_scalar p ty) given = given_value given
stored_value (a_structure p ty size) given = address_of_given given
stored_value (a_field base spot ty) given = given_value given

-- the store of a value
abbrev pub stores : Target → Expr → List Stmt
stores (a_scalar p ty) e = Assign p e ∷ []
stores (a_structure p ty size) e = copied e (address_of p) size ∷ []
stores (a_field base spot ty) e = bit_write base spot e

-- ---- assignments

abbrev pub target_type : Target → Ty
target_type (a_scalar p ty) = ty
target_type (a_structure p ty size) = ty
target_type (a_field base spot ty) = ty

-- a value of a target's type gets to a temporary, and what that gives
abbrev pub taken : Place → Target → Expr → Stmt
taken temporary (a_scalar p ty) e = Assign temporary e
taken temporary (a_structure p ty size) e = copied e (AddressOf temporary) size
taken temporary (a_field base spot ty) e = Assign temporary e

abbrev pub taken_value : Place → Target → Expr
taken_value temporary (a_scalar p ty) = Read temporary
taken_value temporary (a_structure p ty size) = AddressOf temporary
taken_value temporary (a_field base spot ty) = Read temporary

-- what is stored where its value is used: in a bit-field that is what it then holds
abbrev pub settled : (used : Bool) → Target → Expr → Expr
settled true (a_field base spot ty) e = narrowed spot ty e
settled used target e = e

abbrev pub given_where : (used : Bool) → Expr → Given
given_where used e = if used then value e else nothing

-- a value is held and stored
abbrev pub held_store : Names → (used : Bool) → Target → Expr → Written → Written
held_store names used target e one =
    let temporary = temporary_place names one.next in
    then_takes (target_type target) (taken temporary target (settled used target e) ∷ stores target (taken_value temporary target))
    (given_where used (taken_value temporary target)) one

-- and here it is just stored
abbrev pub plain_store : Target → Expr → Written → Written
plain_store target e one = then_does (stores target e) nothing one

abbrev pub is_field : Target → Bool
is_field (a_field base spot ty) = true
is_field _ = false

-- what was computed is stored, and given where it is used (6.5.16p3): what a bit-field gets is held in any case
abbrev pub stored : Names → (used : Bool) → Target → Expr → Written → Written
stored names used target e one = if used || is_field target then held_store names used target e one else plain_store target e one

-- a simple assignment (6.5.16.1)
abbrev pub assigned : Names → (used : Bool) → CTy → CExpr → Both → Written
assigned names used type to two =
    let target = target_of names type to two.first.given in
    stored names used target (stored_value target two.second.given) (in_turn two nothing)

-- ---- `op=`, `++` and `--`

-- what the target holds before
abbrev pub old_value : Target → Given
old_value (a_scalar p ty) = value (Read p)
old_value (a_structure p ty size) = nothing
old_value (a_field base spot ty) = field_form base spot ty

-- an operator between what the target held and another operand, computed in a type (6.5.16.2p3)
pub record Change : Type 0 where
  pub op : Op2
  pub computes : Ty
  pub right : Operand

abbrev pub left_operand : Change → Ty → Given → Operand
left_operand change ty old = record { ty = change.computes; given = converted change.computes (record { ty = ty; given = old }) }

abbrev pub computed_by : Change → Operand → Operand
computed_by change left = record { ty = change.computes; given = binary_form change.op left change.right }

-- what a value of a type becomes
abbrev pub changed : Change → Ty → Given → Expr
changed change ty old = given_value (converted ty (computed_by change (left_operand change ty old)))

-- `op=`, or `++` or `--` in front of its operand: the new value is given
abbrev pub changed_first : Names → (used : Bool) → Target → Change → Written → Written
changed_first names used target change one = stored names used target (changed change (target_type target) (old_value target)) one

-- the old value is held, and then the new one is stored
abbrev pub changed_behind : Names → Target → Change → Written → Written
changed_behind names target change one =
    let temporary = temporary_place names one.next in
    then_takes (target_type target)
    (Assign temporary (given_value (old_value target)) ∷ stores target (changed change (target_type target) (value (Read temporary))))
    (value (Read temporary)) one

-- behind its operand: where its value is used that is the old one (6.5.2.4p2)
abbrev pub stepped : Names → (used post : Bool) → Target → Change → Written → Written
stepped names true true target change one = changed_behind names target change one
stepped names used post target change one = changed_first names used target change one

-- a compound assignment
abbrev pub assigned_by : Names → (used : Bool) → CTy → Op2 → (computes : CTy) → CExpr → CExpr → Both → Written
assigned_by names used type op computes to from two =
    changed_first names used (target_of names type to two.first.given)
    (record { op = op; computes = type_in names computes; right = record { ty = type_in names (type_of from); given = two.second.given } })
    (in_turn two nothing)

-- the promoted type of an integer, or of a bit-field of a width (6.3.1.1p2)
abbrev pub promoted_integer : IntegerTy → Option ℕ → IntegerTy
promoted_integer I8 width = I32
promoted_integer I16 width = I32
promoted_integer U8 width = I32
promoted_integer U16 width = I32
promoted_integer U32 (Some width) = if nat_lt width 32 then I32 else U32
promoted_integer which width = which

abbrev pub promoted_type : Ty → Option ℕ → Ty
promoted_type (Integer which) width = Integer (promoted_integer which width)
promoted_type Boolean width = Integer I32
promoted_type ty width = ty

-- one more, or one less: of a pointer by one element
abbrev pub one_of : Ty → Operand
one_of (Pointer target) = record { ty = Integer Isize; given = value (Literal (pos 1) Isize) }
one_of ty = record { ty = ty; given = value (constant ty (pos 1)) }

abbrev pub up_or_down : Bool → Op2
up_or_down true = Add
up_or_down false = Subtract

abbrev pub step_by_one : (up : Bool) → Ty → Change
step_by_one up computes = record { op = up_or_down up; computes = computes; right = one_of computes }

abbrev pub stepped_by_one : Names → CTy → (used up post : Bool) → CExpr → Written → Written
stepped_by_one names type used up post on one =
    let target = target_of names type on one.given in
    stepped names used post target (step_by_one up (promoted_type (target_type target) (width_of on))) one
