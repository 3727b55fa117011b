-- Addresses, and what pointers point to, by tests.
use Rattle.std.proofs.Common.{◌≡◌, refl}
use Rattle.std.specs.Prelude.{false, if◌then◌else◌, Option, None, Some}
use Rattle.cr_base.specs.declared.refusal.Place.{Place as TextPlace}
use Rattle.cx_core.specs.Trees.{CTy, CExpr, expr, whole, null, object, code, load, deref, member, address, convert, unary, binary, and, or, cond, assign, assign_by, step, call, call_by, comma, literal}
use Rattle.cx_nodes.specs.Pointers.{address_by, deref_plain}
use Rattle.cx_rules.specs.declared.kinds.OperandKind.TheVariants.{Function, VoidPlace}
use Rattle.cx_rules.specs.Meanings.{address_of_place, deref_as}
use Rattle.cx_rules.specs.Types.{target_is_function, target_is_void}

pub by_deref : (at : TextPlace) (core : CExpr) → address_of_place at core ≡ address_by at core
by_deref at (expr type place (whole value)) = refl
by_deref at (expr type place null) = refl
by_deref at (expr type place (object number)) = refl
by_deref at (expr type place (code number)) = refl
by_deref at (expr type place (load from)) = refl
by_deref at (expr type place (deref from)) = refl
by_deref at (expr type place (member of spot)) = refl
by_deref at (expr type place (address of)) = refl
by_deref at (expr type place (convert value)) = refl
by_deref at (expr type place (unary op value)) = refl
by_deref at (expr type place (binary op left right)) = refl
by_deref at (expr type place (and left right)) = refl
by_deref at (expr type place (or left right)) = refl
by_deref at (expr type place (cond test first second)) = refl
by_deref at (expr type place (assign target value)) = refl
by_deref at (expr type place (assign_by op computes target value)) = refl
by_deref at (expr type place (step up post on)) = refl
by_deref at (expr type place (call callee args)) = refl
by_deref at (expr type place (call_by callee args)) = refl
by_deref at (expr type place (comma left right)) = refl
by_deref at (expr type place (literal number puts)) = refl

pub by_target : (at : TextPlace) (from : CExpr) (target : Option CTy) → deref_as at from target ≡
    (if target_is_function target then record { kind = Function; is_register = false; core = from }
    else if target_is_void target then record { kind = VoidPlace; is_register = false; core = from }
    else deref_plain at from target)
by_target at from None = refl
by_target at from (Some to) = refl
