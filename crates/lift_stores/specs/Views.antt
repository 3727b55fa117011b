-- What a value of the declared types says of what is written for an expression.
use Rattle.std.specs.Prelude.{ℕ, List, map}
use Rattle.lift_exprs.specs.Stores as stores
use Rattle.lift_exprs.specs.Written as spec
use Rattle.lift_forms.specs.Given.{Given}
use Rattle.lift_forms_code.specs.Views.{given_view, operand_view}
use Rattle.lift_stores.specs.declared.assigning.Change.{Change}
use Rattle.lift_stores.specs.declared.kinds.NodeKind.{NodeKind}
use Rattle.lift_stores.specs.declared.assigning.Change.{Change}
use Rattle.lift_stores.specs.declared.kinds.NodeKind.TheVariants as node
use Rattle.lift_stores.specs.declared.targets.Target.{Target}
use Rattle.lift_stores.specs.declared.targets.Target.TheVariants as to
use Rattle.lift_stores.specs.declared.written.Written.{Written}
use Rattle.rs_text.specs.Tree.{Stmt}
use Rattle.rs_tree.specs.Views.{ty_view, place_view, expr_view, stmt_view}

-- what is written, by itself: the types of its temporaries are kept with their names
pub record Text : Type 0 where
  pub body : List Stmt
  pub given : Given
  pub next : ℕ

abbrev pub text_of : spec.Written → Text
text_of one = record { body = one.body; given = one.given; next = one.next }

abbrev pub text_view : Written → Text
text_view one = record { body = map stmt_view one.body; given = given_view one.given; next = one.next }

abbrev pub kind_view : NodeKind → spec.NodeKind
kind_view (node.Value ty) = spec.a_value (ty_view ty)
kind_view (node.Record ty size) = spec.a_record (ty_view ty) size
kind_view (node.Place ty) = spec.a_place (ty_view ty)
kind_view (node.BitField ty) = spec.a_bit_field (ty_view ty)

abbrev pub target_view : Target → stores.Target
target_view (to.Scalar p ty) = stores.a_scalar (place_view p) (ty_view ty)
target_view (to.Structure p ty size) = stores.a_structure (place_view p) (ty_view ty) size
target_view (to.Field base spot ty) = stores.a_field (expr_view base) spot (ty_view ty)

abbrev pub change_view : Change → stores.Change
change_view one = record { op = one.op; computes = ty_view one.computes; right = operand_view one.right_ty one.right }
