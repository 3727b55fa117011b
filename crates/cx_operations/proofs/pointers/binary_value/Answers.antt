use Rattle.cx_access.specs.Views.{view_setting}
use Rattle.cx_work.specs.Views.{view_operand_ty, view_typed}
use Rattle.cx_operations.proofs.Pairs.{by_null}
use Rattle.cx_operations.proofs.pointers.binary_value.Goals as goal

pub returns-in-Null : goal.returns-in-Null
returns-in-Null g c =
    by_null _ (view_setting c.args.setting.now) c.args.op (view_operand_ty c.args.ty) (view_typed c.args.left) (view_typed c.args.right) (g.S.Store.memory c.args.store.now)
    _ c.in-Null.is c.element_of.ensures c.with_pointer.ensures
