use Rattle.std.proofs.Common.{◌∙◌, sym, map}
use Rattle.cx_breaks.proofs.CallRules.{unassignable_by_list}
use Rattle.cx_core.specs.Views.{view_type, view_types}
use Rattle.cx_operands.specs.Views.{view_operand}
use Rattle.cx_breaks.proofs.calls.some_unassignable.Goals as goal

pub returns : goal.returns
returns c =
    c.some_unfit.ensures ∙ sym (unassignable_by_list (view_types c.args.types.now) (map view_type c.args.params.now) (map view_operand c.args.args.now))
