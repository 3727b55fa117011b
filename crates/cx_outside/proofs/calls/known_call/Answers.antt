use Rattle.std.proofs.Common.{◌∙◌, sym, ap, List, map, Ok, Result}
use Rattle.cx_mean.specs.Calls.{values_of}
use Rattle.cx_mean.specs.Operands.{CWhy}
use Rattle.cx_work.specs.declared.operand.Operand.{Operand}
use Rattle.cx_work.specs.Views.{view_called, view_operand}
use Rattle.mem_bytes.specs.declared.value.Value.{Value}
use Rattle.cx_outside.specs.Effects.{library_view}
use Rattle.cx_outside.proofs.Opaque.{known_by}
use Rattle.cx_outside.proofs.calls.known_call.Goals as goal

abbrev found : List Value → Result (List Value) CWhy
found values = Ok values

pub returns-clause-calls : goal.returns-clause-calls
returns-clause-calls g c = λ host.
    known_by (view_called c.args.called.now) (library_view c.args.which).does c.as_slice-2.result.now _ _ c.library_call.result
    (ap (λ (list : List Operand). values_of (map view_operand list)) (sym c.as_slice.ensures) ∙ c.in-Ok.ensures ∙ ap (λ (values : List Value). found values) (sym c.as_slice-2.ensures))
    (c.library_call.ensures.calls host)
