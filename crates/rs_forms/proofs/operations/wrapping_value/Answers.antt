use Rattle.rs_value.specs.Views.{typed_view}
use Rattle.rs_forms.proofs.Operated.{value_found, none_found}
use Rattle.rs_forms.proofs.operations.wrapping_value.Goals as goal

pub returns-in-Ok : goal.returns-in-Ok
returns-in-Ok c = value_found typed_view _ c.in-Ok.found c.in-Ok.ensures

pub returns-in-Err : goal.returns-in-Err
returns-in-Err c = none_found typed_view _ c.in-Err.trouble _ c.in-Err.ensures c.halt_of.ensures
