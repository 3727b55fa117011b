use Rattle.rs_value.specs.Views.{typed_view}
use Rattle.rs_forms.specs.Paired.{operands_run}
use Rattle.rs_forms.proofs.Quickly.{number_held, value_is, values_given}
use Rattle.rs_forms.proofs.quick.number_given.Goals as goal

pub returns-in-Ok : goal.returns-in-Ok
returns-in-Ok g c = λ modules. number_held (operands_run modules c.args.all c.args.numbers.now) (typed_view c.in-Ok.value) c.number_in.new.number c.number_in.result (g.S.Store.memory c.args.store.now) c.number_in.ensures
    (values_given modules c.args.all.operation (value_is c.args.numbers.now.left c.args.all.left) (value_is c.args.numbers.now.right c.args.all.right) (typed_view c.value_of.result) (typed_view c.value_of-2.result) (typed_view c.in-Ok.value)
    (g.S.Store.memory c.args.store.now) c.value_of.ensures c.value_of-2.ensures (c.in-Ok.ensures modules))
