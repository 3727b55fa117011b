use Rattle.std.proofs.Common.{ap, rules, option_map, Option}
use Rattle.rs_tree.specs.declared.ty.RTy.{RTy}
use Rattle.rs_tree.specs.Views.{ty_view}
use Rattle.rs_machine.proofs.Outgoing.{answer_at, looked_gives, looked_stops}
use Rattle.rs_machine.proofs.Pieces.{then_does, stops_first}
use Rattle.rs_machine.proofs.outer.opaque_call.Goals as goal

pub returns-in-Err : goal.returns-in-Err
returns-in-Err g c = λ limit.
    let is = rw c.symbol_of.ensures at c.in-Err.ensures in
    stops_first _ (looked_stops (λ call. call) _ c.in-Err.trouble _ _ is c.halt_of.ensures)

pub returns-in-Err-tell : goal.returns-in-Err-tell
returns-in-Err-tell g c = λ limit.
    let is = rw c.symbol_of.ensures at c.in-Ok.ensures in
    then_does _ (looked_gives _ _ _ is) (stops_first _ (c.in-Err-tell.ensures _ limit))

pub returns : goal.returns
returns g c = λ limit.
    let is = rw c.symbol_of.ensures at c.in-Ok.ensures in
    then_does _ (looked_gives _ _ _ is) (then_does _ (c.in-Ok-tell.ensures _ limit)
    (answer_at _ _ _ _ (ap (λ (given : Option RTy). option_map ty_view given) c.result_ty.ensures) (search rules) (c.answer_as.ensures _)))
