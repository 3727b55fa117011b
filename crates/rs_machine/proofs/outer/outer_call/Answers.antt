use Rattle.std.proofs.Common.{ap, map, option_map, Option}
use Rattle.std.specs.Option.{option_copied}
use Rattle.rs_tree.specs.declared.ty.RTy.{RTy}
use Rattle.rs_tree.specs.Views.{outer_view, ty_view}
use Rattle.rs_value.specs.Views.{typed_view}
use Rattle.rs_machine.specs.Effects.{library_view}
use Rattle.rs_machine.proofs.Outgoing.{library_does}
use Rattle.rs_machine.proofs.outer.outer_call.Goals as goal

pub returns : goal.returns
returns g c = library_does (outer_view c.args.fun.now) (map typed_view c.args.list.now) (library_view c.in-Some.which) c.symbol_of.result.now (option_map ty_view (option_copied c.result_ty.result)) c.symbol_of.ensures c.in-Some.ensures
    (ap (λ (given : Option RTy). option_map ty_view given) c.result_ty.ensures) (c.library_call.ensures _)
