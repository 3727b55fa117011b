use Rattle.std.proofs.Common.{map, option_map}
use Rattle.cx_contents.proofs.Kept.{stored_done}
use Rattle.cx_core.specs.Views.{view_object, view_puts, view_type}
use Rattle.cx_scope.specs.Views.{view_scope}
use Rattle.cx_contents.proofs.stores.store.Goals as goal

pub returns-clause-stored : goal.returns-clause-stored
unfolding view_scope
returns-clause-stored c =
    stored_done (view_scope c.args.scope.now) c.args.number c.in-Some.number c.args.is_static (view_type c.in_ok-own.own) (view_type c.args.ty.now)
    (option_map view_puts c.told_puts.result) (view_puts c.args.puts) (map view_object c.change.new.self) c.in-Some.is c.in_ok-own.ensures c.told_puts.ensures c.change.ensures
