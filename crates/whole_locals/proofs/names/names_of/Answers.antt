use Rattle.std.proofs.Common.{map}
use Rattle.rs_items.specs.Known.{view_names}
use Rattle.whole_known.proofs.Kept.{on_ok}
use Rattle.whole_locals.specs.Names.{own_behind}
use Rattle.whole_locals.specs.Wanted.{view_wanted}
use Rattle.whole_locals.proofs.names.names_of.Goals as goal

pub returns-clause-taken : goal.returns-clause-taken
returns-clause-taken c =
    let old = view_names c.args.names.now in
    on_ok c.given.result (λ takes. record { own = own_behind old.taken.module_names old.taken.own_names (map view_wanted c.as_slice.result.now); takes = takes }) c.given.ensures.taken
