use Rattle.std.proofs.Common.{OnOk, ap, ◌∙◌}
use Rattle.rs_items.specs.Known.{view_names}
use Rattle.rs_items_sets.specs.Sets.{TakenNames}
use Rattle.whole_given.specs.Whole.{named}
use Rattle.whole_known.proofs.Declared.{base_begins, base_takes, module_is}
use Rattle.whole_known.proofs.Kept.{on_ok}
use Rattle.whole_known.specs.Modules.{item_names}
use Rattle.whole_known.proofs.externals.enter_module.Goals as goal

pub keep_declared-requires-clause-base : goal.keep_declared-requires-clause-base
keep_declared-requires-clause-base c =
    let whole = named c.args.whole.now in
    let begun = view_names c.begin.new.self in
    base_takes whole begun (view_names c.take_own.new.names) (item_names whole.program c.args.unit)
    (base_begins whole (view_names c.args.names.now) begun c.requires c.begin.ensures.known c.begin.ensures.bits) c.in_ok-take_own.ensures

pub returns-clause-module : goal.returns-clause-module
returns-clause-module c =
    let whole = named c.args.whole.now in
    let begun = view_names c.begin.new.self in
    on_ok c.keep_declared.result
    (module_is whole c.args.unit (view_names c.args.names.now) begun (view_names c.take_own.new.names) (view_names c.keep_declared.new.names) c.requires
    (ap (λ (taken : TakenNames). taken.own_names) c.begin.ensures.taken) c.begin.ensures.bits c.in_ok-take_own.ensures) c.keep_declared.ensures
