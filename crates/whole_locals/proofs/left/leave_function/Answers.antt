use Rattle.std.proofs.Common.{ℕ, map, ap, sym, ◌∙◌}
use Rattle.std.proofs.lemmas.List.{length-map}
use Rattle.cx_core.specs.Views.{view_function}
use Rattle.rs_items.specs.Known.{view_names}
use Rattle.rs_tree.specs.Views.{ty_view}
use Rattle.whole_given.specs.Whole.{named}
use Rattle.whole_known.proofs.Kept.{on_ok}
use Rattle.whole_locals.proofs.Leaving.{module_again, types_out}
use Rattle.whole_locals.specs.Names.{view_local}
use Rattle.whole_names.specs.FunctionNames.{local_names}
use Rattle.whole_locals.proofs.left.leave_function.Goals as goal

pub restore_all-requires : goal.restore_all-requires
restore_all-requires c =
    types_out (named c.args.whole.now) (view_function c.args._fun.now) (map ty_view c.args._temporaries.now) (view_names c.args.names.now) (view_names c.begin.new.self)
    c.requires.function c.begin.ensures.known

pub returns-clause-module : goal.returns-clause-module
returns-clause-module c =
    let whole = named c.args.whole.now in
    let fun = view_function c.args._fun.now in
    on_ok c.restore_all.result
    (module_again whole fun (map ty_view c.args._temporaries.now) (view_names c.args.names.now) (view_names c.begin.new.self) (view_names c.restore_all.new.names)
    (map view_local c.args.locals.now) c.requires.function c.begin.ensures.known c.begin.ensures.taken c.begin.ensures.bits
    (c.requires.locals ∙ ap (λ (n : ℕ). local_names whole.program fun n) (sym (length-map c.args._temporaries.now ty_view)))) c.restore_all.ensures
