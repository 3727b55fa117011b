use Rattle.std.proofs.Common.{List, ℕ, length, map, ap, subst, sym, ◌∙◌}
use Rattle.std.proofs.lemmas.List.{length-map}
use Rattle.cx_core.specs.Views.{view_function}
use Rattle.rs_items.specs.Known.{view_names}
use Rattle.rs_items_sets.specs.Sets.{TakenNames}
use Rattle.rs_tree.specs.Views.{ty_view}
use Rattle.whole_given.specs.Whole.{named}
use Rattle.whole_known.specs.Stages.{KnowsMore}
use Rattle.whole_locals.proofs.Known.{function_is, types_there}
use Rattle.whole_locals.specs.Functions.{locals_put}
use Rattle.whole_locals.specs.Names.{view_local}
use Rattle.whole_locals.specs.declared.names.LocalName.{LocalName}
use Rattle.whole_names.specs.FunctionNames.{local_names}
use Rattle.whole_locals.proofs.kept.enter_function.Goals as goal

pub keep_all-requires : goal.keep_all-requires
keep_all-requires c =
    types_there (named c.args.whole.now) (view_function c.args.fun.now) (map ty_view c.args.temporaries.now) (view_names c.args.names.now) (view_names c.begin.new.self)
    (view_names c.names_of.new.names) (view_names c.names_of.new.names) c.requires.module c.begin.ensures.known c.in_ok-locals.ensures.taken

pub returns-clause-function : goal.returns-clause-function
returns-clause-function c =
    let whole = named c.args.whole.now in
    let fun = view_function c.args.fun.now in
    let types = map ty_view c.args.temporaries.now in
    let middle = view_names c.names_of.new.names in
    let after = view_names c.keep_all.new.names in
    let count = c.in_ok-count.ensures ∙ sym (length-map c.args.temporaries.now ty_view) in
    function_is whole fun types (view_names c.args.names.now) (view_names c.begin.new.self) middle after (map view_local c.in_ok-locals.locals) c.requires.module c.begin.ensures.known
    (ap (λ (taken : TakenNames). taken.module_names) c.begin.ensures.taken) c.begin.ensures.bits c.in_ok-locals.ensures.taken
    (c.in_ok-locals.ensures.made ∙ ap (λ (n : ℕ). local_names whole.program fun n) count)
    (subst (λ (list : List LocalName). KnowsMore middle after (locals_put whole fun.unit types (map view_local list) middle.known)) c.as_slice.ensures c.in_ok-keep_all.ensures)
